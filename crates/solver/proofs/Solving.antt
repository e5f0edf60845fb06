-- From the answer of the search to the makespan.
-- Assumes nothing.
use Rattle.std.specs.Prelude.{Option, Some, None}
use Prim.Native.Nat.{ℕ, ◌<◌}
use mathlib.Core.Path.{◌≡◌}
use mathlib.Core.Bool.{true, false}
use mathlib.Core.Logic.{inl}
use native.Mathlib.Omega.{arith}
use lib.ListN.{length, get_or}
use Rattle.lists.proofs.Tabulate.{length_tabulate}
use Rattle.job.specs.Job.{Job}
use Rattle.job.specs.Passed.{Passed}
use Rattle.timeline.specs.Step.{strictly_rising}
use Rattle.timeline.specs.Places.{EachStep}
use Rattle.timeline.proofs.Permutations.{permutation_each}
use Rattle.makespan.specs.Makespan.{LeastEnd}
use Rattle.makespan.proofs.LeastEnds.{BegunSteps, ends_by_deadline, makespan_of_least_end}
use Rattle.makespan.proofs.LeastEnds.{makespan_when_none_accepted}
use Rattle.tables.specs.Tables.{Known, kept_of}
use Rattle.tables.specs.declared.Frame.{Frame}
use Rattle.leaf.specs.declared.Answer.{Answer}
use Rattle.leaf.specs.Answer.{bytes_in}
use Rattle.leaf.specs.Order.{placed, in_order}
use Rattle.leaf.proofs.InOrder.{in_order_own, in_order_permutes, each_chosen}
use Rattle.search.specs.Search.{FoundFor}
use Rattle.search.specs.Horizons.{NoneBefore, NoneBy}
use Rattle.search.proofs.Counted.{found_counts, counts_by_minute, counts_by_place}
use Rattle.solver.specs.Task.{Solved}

-- the kept steps of the frame are known, start before the first free minute and stand in rising order; each step that
-- starts then or later is new
module _ (J : Job) (frame : Frame) (plain : frame.least ≡ 0) (passed : Passed J)
    (known : Known (length J.actions) frame.kept)
    (early : (k : ℕ) → k < frame.kept.count → get_or frame.kept.starts k 0 < frame.first)
    (rising : strictly_rising (in_order J frame.kept) ≡ true) where
  early_steps : EachStep (λ x. x.start < frame.first) (kept_of J frame)
  early_steps = each_chosen (λ x. x.start < frame.first) J frame.kept frame.kept.count early

  begun_steps : BegunSteps J frame.first (in_order J frame.kept)
  begun_steps =
      let n = length_tabulate frame.kept.count (placed J frame.kept) in
      let few = known.few in
      record {
        own = in_order_own J frame.kept;
        early = permutation_each (λ x. x.start < frame.first) (in_order_permutes J frame.kept) early_steps;
        few = omega arith;
      }

  -- the search was up to the deadline
  pub solved : (r : Option Answer) → frame.horizon ≡ J.deadline
      → ((a : Answer) → r ≡ Some a → FoundFor J frame a × NoneBefore J frame a.end) → (r ≡ None → NoneBy J frame)
      → Solved J frame.goal frame.first (in_order J frame.kept) r
  solved r last found none =
      record {
        found = λ a e.
            let f = (found a e).0 in
            let counts = counts_by_minute J frame plain (bytes_in a)
            (found_counts J frame a f (λ x Q i. inl (early_steps x Q i)) rising) in
            let plan = f.plan in
            let in_time = plan.in_time in
            let least : LeastEnd J frame.goal frame.first (in_order J frame.kept) a.end =
            record {
              plan = (bytes_in a, plan.accepted, counts, plan.end);
              least = λ bytes b c. (found a e).1 bytes b (counts_by_place J frame plain bytes c);
            } in (
              record {
                few = plan.few;
                whole = plan.whole;
                accepted = plan.accepted;
                end = plan.end;
                peaks = plan.peaks;
                in_time = omega arith;
              },
              counts,
              makespan_of_least_end J frame.goal frame.first _ passed begun_steps a.end least,
            );
        none = λ e.
            makespan_when_none_accepted J frame.goal frame.first _ passed begun_steps
            (λ bytes accepted counts.
            let late = none e bytes accepted (counts_by_place J frame plain bytes counts) in
            let in_time = ends_by_deadline J frame.goal bytes accepted in
            absurd (omega arith));
      }
