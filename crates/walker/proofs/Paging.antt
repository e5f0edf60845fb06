-- From the walk over the whole list to the plan at a place, or that the list ends before it.
-- Assumes nothing.
use Rattle.std.specs.Prelude.{Option, Some, None, is_some}
use Prim.Native.Nat.{ℕ, ◌≤◌}
use mathlib.Core.Path.{◌≡◌, refl, sym, ap, subst}
use mathlib.Core.Bool.{true, false}
use mathlib.Core.Logic.{inl}
use mathlib.Core.List.{List, []}
use native.Mathlib.Omega.{arith}
use lib.ListN.{length}
use Rattle.lists.specs.Lists.{tabulate}
use Rattle.job.specs.Job.{Job}
use Rattle.job.specs.Passed.{Passed}
use Rattle.timeline.specs.Step.{Step, strictly_rising}
use Rattle.timeline.proofs.Tests.{not_both}
use Rattle.makespan.specs.Makespan.{ends_at, no_plan, makespan}
use Rattle.makespan.proofs.LeastEnds.{least_end_of_makespan, nothing_begun}
use Rattle.tables.specs.Tables.{Known, no_steps}
use Rattle.tables.specs.declared.Frame.{Frame}
use Rattle.tables.specs.declared.Steps.{Steps}
use Rattle.leaf.specs.declared.Answer.{Answer}
use Rattle.leaf.specs.Order.{placed, in_order}
use Rattle.search.specs.Search.{TaskOf}
use Rattle.search.specs.Horizons.{until, Whole, Shortest}
use Rattle.solver.specs.Task.{Solved}
use Rattle.solver.proofs.Solving.{solved}
use Rattle.listing.specs.Shortest.{ShortestEnd}
use Rattle.listing.specs.Begins.{Begins}
use Rattle.listing.proofs.Lists.{list_of_same}
use Rattle.listing.proofs.ListedPlans.{shortest_of_least}
use Rattle.listing.proofs.Found.{at_place_when_found}
use Rattle.walker.specs.declared.walk.Walk.{Walk}
use Rattle.walker.specs.Walk.{WholeDay, DayOf, Kept, Walked, Walks}
use Rattle.walker.specs.Page.{PageOf}

-- no steps
nothing_in_order : (J : Job) (steps : Steps) → steps.count ≡ 0 → in_order J steps ≡ []
unfolding tabulate
nothing_in_order J steps e = ap (λ (n : ℕ). tabulate n (placed J steps)) e

pub whole_up_to : (sets numbers times : List ℕ) (frame : Frame) (T : ℕ) → T ≤ frame.horizon
    → Whole sets numbers times frame → Whole sets numbers times (until frame T)
whole_up_to sets numbers times frame T within whole =
    let horizon = whole.horizon in
    record {
      lent = whole.lent;
      time_count = whole.time_count;
      facts = whole.facts;
      pools = whole.pools;
      stores = whole.stores;
      horizon = omega arith;
      kept = whole.kept;
      starts = whole.starts;
      origin = whole.origin;
    }

pub kept_none : (frame : Frame) → Kept frame no_steps
kept_none frame =
    record {
      known = record { few = omega arith; numbers = refl; starts = refl; known = λ k l. absurd (omega arith) };
      starts = λ k l. absurd (omega arith);
    }

module _ (J : Job) (file sets numbers times : List ℕ) (frame : Frame) (task : TaskOf J file sets numbers times frame)
    (passed : Passed J) (whole : WholeDay frame) (last : frame.horizon ≡ J.deadline) (plain : frame.least ≡ 0)
    (safe : Whole sets numbers times frame) (answer : Option Answer)
    (shortest : Shortest file sets numbers times frame answer) where
  none_kept : in_order J frame.kept ≡ []
  none_kept = nothing_in_order J frame.kept whole.none

  of_search : Solved J frame.goal 0 [] answer
  of_search =
      let a = task.described.actions in
      let none = whole.none in
      let known : Known (length J.actions) frame.kept = rw a safe.kept in
      subst (λ (m : ℕ). Solved J frame.goal m [] answer) whole.first
      (subst (λ (K : List Step). Solved J frame.goal frame.first K answer) none_kept
      (solved J frame plain passed known (λ k l. absurd (omega arith))
      (subst (λ (K : List Step). strictly_rising K ≡ true) (sym none_kept) refl) answer last
      (λ a e. shortest.found a e J task passed) (λ e. shortest.none e J task passed)))

  pub no_plan_of_search : answer ≡ None → makespan J frame.goal ≡ no_plan
  no_plan_of_search e = of_search.none e

  module _ (best : Answer) (e : answer ≡ Some best) where
    pub plan_of_search : makespan J frame.goal ≡ ends_at best.end
    plan_of_search = (of_search.found best e).2

    pub least_of_search : ShortestEnd J frame.goal best.end
    least_of_search =
        shortest_of_least J frame.goal best.end
        (least_end_of_makespan J frame.goal 0 [] passed (nothing_begun J) best.end plan_of_search)

    pub in_time_lem : best.end ≤ J.deadline
    in_time_lem = (of_search.found best e).0.in_time

    -- the day up to its least end
    pub day_of_search : (horizon : ℕ) → horizon ≡ best.end → DayOf J file sets numbers times (until frame horizon)
    day_of_search horizon same =
        let d = task.described in
        let l = in_time_lem in
        record {
          asked = record {
            in_file = task.in_file;
            actions = d.actions;
            goal = task.goal;
            in_time = omega arith;
            passed = passed;
            shortest = subst (ShortestEnd J frame.goal) (sym same) least_of_search;
          };
          task = record {
            in_file = task.in_file;
            described = record {
              facts = d.facts;
              actions = d.actions;
              pools = d.pools;
              stores = d.stores;
              available = d.available;
              stocks = d.stocks;
              handovers = d.handovers;
              in_time = omega arith;
              each = d.each;
            };
            timely = task.timely;
            goal = task.goal;
            marked = record {
              hand = task.marked.hand;
              landmarks = task.marked.landmarks;
              stores = task.marked.stores;
              pools = task.marked.pools;
              steps = task.marked.steps;
              opens = task.marked.opens;
              cliques = task.marked.cliques;
            };
          };
          whole = record {
            first = whole.first;
            none = whole.none;
            origin = whole.origin;
            given = whole.given;
          };
        }

    module _ (place horizon : ℕ) (same : horizon ≡ best.end) (w : Walk) (f : Frame) (is_frame : f ≡ until frame horizon)
        (steps : Steps) (is_none : steps ≡ no_steps)
        (walks : Walks file sets numbers times f steps frame.start 0 place w) where
      walks_all : Walks file sets numbers times (until frame horizon) no_steps frame.start 0 place w
      walks_all =
          subst (λ (s : Steps). Walks file sets numbers times (until frame horizon) s frame.start 0 place w) is_none
          (subst (λ (g : Frame). Walks file sets numbers times g steps frame.start 0 place w) is_frame walks)

      walked : Walked J frame.goal horizon (Begins []) place w
      walked =
          let none = nothing_in_order J no_steps refl in
          let starts : frame.start ≡ J.start = ap (λ (K : Job). K.start) task.in_file.same in
          subst (λ (k : List Step). Walked J frame.goal horizon (Begins k) place w) none
          (walks_all J (day_of_search horizon same)
          (subst (λ (K : List Step). strictly_rising K ≡ true) (sym none) refl) (inl (none, refl)) starts)

      pub page_of_walk : PageOf J frame.goal place (Some w.answer)
      page_of_walk =
          record {
            none = λ z. cc;
            some = λ at z. (best.end, plan_of_search);
            found = λ a f.
                let r = walked.found a (let z = f in cc) in
                let t = r.2.found in
                let soon = t.in_time in
                let l = in_time_lem in (
                  r.0,
                  at_place_when_found J frame.goal place r.0 r.1,
                  record {
                    found = record {
                      few = t.few;
                      whole = t.whole;
                      accepted = t.accepted;
                      end = t.end;
                      peaks = t.peaks;
                      in_time = omega arith;
                    };
                    steps = r.2.steps;
                    bytes = r.2.bytes;
                  },
                );
            ended = λ f.
                let r = walked.none (let z = f in cc) in
                let n = r.2 in
                record {
                  list = r.0;
                  whole =
                      list_of_same J frame.goal (Begins []) (λ P. Unit) r.0 (λ P listed b. tt)
                      (λ P listed b. (P, refl)) r.1;
                  short = omega arith;
                };
          }

  pub page_of_none : (place : ℕ) → answer ≡ None → PageOf J frame.goal place None
  page_of_none place e =
      record { none = λ z. no_plan_of_search e; some = λ at z. cc; found = λ a z. cc; ended = λ z. cc }
