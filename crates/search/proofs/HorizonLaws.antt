-- The search for one horizon begins with the goal and the kept steps; from horizon to horizon the bounds close in.
-- Assumes nothing.
use Rattle.std.specs.Prelude.{Option, Some, None, is_some}
use Prim.Native.Nat.{ℕ, ◌≤◌, ◌<◌}
use mathlib.Core.Path.{◌≡◌, refl, sym, ap, subst, ◌∙◌}
use mathlib.Core.Bool.{true≢false}
use mathlib.Core.Logic.{⊎_elim}
use mathlib.Core.List.{List}
use native.Mathlib.Omega.{arith}
use Rattle.facts.specs.FactSet.{has}
use Rattle.facts.proofs.Membership.{has_zero}
use Rattle.job.specs.Job.{Job}
use Rattle.job.specs.Passed.{Passed}
use Rattle.timeline.specs.Step.{steps_in}
use Rattle.timeline.specs.Timeline.{end}
use Rattle.timeline.proofs.Tests.{le_or_lt}
use Rattle.regression.specs.DeadEnd.{Until}
use Rattle.regression.proofs.WantedFacts.{wanted_at_horizon}
use Rattle.regression.proofs.NoPlan.{no_plan_when_dead}
use Rattle.timeline.proofs.JobSteps.{steps_in_bytes, steps_of_accepted}
use Rattle.timeline.proofs.PlanBytes.{few_steps_of_accepted}
use Rattle.tables.specs.Tables.{Describes, Known, chosen, kept_of, from_of, KeepsKept}
use Rattle.tables.specs.declared.Frame.{Frame}
use Rattle.tables.specs.declared.Steps.{Steps}
use Rattle.leaf.specs.declared.Answer.{Answer}
use Rattle.leaf.specs.Answer.{Finishes}
use Rattle.states.specs.declared.minute.Minute.{Minute}
use Rattle.states.specs.declared.state.State.{State}
use Rattle.states.specs.declared.amounts.Uses.{Uses}
use Rattle.states.specs.Minutes.{LooksAt}
use Rattle.states.specs.Amounts.{LooksUses}
use Rattle.states.specs.States.{Stands, DeadFor}
use Rattle.pruning.specs.Missing.{Fresh}
use Rattle.search.specs.Search.{Ready, Answered, NoneFrom}
use Rattle.search.specs.Horizons.{Whole, Solves, NoneBy}
use Rattle.search.proofs.Counted.{split_of_counted, found_when_finished}

-- ---- the first state

-- the state at the horizon, with the goal wanted and the kept steps
pub record Begins (sets numbers : List ℕ) (frame : Frame) (st : State) : Type 0 where
  pub steps : st.steps ≡ frame.kept
  pub minute : st.minute ≡ frame.horizon
  pub wanted : st.wanted ≡ frame.goal
  pub at : LooksAt sets numbers frame.actions st.steps frame.horizon st.at
  pub uses : LooksUses numbers frame.handovers frame.actions st.steps frame.horizon st.uses
  pub twice : st.twice ≡ 0
  pub since : st.since ≡ frame.kept.count

keeps_kept : (frame : Frame) → KeepsKept frame frame.kept
keeps_kept frame =
    record {
      count = omega arith;
      numbers = λ k l. refl;
      starts = λ k l. refl;
      new = λ J k a b. absurd (omega arith);
    }

none_when_dead : (J : Job) (frame : Frame) → Passed J
    → DeadFor J frame (Until (from_of frame) frame.horizon) (kept_of J frame) → NoneBy J frame
none_when_dead J frame passed dead bytes accepted counts =
    let split = split_of_counted J frame bytes accepted counts in
    ⊎_elim
    (λ l.
    absurd
    (no_plan_when_dead J (from_of frame) frame.goal frame.horizon passed split.new (kept_of J frame)
    (steps_in J bytes) split.same (steps_in_bytes J bytes) split.after split.early
    (few_steps_of_accepted J frame.goal bytes accepted) (steps_of_accepted J frame.goal bytes accepted) l dead))
    (λ l. l)
    (le_or_lt (end (steps_in J bytes)) frame.horizon)

module _ (sets numbers times : List ℕ) (frame : Frame) (whole : Whole sets numbers times frame)
    (later : frame.first < frame.horizon) (st : State) (begins : Begins sets numbers frame st) where
  pub ready_at_first : Ready sets numbers times frame st
  ready_at_first =
      let since = begins.since in
      let minute = begins.minute in
      let count = ap (λ (s : Steps). s.count) begins.steps in
      let horizon = whole.horizon in
      record {
        safe = record {
          lent = whole.lent;
          known = rw begins.steps whole.kept;
          pools = whole.pools;
          stores = whole.stores;
          since = omega arith;
          small = begins.uses.small;
        };
        time_count = whole.time_count;
        facts = whole.facts;
        not_before = omega arith;
        minute = omega arith;
        starts = rw begins.steps whole.starts;
        kept = rw begins.steps (keeps_kept frame);
        kept_known = whole.kept;
        origin = whole.origin;
      }

  pub fresh_at_first : Fresh st
  fresh_at_first = begins.since ∙ ap (λ (s : Steps). s.count) (sym begins.steps)

  pub stands_at_first : (J : Job) → Describes J sets numbers frame → Stands J frame st
  stands_at_first J described =
      let minute = begins.minute in
      record {
        in_time = omega arith;
        wants = rw (begins.wanted, begins.minute)
            (sym (wanted_at_horizon frame.goal (chosen J st.steps) frame.horizon));
        at = rw begins.minute (begins.at J described.each);
        uses = rw begins.minute (begins.uses.looks J sets described.each described.handovers);
        twice = λ n h. absurd (true≢false (sym h ∙ ap (λ (set : ℕ). has set n) begins.twice ∙ has_zero n));
        enders = λ k a b.
            let c = ap (λ (s : Steps). s.count) begins.steps in let d = begins.since in absurd (omega arith);
        later = λ k a l. let c = begins.since in absurd (omega arith);
      }

  -- a dead end there: no plan ends by the horizon
  none_by_horizon : (J : Job) → Passed J → DeadFor J frame (Until (from_of frame) st.minute) (chosen J st.steps)
      → NoneBy J frame
  none_by_horizon J passed dead = none_when_dead J frame passed (rw (begins.minute, begins.steps) at dead)

  -- the answer from there is the answer for the horizon
  pub solved_by_regress : (file : List ℕ) (r : Option Answer)
      → Answered file frame (NoneFrom file sets numbers times frame st (Until (from_of frame) st.minute)
      (λ J. chosen J st.steps)) r
      → Solves file sets numbers times frame r
  solved_by_regress file r answered =
      record {
        found = answered.found;
        none = λ e J task passed.
            none_by_horizon J passed (answered.dead e J task (stands_at_first J task.described));
      }

-- ---- no minute left
pub solved_by_finish : (file sets numbers times : List ℕ) (frame : Frame) (r : Option Answer)
    → Whole sets numbers times frame → frame.horizon ≤ frame.first → Finishes file frame frame.kept r
    → Solves file sets numbers times frame r
solved_by_finish file sets numbers times frame r whole early finishes =
    record {
      found = λ a e J have count.
          found_when_finished J file frame frame.kept r (keeps_kept frame) whole.kept whole.starts finishes
          a e have count;
      none = λ n J task passed.
          none_when_dead J frame passed
          (finishes.dead n J task.in_file
          (record {
            goal = task.goal;
            in_time = task.described.in_time;
            known = subst (λ (n : ℕ). Known n frame.kept) (sym task.described.actions) whole.kept;
          })
          (from_of frame) frame.horizon early);
    }

pub begins_with_goal : (sets numbers : List ℕ) (frame : Frame) (t : ℕ) (at : Minute) (uses : Uses)
    → t ≡ frame.horizon → LooksAt sets numbers frame.actions frame.kept t at
    → LooksUses numbers frame.handovers frame.actions frame.kept t uses
    → Begins sets numbers frame (record {
      steps = frame.kept;
      minute = frame.horizon;
      wanted = frame.goal;
      at = at;
      uses = uses;
      twice = 0;
      since = frame.kept.count;
    })
begins_with_goal sets numbers frame t at uses f looks looks_uses =
    record {
      steps = refl;
      minute = refl;
      wanted = refl;
      at = rw (← f) looks;
      uses = rw (← f) looks_uses;
      twice = refl;
      since = refl;
    }
