-- The kept steps alone: whether they are accepted for the goal is what the checker says of them, and from the deadline
-- on no other plan counts.
-- Assumes nothing.
use Rattle.std.specs.Prelude.{Option, Some, None}
use Prim.Native.Nat.{ℕ, ◌≤◌, ◌<◌}
use mathlib.Core.Path.{◌≡◌, refl, sym, ap, ◌∙◌, subst}
use mathlib.Core.Bool.{true, false}
use mathlib.Core.Logic.{⊎_elim}
use mathlib.Core.List.{List}
use native.Mathlib.Omega.{arith}
use lib.ListN.{length}
use Rattle.lists.proofs.Tabulate.{length_tabulate, each_tabulate}
use Rattle.facts.specs.FactSet.{foreign}
use Rattle.job.specs.Refusal.{pass}
use Rattle.job.specs.Job.{Job}
use Rattle.job.specs.Refusal.{first}
use Rattle.job.specs.Valid.{job_rows}
use Rattle.job.specs.Passed.{Passed}
use Rattle.job.proofs.Passed.{passed}
use Rattle.job.proofs.Rows.{limits_of_pass}
use Rattle.timeline.specs.Step.{Step, steps_in, plan_bytes}
use Rattle.timeline.specs.Accepted.{Accepted}
use Rattle.timeline.specs.Day.{told_of}
use Rattle.timeline.proofs.Tests.{decided, not_both}
use Rattle.timeline.specs.Places.{EachStep}
use Rattle.timeline.proofs.Places.{each_step}
use Rattle.timeline.proofs.AcceptedSteps.{accepted_steps}
use Rattle.timeline.proofs.JobSteps.{lasting_of_known, steps_in_bytes, steps_of_accepted}
use Rattle.timeline.proofs.PlanBytes.{bytes_of_steps}
use Rattle.makespan.specs.Makespan.{is_pass, passes, Counts}
use Rattle.makespan.proofs.LeastEnds.{BegunSteps, ends_by_deadline, makespan_when_none_accepted}
use Rattle.tables.specs.declared.Steps.{Steps}
use Rattle.leaf.specs.declared.Answer.{Answer}
use Rattle.leaf.specs.Answer.{Answers}
use Rattle.leaf.specs.Order.{placed, in_order}
use Rattle.leaf.proofs.InOrder.{in_order_own}
use Rattle.leaf.proofs.Checks.{accepted_passes, answer_found, answer_bytes, answer_not_found}
use Rattle.solver.specs.Task.{Solved}
use Rattle.replanner.specs.Kept.{KeptFit, Replanned}
use Rattle.replanner.proofs.Begun.{all_begun, accepted_alone}

module _ (J : Job) (goal minute : ℕ) (kept : Steps) (valid : first (job_rows J) ≡ pass)
    (own : foreign J.facts goal ≡ false) (fit : KeptFit J minute kept) where
  abbrev K : List Step
  K = in_order J kept

  within : Passed J
  within = passed J valid

  few : length K ≤ 32
  few = let n = length_tabulate kept.count (placed J kept) in let m = fit.known.few in omega arith

  each_kept : (F : Step → Type 0) → ((k : ℕ) → k < kept.count → F (placed J kept k)) → EachStep F K
  each_kept F h = each_step F K (each_tabulate F kept.count (placed J kept) h)

  begun_steps : BegunSteps J minute K
  begun_steps = record { own = in_order_own J kept; early = each_kept (λ x. x.start < minute) fit.early; few = few }

  -- the bytes of the kept steps have these steps
  kept_read_back : steps_in J (plan_bytes K) ≡ K
  kept_read_back =
      let actions = within.few_actions in
      bytes_of_steps J K (in_order_own J kept)
      (each_kept (λ x. x.number < 256) (λ k l. let n = fit.known.known k l in omega arith))
      (each_kept (λ x. x.start < 65536) fit.small)

  passes_when_accepted : (bytes : List ℕ) → steps_in J bytes ≡ K → Accepted J goal bytes → passes J goal K ≡ true
  passes_when_accepted bytes same accepted =
      subst (λ (P : List Step). passes J goal P ≡ true) same (ap is_pass (steps_of_accepted J goal bytes accepted))

  -- r is what the checker says of them
  module _ (r : Option Answer) (checked : Answers J goal J.deadline kept r) where
    found_passes : (a : Answer) → r ≡ Some a → passes J goal K ≡ true
    found_passes a e =
        let found = answer_found J goal J.deadline kept fit.known.few r checked a e in
        let same = answer_bytes J goal J.deadline kept r checked a e in
        passes_when_accepted (plan_bytes K) kept_read_back
        (subst (λ (bytes : List ℕ). Accepted J goal bytes) same found.accepted)

    not_found_fails : r ≡ None → passes J goal K ≡ false
    not_found_fails e = ⊎_elim (λ h. absurd (nothing h)) (λ h. h) (decided (passes J goal K))
      where
        nothing : passes J goal K ≡ true → ⊥
        nothing h =
            let accepted = (accepted_alone J goal minute K within begun_steps h).0 in
            let day = told_of J (steps_in J (plan_bytes K)) in
            answer_not_found J goal J.deadline kept r checked e day
            (accepted_passes J goal (plan_bytes K) (limits_of_pass J valid) own accepted)
            (ends_by_deadline J goal (plan_bytes K) accepted)

    -- they are accepted
    pub replanned_alone : (a : Answer) → r ≡ Some a → Replanned J goal minute K (Some a)
    replanned_alone a e =
        let same = answer_bytes J goal J.deadline kept r checked a e in
        record {
          alone = λ h.
              record {
                answer = a;
                found = refl;
                plan = answer_found J goal J.deadline kept fit.known.few r checked a e;
                bytes = same;
                steps = ap (steps_in J) same ∙ kept_read_back;
              };
          solved = λ h. not_both (found_passes a e) h;
        }

    -- they are not, and the search answers
    pub replanned_solved : r ≡ None → (s : Option Answer) → Solved J goal minute K s → Replanned J goal minute K s
    replanned_solved e s solved = record { alone = λ h. not_both h (not_found_fails e); solved = λ h. solved }

    -- they are not, and it is too late for others: an accepted plan that counts would be these steps
    pub replanned_late : r ≡ None → J.deadline ≤ minute → Replanned J goal minute K None
    replanned_late e late =
        replanned_solved e None
        (record {
          found = λ a h. cc;
          none = λ h. makespan_when_none_accepted J goal minute K within begun_steps none;
        })
      where
        none : (bytes : List ℕ) → Accepted J goal bytes → Counts J minute K bytes → ⊥
        none bytes accepted counts =
            let P : List Step = steps_in J bytes in
            let steps = accepted_steps J goal P (steps_of_accepted J goal bytes accepted) in
            let lasting = lasting_of_known J P within (steps_in_bytes J bytes) steps.known in
            let early : EachStep (λ x. x.start < minute) P = λ x Q i.
            let a = lasting x Q i in let b = steps.before_deadline x Q i in omega arith in
            let same = sym (all_begun minute P early) ∙ counts in
            not_both (passes_when_accepted bytes same accepted) (not_found_fails e)
