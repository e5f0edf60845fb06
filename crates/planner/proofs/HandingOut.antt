-- The answer of the search, handed out: a plan with the least end of those that count, or that there is none.
-- Assumes nothing.
use Rattle.job.specs.Refusal.{reply_of}
use Rattle.std.specs.Prelude.{Option, Some, None, Result, Ok, Err}
use Prim.Native.Nat.{ℕ}
use mathlib.Core.Path.{◌≡◌, refl, sym, ap, ◌∙◌, subst}
use mathlib.Core.Bool.{true, false}
use mathlib.Core.Logic.{⊎_elim}
use mathlib.Core.List.{List}
use Rattle.encoding.specs.Bytes.{overwrite}
use Rattle.job.specs.declared.refusal.Refusal.{Refusal}
use Rattle.job.specs.Job.{Job}
use Rattle.timeline.specs.Step.{Step}
use Rattle.timeline.specs.declared.Day.{Day}
use Rattle.timeline.proofs.Tests.{decided, not_both}
use Rattle.timeline.proofs.DayLaws.{told_of_bytes}
use Rattle.makespan.specs.Makespan.{Makespan, makespan_from}
use Rattle.leaf.specs.declared.Answer.{Answer}
use Rattle.leaf.specs.Answer.{bytes_in}
use Rattle.solver.specs.Task.{Solved}
use Rattle.planner.specs.Plan.{RefusedWith, HandsOut, PlansFor, Whole, HandedOut}

-- r is no day, and the slice is as it was
pub refused_with_lem : (slice : List ℕ) (why : Refusal) (r : Result Day Refusal) → r ≡ Err why → RefusedWith why slice r slice
refused_with_lem slice why r told = record { answers = told; replies = ap reply_of told; keeps = refl }

-- ---- an answer of which the search's promise holds
module _ (J : Job) (goal minute : ℕ) (K : List Step) (answer : Option Answer) (solved : Solved J goal minute K answer) where
  pub whole_when_solved : Whole answer
  whole_when_solved a e = let found = (solved.found a e).0 in (found.few, found.whole)

  module _ (none : Refusal) (slice : List ℕ) (r : Result Day Refusal) (after : List ℕ)
      (handed : HandedOut answer none slice r after) where
    hands_out : (a : Answer) → answer ≡ Some a → HandsOut J goal minute K slice a.end r after
    hands_out a e =
        let found = solved.found a e in
        let plan = found.0 in
        let told = told_of_bytes J (bytes_in a) a.end a.count a.peaks plan.whole plan.end plan.peaks in
        let handed_plan = subst (λ (x : Option Answer). HandedOut x none slice r after) e handed in
        let answers = handed_plan.0 ∙ ap Ok (sym told) in
        record {
          bytes = bytes_in a;
          accepted = plan.accepted;
          counts = found.1;
          end = plan.end;
          answers = answers;
          replies = ap reply_of answers;
          leaves = handed_plan.1;
        }

    refuses : answer ≡ None → RefusedWith none slice r after
    refuses e =
        let h = subst (λ (x : Option Answer). HandedOut x none slice r after) e handed in
        subst (λ (bytes : List ℕ). RefusedWith none slice r bytes) (sym h.1) (refused_with_lem slice none r h.0)

    pub plans_when_solved : PlansFor (makespan_from J goal minute K) none J goal minute K slice r after
    plans_when_solved = by_answer answer refl
      where
        by_makespan : (m : Makespan) → makespan_from J goal minute K ≡ m → PlansFor m none J goal minute K slice r after
            → PlansFor (makespan_from J goal minute K) none J goal minute K slice r after
        by_makespan m e h = subst (λ (k : Makespan). PlansFor k none J goal minute K slice r after) (sym e) h

        by_answer : (x : Option Answer) → answer ≡ x → PlansFor (makespan_from J goal minute K) none J goal minute K slice r after
        by_answer (Some a) e = by_makespan _ (solved.found a e).2 (hands_out a e)
        by_answer None e = by_makespan _ (solved.none e) (refuses e)
