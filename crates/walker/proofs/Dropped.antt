-- What the leaf says of the steps without one of them.
-- Assumes nothing.
use Rattle.std.specs.Prelude.{Option, Some, None, is_some}
use Rattle.search.proofs.Counted.{none_of, some_of}
use Prim.Native.Nat.{ℕ, ◌-◌, ◌<◌}
use mathlib.Core.Path.{◌≡◌, sym, ◌∙◌, subst}
use mathlib.Core.Bool.{true, false}
use mathlib.Core.Logic.{◌⊎◌, inl, inr, ⊎_elim}
use mathlib.Core.List.{List}
use native.Mathlib.Omega.{arith}
use lib.ListN.{get_or, length-set}
use lib.Seq.{get_or-set_same, get_or-set_other}
use Rattle.job.specs.Job.{Job}
use Rattle.timeline.proofs.Tests.{trichotomy}
use Rattle.tables.specs.declared.Frame.{Frame}
use Rattle.tables.specs.declared.Steps.{Steps}
use Rattle.leaf.specs.declared.Answer.{Answer}
use Rattle.leaf.specs.Answer.{Finishes}
use Rattle.walker.specs.Walk.{AskedOf, Kept, without, PlanWithout}
use Rattle.walker.proofs.Leaves.{plan_when_found, no_plan_when_none}

same_or_not : (i k : ℕ) → (i ≡ k) ⊎ (i ≡ k → ⊥)
same_or_not i k =
    ⊎_elim (λ e. inl e) (⊎_elim (λ l. inr (λ e. omega arith)) (λ l. inr (λ e. omega arith))) (trichotomy i k)

module _ (frame : Frame) (steps : Steps) (kept : Kept frame steps) (i : ℕ) (below : i < steps.count) where
  -- each of them is one of the steps
  number_of : (k : ℕ) → k < steps.count - 1
      → (j : ℕ) × (j < steps.count)
      × (get_or (without steps i).numbers k 0 ≡ get_or steps.numbers j 0)
      × (get_or (without steps i).starts k 0 ≡ get_or steps.starts j 0)
  number_of k l =
      let a = kept.known.numbers in
      let b = kept.known.starts in
      let f = kept.known.few in
      let last = steps.count - 1 in
      ⊎_elim
      (λ e. (
        last,
        omega arith,
        rw (← e) (get_or-set_same steps.numbers i (get_or steps.numbers last 0) 0 (omega arith)),
        rw (← e) (get_or-set_same steps.starts i (get_or steps.starts last 0) 0 (omega arith)),
      ))
      (λ d. (
        k,
        omega arith,
        get_or-set_other steps.numbers i k (get_or steps.numbers last 0) 0 (λ e. d (sym e)),
        get_or-set_other steps.starts i k (get_or steps.starts last 0) 0 (λ e. d (sym e)),
      ))
      (same_or_not i k)

  pub kept_without : Kept frame (without steps i)
  kept_without =
      let f = kept.known.few in
      record {
        known = record {
          few = omega arith;
          numbers = length-set steps.numbers i (get_or steps.numbers (steps.count - 1) 0) ∙ kept.known.numbers;
          starts = length-set steps.starts i (get_or steps.starts (steps.count - 1) 0) ∙ kept.known.starts;
          known = λ k l. let r = number_of k l in rw r.2 (kept.known.known r.0 r.1);
        };
        starts = λ k l. let r = number_of k l in rw r.3 (kept.starts r.0 r.1);
      }

module _ (J : Job) (file : List ℕ) (frame : Frame) (asked : AskedOf J file frame) (steps : Steps)
    (kept : Kept frame steps) (i : ℕ) (below : i < steps.count) (rest : Steps) (is : rest ≡ without steps i)
    (r : Option Answer) (finishes : Finishes file frame rest r) where
  of_rest : Finishes file frame (without steps i) r
  of_rest = subst (λ (s : Steps). Finishes file frame s r) is finishes

  pub dropped_plan : is_some r ≡ true → PlanWithout J frame steps i
  dropped_plan e =
      plan_when_found J file frame asked.in_file asked.actions asked.passed (without steps i)
      (kept_without frame steps kept i below) r of_rest (some_of r e).0 (some_of r e).1

  pub dropped_none : is_some r ≡ false → PlanWithout J frame steps i → ⊥
  dropped_none e =
      no_plan_when_none J file frame asked.in_file asked.actions asked.passed (without steps i)
      (kept_without frame steps kept i below) r of_rest asked.goal asked.in_time (none_of r e)
