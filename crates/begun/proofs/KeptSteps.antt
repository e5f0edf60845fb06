-- The kept steps in a plan by value, the last first.
-- Assumes nothing.
use Prim.Native.Nat.{ℕ, zero, suc, ◌-◌, ◌<◌}
use mathlib.Core.Path.{◌≡◌, refl, ap, ap₂, ◌∙◌}
use mathlib.Core.List.{List, ◌∷◌}
use native.Mathlib.Omega.{arith}
use lib.ListN.{get_or}
use Rattle.lists.specs.Lists.{tabulate}
use Rattle.lists.proofs.Tabulate.{tabulate_cons, tabulate_same}
use Rattle.job.specs.Job.{Job}
use Rattle.timeline.specs.Step.{Step, step_of}
use Rattle.tables.specs.Tables.{chosen_to}
use Rattle.tables.specs.declared.Steps.{Steps}
use Rattle.begun.specs.Kept.{Begun}

module _ (J : Job) (kept : Steps) where
  abbrev pub kept_at : ℕ → Step
  kept_at k = step_of J (get_or kept.numbers k 0) (get_or kept.starts k 0)

  pub last_first : (n : ℕ) → tabulate n (λ i. kept_at (n - 1 - i)) ≡ chosen_to J kept n
  unfolding tabulate
  last_first zero = refl
  last_first (suc n) =
      let last : suc n - 1 - 0 ≡ n = omega arith in
      let others : (i : ℕ) → suc n - 1 - suc i ≡ n - 1 - i = λ i. omega arith in
      tabulate_cons n (λ i. kept_at (suc n - 1 - i))
      ∙ ap₂ (λ (x : Step) (P : List Step). x ∷ P) (ap kept_at last)
      (tabulate_same n _ (λ i. kept_at (n - 1 - i)) (λ i l. ap kept_at (others i)) ∙ last_first n)

  -- kept steps that start before a minute have begun
  pub kept_have_begun : (M n : ℕ) → ((k : ℕ) → k < n → get_or kept.starts k 0 < M) → Begun M (chosen_to J kept n)
  kept_have_begun M zero early = tt
  kept_have_begun M (suc n) early =
      ((early n (omega arith), refl), kept_have_begun M n (λ k l. early k (omega arith)))
