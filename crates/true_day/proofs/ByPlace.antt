-- True lengths place by place, as a loop goes over them.
-- Assumes nothing.
use Prim.Native.Nat.{ℕ, suc}
use mathlib.Core.Path.{◌≡◌, refl, sym, ap, ◌∙◌}
use mathlib.Core.Bool.{Bool, true, false, ◌||◌}
use mathlib.Core.List.{List, [], ◌∷◌}
use native.Mathlib.Omega.{arith}
use lib.ListN.{length, get_or}
use Rattle.lists.specs.Lists.{tabulate, any_below}
use Rattle.lists.proofs.Below.{below_front, below_same}
use Rattle.lists.proofs.Bools.{absurd, or_right, or-true}
use Rattle.lists.proofs.Tabulate.{length_tabulate, tabulate_cons, tabulate_same, get_d_tabulate}
use Rattle.job.specs.Job.{Job}
use Rattle.timeline.specs.Step.{Step}
use Rattle.timeline.specs.TrueLengths.{with_length, with_lengths, outside_range, wrong_lengths}

module _ (J : Job) where
  pub wrong_number : (P : List Step) (lengths : List ℕ) → (length lengths ≡ length P → ⊥)
      → wrong_lengths J P lengths ≡ true
  wrong_number [] [] h = absurd (h refl)
  wrong_number [] (n ∷ lengths) h = refl
  wrong_number (x ∷ P) [] h = refl
  wrong_number (x ∷ P) (n ∷ lengths) h =
      rw (wrong_number P lengths (λ e. h (omega arith))) (or-true (outside_range J x n))

  pub right_number : (P : List Step) (lengths : List ℕ) → wrong_lengths J P lengths ≡ false
      → length lengths ≡ length P
  right_number [] [] h = refl
  right_number [] (n ∷ lengths) h = let z : ◌≡◌ {A = ℕ} 0 1 = cc in absurd (omega arith)
  right_number (x ∷ P) [] h = let z : ◌≡◌ {A = ℕ} 0 1 = cc in absurd (omega arith)
  right_number (x ∷ P) (n ∷ lengths) h = ap suc (right_number P lengths (or_right (outside_range J x n) _ h))

  wrong_in_list : (P : List Step) (lengths : List ℕ) (d : Step) → length lengths ≡ length P
      → wrong_lengths J P lengths ≡ any_below (length P) (λ i. outside_range J (get_or P i d) (get_or lengths i 0))
  wrong_in_list [] [] d e = refl
  wrong_in_list [] (n ∷ lengths) d e = absurd (omega arith)
  wrong_in_list (x ∷ P) [] d e = absurd (omega arith)
  wrong_in_list (x ∷ P) (n ∷ lengths) d e =
      ap (λ (b : Bool). outside_range J x n || b) (wrong_in_list P lengths d (omega arith))
      ∙ sym (below_front (length P) (λ i. outside_range J (get_or (x ∷ P) i d) (get_or (n ∷ lengths) i 0)))

  -- of n steps
  pub wrong_by_place : (n : ℕ) (f : ℕ → Step) (lengths : List ℕ) → length lengths ≡ n
      → wrong_lengths J (tabulate n f) lengths ≡ any_below n (λ i. outside_range J (f i) (get_or lengths i 0))
  wrong_by_place n f lengths e =
      let count = length_tabulate n f in
      let test : ℕ → Bool = λ i. outside_range J (get_or (tabulate n f) i (f 0)) (get_or lengths i 0) in
      wrong_in_list (tabulate n f) lengths (f 0) (omega arith)
      ∙ ap (λ (m : ℕ). any_below m test) count
      ∙ below_same n test (λ i. outside_range J (f i) (get_or lengths i 0))
      (λ k l. ap (λ (x : Step). outside_range J x (get_or lengths k 0)) (get_d_tabulate n f k (f 0) l))

with_lengths_in_list : (P : List Step) (lengths : List ℕ) (d : Step) → length lengths ≡ length P
    → with_lengths P lengths ≡ tabulate (length P) (λ i. with_length (get_or P i d) (get_or lengths i 0))
unfolding tabulate
with_lengths_in_list [] [] d e = refl
with_lengths_in_list [] (n ∷ lengths) d e = absurd (omega arith)
with_lengths_in_list (x ∷ P) [] d e = absurd (omega arith)
with_lengths_in_list (x ∷ P) (n ∷ lengths) d e =
    ap (λ (Q : List Step). with_length x n ∷ Q) (with_lengths_in_list P lengths d (omega arith))
    ∙ sym (tabulate_cons (length P) (λ i. with_length (get_or (x ∷ P) i d) (get_or (n ∷ lengths) i 0)))

pub with_lengths_by_place : (n : ℕ) (f : ℕ → Step) (lengths : List ℕ) → length lengths ≡ n
    → with_lengths (tabulate n f) lengths ≡ tabulate n (λ i. with_length (f i) (get_or lengths i 0))
with_lengths_by_place n f lengths e =
    let count = length_tabulate n f in
    let at : ℕ → Step = λ i. with_length (get_or (tabulate n f) i (f 0)) (get_or lengths i 0) in
    with_lengths_in_list (tabulate n f) lengths (f 0) (omega arith)
    ∙ ap (λ (m : ℕ). tabulate m at) count
    ∙ tabulate_same n at (λ i. with_length (f i) (get_or lengths i 0))
    (λ k l. ap (λ (x : Step). with_length x (get_or lengths k 0)) (get_d_tabulate n f k (f 0) l))
