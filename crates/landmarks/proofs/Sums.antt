-- Sums over landmarks: what is added takes at least its shares.
-- Assumes nothing.
use Prim.Native.Nat.{ℕ, zero, suc, ◌+◌, ◌*◌, ◌≤◌, ◌<◌}
use mathlib.Core.Path.{◌≡◌, refl, sym}
use mathlib.Core.Bool.{Bool, true, false, cond, true≢false}
use mathlib.Core.Logic.{◌⊎◌, inl, ⊎_elim}
use mathlib.Core.List.{List, [], ◌∷◌}
use native.Mathlib.Nat.{mul-add, mul-zero}
use native.Mathlib.Omega.{arith}
use lib.ListN.{length}
use Rattle.facts.specs.FactSet.{has, difference}
use Rattle.facts.proofs.Membership.{has_zero}
use Rattle.facts.proofs.SetLaws.{in_union_cases, in_difference}
use Rattle.job.specs.Job.{Action, Job}
use Rattle.timeline.specs.Step.{Step, total, union_of}
use Rattle.timeline.specs.Places.{EachStep}
use Rattle.timeline.proofs.Places.{total_mono}
use Rattle.times.specs.Earliest.{action_of}
use Rattle.regression.proofs.Gathered.{in_union_of}
use Rattle.landmarks.specs.Landmarks.{sum_over, Shares}
use Rattle.landmarks.proofs.AddedOnTheWay.{AddedIn}

module _ (share : ℕ → ℕ) where
  -- a set within two others together
  sum_of_cover : (n set a b : ℕ) → ((p : ℕ) → has set p ≡ true → (has a p ≡ true) ⊎ (has b p ≡ true))
      → sum_over share n set ≤ sum_over share n a + sum_over share n b
  unfolding sum_over
  sum_of_cover zero set a b h = omega arith
  sum_of_cover (suc n) set a b h =
      let rest = sum_of_cover n set a b h in
      let here : cond (has set n) (share n) 0 ≤ cond (has a n) (share n) 0 + cond (has b n) (share n) 0 =
      one (has set n) (has a n) (has b n) (h n) in
      omega arith
    where
      one : (x y z : Bool) → (x ≡ true → (y ≡ true) ⊎ (z ≡ true))
          → cond x (share n) 0 ≤ cond y (share n) 0 + cond z (share n) 0
      one false y z k = omega arith
      one true true z k = omega arith
      one true false true k = omega arith
      one true false false k = absurd (⊎_elim (λ e. true≢false (sym e)) (λ e. true≢false (sym e)) (k refl))

  sum_of_none : (n : ℕ) → sum_over share n 0 ≡ 0
  unfolding sum_over
  sum_of_none zero = refl
  sum_of_none (suc n) = let rest = sum_of_none n in rw (has_zero n) (omega arith)

  sum_of_inside : (n set a : ℕ) → ((p : ℕ) → has set p ≡ true → has a p ≡ true)
      → sum_over share n set ≤ sum_over share n a
  sum_of_inside n set a h =
      let cover = sum_of_cover n set a 0 (λ p k. inl (h p k)) in let none = sum_of_none n in omega arith

  sum_of_union : (n : ℕ) (f : Step → ℕ) (E : List Step)
      → sum_over share n (union_of f E) ≤ total (λ x. sum_over share n (f x)) E
  sum_of_union n f [] = let none = sum_of_none n in omega arith
  sum_of_union n f (x ∷ E) =
      let rest = sum_of_union n f E in
      let cover = sum_of_cover n (union_of f (x ∷ E)) (f x) (union_of f E)
      (λ p h. in_union_cases (f x) (union_of f E) p h) in
      omega arith

  -- what steps of the job's actions add takes no more than the steps weigh
  pub shares_of_added : (J : Job) (at_hand n : ℕ) (weight : Action → ℕ) → Shares J at_hand share n weight
      → (E : List Step) (t : ℕ)
      → EachStep (λ x. (x.number < length J.actions) × (x.action ≡ action_of J x.number)) E
      → (set : ℕ) → ((p : ℕ) → has set p ≡ true → AddedIn E t p × (has at_hand p ≡ false))
      → sum_over share n set ≤ total (λ x. weight x.action) E
  shares_of_added J at_hand n weight shares E t own set added =
      let brought : Step → ℕ = λ x. difference x.action.adds at_hand in
      let inside = sum_of_inside n set (union_of brought E)
      (λ p h.
      let a = added p h in
      in_union_of brought p a.0.place (in_difference a.0.by.action.adds at_hand p a.0.adds a.1)) in
      let union = sum_of_union n brought E in
      let each = total_mono (λ x. sum_over share n (brought x)) (λ x. weight x.action) E
      (λ x Q i.
      let o = own x Q i in
      rw o.1 (shares x.number o.0)) in
      omega arith

-- weights times a scale
pub total_times : (k : ℕ) (f : Step → ℕ) (E : List Step) → total (λ x. k * f x) E ≡ k * total f E
total_times k f [] = sym (mul-zero k)
total_times k f (x ∷ E) = let rest = total_times k f E in let sum = mul-add k (f x) (total f E) in omega arith

pub total_of_ones : (E : List Step) → total (λ x. 1) E ≡ length E
total_of_ones [] = refl
total_of_ones (x ∷ E) = let rest = total_of_ones E in omega arith
