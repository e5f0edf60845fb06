-- The steps without one of them.
-- Assumes nothing.
use Prim.Native.Nat.{ℕ, zero, suc, ◌-◌, ◌<◌, ◌≤◌}
use mathlib.Core.Path.{◌≡◌, refl, sym, ap, ap₂, ◌∙◌, subst}
use mathlib.Core.Logic.{⊎_elim}
use mathlib.Core.List.{List, [], ◌∷◌}
use native.Mathlib.Nat.{eq-or-lt_of_le}
use native.Mathlib.Omega.{arith}
use lib.ListN.{length, get_or}
use lib.Seq.{get_or-set_same, get_or-set_other}
use Rattle.job.specs.Job.{Job}
use Rattle.timeline.specs.Step.{Step, step_of}
use Rattle.timeline.specs.Places.{Place, here, there, Member, Permutation, next_step}
use Rattle.timeline.proofs.Permutations.{permutation_refl, permutation_sym}
use Rattle.tables.specs.Tables.{chosen, chosen_to}
use Rattle.tables.specs.declared.Steps.{Steps}
use Rattle.leaf.specs.Order.{placed}
use Rattle.walker.specs.Walk.{without}

-- the steps of the rest, in some order, where step i is taken from the first n
pub record Rest (J : Job) (steps : Steps) (i : ℕ) : Type 0 where
  pub rest : List Step
  pub place : Place (placed J steps i) rest (chosen J steps)
  pub same : Permutation (chosen J (without steps i)) rest

module _ (J : Job) (steps : Steps) (numbers : length steps.numbers ≡ 32) (starts : length steps.starts ≡ 32)
    (few : steps.count ≤ 32) (i : ℕ) (below : i < steps.count) where
  abbrev out : Steps
  out = without steps i

  other_step : (k : ℕ) → (i ≡ k → ⊥) → placed J out k ≡ placed J steps k
  other_step k d =
      ap₂ (step_of J)
      (get_or-set_other steps.numbers i k (get_or steps.numbers (steps.count - 1) 0) 0 (λ e. d (sym e)))
      (get_or-set_other steps.starts i k (get_or steps.starts (steps.count - 1) 0) 0 (λ e. d (sym e)))

  that_step : placed J out i ≡ placed J steps (steps.count - 1)
  that_step =
      ap₂ (step_of J)
      (get_or-set_same steps.numbers i (get_or steps.numbers (steps.count - 1) 0) 0 (omega arith))
      (get_or-set_same steps.starts i (get_or steps.starts (steps.count - 1) 0) 0 (omega arith))

  -- before step i nothing changes
  same_before : (n : ℕ) → n ≤ i → chosen_to J out n ≡ chosen_to J steps n
  same_before zero l = refl
  same_before (suc n) l =
      ap₂ (λ (x : Step) (P : List Step). x ∷ P) (other_step n (λ e. omega arith)) (same_before n (omega arith))

  -- behind it the last step stands for it
  exchanged_to : (n : ℕ) → i < n
      → (Q : List Step) × Place (placed J steps i) Q (chosen_to J steps n)
      × Place (placed J steps (steps.count - 1)) Q (chosen_to J out n)
  exchanged_to zero l = absurd (omega arith)
  exchanged_to (suc n) l =
      ⊎_elim
      (λ e.
      let z : n ≡ i = omega arith in
      let first : placed J steps i ∷ chosen_to J steps n ≡ chosen_to J steps (suc n)
      = ap (λ (m : ℕ). placed J steps m ∷ chosen_to J steps n) (sym z) in
      let second : placed J steps (steps.count - 1) ∷ chosen_to J steps n ≡ chosen_to J out (suc n)
      = sym (ap₂ (λ (x : Step) (P : List Step). x ∷ P) (ap (placed J out) z ∙ that_step)
      (same_before n (omega arith))) in (
        chosen_to J steps n,
        subst (Place (placed J steps i) (chosen_to J steps n)) first here,
        subst (Place (placed J steps (steps.count - 1)) (chosen_to J steps n)) second here,
      ))
      (λ m.
      let r = exchanged_to n (omega arith) in
      let same : placed J steps n ∷ chosen_to J out n ≡ chosen_to J out (suc n)
      = ap (λ (x : Step). x ∷ chosen_to J out n) (sym (other_step n (λ e. omega arith))) in (
        placed J steps n ∷ r.0,
        there r.1,
        subst (Place (placed J steps (steps.count - 1)) (placed J steps n ∷ r.0)) same (there r.2),
      ))
      (eq-or-lt_of_le l)

  -- step i is the last one
  rest_when_last : i ≡ steps.count - 1 → Rest J steps i
  rest_when_last e =
      let z : steps.count ≡ suc i = omega arith in
      let whole : placed J steps i ∷ chosen_to J steps i ≡ chosen J steps = sym (ap (chosen_to J steps) z) in
      let less : chosen_to J steps i ≡ chosen J out = sym (ap (chosen_to J out) (sym e) ∙ same_before i (omega arith)) in
      record {
        rest = chosen_to J steps i;
        place = subst (Place (placed J steps i) (chosen_to J steps i)) whole here;
        same = subst (λ (P : List Step). Permutation P (chosen_to J steps i)) less (permutation_refl (chosen_to J steps i));
      }

  -- or it is not
  rest_when_before : i < steps.count - 1 → Rest J steps i
  rest_when_before l =
      let n = steps.count - 1 in
      let x = placed J steps n in
      let z : steps.count ≡ suc n = omega arith in
      let whole : x ∷ chosen_to J steps n ≡ chosen J steps = sym (ap (chosen_to J steps) z) in
      let r = exchanged_to n l in
      record {
        rest = x ∷ r.0;
        place = subst (Place (placed J steps i) (x ∷ r.0)) whole (there r.1);
        same = permutation_sym (next_step r.2 (permutation_refl r.0));
      }

  pub rest_of_steps : Rest J steps i
  rest_of_steps =
      let l : i ≤ steps.count - 1 = omega arith in
      ⊎_elim rest_when_last rest_when_before (eq-or-lt_of_le l)

-- each step of the list is one of them
pub place_has_index : (J : Job) (steps : Steps) (n : ℕ) {x : Step} {Q : List Step} → Place x Q (chosen_to J steps n)
    → (i : ℕ) × (i < n) × (x ≡ placed J steps i)
place_has_index J steps zero i = nowhere (_, i)
  where
    nowhere : {x : Step} {A : Type 0} → Member x [] → A
    nowhere (Q, i) = elim i [ ]
place_has_index J steps (suc n) here = (n, omega arith, refl)
place_has_index J steps (suc n) (there j) =
    let r = place_has_index J steps n j in (r.0, let l = r.1 in omega arith, r.2)

-- a step taken from a list leaves the same steps, wherever it is taken from
pub same_rest : {x : Step} {Q R P : List Step} → Place x Q P → Place x R P → Permutation Q R
same_rest i j = of_same i j refl
  where
    of_same : {x y : Step} {Q R P : List Step} → Place x Q P → Place y R P → x ≡ y → Permutation Q R
    of_same (here {Q}) here e = permutation_refl Q
    of_same (here {Q}) (there {Q = R} j) e =
        permutation_sym (next_step (subst (λ (z : Step). Place z R Q) (sym e) j) (permutation_refl R))
    of_same {y = y} (there {Q = Q} {P = P} i) here e =
        next_step (subst (λ (z : Step). Place z Q P) e i) (permutation_refl Q)
    of_same (there i) (there j) e = next_step here (of_same i j e)
