-- Which of two actions is the longer one; of two equally long ones either may be.
-- Assumes nothing.
use Prim.Native.Nat.{ℕ, ◌+◌, ◌≤◌, ◌<◌}
use mathlib.Core.Path.{◌≡◌, sym, ap, ◌∙◌}
use mathlib.Core.Bool.{true, not, ◌&&◌, or-true}
use mathlib.Core.Logic.{◌⊎◌, inl, inr, ⊎_elim}
use native.Mathlib.Omega.{arith}
use lib.Dec.{eqb, ltb}
use lib.ListN.{length, get_or}
use borrow.Author.Tests.{ltb-true, lt-ltb, eqb-true, eq-eqb}
use Rattle.lists.proofs.Below.{below_same}
use Rattle.lists.proofs.Bools.{and_left, and_right}
use Rattle.facts.specs.FactSet.{union}
use Rattle.facts.proofs.SetLaws.{in_union_right, union_comm}
use Rattle.job.specs.Job.{Action, Job}
use Rattle.job.specs.Valid.{over}
use Rattle.timeline.proofs.Tests.{or_cases, le_or_lt}
use Rattle.times.specs.Earliest.{Table, action_of, fit_together}
use Rattle.times.specs.Choices.{Together}
use Rattle.times.proofs.Times.{time_of_part}
use Rattle.earliest.specs.Sweep.{is_longer}

module _ (d e i j : ℕ) where
  pub longer_cases : is_longer d e i j ≡ true → (e < d) ⊎ ((d ≡ e) × (j < i))
  longer_cases h =
      ⊎_elim (λ l. inl (ltb-true e d l))
      (λ k. inr (eqb-true d e (and_left (eqb d e) (ltb j i) k), ltb-true j i (and_right (eqb d e) (ltb j i) k)))
      (or_cases (ltb e d) (eqb d e && ltb j i) h)

  pub equal_longer : d ≡ e → j < i → is_longer d e i j ≡ true
  equal_longer same l = rw (eq-eqb d e same, lt-ltb j i l) (or-true (ltb e d))

  -- of two different actions, the first is the longer one, or they are equally long and it comes before
  pub longer_or_equal : e ≤ d → (i ≡ j → ⊥) → (is_longer d e i j ≡ true) ⊎ ((d ≡ e) × (i < j))
  longer_or_equal l apart =
      ⊎_elim
      (λ m.
      let same : d ≡ e = omega arith in
      ⊎_elim (λ k. inr (same, before k))
      (λ k. inl (equal_longer same k))
      (le_or_lt i j))
      (λ m. inl (rw (lt-ltb e d m)))
      (le_or_lt d e)
    where
      before : i ≤ j → i < j
      before k = ⊎_elim (λ m. absurd (apart (omega arith))) (λ m. m) (le_or_lt j i)

-- ---- two equally long actions in the other order
module _ (J : Job) where
  pub fit_swapped : (a b : Action) → fit_together J a b ≡ fit_together J b a
  fit_swapped a b =
      ap not
      (below_same (length J.pools) _ _
      (λ k l. ap (over (get_or J.pools k 0)) (swapped (get_or a.pools k 0) (get_or b.pools k 0))))
    where
      swapped : (x y : ℕ) → x + y ≡ y + x
      swapped x y = omega arith

  pub together_swapped : (T : Table) (t i j : ℕ) → (action_of J i).duration ≡ (action_of J j).duration → Together J T t i j
      → Together J T t j i
  together_swapped T t i j same c =
      let needs_i : ℕ = (action_of J i).needs in
      let needs_j : ℕ = (action_of J j).needs in
      let end = c.both_end in
      record {
        known = c.known_too;
        known_too = c.known;
        different = λ e. c.different (sym e);
        spares = c.spared;
        spared = c.spares;
        fits = fit_swapped (action_of J j) (action_of J i) ∙ c.fits;
        longer = omega arith;
        from = c.both_from;
        ready = time_of_part J T needs_j (union needs_i needs_j) c.both_from (in_union_right needs_i needs_j)
            c.both_ready;
        ends = end;
        both_from = c.both_from;
        both_ready = rw (union_comm needs_j needs_i) c.both_ready;
        both_end = omega arith;
      }
