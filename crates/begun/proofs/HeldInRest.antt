-- At each minute of the rest the same facts hold as at that minute of the begun day.
-- Assumes nothing.
use Prim.Native.Nat.{ℕ, zero, suc, ◌+◌, ◌-◌, ◌<◌, ◌≤◌}
use mathlib.Core.Path.{◌≡◌, refl, ap, ap₂, ◌∙◌}
use mathlib.Core.Bool.{Bool, cond}
use mathlib.Core.List.{List, [], ◌∷◌, ◌++◌}
use native.Mathlib.Omega.{arith}
use lib.Dec.{eqb}
use borrow.Author.Tests.{eqb-true, eq-eqb, ne_eqb}
use Rattle.facts.specs.FactSet.{union, difference}
use Rattle.facts.proofs.SetLaws.{union_zero_left}
use Rattle.job.specs.Job.{Action, Job}
use Rattle.timeline.specs.Step.{Step, union_of}
use Rattle.timeline.specs.Timeline.{if_stops, held}
use Rattle.timeline.specs.Places.{here, EachStep}
use Rattle.timeline.proofs.Tests.{same_test}
use Rattle.timeline.proofs.Places.{each_rest}
use Rattle.begun.specs.RestOfDay.{with_duration}
use Rattle.begun.proofs.Rests.{Rest, rest_union}

-- what the steps that stop at minute t delete or add
abbrev at_stop : (Action → ℕ) → ℕ → List Step → ℕ
at_stop set t P = union_of (λ x. if_stops t (set x.action) x) P

none_at_stop : (t set : ℕ) (x : Step) → (x.stop ≡ t → ⊥) → if_stops t set x ≡ 0
none_at_stop t set x l = rw (ne_eqb x.stop t l) refl

-- ---- up to M only the kept steps change what holds
module _ (S M : ℕ) (K : List Step) where
  stops_of_kept : (set : Action → ℕ) (t : ℕ) → t ≤ M → (N : List Step) → EachStep (λ x. M < x.stop) N
      → at_stop set t (N ++ K) ≡ at_stop set t K
  stops_of_kept set t l [] later = refl
  stops_of_kept set t l (x ∷ N) later =
      let runs = later x N here in
      ap₂ union (none_at_stop t (set x.action) x (λ e. omega arith))
      (stops_of_kept set t l N (each_rest (λ y. M < y.stop) x N later))
      ∙ union_zero_left (at_stop set t K)

  pub held_by_kept : (N : List Step) → EachStep (λ x. M < x.stop) N → (t : ℕ) → t ≤ M
      → held S (N ++ K) t ≡ held S K t
  held_by_kept N later zero l = refl
  held_by_kept N later (suc t) l =
      ap₂ union
      (ap₂ difference (held_by_kept N later t (omega arith)) (stops_of_kept (λ a. a.deletes) (suc t) l N later))
      (stops_of_kept (λ a. a.adds) (suc t) l N later)

-- ---- after M what is left does the same
module _ {J : Job} {M : ℕ} {was : ℕ → ℕ} {P R : List Step} (rest : Rest J M was P R) where
  same_minute : (t : ℕ) (x : Step) → eqb (x.stop - M) (suc t) ≡ eqb x.stop (suc (M + t))
  same_minute t x =
      same_test (eqb (x.stop - M) (suc t)) (eqb x.stop (suc (M + t)))
      (λ e. let s = eqb-true (x.stop - M) (suc t) e in eq-eqb x.stop (suc (M + t)) (omega arith))
      (λ e. let s = eqb-true x.stop (suc (M + t)) e in eq-eqb (x.stop - M) (suc t) (omega arith))

  same_stops : (set : Action → ℕ) → ((d : ℕ) (a : Action) → set (with_duration d a) ≡ set a) → (t : ℕ)
      → at_stop set (suc t) R ≡ at_stop set (suc (M + t)) P
  same_stops set same t =
      rest_union (λ x. if_stops (suc t) (set x.action) x) (λ x. if_stops (suc (M + t)) (set x.action) x) rest
      (λ x l. none_at_stop (suc (M + t)) (set x.action) x (λ e. omega arith))
      (λ x n d l. ap₂ (λ (b : Bool) (s : ℕ). cond b s 0) (same_minute t x) (same d x.action))

  pub held_in_rest : (S t : ℕ) → held (held S P M) R t ≡ held S P (M + t)
  held_in_rest S zero = let e : M ≡ M + 0 = omega arith in ap (held S P) e
  held_in_rest S (suc t) =
      let e : suc (M + t) ≡ M + suc t = omega arith in
      ap₂ union (ap₂ difference (held_in_rest S t) (same_stops (λ a. a.deletes) (λ d a. refl) t))
      (same_stops (λ a. a.adds) (λ d a. refl) t)
      ∙ ap (held S P) e
