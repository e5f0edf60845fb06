-- The facts that hold on a joined day: those of the first half, and then the second goes on from what the first leaves.
-- Assumes nothing.
use Prim.Native.Nat.{ℕ, zero, suc, ◌+◌, ◌<◌, ◌≤◌}
use mathlib.Core.Path.{◌≡◌, refl, sym, ap, ap₂, ◌∙◌}
use mathlib.Core.Bool.{Bool, cond}
use mathlib.Core.List.{List, [], ◌∷◌, ◌++◌, map}
use native.Mathlib.Omega.{arith}
use lib.Dec.{eqb}
use borrow.Author.Tests.{eqb-true, eq-eqb, ne_eqb}
use Rattle.facts.specs.FactSet.{union, difference}
use Rattle.facts.proofs.SetLaws.{union_assoc, union_zero_left, union_zero_right}
use Rattle.job.specs.Job.{Action}
use Rattle.timeline.specs.Step.{Step, union_of}
use Rattle.timeline.specs.Timeline.{if_stops, held}
use Rattle.timeline.specs.Places.{here, EachStep}
use Rattle.timeline.specs.Keeps.{Lasting}
use Rattle.timeline.proofs.Tests.{same_test}
use Rattle.timeline.proofs.Places.{each_map, each_rest}
use Rattle.joining.specs.Join.{later_by}

abbrev at_stop : (Action → ℕ) → ℕ → List Step → ℕ
at_stop set t P = union_of (λ x. if_stops t (set x.action) x) P

none_at_stop : (set : Action → ℕ) (t : ℕ) (P : List Step) → EachStep (λ x. x.stop ≡ t → ⊥) P → at_stop set t P ≡ 0
none_at_stop set t [] h = refl
none_at_stop set t (x ∷ P) h =
    ap₂ union (ap (λ (b : Bool). cond b (set x.action) 0) (ne_eqb x.stop t (h x P here)))
    (none_at_stop set t P (each_rest (λ y. y.stop ≡ t → ⊥) x P h))
    ∙ union_zero_left 0

at_stop_append : (set : Action → ℕ) (t : ℕ) (P R : List Step)
    → at_stop set t (P ++ R) ≡ union (at_stop set t P) (at_stop set t R)
at_stop_append set t [] R = sym (union_zero_left (at_stop set t R))
at_stop_append set t (x ∷ P) R =
    ap (union (if_stops t (set x.action) x)) (at_stop_append set t P R)
    ∙ sym (union_assoc (if_stops t (set x.action) x) (at_stop set t P) (at_stop set t R))

module _ (S M : ℕ) (A B : List Step) (ended : EachStep (λ x. x.stop ≤ M) A) (lasting : Lasting B) where
  abbrev second : List Step
  second = map (later_by M) B

  stops_late : EachStep (λ x. M < x.stop) second
  stops_late =
      each_map (λ x. M < x.stop) (later_by M) B (λ x Q i. let l = lasting x Q i in omega arith)

  same_first : (set : Action → ℕ) (t : ℕ) → t ≤ M → at_stop set t (A ++ second) ≡ at_stop set t A
  same_first set t l =
      at_stop_append set t A second
      ∙ ap (union (at_stop set t A))
      (none_at_stop set t second (λ x Q i e. let s = stops_late x Q i in omega arith))
      ∙ union_zero_right (at_stop set t A)

  pub held_in_first : (t : ℕ) → t ≤ M → held S (A ++ second) t ≡ held S A t
  held_in_first zero l = refl
  held_in_first (suc t) l =
      ap₂ union
      (ap₂ difference (held_in_first t (omega arith)) (same_first (λ a. a.deletes) (suc t) l))
      (same_first (λ a. a.adds) (suc t) l)

  stop_of_later : (set : Action → ℕ) (t : ℕ) (P : List Step)
      → at_stop set (M + t) (map (later_by M) P) ≡ at_stop set t P
  stop_of_later set t [] = refl
  stop_of_later set t (x ∷ P) =
      ap₂ union
      (ap (λ (b : Bool). cond b (set x.action) 0)
      (same_test (eqb (M + x.stop) (M + t)) (eqb x.stop t)
      (λ e. let s = eqb-true (M + x.stop) (M + t) e in eq-eqb x.stop t (omega arith))
      (λ e. let s = eqb-true x.stop t e in eq-eqb (M + x.stop) (M + t) (omega arith))))
      (stop_of_later set t P)

  same_second : (set : Action → ℕ) (t : ℕ) → at_stop set (M + suc t) (A ++ second) ≡ at_stop set (suc t) B
  same_second set t =
      at_stop_append set (M + suc t) A second
      ∙ ap₂ union (none_at_stop set (M + suc t) A (λ x Q i e. let s = ended x Q i in omega arith))
      (stop_of_later set (suc t) B)
      ∙ union_zero_left (at_stop set (suc t) B)

  -- the second half goes on from what the first leaves
  pub held_in_second : (t : ℕ) → held S (A ++ second) (M + t) ≡ held (held S A M) B t
  held_in_second zero =
      let e : M + 0 ≡ M = omega arith in ap (held S (A ++ second)) e ∙ held_in_first M (omega arith)
  held_in_second (suc t) =
      let e : M + suc t ≡ suc (M + t) = omega arith in
      let f : suc (M + t) ≡ M + suc t = omega arith in
      ap (held S (A ++ second)) e
      ∙ ap₂ union
      (ap₂ difference (held_in_second t)
      (ap (λ (m : ℕ). at_stop (λ a. a.deletes) m (A ++ second)) f ∙ same_second (λ a. a.deletes) t))
      (ap (λ (m : ℕ). at_stop (λ a. a.adds) m (A ++ second)) f ∙ same_second (λ a. a.adds) t)
