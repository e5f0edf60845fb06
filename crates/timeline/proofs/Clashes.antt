-- Steps that share a minute without a clash, as facts, and the test of clashes read as such facts.
-- Assumes nothing.
use Prim.Native.Nat.{ℕ, ◌<◌}
use mathlib.Core.Path.{◌≡◌, ap₂}
use mathlib.Core.Bool.{true, false, ◌&&◌, ◌||◌, and_comm, or_comm}
use mathlib.Core.Logic.{⊎_elim}
use mathlib.Core.List.{List, [], ◌∷◌, ◌++◌}
use lib.Dec.{eqb, ltb}
use borrow.Author.Tests.{eqb-false, ne_eqb, ltb-true, lt-ltb}
use Rattle.lists.specs.Lists.{any}
use Rattle.lists.proofs.Bools.{and_left, and_right, or_left, or_right}
use Rattle.facts.specs.FactSet.{has, union}
use Rattle.facts.proofs.SetLaws.{in_union_left, in_union_right, in_union_cases, not_in_both, no_common_member}
use Rattle.job.specs.Job.{Action}
use Rattle.timeline.specs.Step.{Step, any_pair}
use Rattle.timeline.specs.Timeline.{hinders, clash, overlap}
use Rattle.timeline.specs.Accepted.{clashing}
use Rattle.timeline.specs.Places.{Place, here, EachStep}
use Rattle.timeline.proofs.Tests.{not_both, false_unless, and_both, and_other_false, or_neither, eqb_sym}
use Rattle.timeline.proofs.Places.{each_append, each_rest, any_of_none, none_of_any, pair_none}

-- a deletes nothing that b needs, and nothing that b adds
pub record Spares (a b : Action) : Type 0 where
  pub needs : (n : ℕ) → has a.deletes n ≡ true → has b.needs n ≡ true → ⊥
  pub adds : (n : ℕ) → has a.deletes n ≡ true → has b.adds n ≡ true → ⊥

-- two steps of different actions, neither of which deletes what the other needs or adds: they may share a minute
pub record Compatible (x y : Step) : Type 0 where
  pub different : x.number ≡ y.number → ⊥
  pub spares : Spares x.action y.action
  pub spared : Spares y.action x.action

-- each two steps of P that share a minute are compatible
abbrev pub NoClash : List Step → Type 0
NoClash P =
    (x : Step) (Q : List Step) → Place x Q P → (y : Step) (R : List Step) → Place y R Q
    → x.start < y.stop → y.start < x.stop → Compatible x y

pub clashing_sym : (x y : Step) → clashing x y ≡ clashing y x
clashing_sym x y =
    ap₂ ◌&&◌ (and_comm (ltb x.start y.stop) (ltb y.start x.stop))
    (ap₂ ◌||◌ (eqb_sym x.number y.number)
    (or_comm (hinders x.action y.action) (hinders y.action x.action)))

spares_unless_hinders : (a b : Action) → hinders a b ≡ false → Spares a b
spares_unless_hinders a b h =
    record {
      needs = λ n d k. not_in_both a.deletes _ n h d (in_union_left b.needs b.adds n k);
      adds = λ n d k. not_in_both a.deletes _ n h d (in_union_right b.needs b.adds n k);
    }

no_hinder : (a b : Action) → Spares a b → hinders a b ≡ false
no_hinder a b s =
    no_common_member a.deletes (union b.needs b.adds)
    (λ n d k. ⊎_elim (s.needs n d) (s.adds n d) (in_union_cases b.needs b.adds n k))

pub compatible_unless_clash : (x y : Step) → clash x y ≡ false → Compatible x y
compatible_unless_clash x y h =
    let same = eqb x.number y.number in
    let one = hinders x.action y.action in
    let other = hinders y.action x.action in
    let hinder = or_right same (one || other) h in
    record {
      different = eqb-false x.number y.number (or_left same (one || other) h);
      spares = spares_unless_hinders x.action y.action (or_left one other hinder);
      spared = spares_unless_hinders y.action x.action (or_right one other hinder);
    }

pub compatible_no_clash : (x y : Step) → Compatible x y → clash x y ≡ false
compatible_no_clash x y c =
    or_neither (ne_eqb x.number y.number c.different)
    (or_neither (no_hinder x.action y.action c.spares) (no_hinder y.action x.action c.spared))

pub overlap_when : (x y : Step) → x.start < y.stop → y.start < x.stop → overlap x y ≡ true
overlap_when x y a b = and_both (lt-ltb x.start y.stop a) (lt-ltb y.start x.stop b)

pub overlap_reads : (x y : Step) → overlap x y ≡ true → (x.start < y.stop) × (y.start < x.stop)
overlap_reads x y h =
    let a = ltb-true x.start y.stop (and_left _ _ h) in
    let b = ltb-true y.start x.stop (and_right (ltb x.start y.stop) _ h) in
    (a, b)

pub no_clash_of_test : (P : List Step) → any_pair clashing P ≡ false → NoClash P
no_clash_of_test P h x Q i y R j a b =
    compatible_unless_clash x y
    (and_other_false (overlap x y) (clash x y) (overlap_when x y a b) (pair_none clashing clashing_sym i j h))

-- two steps that do not clash where they share a minute
pub not_clashing : (x y : Step) → (x.start < y.stop → y.start < x.stop → clash x y ≡ false) → clashing x y ≡ false
not_clashing x y h =
    false_unless (clashing x y)
    (λ e.
    let o = overlap_reads x y (and_left (overlap x y) (clash x y) e) in
    not_both (and_right (overlap x y) (clash x y) e) (h o.0 o.1))

-- no two of P and no two of R clash, nor one of P with one of R
pub no_clash_append : (P R : List Step) → any_pair clashing P ≡ false → any_pair clashing R ≡ false
    → EachStep (λ x. EachStep (λ y. clashing x y ≡ false) R) P → any_pair clashing (P ++ R) ≡ false
no_clash_append [] R a b h = b
no_clash_append (x ∷ P) R a b h =
    or_neither
    (any_of_none (clashing x) (P ++ R)
    (each_append (λ y. clashing x y ≡ false) P R (none_of_any (clashing x) P (or_left (any (clashing x) P) _ a))
    (h x P here)))
    (no_clash_append P R (or_right (any (clashing x) P) _ a) b
    (each_rest (λ y. EachStep (λ z. clashing y z ≡ false) R) x P h))
