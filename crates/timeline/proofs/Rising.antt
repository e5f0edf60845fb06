-- Steps in strictly rising order of start, then number: two such lists with the same members are the same list.
-- Assumes nothing.
use Prim.Native.Nat.{◌<◌}
use mathlib.Core.Path.{◌≡◌, refl, sym, ◌∙◌}
use mathlib.Core.Bool.{true, or-true}
use mathlib.Core.Logic.{◌⊎◌, inl, inr, ⊎_elim}
use mathlib.Core.List.{List, [], ◌∷◌}
use native.Mathlib.Omega.{arith}
use lib.Dec.{eqb, ltb}
use borrow.Author.Tests.{eqb-true, eq-eqb, ltb-true, lt-ltb}
use Rattle.lists.proofs.Bools.{and_left, and_right}
use Rattle.timeline.specs.Step.{Step, before, strictly_rising}
use Rattle.timeline.specs.Places.{Place, here, there, Member, EachStep}
use Rattle.timeline.proofs.Tests.{and_both, or_cases, trichotomy}
use Rattle.timeline.proofs.Places.{split_place}

-- ---- the order
abbrev pub Before : Step → Step → Type 0
Before x y = (x.start < y.start) ⊎ ((x.start ≡ y.start) × (x.number < y.number))

pub before_reads : (x y : Step) → before x y ≡ true → Before x y
before_reads x y h =
    ⊎_elim (λ e. inl (ltb-true x.start y.start e))
    (λ e.
    inr (
      eqb-true x.start y.start (and_left _ _ e),
      ltb-true x.number y.number (and_right (eqb x.start y.start) _ e),
    ))
    (or_cases (ltb x.start y.start) _ h)

pub before_when : (x y : Step) → Before x y → before x y ≡ true
before_when x y (inl a) = rw (lt-ltb x.start y.start a)
before_when x y (inr a) =
    rw (and_both (eq-eqb x.start y.start a.0) (lt-ltb x.number y.number a.1))
    (or-true (ltb x.start y.start))

pub before_trans : (x y z : Step) → before x y ≡ true → before y z ≡ true → before x z ≡ true
before_trans x y z h k = before_when x z (go (before_reads x y h) (before_reads y z k))
  where
    go : Before x y → Before y z → Before x z
    go (inl a) (inl b) = inl (omega arith)
    go (inl a) (inr b) = let e = b.0 in inl (omega arith)
    go (inr a) (inl b) = let e = a.0 in inl (omega arith)
    go (inr a) (inr b) =
        let e = a.0 in let f = b.0 in let l = a.1 in let m = b.1 in inr (omega arith, omega arith)

pub before_irreflexive : (x : Step) → before x x ≡ true → ⊥
before_irreflexive x h = ⊎_elim (λ a. omega arith) (λ a. let l = a.1 in omega arith) (before_reads x x h)

pub not_before_both : (x y : Step) → before x y ≡ true → before y x ≡ true → ⊥
not_before_both x y h k = before_irreflexive x (before_trans x y x h k)

-- not the same start and number
abbrev pub Apart : Step → Step → Type 0
Apart x y = x.start ≡ y.start → x.number ≡ y.number → ⊥

pub before_or_after : (x y : Step) → Apart x y → (before x y ≡ true) ⊎ (before y x ≡ true)
before_or_after x y apart =
    ⊎_elim
    (λ e.
    ⊎_elim (λ f. absurd (apart e f))
    (⊎_elim (λ l. inl (before_when x y (inr (e, l)))) (λ l. inr (before_when y x (inr (sym e, l)))))
    (trichotomy x.number y.number))
    (⊎_elim (λ l. inl (before_when x y (inl l))) (λ l. inr (before_when y x (inl l))))
    (trichotomy x.start y.start)

-- ---- a rising list
pub rising_rest : (x : Step) (P : List Step) → strictly_rising (x ∷ P) ≡ true → strictly_rising P ≡ true
rising_rest x [] h = refl
rising_rest x (y ∷ P) h = and_right (before x y) (strictly_rising (y ∷ P)) h

pub rising_before : (x : Step) (P : List Step) → strictly_rising (x ∷ P) ≡ true → EachStep (λ y. before x y ≡ true) P
rising_before x (y ∷ P) h z Q here = and_left (before x y) (strictly_rising (y ∷ P)) h
rising_before x (y ∷ P) h z Q (there {Q = R} i) =
    before_trans x y z (and_left (before x y) (strictly_rising (y ∷ P)) h)
    (rising_before y P (and_right (before x y) (strictly_rising (y ∷ P)) h) z R i)
rising_before x [] h z Q x5 = elim x5 [ ]

pub rising_cons : (x : Step) (P : List Step) → EachStep (λ y. before x y ≡ true) P → strictly_rising P ≡ true
    → strictly_rising (x ∷ P) ≡ true
rising_cons x [] h k = refl
rising_cons x (y ∷ P) h k = and_both (h y P here) k

-- no two steps at different places have the same start and number
abbrev pub AllApart : List Step → Type 0
AllApart P = (x : Step) (Q : List Step) → Place x Q P → (y : Step) (R : List Step) → Place y R Q → Apart x y

-- the first step of one list is the first of the other
same_first : (x y : Step) (P Q : List Step) → strictly_rising (x ∷ P) ≡ true → strictly_rising (y ∷ Q) ≡ true
    → Member x (y ∷ Q) → Member y (x ∷ P) → x ≡ y
same_first x y P Q h k m n =
    ⊎_elim (λ e. e)
    (λ a.
    ⊎_elim (λ e. sym e)
    (λ b.
    absurd (not_before_both x y (rising_before x P h y b.0 b.1) (rising_before y Q k x a.0 a.1)))
    (split_place {x = x} here n.1))
    (split_place {x = y} here m.1)

-- the members of the rests
rest_members : (x y : Step) (P Q : List Step) → x ≡ y → strictly_rising (x ∷ P) ≡ true
    → EachStep (λ z. Member z (y ∷ Q)) (x ∷ P) → EachStep (λ z. Member z Q) P
rest_members x y P Q e h m z R i =
    ⊎_elim
    (λ f.
    let g : z ≡ x = f ∙ sym e in
    let b : before x x ≡ true = rw g at (rising_before x P h z R i) in
    absurd (before_irreflexive x b))
    (λ r. r)
    (split_place {x = y} here (m z (x ∷ R) (there i)).1)

pub rising_same_members : (P Q : List Step) → strictly_rising P ≡ true → strictly_rising Q ≡ true
    → EachStep (λ x. Member x Q) P → EachStep (λ x. Member x P) Q → P ≡ Q
rising_same_members [] [] h k into back = refl
rising_same_members [] (y ∷ Q) h k into back = nowhere (back y Q here)
  where
    nowhere : {x : Step} {A : Type 0} → Member x [] → A
    nowhere (Q, i) = elim i [ ]
rising_same_members (x ∷ P) [] h k into back = nowhere (into x P here)
  where
    nowhere : {x : Step} {A : Type 0} → Member x [] → A
    nowhere (Q, i) = elim i [ ]
rising_same_members (x ∷ P) (y ∷ Q) h k into back =
    let e = same_first x y P Q h k (into x P here) (back y Q here) in
    let rest = rising_same_members P Q (rising_rest x P h) (rising_rest y Q k) (rest_members x y P Q e h into)
    (rest_members y x Q P (sym e) k back) in
    rw (e, rest)
