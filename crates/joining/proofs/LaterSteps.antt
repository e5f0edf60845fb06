-- Steps some minutes later: their order, whose steps they are, and their bytes.
-- Assumes nothing.
use Prim.Native.Nat.{ℕ, ◌+◌}
use mathlib.Core.Path.{◌≡◌, refl, sym, ap, ap₂}
use mathlib.Core.Bool.{true}
use mathlib.Core.Logic.{inl, inr, ⊎_elim}
use mathlib.Core.List.{List, [], ◌∷◌, ◌++◌, map, append-nil}
use native.Mathlib.Omega.{arith}
use lib.ListN.{length}
use Rattle.lists.proofs.Bools.{and_left, and_right}
use Rattle.encoding.specs.Bytes.{joined}
use Rattle.encoding.proofs.Pieces.{joined_append}
use Rattle.job.specs.Job.{Action, Job}
use Rattle.timeline.specs.Step.{step_bytes, plan_bytes, Step, step_of, before, strictly_rising}
use Rattle.timeline.specs.Timeline.{end}
use Rattle.timeline.specs.Places.{here, EachStep}
use Rattle.timeline.specs.Keeps.{OfJob}
use Rattle.timeline.proofs.Tests.{and_both}
use Rattle.timeline.proofs.Places.{each_append, each_map, each_rest}
use Rattle.timeline.proofs.Rising.{before_reads, before_when, rising_rest, rising_before, rising_cons}
use Rattle.joining.specs.Join.{later_by, join_steps}
use Rattle.joining.specs.Inner.{offset}

-- ---- order
before_later : (n : ℕ) (x y : Step) → before x y ≡ true → before (later_by n x) (later_by n y) ≡ true
before_later n x y h =
    before_when (later_by n x) (later_by n y)
    (⊎_elim (λ l. inl (omega arith)) (λ r. let e = r.0 in inr (omega arith, r.1)) (before_reads x y h))

pub rising_later : (n : ℕ) (P : List Step) → strictly_rising P ≡ true → strictly_rising (map (later_by n) P) ≡ true
rising_later n [] h = refl
rising_later n (x ∷ []) h = refl
rising_later n (x ∷ y ∷ P) h =
    and_both (before_later n x y (and_left (before x y) _ h))
    (rising_later n (y ∷ P) (and_right (before x y) (strictly_rising (y ∷ P)) h))

-- a rising list before another, each of whose steps stands after all of the first
pub rising_append : (A B : List Step) → strictly_rising A ≡ true → strictly_rising B ≡ true
    → EachStep (λ x. EachStep (λ y. before x y ≡ true) B) A → strictly_rising (A ++ B) ≡ true
rising_append [] B a b h = b
rising_append (x ∷ A) B a b h =
    rising_cons x (A ++ B)
    (each_append (λ y. before x y ≡ true) A B (rising_before x A a) (h x A here))
    (rising_append A B (rising_rest x A a) b (each_rest (λ y. EachStep (λ z. before y z ≡ true) B) x A h))

-- ---- steps of the job
own_later : (J : Job) (n : ℕ) (x : Step) → OfJob J x → OfJob J (later_by n x)
own_later J n x own =
    let action = ap (λ (y : Step). y.action) own in
    let stop : x.stop ≡ (step_of J x.number x.start).stop = ap (λ (y : Step). y.stop) own in
    let later : n + x.stop ≡ (step_of J x.number (n + x.start)).stop = omega arith in
    ap₂ {C = Step} (λ (a : Action) (t : ℕ). record { number = x.number; action = a; start = n + x.start; stop = t })
    action later

owns_later : (J : Job) (n : ℕ) (P : List Step) → EachStep (OfJob J) P → EachStep (OfJob J) (map (later_by n) P)
owns_later J n P own = each_map (OfJob J) (later_by n) P (λ x Q i. own_later J n x (own x Q i))

-- ---- bytes: the second half is written behind the first, its steps so many minutes later
pub later_none : (P : List Step) → map (later_by 0) P ≡ P
later_none [] = refl
later_none (x ∷ P) =
    let start : 0 + x.start ≡ x.start = omega arith in
    let stop : 0 + x.stop ≡ x.stop = omega arith in
    ap₂ {C = List Step} (λ (y : Step) (R : List Step). y ∷ R)
    (ap₂ {C = Step} (λ (s t : ℕ). record { number = x.number; action = x.action; start = s; stop = t }) start stop)
    (later_none P)

-- the first as it is, and the second later by the offset: none where the first half is empty
pub joined_bytes : (wait : ℕ) (A B : List Step) → plan_bytes (join_steps wait A B)
    ≡ plan_bytes A ++ plan_bytes (map (later_by (offset wait (length A) (end A))) B)
unfolding join_steps plan_bytes
joined_bytes wait [] B = ap (joined step_bytes) (sym (later_none B))
joined_bytes wait (x ∷ A) [] = sym (append-nil (joined step_bytes (x ∷ A)))
joined_bytes wait (x ∷ A) (y ∷ B) = joined_append step_bytes (x ∷ A) (map (later_by (end (x ∷ A) + wait)) (y ∷ B))

-- joined steps of a job are steps of the job
pub owns_joined : (J : Job) (wait : ℕ) (A B : List Step) → EachStep (OfJob J) A → EachStep (OfJob J) B
    → EachStep (OfJob J) (join_steps wait A B)
unfolding join_steps
owns_joined J wait [] B a b = b
owns_joined J wait (x ∷ A) [] a b = a
owns_joined J wait (x ∷ A) (y ∷ B) a b =
    each_append (OfJob J) (x ∷ A) (map (later_by (end (x ∷ A) + wait)) (y ∷ B)) a
    (owns_later J (end (x ∷ A) + wait) (y ∷ B) b)
