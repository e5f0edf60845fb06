-- Laws of times, read by the minutes that they are at most: `By a t` says that the time a is at most t.
-- Assumes nothing.
use Prim.Native.Nat.{ℕ, zero, suc, ◌+◌, ◌<◌, ◌≤◌, min}
use mathlib.Core.Path.{◌≡◌, refl, ap}
use mathlib.Core.Bool.{Bool, true, false, ◌&&◌}
use mathlib.Core.Logic.{◌⊎◌, inl, inr, ⊎_elim}
use native.Mathlib.Nat.{eq-or-lt_of_le, le_refl}
use native.Mathlib.Omega.{arith}
use Rattle.lists.proofs.Bools.{and_left, and_right}
use Rattle.facts.specs.FactSet.{has, Subset}
use Rattle.job.specs.Job.{Job}
use Rattle.timeline.proofs.Tests.{not_both, and_both}
use Rattle.times.specs.Time.{Time, at, unreachable, earlier, later, after, choice, demand, least, greatest}
use Rattle.times.specs.Earliest.{Table, time_of}
use Rattle.times.specs.Choices.{By}

-- two times that are at most the same minutes are equal
pub by_ext : (a b : Time) → ((t : ℕ) → By a t → By b t) → ((t : ℕ) → By b t → By a t) → a ≡ b
by_ext (at x) (at y) f g =
    let p : y ≤ x = f x (le_refl x) in
    let q : x ≤ y = g y (le_refl y) in
    let e : x ≡ y = omega arith in
    ap at e
by_ext (at x) unreachable f g = absurd (f x (le_refl x))
by_ext unreachable (at y) f g = absurd (g y (le_refl y))
by_ext unreachable unreachable f g = refl

pub by_later_minute : (a : Time) (t u : ℕ) → t ≤ u → By a t → By a u
by_later_minute (at x) t u l h = omega arith
by_later_minute unreachable t u l h = h

pub by_same : {a b : Time} (t : ℕ) → a ≡ b → By a t → By b t
by_same t e h = rw e at h

-- ---- the earlier and the later of two times, and a time some minutes later
pub by_earlier : (a b : Time) (t : ℕ) → By (earlier a b) t → By a t ⊎ By b t
by_earlier unreachable b t h = inr h
by_earlier (at x) unreachable t h = inl h
by_earlier (at x) (at y) t h = ⊎_elim (λ q. inl (omega arith)) (λ q. inr (omega arith)) (which x y)
  where
    which : (x y : ℕ) → (min x y ≡ x) ⊎ (min x y ≡ y)
    which zero y = inl (omega arith)
    which (suc x) zero = inr (omega arith)
    which (suc x) (suc y) = ⊎_elim (λ q. inl (omega arith)) (λ q. inr (omega arith)) (which x y)

pub earlier_by_first : (a b : Time) (t : ℕ) → By a t → By (earlier a b) t
earlier_by_first unreachable b t h = absurd h
earlier_by_first (at x) unreachable t h = h
earlier_by_first (at x) (at y) t h = omega arith

pub earlier_by_second : (a b : Time) (t : ℕ) → By b t → By (earlier a b) t
earlier_by_second unreachable b t h = h
earlier_by_second (at x) unreachable t h = absurd h
earlier_by_second (at x) (at y) t h = omega arith

pub by_later : (a b : Time) (t : ℕ) → By (later a b) t → By a t × By b t
by_later unreachable b t h = absurd h
by_later (at x) unreachable t h = absurd h
by_later (at x) (at y) t h = (omega arith, omega arith)

pub later_by_lem : (a b : Time) (t : ℕ) → By a t → By b t → By (later a b) t
later_by_lem unreachable b t h k = h
later_by_lem (at x) unreachable t h k = k
later_by_lem (at x) (at y) t h k = omega arith

pub by_after : (n : ℕ) (a : Time) (t : ℕ) → By (after n a) t → (u : ℕ) × By a u × (n + u ≤ t)
by_after n unreachable t h = absurd h
by_after n (at x) t h = (x, le_refl x, h)

pub after_by : (n : ℕ) (a : Time) (t u : ℕ) → By a u → n + u ≤ t → By (after n a) t
after_by n unreachable t u h l = h
after_by n (at x) t u h l = omega arith

-- ---- choices and demands
pub by_choice : (test : Bool) (a : Time) (t : ℕ) → By (choice test a) t → (test ≡ true) × By a t
by_choice true a t h = (refl, h)
by_choice false a t h = absurd h

pub choice_by : (test : Bool) (a : Time) (t : ℕ) → test ≡ true → By a t → By (choice test a) t
choice_by true a t e h = h
choice_by false a t e h = not_both e refl

pub by_demand : (test : Bool) (a : Time) (t : ℕ) → By (demand test a) t → test ≡ true → By a t
by_demand true a t h e = h
by_demand false a t h e = not_both e refl

pub demand_by : (test : Bool) (a : Time) (t : ℕ) → (test ≡ true → By a t) → By (demand test a) t
demand_by true a t h = h refl
demand_by false a t h = omega arith

-- ---- the least and the largest of many
pub by_least : (n : ℕ) (f : ℕ → Time) (t : ℕ) → By (least n f) t → (k : ℕ) × (k < n) × By (f k) t
by_least zero f t h = absurd h
by_least (suc n) f t h =
    ⊎_elim (λ x. (n, le_refl (suc n), x))
    (λ x. let r = by_least n f t x in let l = r.1 in (r.0, omega arith, r.2))
    (by_earlier (f n) (least n f) t h)

pub least_by : (n : ℕ) (f : ℕ → Time) (t k : ℕ) → k < n → By (f k) t → By (least n f) t
least_by zero f t k l h = absurd (omega arith)
least_by (suc n) f t k l h =
    ⊎_elim (λ e. let z : k ≡ n = omega arith in earlier_by_first (f n) (least n f) t (rw z at h))
    (λ e. earlier_by_second (f n) (least n f) t (least_by n f t k (omega arith) h))
    (eq-or-lt_of_le l)

pub by_greatest : (n : ℕ) (f : ℕ → Time) (t : ℕ) → By (greatest n f) t → (k : ℕ) → k < n → By (f k) t
by_greatest zero f t h k l = absurd (omega arith)
by_greatest (suc n) f t h k l =
    let r = by_later (f n) (greatest n f) t h in
    ⊎_elim (λ e. let z : k ≡ n = omega arith in rw z r.0)
    (λ e. by_greatest n f t r.1 k (omega arith))
    (eq-or-lt_of_le l)

pub greatest_by : (n : ℕ) (f : ℕ → Time) (t : ℕ) → ((k : ℕ) → k < n → By (f k) t) → By (greatest n f) t
greatest_by zero f t h = omega arith
greatest_by (suc n) f t h =
    later_by_lem (f n) (greatest n f) t (h n (le_refl (suc n))) (greatest_by n f t (λ k l. h k (omega arith)))

-- ---- the time of a set: that of each two of its facts
module _ (J : Job) (T : Table) (set t : ℕ) where
  abbrev of_pair : ℕ → ℕ → Time
  of_pair q p = demand (has set p && has set q) (T p q)

  pub by_time_of : By (time_of J T set) t → (p q : ℕ) → p ≤ q → q < J.facts → has set p ≡ true → has set q ≡ true
      → By (T p q) t
  by_time_of h p q l k a b =
      by_demand (has set p && has set q) (T p q) t
      (by_greatest (suc q) (of_pair q) t (by_greatest J.facts (λ q. greatest (suc q) (of_pair q)) t h q k) p
      (omega arith))
      (and_both a b)

  pub time_of_by : ((p q : ℕ) → p ≤ q → q < J.facts → has set p ≡ true → has set q ≡ true → By (T p q) t)
      → By (time_of J T set) t
  time_of_by h =
      greatest_by J.facts (λ q. greatest (suc q) (of_pair q)) t
      (λ q k.
      greatest_by (suc q) (of_pair q) t
      (λ p l.
      demand_by (has set p && has set q) (T p q) t
      (λ e. h p q (omega arith) k (and_left _ _ e) (and_right (has set p) (has set q) e))))

-- a part of a set is there no later than the set
pub time_of_part : (J : Job) (T : Table) (a b t : ℕ) → Subset a b → By (time_of J T b) t → By (time_of J T a) t
time_of_part J T a b t inside h =
    time_of_by J T a t (λ p q l k hp hq. by_time_of J T b t h p q l k (inside p hp) (inside q hq))
