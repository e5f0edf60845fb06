-- The largest number over a set of facts, from one fact of the set to the next.
-- Assumes nothing.
use Prim.Native.Nat.{ℕ, zero, suc, ◌+◌, ◌-◌, ◌≤◌, ◌<◌, min, max}
use mathlib.Core.Path.{◌≡◌, refl, sym, ap, ◌∙◌}
use mathlib.Core.Bool.{Bool, true, false, cond}
use mathlib.Core.Logic.{⊎_elim}
use native.Mathlib.Nat.{eq-or-lt_of_le}
use native.Mathlib.Omega.{arith}
use Rattle.std.specs.Ordering.{ord_max, nat_cmp}
use Rattle.std.proofs.lemmas.Grind.{common_steps}
use Rattle.facts.specs.FactSet.{has, NextFact}
use Rattle.earliest.specs.Numbers.{latest}

module _ (set : ℕ) (f : ℕ → ℕ) where
  pub latest_first : latest set f 0 ≡ 0
  unfolding latest
  latest_first = refl

  -- facts that are not in the set do not count
  past_others : (n d : ℕ) → ((k : ℕ) → n ≤ k → k < n + d → has set k ≡ false) → latest set f (n + d) ≡ latest set f n
  unfolding latest
  past_others n zero others = let e : n + 0 ≡ n = omega arith in ap (latest set f) e
  past_others n (suc d) others =
      let e : n + suc d ≡ suc (n + d) = omega arith in
      let last = others (n + d) (omega arith) (omega arith) in
      let rest = past_others n d (λ k a b. others k a (omega arith)) in
      let first : max 0 (latest set f n) ≡ latest set f n = omega arith in
      ap (latest set f) e ∙ rw (last, rest) first

  pub latest_to_next : (from r m : ℕ) → NextFact set from r → from ≤ m → m ≤ r → latest set f m ≡ latest set f from
  latest_to_next from r m next l u =
      let e : from + (m - from) ≡ m = omega arith in
      rw e at (past_others from (m - from) (λ k a b. next.skipped k a (omega arith)))

  -- a fact of the set counts
  pub latest_at_member : (n : ℕ) → has set n ≡ true → latest set f (suc n) ≡ max (latest set f n) (f n)
  unfolding latest
  latest_at_member n h = let e : max (f n) (latest set f n) ≡ max (latest set f n) (f n) = omega arith in rw h e

  -- from a fact of the set to the next one, or as far as m
  pub latest_on : (n r m : ℕ) → has set n ≡ true → NextFact set (n + 1) r → n < m → m ≤ r
      → latest set f m ≡ max (latest set f n) (f n)
  latest_on n r m h next l u =
      let e : n + 1 ≡ suc n = omega arith in
      latest_to_next (n + 1) r m next (omega arith) u ∙ ap (latest set f) e ∙ latest_at_member n h

-- ---- bounds
module _ (set : ℕ) (f : ℕ → ℕ) where
  pub latest_at_most : (n t : ℕ) → ((k : ℕ) → k < n → has set k ≡ true → f k ≤ t) → latest set f n ≤ t
  unfolding latest
  latest_at_most zero t h = omega arith
  latest_at_most (suc n) t h =
      let rest = latest_at_most n t (λ k l m. h k (omega arith) m) in
      let last = counts (has set n) refl in
      omega arith
    where
      counts : (b : Bool) → has set n ≡ b → cond b (f n) 0 ≤ t
      counts true e = h n (omega arith) e
      counts false e = omega arith

  pub member_at_most_latest : (n k : ℕ) → k < n → has set k ≡ true → f k ≤ latest set f n
  unfolding latest
  member_at_most_latest zero k l h = absurd (omega arith)
  member_at_most_latest (suc n) k l h =
      ⊎_elim
      (λ e.
      let same : k ≡ n = omega arith in
      let here : cond (has set n) (f n) 0 ≡ f n = rw (← same, h) refl in
      let value : f k ≡ f n = ap f same in
      omega arith)
      (λ m. let rest = member_at_most_latest n k (omega arith) h in omega arith)
      (eq-or-lt_of_le l)

  pub latest_grows : (m n : ℕ) → m ≤ n → latest set f m ≤ latest set f n
  latest_grows m n l = latest_at_most m (latest set f n) (λ k b h. member_at_most_latest n k (omega arith) h)

-- what `max` answers
pub max_answered : (x v y : ℕ) → y ≡ ord_max nat_cmp x v → y ≡ max x v
max_answered x v y e = grind (arith, common_steps, e)

-- ---- a loop over the facts of the set below a bound
module _ (set : ℕ) (f : ℕ → ℕ) (bound : ℕ) where
  -- n is a fact of the set or 64, and x the largest number of the facts below n
  abbrev pub Counted : ℕ → ℕ → Type 0
  Counted n x = (n ≤ 64) × (n < 64 → has set n ≡ true) × (x ≡ latest set f (min n bound))

  pub counted_at_first : (r : ℕ) → NextFact set 0 r → Counted r 0
  counted_at_first r next = (
    next.within,
    next.found,
    sym (latest_to_next set f 0 r (min r bound) next (omega arith) (omega arith) ∙ latest_first set f),
  )

  -- a number more
  pub counted_on : (n x v y r : ℕ) → Counted n x → n < bound → n < 64 → v ≡ f n → y ≡ max x v → NextFact set (n + 1) r
      → Counted r y
  counted_on n x v y r c l k value e next =
      let here : min n bound ≡ n = omega arith in
      let onward = next.onward (omega arith) in (
        next.within,
        next.found,
        e ∙ rw (value, c.2, here)
            (sym (latest_on set f n r (min r bound) (c.1 k) next (omega arith) (omega arith))),
      )

  -- where one is later than a limit, so is the largest
  pub counted_late : (limit n x : ℕ) → Counted n x → n < bound → n < 64 → limit < f n → limit < latest set f bound
  counted_late limit n x c l k late =
      let member = member_at_most_latest set f bound n l (c.1 k) in omega arith

  pub counted_all : (n x : ℕ) → Counted n x → bound ≤ n → x ≡ latest set f bound
  counted_all n x c l = let e : min n bound ≡ bound = omega arith in c.2 ∙ ap (latest set f) e
