-- What a loop over the steps gathers, with one step more.
-- Assumes nothing.
use Prim.Native.Nat.{ℕ, zero, suc, ◌+◌, ◌-◌, ◌≤◌, ◌<◌, max}
use mathlib.Core.Path.{◌≡◌, refl, ap, sym, ◌∙◌}
use mathlib.Core.Bool.{Bool, true, false, ◌&&◌, ◌||◌}
use mathlib.Core.List.{List, [], ◌∷◌, ◌++◌, append_assoc}
use native.Mathlib.Decide.{dec_lt}
use native.Mathlib.Omega.{arith}
use lib.ListN.{get_or, length, take}
use Rattle.std.proofs.lemmas.List.{get_or-take, length-take}
use Rattle.lists.specs.Lists.{tabulate, any}
use Rattle.lists.proofs.Bools.{absurd}
use Rattle.lists.proofs.Tabulate.{tabulate_snoc}
use Rattle.lists.proofs.Any.{any_append}
use Rattle.facts.specs.FactSet.{union}
use Rattle.facts.proofs.SetLaws.{union_assoc, union_zero_left, union_zero_right}
use Rattle.job.specs.declared.Counts.{Counts}
use Rattle.timeline.specs.declared.Plan.{Plan}
use Rattle.timeline.specs.Step.{Step, before, strictly_rising, any_pair, total, largest, union_of}
use Rattle.timeline.specs.Value.{beyond_step, step_of_value, step_at}

total_snoc : (f : Step → ℕ) (P : List Step) (x : Step) → total f (P ++ (x ∷ [])) ≡ total f P + f x
total_snoc f [] x = omega arith
total_snoc f (y ∷ P) x = let e = total_snoc f P x in omega arith

largest_snoc : (f : Step → ℕ) (P : List Step) (x : Step) → largest f (P ++ (x ∷ [])) ≡ max (largest f P) (f x)
largest_snoc f [] x = omega arith
largest_snoc f (y ∷ P) x = let e = largest_snoc f P x in omega arith

union_snoc : (f : Step → ℕ) (P : List Step) (x : Step) → union_of f (P ++ (x ∷ [])) ≡ union (union_of f P) (f x)
union_snoc f [] x = union_zero_right (f x) ∙ sym (union_zero_left (f x))
union_snoc f (y ∷ P) x = ap (union (f y)) (union_snoc f P x) ∙ sym (union_assoc (f y) (union_of f P) (f x))

pair_snoc : (test : Step → Step → Bool) (P : List Step) (x : Step)
    → any_pair test (P ++ (x ∷ [])) ≡ (any_pair test P || any (λ y. test y x) P)
unfolding any
pair_snoc test [] x = refl
pair_snoc test (y ∷ P) x =
    regroup (any (test y) (P ++ (x ∷ []))) (any (test y) P) (test y x) (any_pair test (P ++ (x ∷ []))) (any_pair test P)
    (any (λ z. test z x) P) (any_append (test y) P (x ∷ []) ∙ ap (λ (b : Bool). any (test y) P || b) (last (test y x)))
    (pair_snoc test P x)
  where
    last : (b : Bool) → (b || false) ≡ b
    last true = refl
    last false = refl

    regroup : (a b c d e f : Bool) → a ≡ (b || c) → d ≡ (e || f) → (a || d) ≡ ((b || e) || (c || f))
    regroup a true c d e f p q = rw p
    regroup a false true d true f p q = rw p
    regroup a false true d false f p q = rw p
    regroup a false false d e f p q = rw (p, q)

rising_two : (P : List Step) (x y : Step)
    → strictly_rising (P ++ (x ∷ y ∷ [])) ≡ (strictly_rising (P ++ (x ∷ [])) && before x y)
rising_two [] x y = last (before x y)
  where
    last : (b : Bool) → (b && true) ≡ b
    last true = refl
    last false = refl
rising_two (z ∷ []) x y = assoc (before z x) (before x y)
  where
    assoc : (a b : Bool) → (a && (b && true)) ≡ ((a && true) && b)
    assoc true true = refl
    assoc true false = refl
    assoc false b = refl
rising_two (z ∷ w ∷ P) x y =
    assoc (before z w) (strictly_rising (w ∷ (P ++ (x ∷ y ∷ [])))) (strictly_rising (w ∷ (P ++ (x ∷ [])))) (before x y)
    (rising_two (w ∷ P) x y)
  where
    assoc : (a b c d : Bool) → b ≡ (c && d) → (a && b) ≡ ((a && c) && d)
    assoc true b c d h = h
    assoc false b c d h = refl

-- ── the first i steps of a plan, by their places ──
module _ (at : ℕ → Step) where
  pub total_more : (f : Step → ℕ) (i : ℕ) → total f (tabulate (i + 1) at) ≡ total f (tabulate i at) + f (at i)
  total_more f i = ap (total f) (tabulate_snoc i at) ∙ total_snoc f (tabulate i at) (at i)

  pub largest_more : (f : Step → ℕ) (i : ℕ)
      → largest f (tabulate (i + 1) at) ≡ max (largest f (tabulate i at)) (f (at i))
  largest_more f i = ap (largest f) (tabulate_snoc i at) ∙ largest_snoc f (tabulate i at) (at i)

  pub union_more : (f : Step → ℕ) (i : ℕ)
      → union_of f (tabulate (i + 1) at) ≡ union (union_of f (tabulate i at)) (f (at i))
  union_more f i = ap (union_of f) (tabulate_snoc i at) ∙ union_snoc f (tabulate i at) (at i)

  pub pair_more : (test : Step → Step → Bool) (i : ℕ)
      → any_pair test (tabulate (i + 1) at) ≡ (any_pair test (tabulate i at) || any (λ y. test y (at i)) (tabulate i at))
  pair_more test i = ap (any_pair test) (tabulate_snoc i at) ∙ pair_snoc test (tabulate i at) (at i)

  -- a pair found early is found
  pub pair_found : (test : Step → Step → Bool) (i n : ℕ) → i ≤ n → any_pair test (tabulate i at) ≡ true
      → any_pair test (tabulate n at) ≡ true
  unfolding tabulate
  pair_found test i zero l h = let e : i ≡ 0 = omega arith in rw e at h
  pair_found test i (suc n) l h =
      elim (dec_lt n i) [
        | yes k ↦ let e : i ≡ suc n = omega arith in rw e at h
        | no k ↦ pair_snoc test (tabulate n at) (at n) ∙ rw (pair_found test i n (omega arith) h)
      ]

  pub rising_more : (i : ℕ)
      → strictly_rising (tabulate (i + 1 + 1) at) ≡ (strictly_rising (tabulate (i + 1) at) && before (at i) (at (i + 1)))
  rising_more i =
      ap strictly_rising
      (tabulate_snoc (i + 1) at ∙ ap (λ (l : List Step). l ++ (at (i + 1) ∷ [])) (tabulate_snoc i at)
      ∙ append_assoc (tabulate i at) (at i ∷ []) (at (i + 1) ∷ []))
      ∙ rising_two (tabulate i at) (at i) (at (i + 1))
      ∙ ap (λ (l : List Step). strictly_rising l && before (at i) (at (i + 1))) (sym (tabulate_snoc i at))

  -- no steps, and one step, are in order
  pub short_rising : (i : ℕ) → i ≤ 1 → strictly_rising (tabulate i at) ≡ true
  unfolding tabulate
  short_rising zero l = refl
  short_rising (suc zero) l = refl
  short_rising (suc (suc i)) l = absurd (omega arith)

  -- an order broken early is broken
  pub rising_broken : (i n : ℕ) → i ≤ n → strictly_rising (tabulate i at) ≡ false → strictly_rising (tabulate n at)
      ≡ false
  rising_broken i zero l h = let e : i ≡ 0 = omega arith in rw e at h
  rising_broken i (suc zero) l h = short_rising 1 (omega arith) ∙ (sym (short_rising i l) ∙ h)
  rising_broken i (suc (suc n)) l h =
      elim (dec_lt (suc n) i) [
        | yes k ↦ let e : i ≡ suc (suc n) = omega arith in rw e at h
        | no k ↦
            let e : suc (suc n) ≡ n + 1 + 1 = omega arith in
            let f : suc n ≡ n + 1 = omega arith in
            let b : strictly_rising (tabulate (n + 1) at) ≡ false = rw f at (rising_broken i (suc n) (omega arith) h) in
            rw e (rising_more n ∙ rw b)
      ]

  -- a loop that starts at place 1
  pub rising_step : (i : ℕ) → 1 ≤ i
      → strictly_rising (tabulate (i + 1) at) ≡ (strictly_rising (tabulate i at) && before (at (i - 1)) (at i))
  rising_step i h =
      let e : i ≡ i - 1 + 1 = omega arith in
      let f : i - 1 + 1 ≡ i = omega arith in
      ap (λ (k : ℕ). strictly_rising (tabulate (k + 1) at)) e
      ∙ rising_more (i - 1)
      ∙ ap (λ (k : ℕ). strictly_rising (tabulate k at) && before (at (i - 1)) (at k)) f

  pub rising_end : (i n : ℕ) → n ≤ i → (1 ≤ n → i ≤ n) → strictly_rising (tabulate i at) ≡ true
      → strictly_rising (tabulate n at) ≡ true
  rising_end i zero l u h = short_rising 0 (omega arith)
  rising_end i (suc n) l u h = let m = u (omega arith) in let e : i ≡ suc n = omega arith in rw e at h

  -- none is larger than the largest
  pub largest_at : (f : Step → ℕ) (n k : ℕ) → k < n → f (at k) ≤ largest f (tabulate n at)
  largest_at f zero k h = absurd (omega arith)
  largest_at f (suc n) k h =
      let e : n + 1 ≡ suc n = omega arith in
      let m : largest f (tabulate (suc n) at) ≡ max (largest f (tabulate n at)) (f (at n))
      = rw e at (largest_more f n) in
      elim (dec_lt k n) [
        | yes l ↦ let i = largest_at f n k l in omega arith
        | no l ↦ let q : k ≡ n = omega arith in rw q (omega arith)
      ]

-- ── a loop over the first steps of a plan, as a slice ──
pub front_step : (plan : Plan) (n i : ℕ) → i < length (take n plan.steps)
    → get_or (take n plan.steps) i beyond_step ≡ get_or plan.steps i beyond_step
front_step plan n i here = get_or-take n plan.steps i beyond_step (omega (arith, length-take n plan.steps))

-- ── the steps of a plan by value, with one step more ──
pub one_more_step : (plan : Plan) (n : Counts) → plan.counts ≡ n → (charge : Step → ℕ) (i sum r : ℕ)
    → sum ≡ total charge (tabulate i (step_at plan)) → r ≡ charge (step_of_value n (get_or plan.steps i beyond_step))
    → sum + r ≡ total charge (tabulate (i + 1) (step_at plan))
one_more_step plan n same charge i sum r s h =
    let x = get_or plan.steps i beyond_step in
    let here = h ∙ ap (λ (k : Counts). charge (step_of_value k x)) (sym same) in
    let more = total_more (step_at plan) charge i in
    omega arith
