-- Laws of `any`: a loop that looks for an element that passes a test.
-- Assumes nothing.
use Prim.Native.Nat.{ℕ, zero, suc, ◌+◌, ◌<◌}
use mathlib.Core.Path.{◌≡◌, refl, ap, ◌∙◌}
use mathlib.Core.Bool.{Bool, true, false, ◌||◌, or-false}
use mathlib.Core.List.{List, [], ◌∷◌, ◌++◌}
use native.Mathlib.Decide.{dec_lt}
use native.Mathlib.Omega.{arith}
use Rattle.lists.specs.Lists.{tabulate, any, Each}
use Rattle.lists.proofs.Tabulate.{tabulate_snoc}
use Rattle.lists.proofs.Bools.{absurd, or_left, or_right, or-true}

module _ {A : Type 0} (test : A → Bool) where
  pub any_append : (xs ys : List A) → any test (xs ++ ys) ≡ (any test xs || any test ys)
  unfolding any
  any_append [] ys = refl
  any_append (x ∷ xs) ys = assoc (test x) (any test (xs ++ ys)) (any test xs) (any test ys) (any_append xs ys)
    where
      assoc : (a b c d : Bool) → b ≡ (c || d) → (a || b) ≡ ((a || c) || d)
      assoc true b c d h = refl
      assoc false b c d h = h

  pub any_none : (xs : List A) → any test xs ≡ false → Each (λ x. test x ≡ false) xs
  unfolding any
  any_none [] h = tt
  any_none (x ∷ xs) h = (or_left (test x) (any test xs) h, any_none xs (or_right (test x) (any test xs) h))

  pub none_any : (xs : List A) → Each (λ x. test x ≡ false) xs → any test xs ≡ false
  unfolding any
  none_any [] e = refl
  none_any (x ∷ xs) e = rw e.0 (none_any xs e.1)

  -- a loop over places 0, 1, .. : found so far, or at place i
  pub any_start : (f : ℕ → A) → any test (tabulate 0 f) ≡ false
  unfolding any tabulate
  any_start f = refl

  pub any_next : (f : ℕ → A) (i : ℕ) → any test (tabulate (i + 1) f) ≡ (any test (tabulate i f) || test (f i))
  unfolding any
  any_next f i =
      rw (tabulate_snoc i f) (any_append (tabulate i f) (f i ∷ []))
      ∙ ap (λ (b : Bool). any test (tabulate i f) || b) (or-false (test (f i)))

  -- not found so far, and not at place i
  pub any_more : (f : ℕ → A) (i : ℕ) → any test (tabulate i f) ≡ false → test (f i) ≡ false
      → any test (tabulate (i + 1) f) ≡ false
  any_more f i h e = rw (any_next f i, h, e)

  pub any_found : (f : ℕ → A) (i n : ℕ) → i < n → test (f i) ≡ true → any test (tabulate n f) ≡ true
  unfolding any tabulate
  any_found f i zero l e = absurd (omega arith)
  any_found f i (suc n) l e =
      any_append (tabulate n f) (f n ∷ [])
      ∙ elim (dec_lt i n) [
        | yes h ↦ rw (any_found f i n h e)
        | no h ↦ let g : n ≡ i = omega arith in rw (g, e) (or-true (any test (tabulate i f)))
      ]
