-- Lists by places, and tests of all their elements.
-- Assumes nothing.
use Rattle.std.specs.Prelude.{ℕ, zero, suc, ◌-◌, Bool, false, ◌||◌, List, [], ◌∷◌, ◌++◌, length, get_or, replicate}

-- f 0, f 1, and so on, n of them
unfoldable pub tabulate : {A : Type 0} → ℕ → (ℕ → A) → List A
tabulate zero f = []
tabulate (suc n) f = tabulate n f ++ (f n ∷ [])

-- the first n elements of xs; d stands for those that xs lacks
abbrev pub firsts : {A : Type 0} → ℕ → A → List A → List A
firsts n d xs = tabulate n (λ k. get_or xs k d)

-- xs, and behind it d up to n elements
abbrev pub filled : {A : Type 0} → ℕ → A → List A → List A
filled n d xs = xs ++ replicate (n - length xs) d

-- the test passes at some element
unfoldable pub any : {A : Type 0} → (A → Bool) → List A → Bool
any test [] = false
any test (x ∷ xs) = test x || any test xs

-- the test passes at some number below n
abbrev pub any_below : ℕ → (ℕ → Bool) → Bool
any_below zero test = false
any_below (suc n) test = test n || any_below n test

-- P holds of each element
abbrev pub Each : {A : Type 0} → (A → Type 0) → List A → Type 0
Each P [] = Unit
Each P (x ∷ xs) = P x × Each P xs
