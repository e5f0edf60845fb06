-- Amounts of two jobs place by place, and lists filled with zeros.
-- Assumes nothing.
use Prim.Native.Nat.{ℕ, zero, suc, ◌+◌, ◌-◌, ◌*◌, ◌/◌, ◌≤◌, max}
use mathlib.Core.Path.{◌≡◌, refl, ap₂, ◌∙◌}
use mathlib.Core.Bool.{false}
use mathlib.Core.List.{List, [], ◌∷◌, ◌++◌, map}
use native.Mathlib.Nat.{add-mul}
use native.Mathlib.Omega.{arith}
use lib.ListN.{length, get_or, replicate, length-append, length-replicate}
use borrow.Author.Tests.{le-ltb}
use Rattle.lists.specs.Lists.{filled, any, Each}
use Rattle.lists.proofs.Any.{any_append, none_any}
use Rattle.lists.proofs.Tabulate.{each_map}
use Rattle.job.specs.Valid.{over}
use Rattle.timeline.proofs.Tests.{or_neither}
use Rattle.pooling.specs.Pooled.{plus}

pub plus_comm : (xs ys : List ℕ) → plus xs ys ≡ plus ys xs
unfolding plus
plus_comm [] [] = refl
plus_comm [] (y ∷ ys) = refl
plus_comm (x ∷ xs) [] = refl
plus_comm (x ∷ xs) (y ∷ ys) =
    let e : x + y ≡ y + x = omega arith in
    ap₂ {C = List ℕ} (λ (n : ℕ) (ns : List ℕ). n ∷ ns) e (plus_comm xs ys)

pub length_plus : (xs ys : List ℕ) → length (plus xs ys) ≡ max (length xs) (length ys)
unfolding plus
length_plus [] ys = omega arith
length_plus (x ∷ xs) [] = omega arith
length_plus (x ∷ xs) (y ∷ ys) = let e = length_plus xs ys in omega arith

pub get_d_plus : (xs ys : List ℕ) (k : ℕ) → get_or (plus xs ys) k 0 ≡ get_or xs k 0 + get_or ys k 0
unfolding plus
get_d_plus [] ys k = omega arith
get_d_plus (x ∷ xs) [] k = omega arith
get_d_plus (x ∷ xs) (y ∷ ys) zero = refl
get_d_plus (x ∷ xs) (y ∷ ys) (suc k) = get_d_plus xs ys k

-- an amount of a list of small ones, or 0 behind them
pub get_d_at_most : (most : ℕ) (xs : List ℕ) → Each (λ x. x ≤ most) xs → (k : ℕ) → get_or xs k 0 ≤ most
get_d_at_most most [] h k = omega arith
get_d_at_most most (x ∷ xs) h zero = h.0
get_d_at_most most (x ∷ xs) h (suc k) = get_d_at_most most xs h.1 k

-- ---- filled with zeros
pub get_d_zeros : (n k : ℕ) → get_or {A = ℕ} (replicate n 0) k 0 ≡ 0
get_d_zeros zero k = refl
get_d_zeros (suc n) zero = refl
get_d_zeros (suc n) (suc k) = get_d_zeros n k

with_zeros : (n : ℕ) (xs : List ℕ) (k : ℕ) → get_or (xs ++ replicate n 0) k 0 ≡ get_or xs k 0
with_zeros n [] k = get_d_zeros n k
with_zeros n (x ∷ xs) zero = refl
with_zeros n (x ∷ xs) (suc k) = with_zeros n xs k

pub get_d_filled : (n : ℕ) (xs : List ℕ) (k : ℕ) → get_or (filled n 0 xs) k 0 ≡ get_or xs k 0
get_d_filled n xs k = with_zeros (n - length xs) xs k

pub length_filled : (n : ℕ) (xs : List ℕ) → length xs ≤ n → length (filled n 0 xs) ≡ n
length_filled n xs l =
    let z = length-replicate {A = ℕ} (n - length xs) 0 in length-append xs (replicate (n - length xs) 0) ∙ omega arith

zeros_small : (n : ℕ) → any (over 1000000) (replicate n 0) ≡ false
unfolding any
zeros_small zero = refl
zeros_small (suc n) = or_neither (le-ltb 1000000 0 (omega arith)) (zeros_small n)

pub filled_small : (n : ℕ) (xs : List ℕ) → Each (λ x. x ≤ 1000000) xs → any (over 1000000) (filled n 0 xs) ≡ false
filled_small n xs h =
    any_append (over 1000000) xs (replicate (n - length xs) 0)
    ∙ or_neither (none_any (over 1000000) xs (each_map (λ x l. le-ltb 1000000 x l) xs h))
    (zeros_small (n - length xs))

-- ---- each element of lists one after the other, and of a mapped list
pub each_of_map : {A B : Type 0} (F : B → Type 0) (f : A → B) (xs : List A)
    → Each (λ x. F (f x)) xs → Each F (map f xs)
each_of_map F f [] h = tt
each_of_map F f (x ∷ xs) h = (h.0, each_of_map F f xs h.1)

pub each_of_append : {A : Type 0} (F : A → Type 0) (xs ys : List A) → Each F xs → Each F ys → Each F (xs ++ ys)
each_of_append F [] ys h k = k
each_of_append F (x ∷ xs) ys h k = (h.0, each_of_append F xs ys h.1 k)

-- ---- the share of a sum, rounded down, is no less than the shares of both (for `cap_of_pooled` under a reserve)
pub shares_rounded_down : (a b percent : ℕ) → a * percent / 100 + b * percent / 100 ≤ (a + b) * percent / 100
shares_rounded_down a b percent = let e = add-mul a b percent in omega arith
