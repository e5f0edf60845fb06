-- Arrays of amounts place by place.
-- Assumes nothing.
use Prim.Native.Nat.{ℕ, ◌+◌, ◌-◌, ◌<◌, ◌≤◌}
use mathlib.Core.Path.{◌≡◌, refl, sym, ap, ap₂, ◌∙◌}
use mathlib.Core.Bool.{Bool, true, false, cond, not, ◌&&◌, ◌||◌}
use mathlib.Core.Logic.{⊎_elim}
use mathlib.Core.List.{List, [], ◌∷◌, ◌++◌}
use native.Mathlib.Omega.{arith}
use lib.Dec.{eqb, ltb}
use lib.Seq.{get_or-append_right}
use borrow.Author.Tests.{lt-ltb, le-ltb}
use Rattle.timeline.proofs.Tests.{le_or_lt}
use lib.ListN.{length, get_or, take, drop, get_or-append, length-append, length-drop}
use lib.Pointwise.{pointwise}
use Rattle.std.proofs.lemmas.List.{get_or-take, get_or-drop, length-take}
use Rattle.lists.specs.Lists.{tabulate, firsts, filled, any_below}
use Rattle.lists.proofs.Below.{below_front, below_same}
use Rattle.lists.proofs.Tabulate.{length_tabulate, tabulate_same, firsts_all}
use Rattle.pooling.specs.Pooled.{plus}
use Rattle.pooling.proofs.Sums.{length_plus, get_d_plus, get_d_filled, length_filled}

-- filled with zeros, it is the list by its places
pub filled_by_place : (n : ℕ) (xs : List ℕ) → length xs ≤ n → tabulate n (λ k. get_or xs k 0) ≡ filled n 0 xs
filled_by_place n xs l =
    tabulate_same n _ (λ k. get_or (filled n 0 xs) k 0) (λ k m. sym (get_d_filled n xs k))
    ∙ ap (λ (m : ℕ). firsts m 0 (filled n 0 xs)) (sym (length_filled n xs l))
    ∙ firsts_all (filled n 0 xs) 0

pub filled_twice : (n p : ℕ) (xs : List ℕ) → length xs ≤ p → p ≤ n → filled n 0 xs ≡ filled n 0 (filled p 0 xs)
filled_twice n p xs l m =
    let e = length_filled p xs l in
    sym (filled_by_place n xs (omega arith))
    ∙ tabulate_same n _ _ (λ k h. sym (get_d_filled p xs k))
    ∙ filled_by_place n (filled p 0 xs) (omega arith)

-- sums of two lists of at most n places
pub sums_by_place : (n : ℕ) (xs ys : List ℕ) → length xs ≤ n → length ys ≤ n
    → tabulate n (λ k. get_or xs k 0 + get_or ys k 0) ≡ filled n 0 (plus xs ys)
sums_by_place n xs ys l m =
    let e = length_plus xs ys in
    tabulate_same n _ _ (λ k h. sym (get_d_plus xs ys k)) ∙ filled_by_place n (plus xs ys) (omega arith)

pub length_firsts : (n : ℕ) (xs : List ℕ) → length (firsts n 0 xs) ≡ n
length_firsts n xs = length_tabulate n (λ i. get_or xs i 0)

-- the first n of an array that has so many
pub front_firsts : (n : ℕ) (xs : List ℕ) → n ≤ length xs → take n xs ≡ firsts n 0 xs
front_firsts n xs l =
    let count : length (take n xs) ≡ n = omega (arith, length-take n xs) in
    sym (firsts_all (take n xs) 0)
    ∙ ap (λ (m : ℕ). firsts m 0 (take n xs)) count
    ∙ tabulate_same n _ _ (λ k h. get_or-take n xs k 0 h)

-- the front of an array put over the front of another
pub front_over : (n : ℕ) (xs zs : List ℕ) (k : ℕ) → n ≤ length xs
    → get_or (take n xs ++ drop n zs) k 0 ≡ cond (ltb k n) (get_or xs k 0) (get_or zs k 0)
front_over n xs zs k l =
    let count : length (take n xs) ≡ n = omega (arith, length-take n xs) in
    ⊎_elim
    (λ (behind : n ≤ k).
    let at : n + (k - n) ≡ k = omega arith in
    let here : k - length (take n xs) ≡ k - n = omega arith in
    get_or-append_right (take n xs) (drop n zs) k 0 (omega arith)
    ∙ ap (λ (i : ℕ). get_or (drop n zs) i 0) here
    ∙ get_or-drop n zs (k - n) 0
    ∙ ap (λ (i : ℕ). get_or zs i 0) at
    ∙ sym (ap (λ (b : Bool). cond b (get_or xs k 0) (get_or zs k 0)) (le-ltb k n behind)))
    (λ (within : k < n).
    get_or-append (take n xs) (drop n zs) 0 k (omega arith)
    ∙ get_or-take n xs k 0 within
    ∙ sym (ap (λ (b : Bool). cond b (get_or xs k 0) (get_or zs k 0)) (lt-ltb k n within)))
    (le_or_lt n k)

pub length_over : (n : ℕ) (xs zs : List ℕ) → n ≤ length xs → length xs ≡ length zs
    → length (take n xs ++ drop n zs) ≡ length zs
length_over n xs zs l e =
    omega (arith, length-append (take n xs) (drop n zs), length-take n xs, length-drop n zs)

-- two lists of the same length differ where they differ at a place
differ_at : (xs ys : List ℕ) → length xs ≡ length ys
    → not (pointwise eqb xs ys) ≡ any_below (length xs) (λ k. not (eqb (get_or xs k 0) (get_or ys k 0)))
differ_at [] [] e = refl
differ_at [] (y ∷ ys) e = absurd (omega arith)
differ_at (x ∷ xs) [] e = absurd (omega arith)
differ_at (x ∷ xs) (y ∷ ys) e =
    not_both_ways (eqb x y) (pointwise eqb xs ys)
    ∙ ap (λ (b : Bool). not (eqb x y) || b) (differ_at xs ys (omega arith))
    ∙ sym (below_front (length xs) (λ k. not (eqb (get_or (x ∷ xs) k 0) (get_or (y ∷ ys) k 0))))
  where
    not_both_ways : (b c : Bool) → not (b && c) ≡ not b || not c
    not_both_ways true c = refl
    not_both_ways false c = refl

-- of the first n
pub fronts_differ : (n : ℕ) (xs ys : List ℕ) → n ≤ length xs → n ≤ length ys
    → not (pointwise eqb (take n xs) (take n ys)) ≡ any_below n (λ k. not (eqb (get_or xs k 0) (get_or ys k 0)))
fronts_differ n xs ys l m =
    let one : length (take n xs) ≡ n = omega (arith, length-take n xs) in
    let two : length (take n ys) ≡ n = omega (arith, length-take n ys) in
    let test : ℕ → Bool = λ k. not (eqb (get_or (take n xs) k 0) (get_or (take n ys) k 0)) in
    differ_at (take n xs) (take n ys) (omega arith)
    ∙ ap (λ (k : ℕ). any_below k test) one
    ∙ below_same n test _ (λ k h. ap not (ap₂ eqb (get_or-take n xs k 0 h) (get_or-take n ys k 0 h)))
