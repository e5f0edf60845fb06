-- Laws of lists by places: lengths, elements, the first elements of an array that is filled up.
-- Assumes nothing.
use Prim.Native.Nat.{ℕ, zero, suc, ◌+◌, ◌-◌, ◌<◌}
use mathlib.Core.Path.{◌≡◌, refl, ap, sym, ◌∙◌}
use mathlib.Core.List.{List, [], ◌∷◌, ◌++◌, map, map-append}
use native.Mathlib.Decide.{dec_lt}
use native.Mathlib.Numerals.{add-one}
use native.Mathlib.Omega.{arith}
use lib.ListN.{length, get_or, set, replicate, length-append, get_or-append}
use lib.Seq.{get_or_at, set_at, append_snoc}
use Rattle.lists.specs.Lists.{tabulate, firsts, filled, Each}
use Rattle.lists.proofs.Bools.{absurd}

module _ {A : Type 0} where
  pub length_tabulate : (n : ℕ) (f : ℕ → A) → length (tabulate n f) ≡ n
  unfolding tabulate
  length_tabulate zero f = refl
  length_tabulate (suc n) f =
      length-append (tabulate n f) (f n ∷ []) ∙ (let e = length_tabulate n f in omega arith)

  pub tabulate_cons : (n : ℕ) (f : ℕ → A) → tabulate (suc n) f ≡ f 0 ∷ tabulate n (λ i. f (suc i))
  unfolding tabulate
  tabulate_cons zero f = refl
  tabulate_cons (suc n) f = ap (λ (l : List A). l ++ (f (suc n) ∷ [])) (tabulate_cons n f)

  pub tabulate_snoc : (n : ℕ) (f : ℕ → A) → tabulate (n + 1) f ≡ tabulate n f ++ (f n ∷ [])
  unfolding tabulate
  tabulate_snoc n f = rw (add-one n)

  pub tabulate_same : (n : ℕ) (f g : ℕ → A) → ((i : ℕ) → i < n → f i ≡ g i) → tabulate n f ≡ tabulate n g
  unfolding tabulate
  tabulate_same zero f g h = refl
  tabulate_same (suc n) f g h = rw (tabulate_same n f g (λ i l. h i (omega arith)), h n (omega arith))

  pub get_d_tabulate : (n : ℕ) (f : ℕ → A) (i : ℕ) (d : A) → i < n → get_or (tabulate n f) i d ≡ f i
  unfolding tabulate
  get_d_tabulate zero f i d h = absurd (omega arith)
  get_d_tabulate (suc n) f i d h =
      let l = length_tabulate n f in
      elim (dec_lt i n) [
        | yes k ↦ get_or-append (tabulate n f) (f n ∷ []) d i (omega arith) ∙ get_d_tabulate n f i d k
        | no k ↦ let e : i ≡ n = omega arith in rw e (get_or_at (tabulate n f) (f n) [] d n l)
      ]

  pub firsts_all : (xs : List A) (d : A) → firsts (length xs) d xs ≡ xs
  unfolding tabulate
  firsts_all [] d = refl
  firsts_all (x ∷ xs) d =
      tabulate_cons (length xs) (λ i. get_or (x ∷ xs) i d) ∙ ap (λ (l : List A). x ∷ l) (firsts_all xs d)

  pub firsts_filled : (n : ℕ) (z d : A) (xs : List A) → firsts (length xs) d (filled n z xs) ≡ xs
  firsts_filled n z d xs =
      tabulate_same (length xs) (λ k. get_or (filled n z xs) k d) (λ k. get_or xs k d)
      (λ i h. get_or-append xs (replicate (n - length xs) z) d i h)
      ∙ firsts_all xs d

  -- one more element of an array that is filled from the front
  pub filled_more : (n : ℕ) (z : A) (xs : List A) (x : A) → length xs < n
      → set (filled n z xs) (length xs) x ≡ filled n z (xs ++ (x ∷ []))
  filled_more n z xs x h =
      let k : n - length xs ≡ suc (n - (length xs + 1)) = omega arith in
      let l = length-append xs (x ∷ []) in
      let m : length (xs ++ (x ∷ [])) ≡ length xs + 1 = omega arith in
      rw (k, m)
      (set_at xs z (replicate (n - (length xs + 1)) z) x (length xs) refl
      ∙ sym (append_snoc xs x (replicate (n - (length xs + 1)) z)))

  -- a loop that fills an array from the front: at first nothing, then one more element
  pub filled_tabulate_none : (n : ℕ) (z : A) (f : ℕ → A) → filled n z (tabulate 0 f) ≡ replicate n z
  unfolding tabulate
  filled_tabulate_none n z f = let e : n - 0 ≡ n = omega arith in rw e

  pub filled_tabulate : (n : ℕ) (z : A) (f : ℕ → A) (i : ℕ) → i < n
      → set (filled n z (tabulate i f)) i (f i) ≡ filled n z (tabulate (i + 1) f)
  filled_tabulate n z f i h =
      let l = length_tabulate i f in
      rw (tabulate_snoc i f)
      (ap (λ (k : ℕ). set (filled n z (tabulate i f)) k (f i)) (sym l)
      ∙ filled_more n z (tabulate i f) (f i) (omega arith))

  each_snoc : (P : A → Type 0) (xs : List A) (x : A) → Each P xs → P x → Each P (xs ++ (x ∷ []))
  each_snoc P [] x e p = (p, tt)
  each_snoc P (y ∷ xs) x e p = (e.0, each_snoc P xs x e.1 p)

  pub each_tabulate : (P : A → Type 0) (n : ℕ) (f : ℕ → A) → ((i : ℕ) → i < n → P (f i)) → Each P (tabulate n f)
  unfolding tabulate
  each_tabulate P zero f h = tt
  each_tabulate P (suc n) f h =
      each_snoc P (tabulate n f) (f n) (each_tabulate P n f (λ i l. h i (omega arith))) (h n (omega arith))

  pub each_map : {P Q : A → Type 0} → ((x : A) → P x → Q x) → (xs : List A) → Each P xs → Each Q xs
  each_map h [] e = tt
  each_map h (x ∷ xs) e = (h x e.0, each_map h xs e.1)

  pub each_all : {P : A → Type 0} → ((x : A) → P x) → (xs : List A) → Each P xs
  each_all h [] = tt
  each_all h (x ∷ xs) = (h x, each_all h xs)

  pub each_at : (P : A → Type 0) (xs : List A) (d : A) → Each P xs → (i : ℕ) → i < length xs → P (get_or xs i d)
  each_at P [] d e i h = absurd (omega arith)
  each_at P (x ∷ xs) d e zero h = e.0
  each_at P (x ∷ xs) d e (suc i) h = each_at P xs d e.1 i (omega arith)

  pub each_by_place : (P : A → Type 0) (xs : List A) (d : ℕ → A) → ((i : ℕ) → i < length xs → P (get_or xs i (d i)))
      → Each P xs
  each_by_place P [] d h = tt
  each_by_place P (x ∷ xs) d h =
      (h 0 (omega arith), each_by_place P xs (λ i. d (suc i)) (λ i l. h (suc i) (omega arith)))

pub get_d_map : {A B : Type 0} (f : A → B) (xs : List A) (i : ℕ) (d : B) (e : A) → i < length xs
    → get_or (map f xs) i d ≡ f (get_or xs i e)
get_d_map f [] i d e h = absurd (omega arith)
get_d_map f (x ∷ xs) zero d e h = refl
get_d_map f (x ∷ xs) (suc i) d e h = get_d_map f xs i d e (omega arith)

module _ {A B : Type 0} where
  pub map_tabulate : (f : A → B) (n : ℕ) (g : ℕ → A) → map f (tabulate n g) ≡ tabulate n (λ i. f (g i))
  unfolding tabulate
  map_tabulate f zero g = refl
  map_tabulate f (suc n) g = map-append f (tabulate n g) (g n ∷ []) ∙ rw (map_tabulate f n g)

  -- the same of an array of f (g 0), f (g 1), ..
  pub filled_none : (n : ℕ) (z : B) (f : A → B) (g : ℕ → A) → filled n z (map f (tabulate 0 g)) ≡ replicate n z
  filled_none n z f g = rw (map_tabulate f 0 g) (filled_tabulate_none n z (λ k. f (g k)))

  pub filled_next : (n : ℕ) (z : B) (f : A → B) (g : ℕ → A) (i : ℕ) → i < n
      → set (filled n z (map f (tabulate i g))) i (f (g i)) ≡ filled n z (map f (tabulate (i + 1) g))
  filled_next n z f g i h =
      rw (map_tabulate f i g, map_tabulate f (i + 1) g) (filled_tabulate n z (λ k. f (g k)) i h)
