-- Lists read and written in pieces of one size.
-- Assumes nothing.
use Prim.Native.Nat.{ℕ, zero, suc, ◌+◌, ◌*◌, ◌/◌, ◌%◌, ◌≤◌, ◌<◌}
use mathlib.Core.Path.{◌≡◌, refl, ap, sym, ◌∙◌}
use mathlib.Core.List.{List, [], ◌∷◌, ◌++◌, append-nil, append_assoc}
use native.Mathlib.Nat.{suc-mul, zero-mul, mul-div_cancel, mul_comm, div-add-mod, mul-le-mul_right}
use native.Mathlib.Omega.{arith}
use lib.ListN.{length, take, drop, length-append}
use lib.Seq.{take-add, take_at, drop-append-add, take_all}
use Rattle.lists.specs.Lists.{tabulate, Each}
use Rattle.lists.proofs.Tabulate.{tabulate_cons, tabulate_same}
use Rattle.encoding.specs.Bytes.{part, split, joined}

-- piece i of n pieces of size s lies within them
pub piece_below : (n s i : ℕ) → i < n → i * s + s ≤ n * s
piece_below n s i h =
    let m = suc-mul i s in
    let l : suc i * s ≤ n * s = mul-le-mul_right s h in
    omega arith

-- and within m bytes that hold them
pub piece_within : (m s i : ℕ) → i < m / s → i * s + s ≤ m
piece_within m s i h =
    let d = div-add-mod m s in
    let c = mul_comm s (m / s) in
    let l = piece_below (m / s) s i h in
    omega arith

module _ {A : Type 0} where
  pub joined_append : (f : A → List ℕ) (xs ys : List A) → joined f (xs ++ ys) ≡ joined f xs ++ joined f ys
  joined_append f [] ys = refl
  joined_append f (x ∷ xs) ys = rw (joined_append f xs ys) (sym (append_assoc (f x) (joined f xs) (joined f ys)))

  pub joined_snoc : (f : A → List ℕ) (xs : List A) (x : A) → joined f (xs ++ (x ∷ [])) ≡ joined f xs ++ f x
  joined_snoc f xs x = joined_append f xs (x ∷ []) ∙ ap (λ (l : List ℕ). joined f xs ++ l) (append-nil (f x))

  pub length_joined : (f : A → List ℕ) (s : ℕ) (xs : List A) → Each (λ x. length (f x) ≡ s) xs
      → length (joined f xs) ≡ length xs * s
  length_joined f s [] h = sym (zero-mul s)
  length_joined f s (x ∷ xs) h =
      let a = h.0 in
      let i = length_joined f s xs h.1 in
      let m = suc-mul (length xs) s in
      length-append (f x) (joined f xs) ∙ omega arith

  -- what was written piece by piece is read back
  pub split_joined : (s : ℕ) (f : List ℕ → A) (g : A → List ℕ) (xs : List A) → 0 < s
      → Each (λ x. length (g x) ≡ s) xs → Each (λ x. f (g x) ≡ x) xs → split s f (joined g xs) ≡ xs
  unfolding tabulate
  split_joined s f g xs z l e =
      ap (λ (n : ℕ). tabulate (n / s) (λ i. f (part (joined g xs) (i * s) s))) (length_joined g s xs l)
      ∙ ap (λ (n : ℕ). tabulate n (λ i. f (part (joined g xs) (i * s) s))) (mul-div_cancel (length xs) z)
      ∙ go xs l e
    where
      go : (xs : List A) → Each (λ x. length (g x) ≡ s) xs → Each (λ x. f (g x) ≡ x) xs
          → tabulate (length xs) (λ i. f (part (joined g xs) (i * s) s)) ≡ xs
      go [] l e = refl
      go (x ∷ xs) l e =
          let o : part (joined g (x ∷ xs)) (0 * s) s ≡ g x = ap (λ (k : ℕ). part (joined g (x ∷ xs)) k s)
          (zero-mul s) ∙ take_at (g x) (joined g xs) s l.0 in
          let t : (i : ℕ) → i < length xs → f (part (joined g (x ∷ xs)) (suc i * s) s)
          ≡ f (part (joined g xs) (i * s) s) = λ i h.
          let q = l.0 in
          let m = suc-mul i s in
          let k : suc i * s ≡ length (g x) + i * s = omega arith in
          ap (λ (k : ℕ). f (take s (drop k (joined g (x ∷ xs))))) k
          ∙ ap (λ (b : List ℕ). f (take s b)) (drop-append-add (g x) (joined g xs) (i * s)) in
          tabulate_cons (length xs) (λ i. f (part (joined g (x ∷ xs)) (i * s) s))
          ∙ ap (λ (b : A). b ∷ tabulate (length xs) (λ i. f (part (joined g (x ∷ xs)) (suc i * s) s))) (ap f o ∙ e.0)
          ∙ ap (λ (b : List A). x ∷ b) (tabulate_same (length xs) _ _ t ∙ go xs l.1 e.1)

  -- what was read piece by piece is written again
  pub joined_split : (s : ℕ) (f : List ℕ → A) (g : A → List ℕ) (bs : List ℕ) → 0 < s → length bs % s ≡ 0
      → ((at : ℕ) → at + s ≤ length bs → g (f (part bs at s)) ≡ part bs at s) → joined g (split s f bs) ≡ bs
  unfolding tabulate
  joined_split s f g bs z w e =
      let d = div-add-mod (length bs) s in
      let c = mul_comm s (length bs / s) in
      go (length bs / s) (omega arith) ∙ take_all (length bs / s * s) bs (omega arith)
    where
      go : (n : ℕ) → n * s ≤ length bs → joined g (tabulate n (λ i. f (part bs (i * s) s))) ≡ take (n * s) bs
      go zero h = ap (λ (k : ℕ). take k bs) (sym (zero-mul s))
      go (suc n) h =
          let m = suc-mul n s in
          joined_snoc g (tabulate n (λ i. f (part bs (i * s) s))) (f (part bs (n * s) s))
          ∙ ap (λ (l : List ℕ). l ++ g (f (part bs (n * s) s))) (go n (omega arith))
          ∙ ap (λ (l : List ℕ). take (n * s) bs ++ l) (e (n * s) (omega arith))
          ∙ sym (take-add (n * s) s bs)
          ∙ ap (λ (k : ℕ). take k bs) (sym m)
