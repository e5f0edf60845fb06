-- Lists by places that are the same, a loop that compares two arrays place by place, and `==` at their first places.
-- Assumes nothing.
use Prim.Native.Nat.{ℕ, ◌≤◌, ◌<◌, min}
use mathlib.Core.Path.{◌≡◌, refl, ap, sym, ◌∙◌}
use mathlib.Core.Bool.{true, false}
use mathlib.Core.List.{List}
use native.Mathlib.Decide.{dec_lt}
use native.Mathlib.Omega.{arith}
use lib.Dec.{eqb}
use lib.ListN.{length, get_or, take, get_or-eq_default}
use lib.Pointwise.{pointwise, bytes_decides}
use Rattle.std.proofs.lemmas.List.{length-take, get_or-take, ext_get_or}
use Rattle.lists.specs.Lists.{tabulate, firsts}
use Rattle.lists.specs.Answer.{Decides}
use Rattle.lists.proofs.Bools.{absurd}
use Rattle.lists.proofs.Tabulate.{length_tabulate, tabulate_same, get_d_tabulate}

-- lists that are the same have the same number of elements
pub same_count_lem : {A : Type 0} (n m : ℕ) (f g : ℕ → A) → tabulate n f ≡ tabulate m g → n ≡ m
same_count_lem n m f g e = sym (length_tabulate n f) ∙ ap length e ∙ length_tabulate m g

-- past their ends two arrays of m places agree
pub same_past_end : {A : Type 0} (xs ys : List A) (d : A) (m : ℕ) → length xs ≡ m → length ys ≡ m
    → (k : ℕ) → m ≤ k → get_or xs k d ≡ get_or ys k d
same_past_end xs ys d m p q k l =
    get_or-eq_default xs d (omega arith) ∙ sym (get_or-eq_default ys d (omega arith))

module _ {A : Type 0} (f g : ℕ → A) where
  -- they differ at place i
  pub differ : (i n : ℕ) → i < n → (f i ≡ g i → ⊥) → Decides false (tabulate n f ≡ tabulate n g)
  differ i n l h =
      record {
        sound = λ e. cc;
        complete = λ e.
            absurd (h
            (sym (get_d_tabulate n f i (f i) l)
            ∙ ap (λ (xs : List A). get_or xs i (f i)) e
            ∙ get_d_tabulate n g i (f i) l));
      }

  -- they agree before place i, which ends the first n or the m places of the arrays, and from place m on
  pub agree : (i n m : ℕ) → ((k : ℕ) → k < i → f k ≡ g k) → ((k : ℕ) → m ≤ k → f k ≡ g k)
      → min n m ≤ i → Decides true (tabulate n f ≡ tabulate n g)
  agree i n m before after end =
      record {
        sound = λ e.
            tabulate_same n f g
            (λ k l. elim (dec_lt k i) [
              | yes h ↦ before k h
              | no h ↦ after k (omega arith)
            ]);
        complete = λ e. refl;
      }

module _ (n : ℕ) (xs ys : List ℕ) where
  -- two lists of one length whose first n numbers are the same have them as parts
  pub take_firsts : length xs ≡ length ys → firsts n 0 xs ≡ firsts n 0 ys → take n xs ≡ take n ys
  take_firsts long e =
      let p = length-take n xs in
      let q = length-take n ys in
      ext_get_or 0 (take n xs) (take n ys) (grind arith)
      (λ i l.
      let h : i < n = grind arith in
      get_or-take n xs i 0 h
      ∙ sym (get_d_tabulate n (λ k. get_or xs k 0) i 0 h)
      ∙ ap (λ (zs : List ℕ). get_or zs i 0) e
      ∙ get_d_tabulate n (λ k. get_or ys k 0) i 0 h
      ∙ sym (get_or-take n ys i 0 h))

  -- what `==` answers at the first n of two lists of one length
  pub first_decides : length xs ≡ length ys → Decides (pointwise eqb (take n xs) (take n ys)) (firsts n 0 xs ≡ firsts n 0 ys)
  first_decides long =
      let d = bytes_decides (take n xs) (take n ys) in
      record {
        sound = λ h.
            tabulate_same n (λ k. get_or xs k 0) (λ k. get_or ys k 0)
            (λ k l. sym (get_or-take n xs k 0 l) ∙ ap (λ (zs : List ℕ). get_or zs k 0) (d.0 h) ∙ get_or-take n ys k 0 l);
        complete = λ e. d.1 (take_firsts long e);
      }
