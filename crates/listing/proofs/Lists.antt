-- Parts of the list put together: the listed plans that are F and those that are G, where the first come before the
-- second, make up those that are either.
-- Assumes nothing.
use Prim.Native.Nat.{ℕ, suc, ◌≤◌}
use mathlib.Core.Path.{◌≡◌, refl, sym, ap, subst}
use mathlib.Core.Bool.{true}
use mathlib.Core.Logic.{◌⊎◌, inl, inr, ⊎_elim}
use mathlib.Core.List.{List, [], ◌∷◌, ◌++◌}
use native.Mathlib.Omega.{arith}
use lib.ListN.{length}
use Rattle.lists.specs.Lists.{Each}
use Rattle.job.specs.Job.{Job}
use Rattle.timeline.specs.Step.{Step}
use Rattle.listing.specs.Listed.{Listed, comes_first}
use Rattle.listing.specs.Place.{InOrder, OneOf, first, further, ListOf}
use Rattle.listing.proofs.Order.{first_irreflexive}

abbrev Plans : Type 0
Plans = List (List Step)

-- ---- one of a list of plans
pub one_of_each : (F : List Step → Type 0) (L : Plans) → Each F L → {P : List Step} → OneOf P L → F P
one_of_each F (R ∷ L) e first = e.0
one_of_each F (R ∷ L) e (further o) = one_of_each F L e.1 o
one_of_each F [] e {P = P} x'' = elim x'' [ ]

pub each_one_of : (F : List Step → Type 0) (L : Plans) → ((P : List Step) → OneOf P L → F P) → Each F L
each_one_of F [] h = tt
each_one_of F (R ∷ L) h = (h R first, each_one_of F L (λ P o. h P (further o)))

pub one_of_append : {P : List Step} (A B : Plans) → OneOf P (A ++ B) → OneOf P A ⊎ OneOf P B
one_of_append [] B o = inr o
one_of_append (R ∷ A) B first = inl first
one_of_append (R ∷ A) B (further o) = ⊎_elim (λ a. inl (further a)) (λ b. inr b) (one_of_append A B o)

pub one_of_left : {P : List Step} (A B : Plans) → OneOf P A → OneOf P (A ++ B)
one_of_left (R ∷ A) B first = first
one_of_left (R ∷ A) B (further o) = further (one_of_left A B o)
one_of_left {P = P} [] B x' = elim x' [ ]

pub one_of_right : {P : List Step} (A B : Plans) → OneOf P B → OneOf P (A ++ B)
one_of_right [] B o = o
one_of_right (R ∷ A) B o = further (one_of_right A B o)

-- ---- in order
pub in_order_append : (A B : Plans) → InOrder A → InOrder B
    → ((P R : List Step) → OneOf P A → OneOf R B → comes_first P R ≡ true) → InOrder (A ++ B)
in_order_append [] B a b h = b
in_order_append (P ∷ A) B a b h = (
  each_one_of (λ R. comes_first P R ≡ true) (A ++ B)
      (λ R o.
      ⊎_elim (λ l. one_of_each (λ R. comes_first P R ≡ true) A a.0 l) (λ r. h P R first r) (one_of_append A B o)),
  in_order_append A B a.1 b (λ Q R o p. h Q R (further o) p),
)

-- L without P
without : {P : List Step} (L : Plans) → OneOf P L
    → (K : Plans) × (length L ≡ suc (length K)) × ((R : List Step) → OneOf R L → (R ≡ P) ⊎ OneOf R K)
without (P ∷ L) first = (L, refl, λ R o. split o)
  where
    split : {R P : List Step} {L : Plans} → OneOf R (P ∷ L) → (R ≡ P) ⊎ OneOf R L
    split first = inl refl
    split (further o) = inr o
without {P} (Q ∷ L) (further o) =
    let r = without L o in
    (Q ∷ r.0, ap suc r.1, λ R o. split (r.2 R) o)
  where
    split : {R P Q : List Step} {L K : Plans} → (OneOf R L → (R ≡ P) ⊎ OneOf R K) → OneOf R (Q ∷ L)
        → (R ≡ P) ⊎ OneOf R (Q ∷ K)
    split f first = inr first
    split f (further o) = ⊎_elim (λ e. inl e) (λ k. inr (further k)) (f o)
without {P = P} [] x' = elim x' [ ]

-- plans in order that are all in another list are no more than that list has
pub no_more_in_order : (L K : Plans) → InOrder L → ((P : List Step) → OneOf P L → OneOf P K) → length L ≤ length K
no_more_in_order [] K a h = omega arith
no_more_in_order (P ∷ L) K a h =
    let r = without K (h P first) in
    let e = r.1 in
    let rest = no_more_in_order L r.0 a.1
    (λ R o.
    ⊎_elim
    (λ q.
    absurd (first_irreflexive P
    (subst (λ (Q : List Step). comes_first P Q ≡ true) q (one_of_each (λ R. comes_first P R ≡ true) L a.0 o))))
    (λ k. k)
    (r.2 R (h R (further o)))) in
    omega arith

-- ---- parts of the list
module _ (J : Job) (goal : ℕ) where
  -- the same part, said otherwise
  pub list_of_same : (F G : List Step → Type 0) (L : Plans) → ((P : List Step) → Listed J goal P → F P → G P)
      → ((P : List Step) → Listed J goal P → G P → F P) → ListOf J goal F L → ListOf J goal G L
  list_of_same F G L to from f =
      record {
        in_order = f.in_order;
        only = λ P o. let r = f.only P o in (r.0, to P r.0 r.1);
        all = λ P listed g. f.all P listed (from P listed g);
      }

  pub list_of_none : (F : List Step → Type 0) → ((P : List Step) → Listed J goal P → F P → ⊥) → ListOf J goal F []
  list_of_none F none =
      record { in_order = tt; only = λ P o. nowhere o; all = λ P listed f. absurd (none P listed f) }
    where
      nowhere : {P : List Step} {A : Type 0} → OneOf P [] → A
      nowhere o = elim o [ ]

  -- a single listed plan
  pub list_of_one : (k : List Step) → Listed J goal k → ListOf J goal (λ P. P ≡ k) (k ∷ [])
  list_of_one k listed =
      record {
        in_order = (tt, tt);
        only = λ P o. let e = only_one o in (subst (Listed J goal) (sym e) listed, e);
        all = λ P l e. subst (λ (Q : List Step). OneOf Q (k ∷ [])) (sym e) first;
      }
    where
      only_one : {P R : List Step} → OneOf P (R ∷ []) → P ≡ R
      only_one first = refl
      only_one (further o) = elim o [ ]

  -- the plans of the first part come before those of the second
  pub list_of_either : (F G : List Step → Type 0) (A B : Plans)
      → ((P R : List Step) → F P → G R → comes_first P R ≡ true) → ListOf J goal F A → ListOf J goal G B
      → ListOf J goal (λ P. F P ⊎ G P) (A ++ B)
  list_of_either F G A B before a b =
      record {
        in_order =
            in_order_append A B a.in_order b.in_order
            (λ P R o p. before P R (a.only P o).1 (b.only R p).1);
        only = λ P o.
            ⊎_elim (λ l. let r = a.only P l in (r.0, inl r.1)) (λ l. let r = b.only P l in (r.0, inr r.1))
            (one_of_append A B o);
        all = λ P listed e.
            ⊎_elim (λ f. one_of_left A B (a.all P listed f)) (λ g. one_of_right A B (b.all P listed g)) e;
      }
