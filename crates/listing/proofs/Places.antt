-- A place of the list: at most one plan stands there, and then the list does not end before it.
-- Assumes nothing.
use Prim.Native.Nat.{ℕ, zero, suc, ◌<◌}
use mathlib.Core.Path.{◌≡◌, refl, sym, ap, ◌∙◌, subst}
use mathlib.Core.Bool.{true}
use mathlib.Core.Logic.{◌⊎◌, inl, inr, ⊎_elim}
use mathlib.Core.List.{List, [], ◌∷◌, ◌++◌}
use native.Mathlib.Omega.{arith}
use lib.ListN.{length, length-append}
use Rattle.job.specs.Job.{Job}
use Rattle.timeline.specs.Step.{Step}
use Rattle.timeline.proofs.Tests.{le_or_lt}
use Rattle.listing.specs.Listed.{comes_first}
use Rattle.listing.specs.Place.{InOrder, OneOf, first, further, ListOf, WholeList, AtPlace, EndsBefore}
use Rattle.listing.proofs.Order.{first_irreflexive, first_trans, first_total}
use Rattle.listing.proofs.Lists.{one_of_each, one_of_append, one_of_left, one_of_right, no_more_in_order}
use Rattle.listing.proofs.Lists.{each_one_of, list_of_one, list_of_either}
use Rattle.listing.proofs.Walk.{listed_own}

module _ (J : Job) (goal : ℕ) where
  -- the plans before P, and P
  up_to : (place : ℕ) (P : List Step) (at : AtPlace J goal place P)
      → ListOf J goal (λ R. (comes_first R P ≡ true) ⊎ (R ≡ P)) (at.earlier ++ (P ∷ []))
  up_to place P at =
      list_of_either J goal (λ R. comes_first R P ≡ true) (λ R. R ≡ P) at.earlier (P ∷ [])
      (λ R Q h e. subst (λ (K : List Step). comes_first R K ≡ true) (sym e) h)
      at.those (list_of_one J goal P at.listed)

  -- they are one more than the place says
  up_to_count : (place : ℕ) (P : List Step) (at : AtPlace J goal place P)
      → length (at.earlier ++ (P ∷ [])) ≡ suc place
  up_to_count place P at =
      let l = length-append at.earlier (P ∷ []) in let c = at.count in l ∙ omega arith

  -- of two plans at one place neither comes first
  not_before_at_place : (place : ℕ) (P R : List Step) → AtPlace J goal place P → AtPlace J goal place R
      → comes_first P R ≡ true → ⊥
  not_before_at_place place P R p r h =
      let some = up_to place P p in
      let more = no_more_in_order (p.earlier ++ (P ∷ [])) r.earlier some.in_order
      (λ Q o.
      let listed = some.only Q o in
      r.those.all Q listed.0
      (⊎_elim (λ b. first_trans Q P R b h) (λ e. subst (λ (K : List Step). comes_first K R ≡ true) (sym e) h)
      listed.1)) in
      let c = up_to_count place P p in
      let d = r.count in
      omega arith

  pub one_plan_at_place : (place : ℕ) (P R : List Step) → AtPlace J goal place P → AtPlace J goal place R → P ≡ R
  one_plan_at_place place P R p r =
      ⊎_elim (λ e. e)
      (⊎_elim (λ h. absurd (not_before_at_place place P R p r h)) (λ h. absurd (not_before_at_place place R P r p h)))
      (first_total J P R (listed_own J goal p.listed) (listed_own J goal r.listed))

  pub not_at_place_and_ended : (place : ℕ) (P : List Step) → AtPlace J goal place P → EndsBefore J goal place → ⊥
  not_at_place_and_ended place P at ended =
      let some = up_to place P at in
      let more = no_more_in_order (at.earlier ++ (P ∷ [])) ended.list some.in_order
      (λ Q o. ended.whole.all Q (some.only Q o).0 tt) in
      let c = up_to_count place P at in
      let s = ended.short in
      omega arith

  -- ---- from the whole list
  -- the plans before a place, the plan there, and those behind it
  split_at : (place : ℕ) (L : List (List Step)) → place < length L
      → (A : List (List Step)) × (P : List Step) × (B : List (List Step)) × (L ≡ A ++ (P ∷ B)) × (length A ≡ place)
  split_at place [] l = absurd (omega arith)
  split_at zero (P ∷ L) l = ([], P, L, refl, refl)
  split_at (suc place) (P ∷ L) l =
      let r = split_at place L (omega arith) in
      (P ∷ r.0, r.1, r.2, ap (λ (K : List (List Step)). P ∷ K) r.3, ap suc r.4)

  in_order_first_part : (A B : List (List Step)) → InOrder (A ++ B) → InOrder A
  in_order_first_part [] B h = tt
  in_order_first_part (P ∷ A) B h = (
    each_one_of (λ R. comes_first P R ≡ true) A
        (λ R o. one_of_each (λ R. comes_first P R ≡ true) (A ++ B) h.0 (one_of_left A B o)),
    in_order_first_part A B h.1,
  )

  in_order_across : (A B : List (List Step)) → InOrder (A ++ B) → (P R : List Step) → OneOf P A → OneOf R B
      → comes_first P R ≡ true
  in_order_across (Q ∷ A) B h P R first r =
      one_of_each (λ R. comes_first Q R ≡ true) (A ++ B) h.0 (one_of_right A B r)
  in_order_across (Q ∷ A) B h P R (further o) r = in_order_across A B h.1 P R o r
  in_order_across [] B h P R x3 r = elim x3 [ ]

  in_order_second_part : (A B : List (List Step)) → InOrder (A ++ B) → InOrder B
  in_order_second_part [] B h = h
  in_order_second_part (P ∷ A) B h = in_order_second_part A B h.1

  at_place_of_split : (A : List (List Step)) (P : List Step) (B : List (List Step))
      → WholeList J goal (A ++ (P ∷ B)) → AtPlace J goal (length A) P
  at_place_of_split A P B whole =
      let order = whole.in_order in
      record {
        listed = (whole.only P (one_of_right A (P ∷ B) first)).0;
        earlier = A;
        those = record {
          in_order = in_order_first_part A (P ∷ B) order;
          only = λ R o.
              ((whole.only R (one_of_left A (P ∷ B) o)).0, in_order_across A (P ∷ B) order R P o first);
          all = λ R listed h.
              ⊎_elim (λ o. o) (λ o. absurd (behind R h o)) (one_of_append A (P ∷ B) (whole.all R listed tt));
        };
        count = refl;
      }
    where
      split : {R P : List Step} {L : List (List Step)} → OneOf R (P ∷ L) → (R ≡ P) ⊎ OneOf R L
      split first = inl refl
      split (further o) = inr o

      behind : (R : List Step) → comes_first R P ≡ true → OneOf R (P ∷ B) → ⊥
      behind R h o =
          ⊎_elim (λ e. first_irreflexive P (subst (λ (K : List Step). comes_first K P ≡ true) e h))
          (λ r.
          first_irreflexive P
          (first_trans P R P
          (one_of_each (λ K. comes_first P K ≡ true) B (in_order_second_part A (P ∷ B) whole.in_order).0 r) h))
          (split o)

  -- where there is a whole list, each place has a plan or is past the end
  pub at_place_or_ended : (L : List (List Step)) → WholeList J goal L → (place : ℕ)
      → ((P : List Step) × AtPlace J goal place P) ⊎ EndsBefore J goal place
  at_place_or_ended L whole place =
      ⊎_elim (λ l. inr (record { list = L; whole = whole; short = l }))
      (λ l.
      let r = split_at place L l in
      let at = at_place_of_split r.0 r.1 r.2 (subst (WholeList J goal) r.3 whole) in
      inl (r.1, subst (λ (n : ℕ). AtPlace J goal n r.1) r.4 at))
      (le_or_lt (length L) place)
