-- The plan that a walk finds, with the number of listed plans before it: among the plans that begin with the steps k,
-- from the same among those that begin with one step more; at the root it is the plan at the place.
-- Assumes nothing.
use Prim.Native.Nat.{ℕ, ◌+◌}
use mathlib.Core.Path.{◌≡◌, refl, sym, ap, ◌∙◌, subst}
use mathlib.Core.Bool.{true}
use mathlib.Core.Logic.{◌⊎◌, inl, inr, ⊎_elim}
use mathlib.Core.List.{List, [], ◌∷◌, ◌++◌, append-nil}
use native.Mathlib.Omega.{arith}
use lib.ListN.{length, length-append}
use lib.Seq.{append_snoc}
use Rattle.timeline.specs.Places.{Place, here}
use Rattle.job.specs.Job.{Job}
use Rattle.timeline.specs.Step.{Step, step_of}
use Rattle.timeline.proofs.Places.{place_after}
use Rattle.timeline.proofs.JobSteps.{same_step_lem}
use Rattle.timeline.proofs.Rising.{before_reads, before_when}
use Rattle.listing.specs.Listed.{Listed, comes_first}
use Rattle.listing.specs.Place.{ListOf, AtPlace}
use Rattle.listing.specs.Begins.{Begins, GoesOn, BeforePlace, FoundAt}
use Rattle.listing.proofs.Order.{first_irreflexive, first_trans, same_or_before, begun_comes_first}
use Rattle.listing.proofs.Order.{earlier_next_step_first}
use Rattle.listing.proofs.Lists.{list_of_same, list_of_none, list_of_either}
use Rattle.listing.proofs.Walk.{listed_own}

module _ (J : Job) (goal : ℕ) where
  -- F come before G, and what else is H comes after P
  found_behind : (F G H : List Step → Type 0) (A : List (List Step)) (m : ℕ) (P : List Step) → ListOf J goal F A
      → FoundAt J goal G m P → ((R Q : List Step) → F R → G Q → comes_first R Q ≡ true)
      → ((R : List Step) → F R → H R) → ((R : List Step) → G R → H R)
      → ((R : List Step) → Listed J goal R → H R → F R ⊎ (G R ⊎ (comes_first P R ≡ true)))
      → FoundAt J goal H (length A + m) P
  found_behind F G H A m P a found order f g cases =
      record {
        listed = found.listed;
        among = g P found.among;
        earlier = A ++ found.earlier;
        those =
            list_of_same J goal (λ R. F R ⊎ (G R × (comes_first R P ≡ true))) (λ R. H R × (comes_first R P ≡ true))
            (A ++ found.earlier)
            (λ R listed.
            ⊎_elim (λ r. (f R r, order R P r found.among)) (λ r. (g R r.0, r.1)))
            (λ R listed h.
            ⊎_elim (λ r. inl r)
            (⊎_elim (λ r. inr (r, h.1)) (λ r. absurd (first_irreflexive P (first_trans P R P r h.1))))
            (cases R listed h.0))
            (list_of_either J goal F (λ R. G R × (comes_first R P ≡ true)) A found.earlier
            (λ R Q r q. order R Q r q.0) a found.those);
        count = let l = length-append A found.earlier in let c = found.count in l ∙ omega arith;
      }

  -- no plan that begins with k comes before k
  pub found_itself : (k : List Step) → Listed J goal k → FoundAt J goal (Begins k) 0 k
  found_itself k listed =
      record {
        listed = listed;
        among = ([], sym (append-nil k));
        earlier = [];
        those = list_of_none J goal (λ R. Begins k R × (comes_first R k ≡ true))
            (λ R other h. not_first h.0.0 (subst (λ (Q : List Step). comes_first Q k ≡ true) h.0.1 h.1));
        count = refl;
      }
    where
      not_first : (N : List Step) → comes_first (k ++ N) k ≡ true → ⊥
      not_first [] h = first_irreflexive k (subst (λ (Q : List Step). comes_first Q k ≡ true) (append-nil k) h)
      not_first (x ∷ N) h =
          first_irreflexive k (first_trans k (k ++ (x ∷ N)) k (begun_comes_first k x N) h)

  -- A has k if it is listed, B the plans that go on with an earlier step, and P was found behind one step more
  module _ (k : List Step) (u a : ℕ) where
    abbrev Earlier : List Step → Type 0
    Earlier R = (R ≡ k) ⊎ GoesOn k (BeforePlace u a) R

    abbrev Behind : List Step → Type 0
    Behind R = Begins (k ++ (step_of J a u ∷ [])) R

    begun_with : (R : List Step) → (b : Behind R) → R ≡ k ++ (step_of J a u ∷ b.0)
    begun_with R b = b.1 ∙ append_snoc k (step_of J a u) b.0

    own_first : (R Q : List Step) → R ≡ k → GoesOn k (BeforePlace u a) Q → comes_first R Q ≡ true
    own_first R Q e g =
        subst (λ (K : List Step). comes_first K Q ≡ true) (sym e)
        (subst (λ (K : List Step). comes_first k K ≡ true) (sym g.whole) (begun_comes_first k g.step g.rest))

    earlier_first : (R Q : List Step) → Earlier R → Behind Q → comes_first R Q ≡ true
    earlier_first R Q (inl e) b =
        subst (λ (K : List Step). comes_first K Q ≡ true) (sym e)
        (subst (λ (K : List Step). comes_first k K ≡ true) (sym (begun_with Q b))
        (begun_comes_first k (step_of J a u) b.0))
    earlier_first R Q (inr g) b =
        subst (λ (K : List Step). comes_first K Q ≡ true) (sym g.whole)
        (subst (λ (K : List Step). comes_first (k ++ (g.step ∷ g.rest)) K ≡ true) (sym (begun_with Q b))
        (earlier_next_step_first k g.step (step_of J a u) g.rest b.0
        (before_when g.step (step_of J a u) g.each)))

    -- a plan that begins with k is one of the earlier ones, begins with the step too, or comes after all that do
    cases : (P : List Step) → Behind P → (R : List Step) → Listed J goal R → Begins k R
        → Earlier R ⊎ (Behind R ⊎ (comes_first P R ≡ true))
    cases P p R listed b = go b.0 b.1
      where
        y : Step
        y = step_of J a u

        go : (N : List Step) → R ≡ k ++ N → Earlier R ⊎ (Behind R ⊎ (comes_first P R ≡ true))
        go [] e = inl (inl (e ∙ append-nil k))
        go (x ∷ N) e =
            let place : Place x (k ++ N) R
            = subst (λ (K : List Step). Place x (k ++ N) K) (sym e) (place_after k here) in
            ⊎_elim
            (λ s.
            let q : x ≡ y = same_step_lem J x y (listed_own J goal listed x (k ++ N) place) refl s.1 s.0 in
            inr (inl (N, e ∙ ap (λ (z : Step). k ++ (z ∷ N)) q ∙ sym (append_snoc k y N))))
            (⊎_elim
            (λ l. inl (inr (record { step = x; rest = N; whole = e; each = before_reads x y l })))
            (λ l.
            inr (inr
            (subst (λ (K : List Step). comes_first K R ≡ true) (sym (begun_with P p))
            (subst (λ (K : List Step). comes_first (k ++ (y ∷ p.0)) K ≡ true) (sym e)
            (earlier_next_step_first k y x p.0 N l))))))
            (same_or_before x y)

    pub found_behind_action : (A B : List (List Step)) (m : ℕ) (P : List Step) → ListOf J goal (λ R. R ≡ k) A
        → ListOf J goal (GoesOn k (BeforePlace u a)) B → FoundAt J goal Behind m P
        → FoundAt J goal (Begins k) (length (A ++ B) + m) P
    found_behind_action A B m P l more found =
        found_behind Earlier Behind (Begins k) (A ++ B) m P
        (list_of_either J goal (λ R. R ≡ k) (GoesOn k (BeforePlace u a)) A B own_first l more) found earlier_first
        (λ R.
        ⊎_elim (λ e. ([], e ∙ sym (append-nil k))) (λ g. (g.step ∷ g.rest, g.whole)))
        (λ R b. (step_of J a u ∷ b.0, begun_with R b))
        (cases P found.among)

  -- at the root
  pub at_place_when_found : (place : ℕ) (P : List Step) → FoundAt J goal (Begins []) place P → AtPlace J goal place P
  at_place_when_found place P found =
      record {
        listed = found.listed;
        earlier = found.earlier;
        those =
            list_of_same J goal (λ R. Begins [] R × (comes_first R P ≡ true)) (λ R. comes_first R P ≡ true)
            found.earlier (λ R listed h. h.1) (λ R listed h. ((R, refl), h)) found.those;
        count = found.count;
      }
