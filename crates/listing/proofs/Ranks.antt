-- The walk by places as numbers: minute times 64 plus action.
-- Assumes nothing.
use Prim.Native.Nat.{ℕ, suc, ◌+◌, ◌*◌, ◌/◌, ◌%◌, ◌<◌, ◌≤◌}
use mathlib.Core.Path.{◌≡◌, sym, subst}
use mathlib.Core.Logic.{inl, inr, ⊎_elim}
use mathlib.Core.List.{List, [], ◌∷◌, ◌++◌}
use native.Mathlib.Nat.{div-add-mod, mod-lt}
use native.Mathlib.Omega.{arith}
use lib.ListN.{length}
use Rattle.job.specs.Job.{Job}
use Rattle.job.specs.Passed.{Passed}
use Rattle.timeline.specs.Step.{Step, step_of}
use Rattle.timeline.specs.Places.{Place}
use Rattle.timeline.proofs.Tests.{trichotomy}
use Rattle.listing.specs.Listed.{Listed}
use Rattle.listing.specs.Shortest.{ShortestEnd}
use Rattle.listing.specs.Place.{ListOf}
use Rattle.listing.specs.Begins.{Begins, GoesOn, BeforePlace, place_of, Earlier, FoundAt}
use Rattle.listing.proofs.Walk.{listed_known, goes_on_same, list_of_none_yet, list_of_nothing_first}
use Rattle.listing.proofs.Walk.{list_of_next_action}
use Rattle.listing.proofs.ListedPlans.{listed_by_steps}
use Rattle.listing.proofs.Found.{found_behind_action}

-- the place of a step with a number below 64, and the place of minute u and action a
earlier_reads : (x : Step) (u a : ℕ) → x.number < 64 → a ≤ 64 → place_of x < u * 64 + a → BeforePlace u a x
earlier_reads x u a n l h =
    ⊎_elim (λ e. inr (e, let z : x.start * 64 ≡ u * 64 = (rw e) in omega arith))
    (⊎_elim (λ b. inl b) (λ b. absurd (omega arith)))
    (trichotomy x.start u)

earlier_when : (x : Step) (u a : ℕ) → x.number < 64 → BeforePlace u a x → place_of x < u * 64 + a
earlier_when x u a n (inl b) = omega arith
earlier_when x u a n (inr b) = let e = b.0 in let c = b.1 in omega arith

module _ (J : Job) (goal : ℕ) (few : length J.actions ≤ 64) (k : List Step) where
  small : (P : List Step) → Listed J goal P → (x : Step) (Q : List Step) → Place x Q P → x.number < 64
  small P listed x Q i = let l = listed_known J goal listed x Q i in omega arith

  to_places : (u a : ℕ) → a ≤ 64 → (A : List (List Step)) → ListOf J goal (GoesOn k (BeforePlace u a)) A
      → ListOf J goal (GoesOn k (Earlier (u * 64 + a))) A
  to_places u a l A =
      goes_on_same J goal k (BeforePlace u a) (Earlier (u * 64 + a)) A
      (λ P listed x Q i b. earlier_when x u a (small P listed x Q i) b)
      (λ P listed x Q i b. earlier_reads x u a (small P listed x Q i) l b)

  from_places : (u a : ℕ) → a ≤ 64 → (A : List (List Step)) → ListOf J goal (GoesOn k (Earlier (u * 64 + a))) A
      → ListOf J goal (GoesOn k (BeforePlace u a)) A
  from_places u a l A =
      goes_on_same J goal k (Earlier (u * 64 + a)) (BeforePlace u a) A
      (λ P listed x Q i b. earlier_reads x u a (small P listed x Q i) l b)
      (λ P listed x Q i b. earlier_when x u a (small P listed x Q i) b)

  -- nothing goes on before the place behind a step of k
  pub none_before_place : (w : Step) (Q : List Step) → Place w Q k → w.number < 64 → (place : ℕ)
      → place_of w + 1 ≡ place → ListOf J goal (GoesOn k (Earlier place)) []
  none_before_place w Q i small place e =
      let same : w.start * 64 + suc w.number ≡ place = omega arith in
      rw (← same) (to_places w.start (suc w.number) small [] (list_of_none_yet J goal k w Q i))

  pub none_before_first : ListOf J goal (GoesOn k (Earlier 0)) []
  none_before_first = to_places 0 0 (omega arith) [] (list_of_nothing_first J goal k)

  module _ (place : ℕ) where
    split_place_number : place / 64 * 64 + place % 64 ≡ place
    split_place_number = let d = div-add-mod place 64 in omega arith

    small_number : place % 64 < 64
    small_number = mod-lt place (omega arith)

    -- one place further
    pub list_of_next_place : (A B : List (List Step)) → ListOf J goal (GoesOn k (Earlier place)) A
        → ListOf J goal (Begins (k ++ (step_of J (place % 64) (place / 64) ∷ []))) B
        → ListOf J goal (GoesOn k (Earlier (suc place))) (A ++ B)
    list_of_next_place A B a b =
        let u = place / 64 in
        let n = place % 64 in
        let s = split_place_number in
        let l = small_number in
        let next : u * 64 + suc n ≡ suc place = omega arith in
        subst (λ (p : ℕ). ListOf J goal (GoesOn k (Earlier p)) (A ++ B)) next
        (to_places u (suc n) (omega arith) (A ++ B)
        (list_of_next_action J goal k u n A B
        (from_places u n (omega arith) A (subst (λ (p : ℕ). ListOf J goal (GoesOn k (Earlier p)) A) (sym s) a)) b))

    -- a plan found behind the step at the place, with those before it
    pub found_behind_place : (A B : List (List Step)) (m : ℕ) (P : List Step) → ListOf J goal (λ R. R ≡ k) A
        → ListOf J goal (GoesOn k (Earlier place)) B
        → FoundAt J goal (Begins (k ++ (step_of J (place % 64) (place / 64) ∷ []))) m P
        → FoundAt J goal (Begins k) (length (A ++ B) + m) P
    found_behind_place A B m P a b found =
        let s = split_place_number in
        let l = small_number in
        found_behind_action J goal k (place / 64) (place % 64) A B m P a
        (from_places (place / 64) (place % 64) (omega arith) B
        (subst (λ (p : ℕ). ListOf J goal (GoesOn k (Earlier p)) B) (sym s) b))
        found

  -- behind the last place
  pub list_of_all_places : (T : ℕ) → Passed J → ShortestEnd J goal T → (place : ℕ) → T * 64 ≤ place
      → (A : List (List Step)) → ListOf J goal (GoesOn k (Earlier place)) A → ListOf J goal (GoesOn k (λ x. Unit)) A
  list_of_all_places T passed least place l A a =
      goes_on_same J goal k (Earlier place) (λ x. Unit) A (λ P listed x Q i b. tt)
      (λ P listed x Q i b.
      let keeps = (listed_by_steps J goal T passed least P listed).plan.keeps in
      let lasts = keeps.lasting x Q i in
      let in_time = keeps.in_time x Q i in
      let n = small P listed x Q i in
      omega arith)
      a
