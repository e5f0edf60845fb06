-- The list exists: the walk over all first steps makes it. So each place has a plan or is past the end.
-- Assumes nothing.
use Prim.Native.Nat.{ℕ, zero, suc, ◌+◌, ◌<◌, ◌≤◌}
use mathlib.Core.Path.{◌≡◌, refl, ap, subst}
use mathlib.Core.Bool.{Bool, true, false}
use mathlib.Core.Logic.{◌⊎◌, inl, inr, ⊎_elim}
use mathlib.Core.List.{List, [], ◌∷◌, ◌++◌}
use native.Mathlib.Omega.{arith}
use lib.ListN.{length, length-append}
use Rattle.job.specs.Passed.{Passed}
use Rattle.timeline.specs.Places.{Place, here, there, Member, EachStep}
use Rattle.timeline.specs.Keeps.{OfJob}
use Rattle.job.specs.Job.{Job}
use Rattle.job.specs.Refusal.{first}
use Rattle.timeline.specs.Step.{Step, step_of, steps_in, plan_bytes}
use Rattle.timeline.specs.Timeline.{end}
use Rattle.timeline.specs.Accepted.{Accepted, plan_rows}
use Rattle.timeline.proofs.Tests.{decided, not_both, le_or_lt}
use Rattle.timeline.proofs.JobSteps.{steps_of_accepted}
use Rattle.timeline.proofs.Places.{each_step, each_cons, each_wider, append_cases, length_place, largest_at_most}
use Rattle.timeline.proofs.PlanBytes.{bytes_of_steps, accepted_bytes_of_steps, few_steps_of_accepted}
use Rattle.times.proofs.PlanSteps.{plan_of_accepted}
use Rattle.makespan.specs.Makespan.{is_pass}
use Rattle.makespan.proofs.Search.{pass_of_test}
use Rattle.listing.specs.Shortest.{ShortestEnd}
use Rattle.listing.specs.Listed.{Listed}
use Rattle.listing.specs.Place.{OneOf, ListOf, WholeList, AtPlace, EndsBefore}
use Rattle.listing.specs.Begins.{Begins, GoesOn, BeforePlace}
use Rattle.listing.proofs.Lists.{list_of_same, list_of_none, list_of_one}
use Rattle.listing.proofs.ListedPlans.{least_by_deadline, listed_by_steps}
use Rattle.listing.proofs.Walk.{list_of_begins, list_of_next_action}
use Rattle.listing.proofs.Walk.{list_of_nothing_first, list_of_next_minute, list_of_all_minutes}
use Rattle.listing.proofs.Places.{at_place_or_ended}

-- ---- listed, or not
-- the test fails for each rest of a list
pub drops_of_none : (test : List Step → Bool) (x : Step) (Q : List Step) → Place x Q [] → test Q ≡ false
drops_of_none test x Q i = nowhere (Q, i)
  where
    nowhere : {x : Step} {A : Type 0} → Member x [] → A
    nowhere (Q, i) = elim i [ ]

pub drops_with : (test : List Step → Bool) (y : Step) (k : List Step) → test k ≡ false
    → ((x : Step) (Q : List Step) → Place x Q k → test (y ∷ Q) ≡ false)
    → (x : Step) (Q : List Step) → Place x Q (y ∷ k) → test Q ≡ false
drops_with test y k e none x Q here = e
drops_with test y k e none x Q (there {Q = R} i) = none x R i

-- the test passes for no rest of k, or for one
some_drop : (test : List Step → Bool) (k : List Step)
    → ((x : Step) (Q : List Step) → Place x Q k → test Q ≡ false)
    ⊎ ((x : Step) × (Q : List Step) × Place x Q k × (test Q ≡ true))
some_drop test [] = inl (drops_of_none test)
some_drop test (y ∷ k) =
    let rest = some_drop (λ Q. test (y ∷ Q)) k in
    ⊎_elim (λ e. inr (y, k, here, e))
    (λ e.
    ⊎_elim (λ none. inl (drops_with test y k e none)) (λ r. inr (r.0, y ∷ r.1, there r.2, r.3)) rest)
    (decided (test k))

accepts : Job → ℕ → List Step → Bool
accepts J goal P = is_pass (first (plan_rows J goal (plan_bytes P)))

accepts_when : (J : Job) (goal : ℕ) (P : List Step) → Accepted J goal (plan_bytes P) → accepts J goal P ≡ true
unfolding accepts
accepts_when J goal P h = ap is_pass h

accepts_reads : (J : Job) (goal : ℕ) (P : List Step) → accepts J goal P ≡ true → Accepted J goal (plan_bytes P)
unfolding accepts
accepts_reads J goal P h = pass_of_test _ h

module _ (J : Job) (goal T : ℕ) (passed : Passed J) (minimum : ShortestEnd J goal T) where
  -- a step of the job that starts before the least end
  abbrev Fits : Step → Type 0
  Fits x = OfJob J x × (x.number < length J.actions) × (x.start < T)

  -- the listed plans that are F, as a list
  abbrev PartOf : (List Step → Type 0) → Type 0
  PartOf F = (L : List (List Step)) × ListOf J goal F L

  read_back : (k : List Step) → EachStep Fits k → steps_in J (plan_bytes k) ≡ k
  read_back k fits =
      let actions = passed.few_actions in
      let deadline = passed.deadline in
      let last = least_by_deadline J goal T passed minimum in
      bytes_of_steps J k (λ x Q i. (fits x Q i).0) (λ x Q i. let l = (fits x Q i).1 in omega arith)
      (λ x Q i. let l = (fits x Q i).2 in omega arith)

  listed_when : (k : List Step) → EachStep Fits k → accepts J goal k ≡ true → end k ≤ T
      → ((x : Step) (Q : List Step) → Place x Q k → accepts J goal Q ≡ false) → Listed J goal k
  listed_when k fits passes soon none =
      record {
        in_bytes = read_back k fits;
        accepted = accepts_reads J goal k passes;
        least = λ bytes other. let l = minimum.least bytes other in omega arith;
        none_spare = λ x Q i other. not_both (accepts_when J goal Q other) (none x Q i);
      }

  listed_or_not : (k : List Step) → EachStep Fits k → Listed J goal k ⊎ (Listed J goal k → ⊥)
  listed_or_not k fits =
      ⊎_elim
      (λ passes.
      ⊎_elim
      (λ soon.
      ⊎_elim (λ none. inl (listed_when k fits passes soon none))
      (λ r. inr (λ l. l.none_spare r.0 r.1 r.2 (accepts_reads J goal r.1 r.3)))
      (some_drop (accepts J goal) k))
      (λ late.
      inr (λ l.
      let p = minimum.plan in
      let b = l.least p.0 p.1 in
      let e = p.2 in
      omega arith))
      (le_or_lt (end k) T))
      (λ fails. inr (λ l. not_both (accepts_when J goal k l.accepted) fails))
      (decided (accepts J goal k))

  -- ---- some plan is listed
  -- steps of an accepted plan are dropped while the rest is accepted
  listed_within : (n : ℕ) (k : List Step) → length k ≤ n → EachStep Fits k → EachStep (λ x. x.stop ≤ T) k
      → accepts J goal k ≡ true → (P : List Step) × Listed J goal P
  listed_within zero k few fits soon passes =
      ⊎_elim (λ none. (k, listed_when k fits passes (largest_at_most (λ x. x.stop) T k soon) none))
      (λ r. let l = length_place r.2 in absurd (omega arith))
      (some_drop (accepts J goal) k)
  listed_within (suc n) k few fits soon passes =
      ⊎_elim (λ none. (k, listed_when k fits passes (largest_at_most (λ x. x.stop) T k soon) none))
      (λ r.
      let l = length_place r.2 in
      listed_within n r.1 (omega arith) (each_wider Fits r.2 fits) (each_wider (λ x. x.stop ≤ T) r.2 soon)
      r.3)
      (some_drop (accepts J goal) k)

  pub some_listed : (P : List Step) × Listed J goal P
  some_listed =
      let p = minimum.plan in
      let k = steps_in J p.0 in
      let e = p.2 in
      let plan = plan_of_accepted J goal p.0 T passed p.1 (omega arith) in
      let accepted = accepted_bytes_of_steps J goal k passed plan.own (few_steps_of_accepted J goal p.0 p.1)
      (steps_of_accepted J goal p.0 p.1) in
      listed_within (length k) k (omega arith)
      (λ x Q i.
      let a = plan.keeps.lasting x Q i in
      let b = plan.keeps.in_time x Q i in
      (plan.own x Q i, plan.known x Q i, omega arith))
      plan.keeps.in_time (accepts_when J goal k accepted.0)

  -- so the list has a first plan
  pub not_ended_at_first : EndsBefore J goal 0 → ⊥
  not_ended_at_first ended =
      nowhere ended.list ended.short (ended.whole.all some_listed.0 some_listed.1 tt)
    where
      nowhere : {P : List Step} (L : List (List Step)) → length L ≤ 0 → OneOf P L → ⊥
      nowhere [] short one = elim one [ ]
      nowhere (R ∷ L) short one = omega arith

  -- ---- the walk
  -- k itself
  part_of_one : (k : List Step) → EachStep Fits k → PartOf (λ P. P ≡ k)
  part_of_one k fits =
      ⊎_elim (λ l. (k ∷ [], list_of_one J goal k l))
      (λ none. ([], list_of_none J goal (λ P. P ≡ k) (λ P l e. none (subst (Listed J goal) e l))))
      (listed_or_not k fits)

  -- the plans that go on behind k, from those that go on with each step
  module _ (k : List Step) (next : (y : Step) → Fits y → PartOf (Begins (k ++ (y ∷ [])))) where
    part_of_actions : (u : ℕ) → u < T → (a : ℕ) → a ≤ length J.actions → PartOf (GoesOn k (BeforePlace u 0))
        → PartOf (GoesOn k (BeforePlace u a))
    part_of_actions u l zero m p = p
    part_of_actions u l (suc a) m p =
        let q = part_of_actions u l a (omega arith) p in
        let r = next (step_of J a u) (refl, m, l) in
        (q.0 ++ r.0, list_of_next_action J goal k u a q.0 r.0 q.1 r.1)

    part_of_minutes : (u : ℕ) → u ≤ T → PartOf (GoesOn k (BeforePlace u 0))
    part_of_minutes zero l = ([], list_of_nothing_first J goal k)
    part_of_minutes (suc u) l =
        let p = part_of_actions u l (length J.actions) (omega arith) (part_of_minutes u (omega arith)) in
        (p.0, list_of_next_minute J goal k u p.0 p.1)

    part_of_more : PartOf (GoesOn k (λ x. Unit))
    part_of_more =
        let p = part_of_minutes T (omega arith) in
        (p.0, list_of_all_minutes J goal k T passed minimum p.0 p.1)

  -- a listed plan has no step behind 32 others
  pub none_behind_32 : (k : List Step) → 32 ≤ length k → (P : List Step) → Listed J goal P → GoesOn k (λ x. Unit) P → ⊥
  none_behind_32 k long P listed g =
      let few = (listed_by_steps J goal T passed minimum P listed).few_steps in
      let e : length P ≡ length (k ++ (g.step ∷ g.rest)) = ap (λ (Q : List Step). length Q) g.whole in
      let l = length-append k (g.step ∷ g.rest) in
      omega arith

  fits_more : (k : List Step) (y : Step) → EachStep Fits k → Fits y → EachStep Fits (k ++ (y ∷ []))
  fits_more k y fits own x Q i =
      ⊎_elim (λ r. fits x r.0 r.1)
      (λ r. each_cons Fits y [] own (each_step Fits [] tt) x r.0 r.1)
      (append_cases k (y ∷ []) i)

  -- the plans that begin with k, which lacks at most so many steps of 32
  part_of_begins : (lacking : ℕ) (k : List Step) → EachStep Fits k → 32 ≤ length k + lacking → PartOf (Begins k)
  part_of_begins zero k fits long =
      let own = part_of_one k fits in (
        own.0 ++ [],
        list_of_begins J goal k own.0 [] own.1
            (list_of_none J goal (GoesOn k (λ x. Unit)) (none_behind_32 k (omega arith))),
      )
  part_of_begins (suc lacking) k fits long =
      let own = part_of_one k fits in
      let more = part_of_more k
      (λ y fit.
      let l = length-append k (y ∷ []) in
      part_of_begins lacking (k ++ (y ∷ [])) (fits_more k y fits fit) (omega arith)) in
      (own.0 ++ more.0, list_of_begins J goal k own.0 more.0 own.1 more.1)

  pub whole_list_exists : (L : List (List Step)) × WholeList J goal L
  whole_list_exists =
      let all = part_of_begins 32 [] (each_step Fits [] tt) (omega arith) in (
        all.0,
        list_of_same J goal (Begins []) (λ P. Unit) all.0 (λ P listed b. tt) (λ P listed b. (P, refl)) all.1,
      )

  pub plan_at_place_or_ended : (place : ℕ) → ((P : List Step) × AtPlace J goal place P) ⊎ EndsBefore J goal place
  plan_at_place_or_ended = let all = whole_list_exists in at_place_or_ended J goal all.0 all.1
