-- A day planned in two halves, from the first plans of both lists and the call `join`.
-- Assumes nothing.
use Rattle.std.specs.Prelude.{Option, Some, None}
use Rattle.std.specs.Option.{option_flatten}
use Rattle.leaf.specs.declared.Answer.{Answer}
use Rattle.job.specs.declared.refusal.Refusal.{Refusal}
use Rattle.std.specs.Prelude.{Result, Ok, Err}
use Prim.Native.Nat.{ℕ, zero, suc, ◌*◌, ◌≤◌}
use mathlib.Core.Path.{◌≡◌, subst}
use mathlib.Core.Bool.{true, false}
use mathlib.Core.List.{List, [], ◌∷◌}
use native.Mathlib.Omega.{arith}
use lib.ListN.{length, take}
use Rattle.facts.specs.FactSet.{foreign}
use Rattle.job.specs.Job.{Job}
use Rattle.job.specs.Passed.{Passed}
use Rattle.job.specs.Refusal.{first}
use Rattle.job.specs.Valid.{job_rows}
use Rattle.job.specs.declared.refusal.Refusal.TheVariants.{NoPlan}
use Rattle.job.specs.Refusal.{pass}
use Rattle.job.proofs.Passed.{passed}
use Rattle.timeline.specs.Step.{Step, steps_in, plan_bytes}
use Rattle.timeline.specs.Accepted.{Accepted}
use Rattle.timeline.specs.declared.Day.{Day}
use Rattle.leaf.specs.Answer.{bytes_in}
use Rattle.joining.specs.Answer.{Joins}
use Rattle.listing.specs.Place.{AtPlace}
use Rattle.walker.specs.Page.{Page}
use Rattle.walker.specs.Walk.{Tells}
use Rattle.walker.specs.Page.{PageOf}
use Rattle.halving.specs.Afternoon.{afternoon}
use Rattle.halving.specs.Halves.{FirstListed, Halves}
use Rattle.halving.proofs.Afternoons.{afternoon_within}
use Rattle.halving.proofs.FirstPlans.{FirstPlan, first_of_page}
use Rattle.halving.proofs.FromJoin.{halves_joined}
use Rattle.halving.proofs.WaysOut.{halves_without_first, halves_without_second, halves_both}

-- what has its full length is no longer than the list that it is taken from
taken_inside : (n : ℕ) (l : List ℕ) → length (take n l) ≡ n → n ≤ length l
taken_inside zero [] h = omega arith
taken_inside zero (x ∷ l) h = omega arith
taken_inside (suc n) [] h = let z : 0 ≡ suc n = h in absurd (omega arith)
taken_inside (suc n) (x ∷ l) h =
    let z : suc (length (take n l)) ≡ suc n = h in
    let r = taken_inside n l (omega arith) in
    omega arith

module _ (J : Job) (halfway : ℕ) (slice : List ℕ) (valid : first (job_rows J) ≡ pass)
    (own : foreign J.facts halfway ≡ false) (page : Page) (of : PageOf J halfway 0 page) where
  first_told : FirstPlan J halfway (option_flatten page)
  first_told = first_of_page J halfway (passed J valid) page of

  pub no_first : 96 ≤ length slice → option_flatten page ≡ None → (r : Result Day Refusal) → r ≡ Err NoPlan
      → Halves FirstListed J halfway slice r slice
  no_first room none r d =
      halves_without_first FirstListed J halfway slice r valid own room d (first_told.none none)

  module _ (morning : Answer) (is : option_flatten page ≡ Some morning) where
    first_plan : (P : List Step) × AtPlace J halfway 0 P × Tells J halfway J.deadline morning P
    first_plan = first_told.found morning is

    abbrev A : List Step
    A = first_plan.0

    pub first_few : morning.count ≤ 32
    first_few = first_plan.2.found.few

    pub first_inside : 3 * morning.count ≤ length morning.plan
    first_inside = taken_inside (3 * morning.count) morning.plan first_plan.2.found.whole

    pub first_whole : length (bytes_in morning) ≡ 3 * morning.count
    first_whole = first_plan.2.found.whole

    pub first_accepted : Accepted J halfway (bytes_in morning)
    first_accepted = first_plan.2.found.accepted

    -- the job of the afternoon is within its limits
    within : Passed (afternoon J A)
    within = afternoon_within J valid halfway A first_plan.1.listed.accepted first_plan.1.listed.in_bytes

    module _ (room : 96 ≤ length slice) (second_page : Page)
        (of_later : PageOf (afternoon J (steps_in J (bytes_in morning))) J.goal 0 second_page) where
      second_told : FirstPlan (afternoon J A) J.goal (option_flatten second_page)
      second_told =
          first_of_page (afternoon J A) J.goal within second_page
          (subst (λ (P : List Step). PageOf (afternoon J P) J.goal 0 second_page) first_plan.2.steps of_later)

      pub no_second : option_flatten second_page ≡ None → (r : Result Day Refusal) → r ≡ Err NoPlan
          → Halves FirstListed J halfway slice r slice
      no_second none r d =
          let least = first_told.some morning is in
          halves_without_second FirstListed J halfway slice r valid own room least.0 least.1 A
          first_plan.1 d (second_told.none none)

      module _ (later : Answer) (second_is : option_flatten second_page ≡ Some later) where
        second_plan : (P : List Step) × AtPlace (afternoon J A) J.goal 0 P
            × Tells (afternoon J A) J.goal (afternoon J A).deadline later P
        second_plan = second_told.found later second_is

        pub second_few : later.count ≤ 32
        second_few = second_plan.2.found.few

        pub second_inside : 3 * later.count ≤ length later.plan
        second_inside = taken_inside (3 * later.count) later.plan second_plan.2.found.whole

        pub second_whole : length (bytes_in later) ≡ 3 * later.count
        second_whole = second_plan.2.found.whole

        pub both_joined : (r : Result Day Refusal) (after : List ℕ)
            → Joins J (bytes_in morning) (bytes_in later) slice r after
            → Halves FirstListed J halfway slice r after
        both_joined r after joins =
            let B : List Step = second_plan.0 in
            let one = first_plan.1.listed in
            let two = second_plan.1.listed in
            let least = first_told.some morning is in
            let last = second_told.some later second_is in
            halves_both FirstListed J halfway slice r valid own room least.0 least.1 A
            first_plan.1 after last.0 last.1 B second_plan.1
            (halves_joined J valid halfway A B one.accepted one.in_bytes two.accepted two.in_bytes slice r
            after room
            (subst (λ (a : List ℕ). Joins J a (plan_bytes B) slice r after) first_plan.2.bytes
            (subst (λ (b : List ℕ). Joins J (bytes_in morning) b slice r after) second_plan.2.bytes
            joins)))
