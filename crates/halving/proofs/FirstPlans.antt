-- The first plan of the list: where some plan is accepted there is one, and it is accepted.
-- Assumes nothing.
use Rattle.std.specs.Prelude.{Option, Some, None}
use Rattle.std.specs.Option.{option_flatten}
use Rattle.leaf.specs.declared.Answer.{Answer}
use Rattle.timeline.specs.Step.{Step}
use Rattle.listing.specs.Place.{AtPlace}
use Rattle.makespan.specs.Makespan.{makespan, ends_at, no_plan}
use Rattle.walker.specs.Walk.{Tells}
use mathlib.Core.Path.{ap, refl, ◌≡◌}
use mathlib.Core.List.{List}
use Prim.Native.Nat.{ℕ}
use mathlib.Core.Bool.{true}
use mathlib.Core.Logic.{⊎_elim}
use mathlib.Core.List.{[]}
use Rattle.job.specs.Job.{Job}
use Rattle.job.specs.Passed.{Passed}
use Rattle.timeline.proofs.Tests.{decided}
use Rattle.makespan.proofs.LeastEnds.{least_end_of_makespan, nothing_begun}
use Rattle.listing.proofs.ListedPlans.{shortest_of_least}
use Rattle.listing.proofs.Exists.{not_ended_at_first}
use Rattle.walker.specs.Page.{Page}
use Rattle.walker.specs.Page.{PageOf}
use Rattle.halving.specs.Halves.{FirstListed}
use Rattle.halving.proofs.PlannedHalves.{FirstAccepted}

pub first_listed_accepted : FirstAccepted FirstListed
first_listed_accepted J goal P passed at = (at.listed.accepted, at.listed.in_bytes)

-- the first plan of the list, or none where no plan is accepted
pub record FirstPlan (J : Job) (goal : ℕ) (r : Option Answer) : Type 0 where
  pub none : r ≡ None → makespan J goal ≡ no_plan
  pub some : (a : Answer) → r ≡ Some a → (T : ℕ) × (makespan J goal ≡ ends_at T)
  pub found : (a : Answer) → r ≡ Some a → (P : List Step) × AtPlace J goal 0 P × Tells J goal J.deadline a P

-- a page at place 0 has a plan wherever some plan is accepted
pub first_of_page : (J : Job) (goal : ℕ) → Passed J → (page : Page) → PageOf J goal 0 page
    → FirstPlan J goal (option_flatten page)
first_of_page J goal passed None of =
    record { none = λ e. of.none refl; some = λ a e. cc; found = λ a e. cc }
first_of_page J goal passed (Some None) of =
    let least = of.some None refl in
    let minimum = shortest_of_least J goal least.0
    (least_end_of_makespan J goal 0 [] passed (nothing_begun J) least.0 least.1) in
    record {
      none = λ e. absurd (not_ended_at_first J goal least.0 passed minimum (of.ended refl));
      some = λ a e. cc;
      found = λ a e. cc;
    }
first_of_page J goal passed (Some (Some b)) of =
    record { none = λ e. cc; some = λ a e. of.some (Some b) refl; found = λ a e. of.found a (ap Some e) }
