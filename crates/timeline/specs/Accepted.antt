-- When a plan is accepted: tests 12 to 20, in the order of the table.
-- Assumes nothing.
use Rattle.std.specs.Prelude.{ℕ, ◌%◌, ◌≡◌, Bool, not, ◌&&◌, ◌||◌, List, [], ◌∷◌, ◌++◌, eqb, leb, length, get_or}
use Rattle.lists.specs.Lists.{any, any_below}
use Rattle.facts.specs.FactSet.{subset}
use Rattle.job.specs.Job.{Job}
use Rattle.job.specs.Resources.{store_cap}
use Rattle.job.specs.Refusal.{Row, ◌when◌, first}
use Rattle.job.specs.Valid.{over}
use Rattle.job.specs.declared.refusal.Refusal.TheVariants.{PlanSize, UnknownAction, StepOrder, AfterDeadline, Clash}
use Rattle.job.specs.declared.refusal.Refusal.TheVariants.{PoolExceeded, StoreExceeded, NeedMissing, GoalMissing}
use Rattle.job.specs.Refusal.{pass}
use Rattle.timeline.specs.Step.{Step, steps_in, strictly_rising, any_pair, largest}
use Rattle.timeline.specs.Timeline.{end, clash, overlap, held, free, in_use, used_up}

-- "bytes not a multiple of 3 or over 96"
abbrev pub wrong_size : List ℕ → Bool
wrong_size bytes = not (eqb (length bytes % 3) 0) || over 96 (length bytes)

-- "action number not in the job"
abbrev pub unknown : Job → Step → Bool
unknown J x = leb (length J.actions) x.number

-- "Steps that share a minute mustn't clash."
abbrev pub clashing : Step → Step → Bool
clashing x y = overlap x y && clash x y

-- "In each minute the uses of the running steps add up to no more than each pool has."
abbrev pub exceeds_pool : Job → List Step → ℕ → Bool
exceeds_pool J P pool = any_below (largest (free J pool) P) (λ t. over (get_or J.pools pool 0) (in_use J pool t P))

-- "Over the plan the uses add up to no more than each store has."
abbrev pub exceeds_store : Job → List Step → ℕ → Bool
exceeds_store J P store = over (store_cap J store) (used_up J store P)

-- "A step's needed facts hold at its start."
abbrev pub lacks_need : Job → List Step → Step → Bool
lacks_need J P x = not (subset x.action.needs (held J.start P x.start))

-- "the goal holds at the plan's end"
abbrev pub lacks_goal : Job → ℕ → List Step → Bool
lacks_goal J goal P = not (subset goal (held J.start P (end P)))

-- tests 13 to 15 of the steps
abbrev pub order_rows : Job → List Step → List Row
order_rows J P =
    UnknownAction when any (unknown J) P
    ∷ StepOrder when not (strictly_rising P)
    ∷ AfterDeadline when any (λ x. over J.deadline x.stop) P
    ∷ []

-- tests 16 to 19: what the steps do to each other
abbrev pub rule_rows : Job → List Step → List Row
rule_rows J P =
    Clash when any_pair clashing P
    ∷ PoolExceeded when any_below (length J.pools) (exceeds_pool J P)
    ∷ StoreExceeded when any_below (length J.stores) (exceeds_store J P)
    ∷ NeedMissing when any (lacks_need J P) P
    ∷ []

-- tests 12 to 15: what "any two plans" must pass to be joined
unfoldable pub shape_rows : Job → List ℕ → List Row
shape_rows J bytes = PlanSize when wrong_size bytes ∷ order_rows J (steps_in J bytes)

-- tests 13 to 20 of the steps
unfoldable pub step_rows : Job → ℕ → List Step → List Row
step_rows J goal P = order_rows J P ++ (rule_rows J P ++ (GoalMissing when lacks_goal J goal P ∷ []))

-- test 12 of the bytes, then those of the steps
unfoldable pub plan_rows : Job → ℕ → List ℕ → List Row
plan_rows J goal bytes = PlanSize when wrong_size bytes ∷ step_rows J goal (steps_in J bytes)

-- tests 12 to 19, of a plan that is asked for no goal
unfoldable pub run_rows : Job → List ℕ → List Row
run_rows J bytes =
    PlanSize when wrong_size bytes ∷ (order_rows J (steps_in J bytes) ++ rule_rows J (steps_in J bytes))

-- "A plan is accepted for a goal set exactly if, by these rules and with that set as the goal, none of 12 to 20 is
-- true of it."
abbrev pub Accepted : Job → ℕ → List ℕ → Type 0
Accepted J goal bytes = first (plan_rows J goal bytes) ≡ pass
