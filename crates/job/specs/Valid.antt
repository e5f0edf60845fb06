-- Tests 3 to 11, 26, 27, 29 and 31 of a job, in the order of the table.
-- Assumes nothing.
use Rattle.std.specs.Prelude.{ℕ, Bool, ◌||◌, List, [], ◌∷◌, ◌++◌, eqb, ltb, length, get_or}
use Rattle.lists.specs.Lists.{any, any_below}
use Rattle.facts.specs.FactSet.{meets, foreign}
use Rattle.job.specs.declared.refusal.Refusal.TheVariants.{BodySizes, FactCount, Deadline, ForeignFact}
use Rattle.job.specs.declared.refusal.Refusal.TheVariants.{Availability, ZeroDuration, ForeignActionFact}
use Rattle.job.specs.declared.refusal.Refusal.TheVariants.{AddedAndDeleted, ActionUse, UseBeyond, HandoverOver}
use Rattle.job.specs.declared.refusal.Refusal.TheVariants.{ShortestLength, ReserveOver}
use Rattle.job.specs.declared.validate.Broken.{Broken}
use Rattle.job.specs.Job.{Action, Job}
use Rattle.job.specs.Resources.{store_amount, store_cap}
use Rattle.job.specs.Lengths.{longest_of, shortest_of}
use Rattle.job.specs.Refusal.{Row, ◌when◌}

-- x is over the limit
abbrev pub over : ℕ → ℕ → Bool
over limit x = ltb limit x

-- a rule for every action: tests 8, 9, 10 and 11
pub data ActionRule : Type 0 where
  Duration : ActionRule
  Facts : ActionRule
  Effects : ActionRule
  Uses : ActionRule

-- "length 0"; "set bit at or above the number of facts"; "a fact both added and deleted"; "use over 1,000,000"
abbrev pub breaks : ActionRule → ℕ → Action → Bool
breaks Duration facts a = eqb a.duration 0
breaks Facts facts a = foreign facts a.needs || foreign facts a.adds || foreign facts a.deletes
breaks Effects facts a = meets a.adds a.deletes
breaks Uses facts a = any (over 1000000) (a.pools ++ a.stores)

-- the rules where a test holds, as the program tells them
abbrev pub broken_where : (ActionRule → Bool) → Broken
broken_where test =
    record { duration = test Duration; facts = test Facts; effects = test Effects; uses = test Uses }

-- those of one or the other
abbrev pub either_broken : Broken → Broken → Broken
either_broken x y =
    record {
      duration = x.duration || y.duration;
      facts = x.facts || y.facts;
      effects = x.effects || y.effects;
      uses = x.uses || y.uses;
    }

-- "a shortest length 0 or over the longest": of two lengths, and of the action with the number i
abbrev pub wrong_range : ℕ → ℕ → Bool
wrong_range shortest longest = eqb shortest 0 || over longest shortest

abbrev pub has_wrong_range : Job → ℕ → Bool
has_wrong_range J i = wrong_range (shortest_of J i) (longest_of J i)

-- tests 8 to 11: each over all actions; 29 stands "after 8 and before 9"
unfoldable pub action_rows : Job → List Row
action_rows J =
    ZeroDuration when any (breaks Duration J.facts) J.actions
    ∷ ShortestLength when any_below (length J.actions) (has_wrong_range J)
    ∷ ForeignActionFact when any (breaks Facts J.facts) J.actions
    ∷ AddedAndDeleted when any (breaks Effects J.facts) J.actions
    ∷ ActionUse when any (breaks Uses J.facts) J.actions
    ∷ []

-- the limits, tests 3 to 11: "3: over four pools, four stores or 64 actions"; "over 64 facts"; "deadline over 1,440";
-- then 31, "a reserve over 50", "after 5 and before 6";
-- "start or goal bit at or above the number of facts"; "availability over 1,000,000"; then 27, "a handover over 30",
-- "after 7 and before 8"; then the actions
unfoldable pub limit_rows : Job → List Row
limit_rows J =
    BodySizes when (over 4 (length J.pools) || over 4 (length J.stores) || over 64 (length J.actions))
    ∷ FactCount when over 64 J.facts
    ∷ Deadline when over 1440 J.deadline
    ∷ ReserveOver when over 50 J.reserve
    ∷ ForeignFact when (foreign J.facts J.start || foreign J.facts J.goal)
    ∷ Availability when any (over 1000000) (J.pools ++ J.stores)
    ∷ HandoverOver when any (over 30) J.handovers
    ∷ action_rows J

-- "an action uses more of a pool or store than is available"
unfoldable pub uses_beyond : Job → Action → Bool
uses_beyond J a =
    any_below (length J.pools) (λ pool. over (get_or J.pools pool 0) (get_or a.pools pool 0))
    || any_below (length J.stores) (λ store. over (store_cap J store) (store_amount J store a))

-- then 26, "after 11 and before 12": it refuses, and no law rests on it
unfoldable pub job_rows : Job → List Row
job_rows J = limit_rows J ++ (UseBeyond when any (uses_beyond J) J.actions ∷ [])
