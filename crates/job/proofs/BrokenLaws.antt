-- Tests 8 to 11 of a job's actions, all four in one pass, and 29 among them.
-- Assumes nothing.
use Prim.Native.Nat.{ℕ, ◌+◌}
use mathlib.Core.Path.{◌≡◌, refl, ap}
use mathlib.Core.Bool.{Bool, false}
use mathlib.Core.List.{List, [], ◌∷◌}
use lib.ListN.{length}
use Rattle.lists.specs.Lists.{tabulate, any, any_below}
use Rattle.lists.proofs.Any.{any_next}
use Rattle.job.specs.declared.validate.Broken.{Broken}
use Rattle.job.specs.declared.refusal.Refusal.TheVariants.{ZeroDuration, ShortestLength, ForeignActionFact}
use Rattle.job.specs.declared.refusal.Refusal.TheVariants.{AddedAndDeleted, ActionUse}
use Rattle.job.specs.Job.{Action, Job}
use Rattle.job.specs.Refusal.{Row, ◌when◌}
use Rattle.job.specs.Valid.{breaks, broken_where, either_broken, has_wrong_range, action_rows}

-- the rules that some of the actions break
abbrev pub broken_in : ℕ → List Action → Broken
broken_in facts actions = broken_where (λ rule. any (breaks rule facts) actions)

module _ (facts : ℕ) (f : ℕ → Action) where
  pub broken_start : broken_where (λ rule. false) ≡ broken_in facts (tabulate 0 f)
  unfolding any tabulate
  broken_start = refl

  pub broken_next : (i : ℕ) → broken_in facts (tabulate (i + 1) f)
      ≡ either_broken (broken_in facts (tabulate i f)) (broken_where (λ rule. breaks rule facts (f i)))
  broken_next i = λ j. broken_where (λ rule. any_next (breaks rule facts) f i j)

-- the table of tests 8 to 11 and 29 by what was found
abbrev pub broken_rows : Broken → Bool → List Row
broken_rows broken range =
    ZeroDuration when broken.duration
    ∷ ShortestLength when range
    ∷ ForeignActionFact when broken.facts
    ∷ AddedAndDeleted when broken.effects
    ∷ ActionUse when broken.uses
    ∷ []

pub rows_of_broken : (J : Job) (broken : Broken) → broken ≡ broken_in J.facts J.actions
    → broken_rows broken (any_below (length J.actions) (has_wrong_range J)) ≡ action_rows J
unfolding action_rows
rows_of_broken J broken e =
    ap (λ (b : Broken). broken_rows b (any_below (length J.actions) (has_wrong_range J))) e
