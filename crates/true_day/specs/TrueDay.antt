-- What a day was once its steps have run their true lengths, sentence by sentence of document 02, g.
-- Assumes nothing.
use Rattle.job.specs.declared.refusal.Refusal.{Refusal}
use Rattle.std.specs.Prelude.{Result}
use Rattle.std.specs.Prelude.{ℕ, ◌≡◌, List, [], ◌∷◌, ◌++◌}
use Rattle.job.specs.Job.{Job}
use Rattle.job.specs.Refusal.{reply_of, Row, ◌when◌, first, reply_by}
use Rattle.job.specs.declared.refusal.Refusal.TheVariants.{TrueLengths}
use Rattle.timeline.specs.declared.Day.{Day}
use Rattle.timeline.specs.Step.{Step, steps_in}
use Rattle.timeline.specs.Day.{told_of, day_of}
use Rattle.timeline.specs.TrueLengths.{with_lengths, wrong_lengths}
use Rattle.checker.specs.Check.{check_rows}

-- "true lengths of the wrong number or outside their range, after all checks of the plan"
unfoldable pub true_rows : Job → List ℕ → List ℕ → List Row
true_rows J bytes lengths = check_rows J bytes ++ (TrueLengths when wrong_lengths J (steps_in J bytes) lengths ∷ [])

-- the plan's steps with their true lengths, "a byte per step"
abbrev pub true_steps : Job → List ℕ → List ℕ → List Step
true_steps J bytes lengths = with_lengths (steps_in J bytes) lengths

-- "A new call takes the true lengths, and returns the true end and peaks", with the number of steps
unfoldable pub true_day : Job → List ℕ → List ℕ → Result Day Refusal
true_day J bytes lengths = day_of (first (true_rows J bytes lengths)) J (true_steps J bytes lengths)

-- the answer to a job, a plan and its true lengths, and the papers' reply
pub record TellsTrueDay (J : Job) (bytes lengths : List ℕ) (answer : Result Day Refusal) : Type 0 where
  pub answers : answer ≡ true_day J bytes lengths
  pub replies : reply_of answer ≡ reply_by (first (true_rows J bytes lengths)) (told_of J (true_steps J bytes lengths))
