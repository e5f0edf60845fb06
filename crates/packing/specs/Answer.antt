-- An answer as one number, packed the same way for every call but a price, which needs more bits.
-- Assumes nothing.
use Rattle.std.specs.Prelude.{ℕ, ◌+◌, ◌*◌, ◌≤◌, ◌<◌, ◌≡◌, List, Some, None, Result, Ok, Err}
use Rattle.job.specs.Refusal.{number}
use Rattle.job.specs.declared.refusal.Refusal.{Refusal}
use Rattle.jobfile.specs.Answers.{Written}
use Rattle.timeline.specs.declared.Day.{Day}
use Rattle.price.specs.Price.{Priced}
use Rattle.earliest.specs.Answer.{EarliestTime}

-- the kind in bits 0 to 7, the refusal's number in 8 to 15, the end in 16 to 47, the number of steps in 48 to 63
unfoldable pub packed : ℕ → ℕ → ℕ → ℕ → ℕ
packed kind refusal end steps = kind + 256 * refusal + 65536 * end + 281474976710656 * steps

-- kind 0: done, with an end (or a time, or a length) and a number of steps
abbrev pub done : ℕ → ℕ → ℕ
done end steps = packed 0 0 end steps

-- kind 1: refused, "alone": the other parts are 0
abbrev pub refusal : Refusal → ℕ
refusal why = packed 1 (number why) 0 0

-- kind 2: a set of facts that is unreachable
abbrev pub unreachable : ℕ
unreachable = packed 2 0 0 0

-- "the writer returns the file's length"
abbrev pub written_number : Written → ℕ
written_number (Ok n) = done n 0
written_number (Err why) = refusal why

-- a day with so many steps told
abbrev pub day_number : Result Day Refusal → ℕ → ℕ
day_number (Ok day) steps = done day.end steps
day_number (Err why) steps = refusal why

-- "the checker returns the end"
abbrev pub checked_number : Result Day Refusal → ℕ
checked_number day = day_number day 0

-- "the planner returns the end and number of steps"
abbrev pub planned_number : Result Day Refusal → ℕ
planned_number (Ok day) = done day.end day.steps
planned_number (Err why) = refusal why

-- the peaks of a day in a lent array; beside a refusal it is as it was
abbrev pub peaks_by : Result Day Refusal → List ℕ → List ℕ
peaks_by (Ok day) before = day.peaks
peaks_by (Err why) before = before

-- kind 0 of a price: the cents in bits 8 to 63. A refusal is the same number as in every call
unfoldable pub cost : ℕ → ℕ
cost cents = 256 * cents

-- a price, or why there is none
abbrev pub priced_number : Priced → ℕ
priced_number (Ok cents) = cost cents
priced_number (Err why) = refusal why

-- "a time is a number or 'unreachable'"
abbrev pub time_number : EarliestTime → ℕ
time_number (Ok (Some x)) = done x 0
time_number (Ok None) = unreachable
time_number (Err why) = refusal why

-- ---- what inner functions ask: the numbers fit their bits

-- a file has at most 4,096 bytes
abbrev pub ShortFile : Written → Type 0
ShortFile answer = (n : ℕ) → answer ≡ Ok n → n ≤ 4096

-- a price has at most 56 bits
abbrev pub SmallPrice : Priced → Type 0
SmallPrice answer = (cents : ℕ) → answer ≡ Ok cents → cents < 72057594037927936

-- a day has at most 32 steps
abbrev pub FewSteps : Result Day Refusal → Type 0
FewSteps answer = (day : Day) → answer ≡ Ok day → day.steps ≤ 32
