-- The refusals: the number of each, the first of a table that holds, and the reply that it makes.
-- Assumes nothing.
use Rattle.std.specs.Prelude.{ℕ, Bool, true, false, List, [], ◌∷◌, Result, Ok, Err}
use Rattle.job.specs.declared.refusal.Refusal.{Refusal}
use Rattle.job.specs.declared.refusal.Refusal.TheVariants as why

infix 75 ◌when◌
-- the column "No." of the table
abbrev pub number : Refusal → ℕ
number why.FileSize = 1
number why.Offsets = 2
number why.BodySizes = 3
number why.FactCount = 4
number why.Deadline = 5
number why.ForeignFact = 6
number why.Availability = 7
number why.ZeroDuration = 8
number why.ForeignActionFact = 9
number why.AddedAndDeleted = 10
number why.ActionUse = 11
number why.PlanSize = 12
number why.UnknownAction = 13
number why.StepOrder = 14
number why.AfterDeadline = 15
number why.Clash = 16
number why.PoolExceeded = 17
number why.StoreExceeded = 18
number why.NeedMissing = 19
number why.GoalMissing = 20
number why.PlanSlice = 21
number why.NoPlan = 22
number why.FileSlice = 23
number why.ForeignAskedFact = 24
number why.RateOver = 25
number why.UseBeyond = 26
number why.HandoverOver = 27
number why.ListEnded = 28
number why.ShortestLength = 29
number why.TrueLengths = 30
number why.ReserveOver = 31
number why.PoolTooLarge = 32
number why.PoolUnlike = 33
number why.JoinedTooLong = 34
number why.NoPlanWithKept = 35

-- what a test of a whole table answers: that none holds, or the first refusal that does
abbrev pub Verdict : Type 0
Verdict = Result Unit Refusal

abbrev pub pass : Verdict
pass = Ok tt

-- a row of the table: the refusal, and whether it holds
pub data Row : Type 0 where
  ◌when◌ : Refusal → Bool → Row

-- "Of the refusals that hold, the one standing first in the table is returned, alone."
unfoldable pub first : List Row → Verdict
first [] = pass
first (why when true ∷ rows) = Err why
first (why when false ∷ rows) = first rows

-- "Of the refusals that hold, the one standing first in the table is returned, alone", or else what the call returns
abbrev pub answer_by : {A : Type 0} → Verdict → A → Result A Refusal
answer_by (Ok _) value = Ok value
answer_by (Err why) value = Err why

-- what an answer says of the tests: that it passes, or its refusal
abbrev pub verdict_of : {A : Type 0} → Result A Refusal → Verdict
verdict_of (Ok value) = pass
verdict_of (Err why) = Err why

-- a reply as the papers name it: a refusal by its number, or what the call returns
pub data Reply (A : Type 0) : Type 0 where
  refused : ℕ → Reply A
  returned : A → Reply A

-- the reply that an answer makes
abbrev pub reply_of : {A : Type 0} → Result A Refusal → Reply A
reply_of (Ok value) = returned value
reply_of (Err why) = refused (number why)

-- the first refusal that holds, "alone", or else what the call returns
abbrev pub reply_by : {A : Type 0} → Verdict → A → Reply A
reply_by (Ok _) value = returned value
reply_by (Err why) value = refused (number why)
