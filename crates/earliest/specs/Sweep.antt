-- One sweep over all choices: what is settled where no entry fell.
-- Assumes nothing.
use Rattle.std.specs.Prelude.{ℕ, ◌+◌, ◌≤◌, ◌<◌, max, ◌≡◌, Bool, true, false, not, ◌&&◌, ◌||◌, List, eqb, ltb, length, get_or}
use Rattle.lists.specs.Lists.{firsts, any_below}
use Rattle.facts.specs.FactSet.{has, union, difference, single}
use Rattle.job.specs.declared.Action as value
use Rattle.job.specs.declared.Counts.{Counts}
use Rattle.job.specs.Job.{Action, Job, action_in}
use Rattle.job.specs.Valid.{over}
use Rattle.timeline.specs.Timeline.{hinders}
use Rattle.times.specs.Earliest.{action_of, fits_alone, fit_together, Solves}
use Rattle.times.specs.Numbers.{table_in}
use Rattle.earliest.specs.Numbers.{set_number, after_number}
use Rattle.earliest.specs.Lowering.{Lowerable, Lowering, RowAtMost, AllAtMost}

-- the number of the minute at which an action ends that starts when the set is there
abbrev pub end_number : Job → List ℕ → Action → ℕ → ℕ
end_number J xs a set = after_number a.duration (set_number xs set J.facts)

-- choice (i): the entries of what action i adds; its duration is that of a value, one byte
abbrev pub BothSettled : Job → ℕ → List ℕ → Type 0
BothSettled J i xs =
    let a = action_of J i in
    (a.duration ≤ 255) × AllAtMost J.facts a.adds a.adds (end_number J xs a a.needs) J.facts xs

-- choice (ii): the entries of what action i adds with a fact q, where it neither adds nor deletes q
abbrev pub CarriedSettled : Job → ℕ → ℕ → List ℕ → Type 0
CarriedSettled J i q xs =
    let a = action_of J i in
    has (union a.adds a.deletes) q ≡ false
    → RowAtMost q a.adds (end_number J xs a (union a.needs (single q))) J.facts xs

abbrev pub OneSettled : Job → ℕ → List ℕ → Type 0
OneSettled J i xs = (q : ℕ) → q < J.facts → CarriedSettled J i q xs

-- the number of the minute at which two actions have both ended, a the longer one
abbrev pub both_end_number : Job → List ℕ → Action → Action → ℕ
both_end_number J xs a b = max (end_number J xs a a.needs) (end_number J xs b (union a.needs b.needs))

-- choice (iii): the entries of what only action i adds with what only action j adds
abbrev pub PairSettled : Job → ℕ → ℕ → List ℕ → Type 0
PairSettled J i j xs =
    let a = action_of J i in
    let b = action_of J j in
    AllAtMost J.facts (difference a.adds b.adds) (difference b.adds a.adds) (both_end_number J xs a b)
    J.facts xs

-- of actions i and j with durations d and e, i is the longer one, or as long and has the higher number
abbrev pub is_longer : ℕ → ℕ → ℕ → ℕ → Bool
is_longer d e i j = ltb e d || (eqb d e && ltb j i)

-- i and j may be chosen together, i the longer one
abbrev pub may_join : Job → ℕ → ℕ → Bool
may_join J i j =
    let a = action_of J i in
    let b = action_of J j in
    is_longer a.duration b.duration i j && (not (hinders a b || hinders b a) && fit_together J a b)

abbrev pub EachSettled : Job → ℕ → List ℕ → Type 0
EachSettled J i xs = (j : ℕ) → j < length J.actions → may_join J i j ≡ true → PairSettled J i j xs

-- all choices with action i, as the longer one of two
pub record ActionSettled (J : Job) (i : ℕ) (xs : List ℕ) : Type 0 where
  pub both : BothSettled J i xs
  pub one : OneSettled J i xs
  pub each : EachSettled J i xs

-- the same, where the action fits
abbrev pub ActionDone : Job → ℕ → List ℕ → Type 0
ActionDone J i xs = fits_alone J (action_of J i) ≡ true → ActionSettled J i xs

abbrev pub ActionsDone : Job → List ℕ → Type 0
ActionsDone J xs = (i : ℕ) → i < length J.actions → ActionDone J i xs

-- the entries of the facts that hold at the start
abbrev pub StartDone : Job → List ℕ → Type 0
StartDone J xs = AllAtMost J.facts J.start J.start 0 J.facts xs

-- the start, and all choices
pub record Settled (J : Job) (xs : List ℕ) : Type 0 where
  pub start : StartDone J xs
  pub actions : ActionsDone J xs

-- ---- what inner functions promise

-- the value is action i of a job with so many facts
pub record IsAction (J : Job) (facts i : ℕ) (n : Counts) (action : value.Action) : Type 0 where
  pub same_facts : J.facts ≡ facts
  pub known : i < length J.actions
  pub same : action_of J i ≡ action_in n action

-- the action, started when its needs are there, ends then; its duration is one byte
abbrev pub EndsAt : ℕ → value.Action → List ℕ → ℕ → Type 0
EndsAt facts action xs time =
    (time ≡ after_number action.duration (set_number xs action.needs facts)) × (action.duration < 256)

abbrev pub LowersBoth : ℕ → value.Action → List ℕ → List ℕ → Bool → Type 0
LowersBoth facts action xs ys changed =
    (J : Job) (i : ℕ) (n : Counts) → Lowerable J xs → IsAction J facts i n action → fits_alone J (action_of J i) ≡ true
    → Lowering J (BothSettled J i) xs ys changed

abbrev pub LowersCarried : ℕ → value.Action → ℕ → List ℕ → List ℕ → Bool → Type 0
LowersCarried facts action q xs ys changed =
    (J : Job) (i : ℕ) (n : Counts) → Lowerable J xs → IsAction J facts i n action → fits_alone J (action_of J i) ≡ true
    → q < facts → Lowering J (CarriedSettled J i q) xs ys changed

abbrev pub LowersOne : ℕ → value.Action → List ℕ → List ℕ → Bool → Type 0
LowersOne facts action xs ys changed =
    (J : Job) (i : ℕ) (n : Counts) → Lowerable J xs → IsAction J facts i n action → fits_alone J (action_of J i) ≡ true
    → Lowering J (OneSettled J i) xs ys changed

abbrev pub LowersPair : ℕ → value.Action → value.Action → List ℕ → List ℕ → Bool → Type 0
LowersPair facts a b xs ys changed =
    (J : Job) (i j : ℕ) (n : Counts) → Lowerable J xs → IsAction J facts i n a → IsAction J facts j n b
    → may_join J i j ≡ true → Lowering J (PairSettled J i j) xs ys changed

-- ---- which actions may be chosen, from their values

-- the action uses no more of each pool than there is
abbrev pub fits_alone_in : ℕ → List ℕ → value.Action → Bool
fits_alone_in pools available a = not (any_below pools (λ k. over (get_or available k 0) (get_or a.pools k 0)))

-- the two use no more of each pool than there is
abbrev pub fit_together_in : ℕ → List ℕ → value.Action → value.Action → Bool
fit_together_in pools available a b =
    not (any_below pools (λ k. over (get_or available k 0) (get_or a.pools k 0 + get_or b.pools k 0)))

-- the job has these pools
pub record HasPools (J : Job) (n : Counts) (pools : ℕ) (available : List ℕ) : Type 0 where
  pub same_count : n.pools ≡ pools
  pub same : J.pools ≡ firsts pools 0 available

abbrev pub MayJoin : ℕ → List ℕ → ℕ → ℕ → value.Action → value.Action → Bool → Type 0
MayJoin pools available i j a b answer =
    (J : Job) (n : Counts) → HasPools J n pools available → action_of J i ≡ action_in n a → action_of J j ≡ action_in n b
    → answer ≡ may_join J i j

abbrev pub JoinedSettled : Job → ℕ → ℕ → List ℕ → Type 0
JoinedSettled J i j xs = may_join J i j ≡ true → PairSettled J i j xs

abbrev pub LowersJoined : ℕ → ℕ → List ℕ → ℕ → ℕ → value.Action → value.Action → List ℕ → List ℕ → Bool → Type 0
LowersJoined facts pools available i j a b xs ys changed =
    (J : Job) (n : Counts) → Lowerable J xs → HasPools J n pools available → IsAction J facts i n a
    → IsAction J facts j n b → Lowering J (JoinedSettled J i j) xs ys changed

-- ---- the loops over a job

-- a job's table
abbrev pub LowersEach : Job → ℕ → List ℕ → List ℕ → Bool → Type 0
LowersEach J i xs ys changed = Lowerable J xs → Lowering J (EachSettled J i) xs ys changed

abbrev pub LowersAction : Job → ℕ → List ℕ → List ℕ → Bool → Type 0
LowersAction J i xs ys changed = Lowerable J xs → Lowering J (ActionDone J i) xs ys changed

abbrev pub Sweeps : Job → List ℕ → List ℕ → Bool → Type 0
Sweeps J xs ys changed = Lowerable J xs → Lowering J (ActionsDone J) xs ys changed

-- the table holds the job's earliest times
pub record Filled (J : Job) (xs : List ℕ) : Type 0 where
  pub able : Lowerable J xs
  pub solves : Solves J (table_in xs)
