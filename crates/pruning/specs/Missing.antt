-- Tests of a state against what is missing: the landmarks of what must hold at its minute.
-- Assumes nothing.
use Rattle.std.specs.Prelude.{ℕ, ◌+◌, ◌*◌, ◌<◌, ◌≡◌, Bool, false, List, leb, length, get_or}
use Rattle.facts.specs.FactSet.{union, difference}
use Rattle.job.specs.Job.{Job}
use Rattle.job.specs.Resources.{store_amount}
use Rattle.regression.specs.DeadEnd.{Until}
use Rattle.timeline.specs.Step.{total}
use Rattle.tables.specs.Tables.{Describes, DescribesEach, chosen_to, chosen, kept_of, from_of, KeepsKept}
use Rattle.tables.specs.declared.Steps.{Steps}
use Rattle.tables.specs.declared.Frame.{Frame}
use Rattle.landmarks.specs.Landmarks.{marks_of, sum_over, Shares, minutes_in}
use Rattle.landmarks.specs.Bounds.{AddedByNew}
use Rattle.landmarks.specs.Openings.{OpensAt, open_at}
use Rattle.landmarks.specs.Tables.{mark_at, share_from, row_at}
use Rattle.cliques.specs.Cliques.{Cliques, apart_at, least_at}
use Rattle.states.specs.declared.state.State.{State}
use Rattle.states.specs.States.{Stands, DeadFor}

-- the tables have landmarks, shares, openings and cliques of the job, for plans with the kept steps
pub record Marked (J : Job) (sets numbers : List ℕ) (frame : Frame) : Type 0 where
  pub hand : ℕ
  pub landmarks : AddedByNew J frame.first (kept_of J frame) frame.given hand 64 (mark_at sets)
  pub stores : (store : ℕ) → store < 4 → store < length J.stores
      → Shares J hand (share_from numbers (row_at store)) 64 (λ a. 2520 * store_amount J store a)
  pub pools : (pool : ℕ) → pool < 4 → pool < length J.pools
      → Shares J hand (share_from numbers (row_at (4 + pool))) 64
      (λ a. 2520 * (get_or a.pools pool 0 * a.duration))
  pub steps : Shares J hand (share_from numbers (row_at 8)) 64 (λ a. 2520 * 1)
  pub opens : (pool : ℕ) → pool < 4 → pool < length J.pools
      → OpensAt J frame.first (kept_of J frame) pool (open_at numbers pool + frame.origin)
  pub cliques : Cliques J frame.first (kept_of J frame) 64 (apart_at sets) (least_at numbers)

-- the chosen steps all stop after the state's minute
abbrev pub Fresh : State → Type 0
Fresh st = st.since ≡ st.steps.count

-- the landmarks of what must hold at the state's minute, less what kept steps may have given
abbrev pub Missing : List ℕ → Frame → State → ℕ → Type 0
Missing sets frame st missing =
    missing ≡ difference (marks_of (mark_at sets) 64 (union st.wanted st.at.across)) frame.given

-- a fresh state of which the test is false is a dead end
abbrev pub DeadUnlessSuffices : List ℕ → List ℕ → Frame → State → Bool → Type 0
DeadUnlessSuffices sets numbers frame st test =
    test ≡ false → (J : Job) → Describes J sets numbers frame → Marked J sets numbers frame
    → KeepsKept frame st.steps → Stands J frame st
    → DeadFor J frame (Until (from_of frame) st.minute) (chosen J st.steps)

-- the row's shares of a set, and what is used besides, are at most so much
abbrev pub fits : List ℕ → ℕ → ℕ → ℕ → ℕ → Bool
fits numbers row missing used most =
    leb (sum_over (share_from numbers (row_at row)) 64 missing + 2520 * used) (2520 * most)

-- what the first k steps use of the pool from m on and before t, each minute for itself
abbrev pub UsedBefore : List ℕ → ℕ → Steps → ℕ → ℕ → ℕ → ℕ → ℕ → Type 0
UsedBefore numbers actions steps pool m t k used =
    (J : Job) (sets : List ℕ) → DescribesEach J sets numbers actions → pool < length J.pools
    → used ≡ total (λ x. get_or x.action.pools pool 0 * minutes_in m t x) (chosen_to J steps k)
