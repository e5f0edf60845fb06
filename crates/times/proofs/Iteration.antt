-- From "unreachable" downwards: entries lowered no further than their right sides, until they solve the equations.
-- Assumes nothing.
use Prim.Native.Nat.{ℕ, ◌<◌, ◌≤◌}
use mathlib.Core.Logic.{◌⊎◌, ⊎_elim}
use Rattle.job.specs.Job.{Job}
use Rattle.times.specs.Earliest.{Table, right_side, Solves}
use Rattle.times.specs.Choices.{By}
use Rattle.times.specs.Entries.{AtLeastRightSide}
use Rattle.times.proofs.Times.{by_ext}
use Rattle.times.proofs.Monotone.{right_side_mono}

-- each entry is at most its right side
abbrev pub AtMostRightSide : Job → Table → Type 0
AtMostRightSide J T = (p q t : ℕ) → p ≤ q → q < J.facts → By (right_side J T p q) t → By (T p q) t

-- U is T with some entries lowered, none below its right side at T
pub record Lowered (J : Job) (T U : Table) : Type 0 where
  pub falls : (p q t : ℕ) → p ≤ q → q < J.facts → By (T p q) t → By (U p q) t
  pub allowed : (p q t : ℕ) → p ≤ q → q < J.facts → By (U p q) t → By (T p q) t ⊎ By (right_side J T p q) t

-- no entry can fall: the table solves the equations
pub solves_when_settled : (J : Job) (T : Table) → AtLeastRightSide J T → AtMostRightSide J T → Solves J T
solves_when_settled J T least most p q a b =
    by_ext (T p q) (right_side J T p q) (λ t. least p q t a b) (λ t. most p q t a b)

pub at_least_when_lowered : (J : Job) (T U : Table) → Lowered J T U → AtLeastRightSide J T → AtLeastRightSide J U
at_least_when_lowered J T U lowered least p q t a b h =
    right_side_mono J T U lowered.falls p q t
    (⊎_elim (least p q t a b) (λ r. r) (lowered.allowed p q t a b h))
