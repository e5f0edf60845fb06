-- The steps in the bytes of a plan whose actions are known last a minute or more.
-- Assumes nothing.
use Prim.Native.Nat.{ℕ, ◌<◌}
use mathlib.Core.Path.{◌≡◌}
use mathlib.Core.Bool.{false}
use mathlib.Core.List.{List}
use lib.ListN.{length}
use borrow.Author.Tests.{leb-false}
use Rattle.lists.specs.Lists.{any, Each}
use Rattle.job.specs.Job.{Job}
use Rattle.job.specs.Passed.{Passed}
use Rattle.timeline.specs.Step.{steps_in}
use Rattle.timeline.specs.Accepted.{unknown}
use Rattle.timeline.proofs.Places.{each_of_steps, none_of_any}
use Rattle.timeline.proofs.JobSteps.{lasting_of_known, steps_in_bytes}

pub known_steps_last : (J : Job) (bytes : List ℕ) → Passed J → any (unknown J) (steps_in J bytes) ≡ false
    → Each (λ x. x.start < x.stop) (steps_in J bytes)
known_steps_last J bytes p h =
    let P = steps_in J bytes in
    each_of_steps (λ x. x.start < x.stop) P
    (lasting_of_known J P p (steps_in_bytes J bytes)
    (λ x Q i. leb-false (length J.actions) x.number (none_of_any (unknown J) P h x Q i)))
