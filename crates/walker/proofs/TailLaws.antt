-- What the table of tails says of the job.
-- Assumes nothing.
use Prim.Native.Nat.{ℕ}
use mathlib.Core.Path.{◌≡◌, sym, subst}
use mathlib.Core.List.{List}
use native.Mathlib.Omega.{arith}
use lib.ListN.{get_or}
use Rattle.job.specs.Job.{Job}
use Rattle.tables.specs.Tables.{Describes}
use Rattle.tables.specs.declared.Frame.{Frame}
use Rattle.search.specs.Horizons.{until}
use Rattle.listing.specs.Tails.{Tails}
use Rattle.tails.specs.Tails.{TailTable}

-- the tails of the tables are tails of the job
pub tails_of_table : (J : Job) (sets numbers : List ℕ) (frame : Frame) → Describes J sets numbers frame
    → (tails : List ℕ) → TailTable sets numbers frame.actions frame.goal tails
    → Tails J frame.goal (λ p. get_or tails p 0)
tails_of_table J sets numbers frame described tails table =
    record {
      of_goal = λ p h. let l = table.of_goal p h in omega arith;
      of_needs = λ i p q known needs adds.
          let count = described.actions in
          let d = described.each i (omega arith) in
          let lasts = d.duration in
          let l = table.of_needs i (omega arith) q (rw d.adds adds) p (rw d.needs needs) in
          omega arith;
    }

-- and do not hang on the horizon
pub tails_up_to : (sets numbers tails : List ℕ) (frame f : Frame) (horizon : ℕ) → f ≡ until frame horizon
    → TailTable sets numbers frame.actions frame.goal tails → TailTable sets numbers f.actions f.goal tails
tails_up_to sets numbers tails frame f horizon e =
    subst (λ (g : Frame). TailTable sets numbers g.actions g.goal tails) (sym e)
