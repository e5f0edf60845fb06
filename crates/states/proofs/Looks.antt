-- The sets of a minute, one step after the other.
-- Assumes nothing.
use Prim.Native.Nat.{ℕ, ◌+◌}
use mathlib.Core.Path.{◌≡◌, refl, sym, ap}
use mathlib.Core.Bool.{cond, ◌&&◌}
use mathlib.Core.List.{List}
use lib.Dec.{eqb, leb, ltb}
use Rattle.facts.specs.FactSet.{union, single}
use Rattle.job.specs.Job.{Job}
use Rattle.timeline.specs.Step.{step_of}
use Rattle.tables.specs.Tables.{DescribesAction, needs_at, adds_at, duration_at}
use Rattle.states.specs.declared.minute.Minute.{Minute}
use Rattle.states.specs.Minutes.{Is}

-- each set joined with what the step has of it
pub record Joined (t number start stop needs adds : ℕ) (m r : Minute) : Type 0 where
  pub running : r.running ≡ union (cond (ltb start t && leb t stop) (single number) 0) m.running
  pub held : r.held ≡ union (cond (ltb start t && leb t stop) needs 0) m.held
  pub starting : r.starting ≡ union (cond (eqb start t) (single number) 0) m.starting
  pub needed : r.needed ≡ union (cond (eqb start t) needs 0) m.needed
  pub across : r.across ≡ union (cond (leb start t && ltb t stop) needs 0) m.across
  pub added : r.added ≡ union (cond (eqb stop t) adds 0) m.added

-- a step of the job has the numbers and sets of the tables
pub step_in_tables : (J : Job) (sets numbers : List ℕ) (i start : ℕ) → DescribesAction J sets numbers i
    → Is (step_of J i start) i start (start + duration_at numbers i) (needs_at sets i) (adds_at sets i)
step_in_tables J sets numbers i start d =
    record {
      same_number = refl;
      same_start = refl;
      same_stop = ap (λ (n : ℕ). start + n) (sym d.duration);
      same_needs = sym d.needs;
      same_adds = sym d.adds;
    }
