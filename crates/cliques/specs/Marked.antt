-- The tables of a job with all that crates landmarks and cliques put into them.
-- Assumes nothing.
use Rattle.std.specs.Prelude.{ℕ, List}
use Rattle.tables.specs.declared.Frame.{Frame}
use Rattle.landmarks.specs.Marked.{LandmarkTables}
use Rattle.cliques.specs.Cliques.{CliquesAt}

-- landmarks with shares and openings, and cliques
pub record MarkedTables (sets numbers times : List ℕ) (frame : Frame) (start : ℕ) : Type 0 where
  pub landmarks : LandmarkTables sets numbers times frame start
  pub cliques : CliquesAt sets numbers times frame
