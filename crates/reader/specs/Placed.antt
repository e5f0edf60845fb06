-- Where the bodies of a file lie.
-- Inner functions and laws alone cite it. Assumes nothing.
use Rattle.std.specs.Prelude.{ℕ, ◌≤◌, ◌≡◌, true, false, List, length}
use Rattle.jobfile.specs.declared.Layout.{Layout}
use Rattle.jobfile.specs.File.{layout_in, missized, in_order, places_of}

-- a file that passes tests 2 and 3, its layout, and that all bodies but the last end within it
pub record Placed (file : List ℕ) (l : Layout) : Type 0 where
  pub order : in_order file ≡ true
  pub same : l ≡ layout_in file
  pub sized : missized l ≡ false
  pub inside : (places_of l).shortest ≤ length file
