-- What a test in the code answers.
-- Assumes nothing.
use Rattle.std.specs.Prelude.{◌≡◌, Bool, true}

-- the answer is true exactly if P holds
pub record Decides (answer : Bool) (P : Type 0) : Type 0 where
  pub sound : answer ≡ true → P
  pub complete : P → answer ≡ true
