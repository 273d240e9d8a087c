-- What contracts see of the devices of a run at one moment.
use Rattle.std.specs.Prelude.{ℕ, List, Option}
use Rattle.outside.specs.Contents.{Contents}

-- the bytes that the sink took so far and what the shelf holds, where they tell
pub record Outputs : Type 0 where
  pub written : Option (List ℕ)
  pub contents : Option Contents

-- the bytes of the source still to come, where it tells them, and the number of those that it handed out
pub record Input : Type 0 where
  pub left : Option (List ℕ)
  pub taken : ℕ
