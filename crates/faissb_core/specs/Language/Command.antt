-- The commands of a script.
use Rattle.std.specs.Prelude.{ℕ, Bool, List}
use Rattle.id_select.specs.declared.selector.Selector.{Selector}
use Rattle.faissb_core.specs.Language.Words.{Word, IdWord}

-- the commands that change the index
pub data IndexChange : Type 0 where
  Add : List Word → IndexChange
  AddIds : List IdWord → IndexChange
  Centroids : List Word → IndexChange
  Nprobe : ℕ → IndexChange
  Nflip : ℕ → IndexChange
  MaxCodes : ℕ → IndexChange
  DirectMap : Bool → IndexChange
  Remove : Selector → IndexChange

-- those that ask it something
pub data IndexQuestion : Type 0 where
  Search : ℕ → Word → IndexQuestion
  Range : ℕ → Word → IndexQuestion
  Nearest : ℕ → Word → IndexQuestion
  Reconstruct : ℕ → IndexQuestion
  Show : IndexQuestion

-- those that ask the shards something
pub data ShardQuestion : Type 0 where
  ShardSearch : ℕ → Word → ShardQuestion
  ShardRange : ℕ → Word → ShardQuestion

pub data Command : Type 0 where
  New : ℕ → Word → Command
  Load : Word → Command
  Save : Word → Command
  Shard : Command
  Unshard : Command
  Change : IndexChange → Command
  Ask : IndexQuestion → Command
  AskShards : ShardQuestion → Command
