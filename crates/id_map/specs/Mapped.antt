-- The value of an index under outer ids.
use Rattle.std.specs.Prelude.{ℤ, List}
use Rattle.bcodes.specs.declared.map_name.MapName.{MapName}
use Rattle.bcodes.specs.Value.{Inner}

-- its name, the value of the index inside, and one id for each row of it
pub record MappedValue : Type 0 where
  pub name : MapName
  pub inner : Inner
  pub ids : List ℤ
