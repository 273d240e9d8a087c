-- The value of any index.
use Rattle.bcodes.specs.Value.{IndexValue, Bare, IdMap}
use Rattle.any_index.specs.declared.any_index.Held.{Held}
use Rattle.any_index.specs.declared.any_index.Held.TheVariants.{Plain, Mapped}
use Rattle.any_index.specs.Kinds.{inner_value}

abbrev pub index_value : Held → IndexValue
index_value (Plain index) = Bare (inner_value index)
index_value (Mapped index) = IdMap index.name index.inner index.ids
