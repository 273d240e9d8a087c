-- The value of an index of one of the kinds.
use Rattle.bcodes.specs.Value.{Inner, Flat, Ivf, Hash, Multi}
use Rattle.any_index.specs.declared.inner_index.InnerIndex.{InnerIndex}
use Rattle.any_index.specs.declared.inner_index.InnerIndex.TheVariants as kind

abbrev pub inner_value : InnerIndex → Inner
inner_value (kind.Flat index) = Flat index
inner_value (kind.Ivf index) = Ivf index
inner_value (kind.Hash index) = Hash index
inner_value (kind.Multi index) = Multi index
