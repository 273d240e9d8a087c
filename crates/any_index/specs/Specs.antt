-- Indexes and the Specs that they are made by.
use Rattle.std.specs.Prelude.{ℕ, [], length}
use Rattle.bcodes.specs.declared.map_name.MapName.{MapName}
use Rattle.bcodes.specs.declared.map_name.MapName.TheVariants as name
use Rattle.bcodes.specs.Value.{Inner, Flat, Ivf, Hash, Multi, IndexValue, Bare, IdMap, inner_of}
use Rattle.bcodes.specs.Value.{empty_flat, empty_ivf, empty_hash, empty_multi}
use Rattle.factory_text.specs.declared.prefix.Prefix.{Prefix}
use Rattle.factory_text.specs.declared.prefix.Prefix.TheVariants as prefix
use Rattle.factory_text.specs.declared.kind.Kind.{Kind}
use Rattle.factory_text.specs.declared.kind.Kind.TheVariants as kind
use Rattle.factory_text.specs.declared.spec.Spec.{Spec}

-- a new index, which holds nothing
abbrev pub empty_inner : Kind → ℕ → Inner
empty_inner kind.Flat d = Flat (empty_flat d)
empty_inner (kind.Ivf nlist) d = Ivf (empty_ivf d nlist)
empty_inner (kind.Hash b) d = Hash (empty_hash d b)
empty_inner (kind.Multi nhash b) d = Multi (empty_multi d nhash b)

abbrev pub empty_under : Prefix → Inner → IndexValue
empty_under prefix.Plain v = Bare v
empty_under prefix.Map v = IdMap name.Map v []
empty_under prefix.Map2 v = IdMap name.Map2 v []

abbrev pub empty : Spec → ℕ → IndexValue
empty spec d = empty_under spec.prefix (empty_inner spec.kind d)

-- the Spec of an index
abbrev pub kind_of : Inner → Kind
kind_of (Flat v) = kind.Flat
kind_of (Ivf v) = kind.Ivf v.nlist
kind_of (Hash v) = kind.Hash v.b
kind_of (Multi v) = kind.Multi v.nhash v.b

abbrev pub prefix_of_name : MapName → Prefix
prefix_of_name name.Map = prefix.Map
prefix_of_name name.Map2 = prefix.Map2

abbrev pub prefix_of : IndexValue → Prefix
prefix_of (Bare v) = prefix.Plain
prefix_of (IdMap name v ids) = prefix_of_name name

abbrev pub spec_of : IndexValue → Spec
spec_of v = record { prefix = prefix_of v; kind = kind_of (inner_of v) }

-- the number of centroids
abbrev pub held_inner : Inner → ℕ
held_inner (Flat v) = 0
held_inner (Ivf v) = length v.centroids
held_inner (Hash v) = 0
held_inner (Multi v) = 0

abbrev pub held_of : IndexValue → ℕ
held_of v = held_inner (inner_of v)

-- the number of maps from keys to rows
abbrev pub maps_of : Kind → ℕ
maps_of kind.Flat = 0
maps_of (kind.Ivf nlist) = 0
maps_of (kind.Hash b) = 1
maps_of (kind.Multi nhash b) = nhash
