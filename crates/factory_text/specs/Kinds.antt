-- The numbers of kinds.
use Rattle.std.specs.Prelude.{ℕ}
use Rattle.std.specs.Int.{IsInRange}
use Rattle.factory_text.specs.declared.kind.Kind.{Kind}
use Rattle.factory_text.specs.declared.kind.Kind.TheVariants as kind

-- the most lists, the most maps, and the most bits of a key
abbrev pub most_lists : ℕ
most_lists = 4194304

abbrev pub most_maps : ℕ
most_maps = 1024

abbrev pub most_key_bits : ℕ
most_key_bits = 64

-- the numbers are in the ranges in which a text can write them
abbrev pub HasLegalNumbers : Kind → Type 0
HasLegalNumbers kind.Flat = Unit {0}
HasLegalNumbers (kind.Ivf nlist) = IsInRange 1 most_lists nlist
HasLegalNumbers (kind.Hash b) = IsInRange 1 most_key_bits b
HasLegalNumbers (kind.Multi nhash b) = IsInRange 1 most_maps nhash × IsInRange 1 most_key_bits b
