-- The text of a Spec.
use Rattle.std.specs.Prelude.{ℕ, ◌*◌, Bool, true, nat_le, List, [], ◌++◌, codes}
use Rattle.std.specs.Fmt.{decimal}
use Rattle.factory_text.specs.declared.prefix.Prefix.{Prefix}
use Rattle.factory_text.specs.declared.prefix.Prefix.TheVariants as prefix
use Rattle.factory_text.specs.declared.kind.Kind.{Kind}
use Rattle.factory_text.specs.declared.kind.Kind.TheVariants as kind
use Rattle.factory_text.specs.declared.spec.Spec.{Spec}

abbrev pub prefix_text : Prefix → List ℕ
prefix_text prefix.Plain = []
prefix_text prefix.Map = codes "IDMap,"
prefix_text prefix.Map2 = codes "IDMap2,"

abbrev pub kind_text : Kind → List ℕ
kind_text kind.Flat = codes "BFlat"
kind_text (kind.Ivf nlist) = codes "BIVF" ++ decimal nlist
kind_text (kind.Hash b) = codes "BHash" ++ decimal b
kind_text (kind.Multi nhash b) = codes "BHash" ++ decimal nhash ++ codes "x" ++ decimal b

abbrev pub spec_text : Spec → List ℕ
spec_text spec = prefix_text spec.prefix ++ kind_text spec.kind

-- the keys have no more bits than a code of d bits
abbrev pub fits_kind : Kind → ℕ → Bool
fits_kind kind.Flat d = true
fits_kind (kind.Ivf nlist) d = true
fits_kind (kind.Hash b) d = nat_le b d
fits_kind (kind.Multi nhash b) d = nat_le (nhash * b) d

abbrev pub fits : Spec → ℕ → Bool
fits spec d = fits_kind spec.kind d
