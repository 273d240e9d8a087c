-- A map in which one bucket holds all codes, where their number is a power of two.
use Rattle.std.specs.Prelude.{ℕ, ◌+◌, ◌*◌, ◌^◌, ◌==◌, Bool, if◌then◌else◌, List, length, Option, None, option_map, find}
use Rattle.std.specs.List.{list_all, list_any, range_with_len}
use Rattle.bcodes.specs.Bits.{dist_between}
use Rattle.bcodes.specs.Value.{MultiValue, Inner, Flat, Ivf, Hash, Multi, IndexValue, inner_of}
use Rattle.multi_hash.specs.declared.wide.Wide.{Wide}

-- 1, 2, 4 and so on
abbrev pub is_power : ℕ → Bool
is_power x = list_any (λ k. x == 2 ^ k) (range_with_len 0 64)

-- the codes x and y agree in the bits of map i
abbrev pub is_alike : MultiValue → ℕ → List ℕ → List ℕ → Bool
is_alike v i x y = dist_between x y (i * v.b) (i * v.b + v.b) == 0

-- all codes have one key under map i
abbrev pub is_wide_map : MultiValue → ℕ → Bool
is_wide_map v i = list_all (λ x. list_all (is_alike v i x) v.codes) v.codes

abbrev pub wide_of_inner : Inner → Option Wide
wide_of_inner (Flat v) = None
wide_of_inner (Ivf v) = None
wide_of_inner (Hash v) = None
wide_of_inner (Multi v) =
    if is_power (length v.codes)
    then option_map (λ i. record { map = i; size = length v.codes }) (find (is_wide_map v) (range_with_len 0 v.nhash))
    else None

-- the first such map of the MultiHash that an index is, or that stands under its ids
unfoldable pub wide : IndexValue → Option Wide
wide v = wide_of_inner (inner_of v)
