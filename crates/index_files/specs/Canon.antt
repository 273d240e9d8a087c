-- The one spelling of a value that is written.
use Rattle.std.specs.Prelude.{ℕ, ◌-◌, ◌*◌, ◌/◌, ◌^◌, ℤ, Bool, true, List, ◌∷◌, ◌++◌}
use Rattle.std.specs.Prelude.{length, map, max, fold, codes, nat_lt, nat_le, if◌then◌else◌, count_by}
use Rattle.std.specs.List.{flat_map, range_with_len}
use Rattle.bcodes.specs.Value.{Row, ListRow, IvfValue, HashValue, MultiValue, Inner, Flat, Ivf, Hash, Multi, IndexValue}
use Rattle.bcodes.specs.Value.{Bare, IdMap, inner_of, dim_of, count_of, ids_of, is_trained, is_trained_inner}
use Rattle.file_parts.specs.Fields.{number_bytes, signed_bytes}
use Rattle.bit_strings.specs.Packed.{packed}
use Rattle.index_files.specs.Groups.{concat, on_list, filled, entry_of, mapped, entries_of}
use Rattle.hash_index.specs.Keys.{hash_keys, bucket}
use Rattle.index_files.specs.File.{hash_bits, entry_bits, map_letters, settled_inner}

-- how many powers of two are at most x: the least n with x < 2 ^ n, for x below 2 ^ 64
unfoldable pub bit_length : ℕ → ℕ
bit_length x = count_by (λ n. nat_le (2 ^ n) x) (range_with_len 0 64)

-- ---- parts

abbrev pub number : ℕ → List ℕ
number n = number_bytes 8 n

abbrev pub short_number : ℕ → List ℕ
short_number n = number_bytes 4 n

abbrev pub ids_bytes : List ℤ → List ℕ
ids_bytes zs = flat_map (signed_bytes 8) zs

abbrev pub vector : List ℕ → List ℕ
vector bytes = number (length bytes) ++ bytes

abbrev pub bit_of : Bool → ℕ
bit_of b = if b then 1 else 0

-- a header of n rows with this flag and the metric 1
unfoldable pub head : ℕ → ℕ → Bool → List ℕ
head d n flag = short_number d ++ short_number (d / 8) ++ number n ++ bit_of flag ∷ short_number 1

-- ---- Flat and IVF

unfoldable pub flat_bytes : ℕ → List (List ℕ) → List ℕ
flat_bytes d cs = codes "IBxF" ++ head d (length cs) true ++ vector (concat cs)

abbrev pub direct_bytes : IvfValue → List ℕ
direct_bytes v =
    bit_of v.direct ∷ number (length (mapped v)) ++ flat_map (λ label. number (entry_of v label)) (mapped v)

abbrev pub size_bytes : IvfValue → ℕ → List ℕ
size_bytes v list = number (length (on_list v list))

abbrev pub sizes_bytes : IvfValue → List ℕ
sizes_bytes v =
    if nat_lt (v.nlist / 2) (length (filled v))
    then codes "full" ++ number v.nlist ++ flat_map (size_bytes v) (range_with_len 0 v.nlist)
    else codes "sprs" ++ number (2 * length (filled v))
    ++ flat_map (λ list. number list ++ size_bytes v list) (filled v)

abbrev pub list_bytes : List ListRow → List ℕ
list_bytes rows = flat_map (λ row. row.code) rows ++ ids_bytes (map (λ row. row.label) rows)

abbrev pub ivf_bytes : IvfValue → List ℕ
ivf_bytes v =
    codes "IBwF" ++ head v.dim (length v.rows) (is_trained_inner (Ivf v)) ++ number v.nlist ++ number v.nprobe
    ++ flat_bytes v.dim v.centroids
    ++ direct_bytes v
    ++ codes "ilar" ++ number v.nlist ++ number (v.dim / 8)
    ++ sizes_bytes v
    ++ flat_map (λ list. list_bytes (on_list v list)) (filled v)

-- ---- Hash

-- the least width for the size of each bucket
abbrev pub size_width : HashValue → ℕ
size_width v = bit_length (fold max 0 (map (λ k. length (bucket v k)) (hash_keys v)))

abbrev pub bucket_bytes : List Row → List ℕ
bucket_bytes rows =
    number (length rows) ++ ids_bytes (map (λ row. row.label) rows) ++ vector (flat_map (λ row. row.code) rows)

abbrev pub hash_bytes : HashValue → List ℕ
hash_bytes v =
    codes "IBHh" ++ head v.dim (length v.rows) true ++ short_number v.b ++ short_number v.nflip
    ++ number (length (hash_keys v)) ++ short_number (size_width v)
    ++ vector (packed (hash_bits v (size_width v)))
    ++ flat_map (λ k. bucket_bytes (bucket v k)) (hash_keys v)

-- ---- MultiHash

-- the least width n with count ≤ 2 ^ n
abbrev pub position_width : ℕ → ℕ
position_width count = bit_length (count - 1)

abbrev pub map_bytes : MultiValue → ℕ → List ℕ
map_bytes v i =
    let n = position_width (length v.codes) in
    short_number n ++ number (length (entries_of v i)) ++ vector (packed (entry_bits v.b n (entries_of v i)))

abbrev pub multi_bytes : MultiValue → List ℕ
multi_bytes v =
    codes "IBHm" ++ head v.dim (length v.codes) true ++ flat_bytes v.dim v.codes
    ++ short_number v.b ++ short_number v.nhash ++ short_number v.nflip
    ++ flat_map (map_bytes v) (range_with_len 0 v.nhash)

-- ---- all

abbrev pub inner_bytes : Inner → List ℕ
inner_bytes (Flat v) = flat_bytes v.dim v.codes
inner_bytes (Ivf v) = ivf_bytes v
inner_bytes (Hash v) = hash_bytes v
inner_bytes (Multi v) = multi_bytes v

-- a value under the ids of an IDMap with these letters
abbrev pub mapped_bytes : List ℕ → IndexValue → List ℕ
mapped_bytes front v =
    front ++ head (dim_of v) (count_of v) (is_trained v) ++ inner_bytes (settled_inner (inner_of v))
    ++ number (length (ids_of v)) ++ ids_bytes (ids_of v)

-- the spelling of the settled value
unfoldable pub canon : IndexValue → List ℕ
canon (Bare v) = inner_bytes (settled_inner v)
canon (IdMap name v ids) = mapped_bytes (map_letters name) (IdMap name v ids)
