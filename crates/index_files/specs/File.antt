-- The bytes that are a file of a value. No number in them but an id is negative, so each reads alike with and without a
-- sign.
use Rattle.std.specs.Prelude.{◌≡◌, ◌⊎◌, ◌≤◌, ◌<◌, ℕ, ◌*◌, ◌/◌, ◌^◌, List, []}
use Rattle.std.specs.Prelude.{◌∷◌, length, map, codes, if◌then◌else◌, nat_eq, count_by}
use Rattle.std.specs.List.{flat_map, All, AllPairs, range_with_len}
use Rattle.bcodes.specs.declared.map_name.MapName.{MapName}
use Rattle.bcodes.specs.declared.map_name.MapName.TheVariants.{Map, Map2}
use Rattle.bcodes.specs.Value.{Row, ListRow, IvfValue, HashValue, MultiValue, Inner, Flat, Ivf, Hash, Multi, IndexValue}
use Rattle.bcodes.specs.Value.{Bare, IdMap, dim_of_inner, count_of_inner, IsLegal}
use Rattle.bit_strings.specs.Packed.{Bits, packed}
use Rattle.index_files.specs.Groups.{IsLeast, on_list, filled, by_list, entry_of, mapped, by_key, Entry, all_positions}
use Rattle.hash_index.specs.Keys.{hash_keys, bucket}
use Rattle.multi_hash.specs.Maps.{map_key}
use Rattle.index_files.specs.Parts.{◌▸◌, Each, Is, Number, Signed, Vector, Bytes, HeadWhere, Head}

-- ---- Flat

-- what follows the letters
abbrev pub FlatRest : ℕ → List (List ℕ) → List ℕ → Type 0
FlatRest dim list = Head dim (length list) ▸ Number 8 (length list * (dim / 8)) ▸ Each Is list

-- a Flat inside another index
abbrev pub FlatBody : ℕ → List (List ℕ) → List ℕ → Type 0
FlatBody dim list = Is (codes "IBxF") ▸ FlatRest dim list

-- ---- IVF

-- the direct map: its type, and an entry for each label that has one
abbrev pub DirectPart : IvfValue → List ℕ → Type 0
DirectPart v = Number 1 (if v.direct then 1 else 0) ▸ Vector (λ label. Number 8 (entry_of v label)) (mapped v)

-- the size of each list
abbrev pub FullSizes : IvfValue → List ℕ → Type 0
FullSizes v = Is (codes "full") ▸ Vector (λ list. Number 8 (length (on_list v list))) (range_with_len 0 v.nlist)

-- the number and the size of each list that is not empty
abbrev pub SparseSizes : IvfValue → List ℕ → Type 0
SparseSizes v =
    Is (codes "sprs") ▸ Number 8 (2 * length (filled v))
    ▸ Each (λ list. Number 8 list ▸ Number 8 (length (on_list v list))) (filled v)

-- the sizes, all of them where more than half of the lists are not empty
abbrev pub SizesPart : IvfValue → List ℕ → Type 0
SizesPart v bytes =
    ((v.nlist / 2 < length (filled v)) × FullSizes v bytes)
    ⊎ ((length (filled v) ≤ v.nlist / 2) × SparseSizes v bytes)

-- the codes of a list, and then its ids
abbrev pub ListPart : List ListRow → List ℕ → Type 0
ListPart rows = Each (λ row. Is row.code) rows ▸ Each (λ row. Signed 8 row.label) rows

abbrev pub IvfRest : IvfValue → List ℕ → Type 0
IvfRest v =
    HeadWhere (length v.centroids ≡ v.nlist) v.dim (length v.rows) ▸ Number 8 v.nlist ▸ Number 8 v.nprobe
    ▸ FlatBody v.dim v.centroids
    ▸ DirectPart v
    ▸ Is (codes "ilar") ▸ Number 8 v.nlist ▸ Number 8 (v.dim / 8)
    ▸ SizesPart v
    ▸ Each (λ list. ListPart (on_list v list)) (filled v)

-- ---- Hash

-- the size of each bucket fits so many bits
abbrev pub HoldsBuckets : HashValue → ℕ → Type 0
HoldsBuckets v n = All (λ k. length (bucket v k) < 2 ^ n) (hash_keys v)

-- a bucket's key, and its size in n bits
abbrev pub bits_of_bucket : HashValue → ℕ → ℕ → List Bits
bits_of_bucket v n k = record { number = k; width = v.b } ∷ record { number = length (bucket v k); width = n } ∷ []

abbrev pub hash_bits : HashValue → ℕ → List Bits
hash_bits v n = flat_map (bits_of_bucket v n) (hash_keys v)

-- the ids of a bucket, and then its codes
abbrev pub BucketPart : List Row → List ℕ → Type 0
BucketPart rows =
    Vector (λ row. Signed 8 row.label) rows
    ▸ Number 8 (length (flat_map (λ row. row.code) rows)) ▸ Each (λ row. Is row.code) rows

-- with sizes in n bits
abbrev pub HashParts : HashValue → ℕ → List ℕ → Type 0
HashParts v n =
    Head v.dim (length v.rows) ▸ Number 4 v.b ▸ Number 4 v.nflip ▸ Number 8 (length (hash_keys v)) ▸ Number 4 n
    ▸ Bytes (packed (hash_bits v n))
    ▸ Each (λ k. BucketPart (bucket v k)) (hash_keys v)

abbrev pub HashRest : HashValue → List ℕ → Type 0
HashRest v bytes = (n : ℕ) × IsLeast (HoldsBuckets v) n × HashParts v n bytes

-- ---- MultiHash

-- The entries of map i: no key twice, no entry without positions, and each number below the count once among the
-- positions, and no other, under the key of its code.
pub record AreEntries (v : MultiValue) (i : ℕ) (entries : List Entry) : Type 0 where
  pub keys : AllPairs (λ d e. d.key ≡ e.key → ⊥) entries
  pub some : All (λ e. 0 < length e.positions) entries
  pub once : (p : ℕ) → p < length v.codes → count_by (nat_eq p) (all_positions entries) ≡ 1
  pub below : All (λ p. p < length v.codes) (all_positions entries)
  pub under : All (λ e. All (λ p. map_key v i p ≡ e.key) e.positions) entries

-- an entry's key, and in n bits each its size and its positions
abbrev pub bits_of_entry : ℕ → ℕ → Entry → List Bits
bits_of_entry b n e =
    record { number = e.key; width = b } ∷ record { number = length e.positions; width = n }
    ∷ map (λ p. record { number = p; width = n }) e.positions

abbrev pub entry_bits : ℕ → ℕ → List Entry → List Bits
entry_bits b n entries = flat_map (bits_of_entry b n) entries

-- the entries of a map under keys of b bits, with sizes and positions in n bits
abbrev pub MapParts : ℕ → ℕ → List Entry → List ℕ → Type 0
MapParts b n entries = Number 4 n ▸ Number 8 (length entries) ▸ Bytes (packed (entry_bits b n entries))

abbrev pub MapPart : MultiValue → ℕ → List ℕ → Type 0
MapPart v i bytes =
    (entries : List Entry) × (n : ℕ) × AreEntries v i entries
    × IsLeast (λ m. length v.codes ≤ 2 ^ m) n × All (λ e. length e.positions < 2 ^ n) entries
    × MapParts v.b n entries bytes

abbrev pub MultiRest : MultiValue → List ℕ → Type 0
MultiRest v =
    Head v.dim (length v.codes) ▸ FlatBody v.dim v.codes
    ▸ Number 4 v.b ▸ Number 4 v.nhash ▸ Number 4 v.nflip
    ▸ Each (MapPart v) (range_with_len 0 v.nhash)

-- ---- all

abbrev pub letters_of : Inner → List ℕ
letters_of (Flat v) = codes "IBxF"
letters_of (Ivf v) = codes "IBwF"
letters_of (Hash v) = codes "IBHh"
letters_of (Multi v) = codes "IBHm"

-- what follows the letters
abbrev pub Rest : Inner → List ℕ → Type 0
Rest (Flat v) = FlatRest v.dim v.codes
Rest (Ivf v) = IvfRest v
Rest (Hash v) = HashRest v
Rest (Multi v) = MultiRest v

abbrev pub Body : Inner → List ℕ → Type 0
Body v = Is (letters_of v) ▸ Rest v

abbrev pub map_letters : MapName → List ℕ
map_letters Map = codes "IBMp"
map_letters Map2 = codes "IBM2"

abbrev pub IndexBody : IndexValue → List ℕ → Type 0
IndexBody (Bare v) = Body v
IndexBody (IdMap name v ids) =
    Is (map_letters name) ▸ Head (dim_of_inner v) (count_of_inner v) ▸ Body v ▸ Vector (Signed 8) ids

-- The rows list by list and bucket by bucket, each group in its order, and no limit on the codes that a query looks at.
abbrev pub settled_inner : Inner → Inner
settled_inner (Flat v) = Flat v
settled_inner (Ivf v) = Ivf (record v { max_codes = 0; rows = by_list v })
settled_inner (Hash v) = Hash (record v { rows = by_key v })
settled_inner (Multi v) = Multi v

unfoldable pub settled : IndexValue → IndexValue
settled (Bare v) = Bare (settled_inner v)
settled (IdMap name v ids) = IdMap name (settled_inner v) ids

-- The bytes are a file that stands for the value. A value is one that a file stands for only where it is settled.
pub record IsFile (v : IndexValue) (bytes : List ℕ) : Type 0 where
  pub legal : IsLegal v
  pub settled : settled v ≡ v
  pub body : IndexBody v bytes
