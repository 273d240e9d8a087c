-- The value of an index, as plain data.
use Rattle.std.specs.Prelude.{◌≡◌, ℕ, zero, suc, ◌+◌, ◌*◌, ◌/◌, ◌^◌, ◌<◌, ◌≤◌, ℤ, pos, ◌≤ℤ◌, ◌<ℤ◌, FitsSigned, List, []}
use Rattle.std.specs.Prelude.{◌∷◌, length, map, Bool, true, false, not, nat_le}
use Rattle.std.specs.Int.{w64}
use Rattle.std.specs.List.{All, count_by}
use Rattle.std.specs.Ordering.{int_eq}
use Rattle.bcodes.specs.Ranges.{IsDim, load_limit}
use Rattle.bcodes.specs.declared.map_name.MapName.{MapName}

-- codes of one dimension
pub record CodeList : Type 0 where
  pub dim : ℕ
  pub codes : List (List ℕ)

-- a code with its inner label
pub record Row : Type 0 where
  pub label : ℤ
  pub code : List ℕ

-- a row on a list
pub record ListRow : Type 0 where
  pub label : ℤ
  pub code : List ℕ
  pub list : ℕ

-- max_codes 0 is no limit; direct says whether a direct map is kept
pub record IvfValue : Type 0 where
  pub dim : ℕ
  pub nlist : ℕ
  pub nprobe : ℕ
  pub max_codes : ℕ
  pub direct : Bool
  pub centroids : List (List ℕ)
  pub rows : List ListRow

pub record HashValue : Type 0 where
  pub dim : ℕ
  pub b : ℕ
  pub nflip : ℕ
  pub rows : List Row

pub record MultiValue : Type 0 where
  pub dim : ℕ
  pub nhash : ℕ
  pub b : ℕ
  pub nflip : ℕ
  pub codes : List (List ℕ)

-- one of the four kinds that label their own rows
pub data Inner : Type 0 where
  Flat : CodeList → Inner
  Ivf : IvfValue → Inner
  Hash : HashValue → Inner
  Multi : MultiValue → Inner

pub data IndexValue : Type 0 where
  Bare : Inner → IndexValue
  IdMap : MapName → Inner → List ℤ → IndexValue

abbrev pub inner_of : IndexValue → Inner
inner_of (Bare v) = v
inner_of (IdMap name v ids) = v

abbrev pub dim_of_inner : Inner → ℕ
dim_of_inner (Flat v) = v.dim
dim_of_inner (Ivf v) = v.dim
dim_of_inner (Hash v) = v.dim
dim_of_inner (Multi v) = v.dim

abbrev pub dim_of : IndexValue → ℕ
dim_of v = dim_of_inner (inner_of v)

-- the bytes of a code
abbrev pub code_size : IndexValue → ℕ
code_size v = dim_of v / 8

-- the values of new indexes, which hold nothing
abbrev pub empty_flat : ℕ → CodeList
empty_flat d = record { dim = d; codes = [] }

abbrev pub empty_ivf : ℕ → ℕ → IvfValue
empty_ivf d lists =
    record { dim = d; nlist = lists; nprobe = 1; max_codes = 0; direct = false; centroids = []; rows = [] }

abbrev pub empty_hash : ℕ → ℕ → HashValue
empty_hash d bits = record { dim = d; b = bits; nflip = 0; rows = [] }

abbrev pub empty_multi : ℕ → ℕ → ℕ → MultiValue
empty_multi d maps bits = record { dim = d; nhash = maps; b = bits; nflip = 0; codes = [] }

-- n labels that count up from i
abbrev pub labels_from : ℕ → ℕ → List ℤ
labels_from i zero = []
labels_from i (suc n) = pos i ∷ labels_from (i + 1) n

-- codes under the labels i, i + 1 and so on
abbrev pub numbered : ℕ → List (List ℕ) → List Row
numbered i [] = []
numbered i (c ∷ cs) = record { label = pos i; code = c } ∷ numbered (i + 1) cs

abbrev pub row_of : ListRow → Row
row_of r = record { label = r.label; code = r.code }

-- the inner labels and codes, in order
abbrev pub rows_of_inner : Inner → List Row
rows_of_inner (Flat v) = numbered 0 v.codes
rows_of_inner (Ivf v) = map row_of v.rows
rows_of_inner (Hash v) = v.rows
rows_of_inner (Multi v) = numbered 0 v.codes

abbrev pub rows_of : IndexValue → List Row
rows_of v = rows_of_inner (inner_of v)

abbrev pub count_of_inner : Inner → ℕ
count_of_inner (Flat v) = length v.codes
count_of_inner (Ivf v) = length v.rows
count_of_inner (Hash v) = length v.rows
count_of_inner (Multi v) = length v.codes

abbrev pub count_of : IndexValue → ℕ
count_of v = count_of_inner (inner_of v)

abbrev pub is_trained_inner : Inner → Bool
is_trained_inner (Flat v) = true
is_trained_inner (Ivf v) = nat_le v.nlist (length v.centroids)
is_trained_inner (Hash v) = true
is_trained_inner (Multi v) = true

abbrev pub is_trained : IndexValue → Bool
is_trained v = is_trained_inner (inner_of v)

-- whether rows are added under labels that the caller chooses
abbrev pub takes_ids_inner : Inner → Bool
takes_ids_inner (Flat v) = false
takes_ids_inner (Ivf v) = not v.direct
takes_ids_inner (Hash v) = true
takes_ids_inner (Multi v) = false

abbrev pub takes_ids : IndexValue → Bool
takes_ids (Bare v) = takes_ids_inner v
takes_ids (IdMap name v ids) = true

-- what an index of these numbers weighs
abbrev pub weight : ℕ → ℕ → ℕ → ℕ → ℕ
weight dim maps rows centroids = rows * (dim / 8 + 16 + 64 * maps) + centroids * (dim / 8 + 16)

abbrev pub load_of_inner : Inner → ℕ
load_of_inner (Flat v) = weight v.dim 0 (length v.codes) 0
load_of_inner (Ivf v) = weight v.dim 0 (length v.rows) (length v.centroids)
load_of_inner (Hash v) = weight v.dim 1 (length v.rows) 0
load_of_inner (Multi v) = weight v.dim v.nhash (length v.codes) 0

abbrev pub load_of : IndexValue → ℕ
load_of v = load_of_inner (inner_of v)

-- a code of n bytes
pub record HasBytes (n : ℕ) (code : List ℕ) : Type 0 where
  pub size : length code ≡ n
  pub bytes : All (λ x. x < 2 ^ 8) code

-- a code of d bits
abbrev pub IsCode : ℕ → List ℕ → Type 0
IsCode d = HasBytes (d / 8)

pub record IsRow (d : ℕ) (row : Row) : Type 0 where
  pub label : FitsSigned w64 row.label
  pub code : IsCode d row.code

pub record IsListRow (d nlist : ℕ) (row : ListRow) : Type 0 where
  pub label : FitsSigned w64 row.label
  pub code : IsCode d row.code
  pub list : row.list < nlist

-- the labels are the numbers below their count, each once
abbrev pub IsNumbering : List ℤ → Type 0
IsNumbering labels = (n : ℕ) → n < length labels → count_by (int_eq (pos n)) labels ≡ 1

pub record IsLegalFlat (v : CodeList) : Type 0 where
  pub dim : IsDim v.dim
  pub codes : All (IsCode v.dim) v.codes
  pub load : load_of_inner (Flat v) ≤ load_limit

pub record IsLegalIvf (v : IvfValue) : Type 0 where
  pub dim : IsDim v.dim
  pub nlist_least : 1 ≤ v.nlist
  pub nlist_most : v.nlist ≤ 4194304
  pub nprobe_least : 1 ≤ v.nprobe
  pub nprobe_most : v.nprobe < 2 ^ 63
  pub max_codes : v.max_codes < 2 ^ 63
  pub centroids : All (IsCode v.dim) v.centroids
  pub held : length v.centroids ≤ v.nlist
  pub rows : All (IsListRow v.dim v.nlist) v.rows
  pub filled : 0 < length v.rows → length v.centroids ≡ v.nlist
  pub direct : v.direct ≡ true → IsNumbering (map (λ row. row.label) v.rows)
  pub load : load_of_inner (Ivf v) ≤ load_limit

pub record IsLegalHash (v : HashValue) : Type 0 where
  pub dim : IsDim v.dim
  pub b_least : 1 ≤ v.b
  pub b_most : v.b ≤ 64
  pub b_within : v.b ≤ v.dim
  pub nflip : v.nflip ≤ v.b
  pub rows : All (IsRow v.dim) v.rows
  pub load : load_of_inner (Hash v) ≤ load_limit

pub record IsLegalMulti (v : MultiValue) : Type 0 where
  pub dim : IsDim v.dim
  pub nhash_least : 1 ≤ v.nhash
  pub nhash_most : v.nhash ≤ 1024
  pub b_least : 1 ≤ v.b
  pub b_most : v.b ≤ 64
  pub within : v.nhash * v.b ≤ v.dim
  pub nflip : v.nflip ≤ v.b
  pub codes : All (IsCode v.dim) v.codes
  pub load : load_of_inner (Multi v) ≤ load_limit

abbrev pub IsLegalInner : Inner → Type 0
IsLegalInner (Flat v) = IsLegalFlat v
IsLegalInner (Ivf v) = IsLegalIvf v
IsLegalInner (Hash v) = IsLegalHash v
IsLegalInner (Multi v) = IsLegalMulti v

-- the label of a row is one of the places below n
pub record IsPlace (n : ℕ) (label : ℤ) : Type 0 where
  pub least : pos 0 ≤ℤ label
  pub most : label <ℤ pos n

pub record IsLegalMap (v : Inner) (outer_ids : List ℤ) : Type 0 where
  pub inner : IsLegalInner v
  pub ids : All (FitsSigned w64) outer_ids
  pub count : length outer_ids ≡ count_of_inner v
  pub labels : All (λ row. IsPlace (count_of_inner v) row.label) (rows_of_inner v)

abbrev pub IsLegal : IndexValue → Type 0
IsLegal (Bare v) = IsLegalInner v
IsLegal (IdMap name v ids) = IsLegalMap v ids

abbrev pub ids_of : IndexValue → List ℤ
ids_of (Bare v) = []
ids_of (IdMap name v ids) = ids
