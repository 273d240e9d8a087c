-- The worked files and the faulty ones.
use Rattle.std.proofs.Common.{◌≡◌, ℕ, ◌+◌, ◌/◌, List, [], ◌∷◌, ◌++◌, length, map, take, drop}
use Rattle.std.proofs.Common.{replicate, ℤ, pos, negsuc, true, false, Result, Ok, Err, Some, None, refl}
use Rattle.std.specs.Prelude.{codes}
use Rattle.file_parts.specs.declared.file_fault.FileFault.{FileFault}
use Rattle.file_parts.specs.declared.reason.Reason.{Reason}
use Rattle.file_parts.specs.declared.reason.Reason.TheVariants as reason
use Rattle.bcodes.specs.Bits.{key, differing}
use Rattle.bcodes.specs.declared.map_name.MapName.TheVariants.{Map}
use Rattle.bcodes.specs.Value.{Row, ListRow, IndexValue, Bare, IdMap, Flat, Ivf, Hash, Multi}
use Rattle.file_parts.specs.Format.{read}
use Rattle.file_parts.specs.Fields.{header, dim_field, code_size_field, count_field, flag_field, metric_field}
use Rattle.file_parts.specs.Fields.{number_of, signed_of, number_bytes, signed_bytes}
use Rattle.std.specs.List.{range_with_len}
use Rattle.index_files.specs.Groups.{on_list, filled, entry_of}
use Rattle.multi_hash.specs.Maps.{map_key, map_keys, positions}
use Rattle.bit_strings.specs.Packed.{low_bits, packed, bytes_of_bits}
use Rattle.multi_hash.specs.Wide.{wide}
use Rattle.index_files.specs.Canon.{bit_length, head as header_bytes, flat_bytes, canon}
use Rattle.index_files.specs.Letters.{letters}
use Rattle.index_files.specs.Counts.{known_count}
use Rattle.index_files.specs.FlatFormat.{code_bytes_field, flat_body, flat_inside}
use Rattle.index_files.specs.IvfFormat.{direct_map, full_sizes, sparse_sizes, list_sizes, list_id, list_rows, ivf_body}
use Rattle.index_files.specs.HashFormat.{hash_run_checks, bucket_id, bucket_code, bucket_rows, hash_body}
use Rattle.index_files.specs.HashFormat.{hash_rest, b_field, nflip_field, hash_buckets, bucket_count_field, width_field}
use Rattle.index_files.specs.HashFormat.{buckets_of, run_field, all_rows, rows_under}
use Rattle.index_files.specs.MultiFormat.{map_run_checks, map_fields, multi_body}
use Rattle.index_files.specs.FileFormat.{file, body, map_body}

abbrev pub Read : Type 0
Read = Result IndexValue FileFault

abbrev pub bad : Reason → ℕ → Read
bad why at = Err (record { at = at; reason = why })

abbrev pub good : IndexValue → Read
good v = Ok v

abbrev pub row : ℤ → List ℕ → Row
row label code = record { label = label; code = code }

abbrev pub list_row : ℤ → List ℕ → ℕ → ListRow
list_row label code list = record { label = label; code = code; list = list }

-- a number below 256 in four bytes and in eight
abbrev pub four : ℕ → List ℕ
four n = n ∷ replicate 3 0

abbrev pub eight : ℕ → List ℕ
eight n = n ∷ replicate 7 0

-- the bytes from a place on replaced
abbrev pub patched : ℕ → List ℕ → List ℕ → List ℕ
patched at new bytes = take at bytes ++ new ++ drop (at + length new) bytes

-- the header of an index of d bits and n rows
abbrev pub head : ℕ → ℕ → List ℕ
head d n = four d ++ four (d / 8) ++ eight n ++ 1 ∷ four 1

-- these files are read so
abbrev pub Reads : List (List ℕ × Read) → Type 0
Reads rows = map (λ r. read file r.0) rows ≡ map (λ r. r.1) rows

-- these values are written so
abbrev pub Writes : List (IndexValue × List ℕ) → Type 0
Writes rows = map (λ r. canon r.0) rows ≡ map (λ r. r.1) rows

abbrev file_A : List ℕ
file_A = codes "IBxF" ++ head 8 1 ++ eight 1 ++ 171 ∷ []

abbrev B_head : List ℕ
B_head = codes "IBHh" ++ head 16 3 ++ four 8 ++ four 0 ++ eight 2 ++ four 2

abbrev B_first : List ℕ
B_first = eight 2 ++ eight 0 ++ eight 1 ++ eight 4 ++ 0 ∷ 0 ∷ 0 ∷ 1 ∷ []

abbrev B_second : List ℕ
B_second = eight 1 ++ eight 2 ++ eight 2 ++ 1 ∷ 0 ∷ []

abbrev file_B : List ℕ
file_B = B_head ++ eight 3 ++ 0 ∷ 6 ∷ 4 ∷ B_first ++ B_second

abbrev file_B2 : List ℕ
file_B2 = B_head ++ eight 3 ++ 1 ∷ 1 ∷ 8 ∷ B_second ++ B_first

abbrev file_C : List ℕ
file_C =
    codes "IBHm" ++ head 16 3 ++ codes "IBxF" ++ head 16 3 ++ eight 6 ++ 1 ∷ 0 ∷ 1 ∷ 0 ∷ 1 ∷ 0 ∷ four 8
    ++ four 2 ++ four 0
    ++ four 2 ++ eight 1 ++ eight 2 ++ 1 ∷ 147 ∷ four 2 ++ eight 1 ++ eight 2 ++ 0 ∷ 147 ∷ []

abbrev ivf_head : ℕ → List ℕ
ivf_head n =
    codes "IBwF" ++ head 8 n ++ eight 2 ++ eight 1 ++ codes "IBxF" ++ head 8 2 ++ eight 2 ++ 0 ∷ 255 ∷ []

abbrev file_D : List ℕ
file_D =
    ivf_head 1 ++ 0 ∷ eight 0 ++ codes "ilar" ++ eight 2 ++ eight 1
    ++ codes "sprs" ++ eight 2 ++ eight 0 ++ eight 1 ++ 15 ∷ eight 0

abbrev file_E : List ℕ
file_E = codes "IBMp" ++ head 8 1 ++ file_A ++ eight 1 ++ replicate 8 255

abbrev F_entries : List ℕ
F_entries = eight 0 ++ 0 ∷ 0 ∷ 0 ∷ 0 ∷ four 1

abbrev file_F : List ℕ
file_F =
    ivf_head 2 ++ 1 ∷ eight 2 ++ F_entries ++ codes "ilar" ++ eight 2 ++ eight 1
    ++ codes "full" ++ eight 2 ++ eight 1 ++ eight 1 ++ 15 ∷ eight 0 ++ 255 ∷ eight 1

abbrev value_A : IndexValue
value_A = Bare (Flat (record { dim = 8; codes = (171 ∷ []) ∷ [] }))

abbrev value_B : List Row → IndexValue
value_B rows = Bare (Hash (record { dim = 16; b = 8; nflip = 0; rows = rows }))

abbrev zero_rows : List Row
zero_rows = row (pos 0) (0 ∷ 0 ∷ []) ∷ row (pos 1) (0 ∷ 1 ∷ []) ∷ []

abbrev one_row : List Row
one_row = row (pos 2) (1 ∷ 0 ∷ []) ∷ []

abbrev value_C : List (List ℕ) → IndexValue
value_C cs = Bare (Multi (record { dim = 16; nhash = 2; b = 8; nflip = 0; codes = cs }))

abbrev three : List (List ℕ)
three = (1 ∷ 0 ∷ []) ∷ (1 ∷ 0 ∷ []) ∷ (1 ∷ 0 ∷ []) ∷ []

abbrev centroids : List (List ℕ)
centroids = (0 ∷ []) ∷ (255 ∷ []) ∷ []

abbrev value_D : IndexValue
value_D = Bare (Ivf (record {
  dim = 8;
  nlist = 2;
  nprobe = 1;
  max_codes = 0;
  direct = false;
  centroids = centroids;
  rows = list_row (pos 0) (15 ∷ []) 0 ∷ [];
}))

abbrev value_E : IndexValue
value_E = IdMap Map (Flat (record { dim = 8; codes = (171 ∷ []) ∷ [] })) (negsuc 0 ∷ [])

abbrev value_F : ℕ → List ListRow → IndexValue
value_F most rows = Bare (Ivf (record {
  dim = 8;
  nlist = 2;
  nprobe = 1;
  max_codes = most;
  direct = true;
  centroids =
      centroids;
  rows = rows;
}))

abbrev empty_ivf : ℕ → List ℕ
empty_ivf direct =
    patched 20 (0 ∷ []) (codes "IBwF" ++ head 8 0 ++ eight 2 ++ eight 1 ++ codes "IBxF" ++ head 8 0 ++ eight 0
    ++ direct ∷ eight 0
    ++ codes "ilar" ++ eight 2 ++ eight 1 ++ codes "sprs" ++ eight 0)

abbrev empty_hash : ℕ → List ℕ
empty_hash bits = codes "IBHh" ++ head 16 0 ++ four 8 ++ four 0 ++ eight 0 ++ four bits ++ eight 0

abbrev F_rows : List ListRow
F_rows = list_row (pos 0) (15 ∷ []) 0 ∷ list_row (pos 1) (255 ∷ []) 1 ∷ []

-- each stands for its value
accepted : Reads (
    (file_A, good value_A)
    ∷ (file_B, good (value_B (zero_rows ++ one_row)))
    ∷ (file_B2, good (value_B (one_row ++ zero_rows)))
    ∷ (file_C, good (value_C three))
    ∷ (file_D, good value_D)
    ∷ (file_E, good value_E)
    ∷ (file_F, good (value_F 0 F_rows))
    ∷ [])
unfolding file body map_body letters code_bytes_field flat_body flat_inside direct_map
    full_sizes sparse_sizes list_sizes list_id list_rows ivf_body hash_run_checks bucket_id bucket_code bucket_rows
    hash_body map_run_checks map_fields multi_body header dim_field code_size_field count_field flag_field
    hash_rest b_field nflip_field hash_buckets bucket_count_field width_field buckets_of known_count run_field all_rows
    rows_under
    metric_field number_of signed_of bit_length key
accepted = refl

-- a faulty Flat
faulty_A : Reads (
    (patched 0 (codes "IBHf") file_A, bad reason.LeftOut 0)
    ∷ (patched 0 (codes "IBxx") file_A, bad reason.Fourcc 0)
    ∷ (patched 4 (four 12) file_A, bad reason.Dim 4)
    ∷ (patched 8 (four 2) file_A, bad reason.CodeSize 8)
    ∷ (patched 12 (replicate 8 255) file_A, bad reason.Count 12)
    ∷ (patched 12 (0 ∷ 0 ∷ 0 ∷ 0 ∷ 0 ∷ 1 ∷ 0 ∷ 0 ∷ []) file_A, bad reason.Load 12)
    ∷ (patched 20 (2 ∷ []) file_A, bad reason.Flag 20)
    ∷ (patched 21 (four 2) file_A, bad reason.Metric 21)
    ∷ (patched 25 (eight 2) file_A, bad reason.VectorSize 25)
    ∷ (file_A ++ 0 ∷ [], bad reason.Trailing 34)
    ∷ (
      patched 12 (0 ∷ 0 ∷ 0 ∷ 2 ∷ 0 ∷ 0 ∷ 0 ∷ 0 ∷ [])
          (patched 25 (0 ∷ 0 ∷ 0 ∷ 2 ∷ 0 ∷ 0 ∷ 0 ∷ 0 ∷ []) file_A),
      bad reason.Short 34,
    )
    ∷ [])
unfolding file body map_body letters code_bytes_field flat_body flat_inside direct_map
    full_sizes sparse_sizes list_sizes list_id list_rows ivf_body hash_run_checks bucket_id bucket_code bucket_rows
    hash_body map_run_checks map_fields multi_body header dim_field code_size_field count_field flag_field
    hash_rest b_field nflip_field hash_buckets bucket_count_field width_field buckets_of known_count run_field all_rows
    rows_under
    metric_field number_of signed_of bit_length key
faulty_A = refl

-- a faulty Hash
faulty_B : Reads (
    (patched 29 (four 9) file_B, bad reason.Number 29)
    ∷ (patched 53 (0 ∷ 6 ∷ 20 ∷ []) file_B, bad reason.Padding 53)
    ∷ (patched 53 (0 ∷ 2 ∷ 4 ∷ []) file_B, bad reason.DuplicateKey 53)
    ∷ (patched 53 (0 ∷ 6 ∷ 0 ∷ []) file_B, bad reason.EmptyBucket 53)
    ∷ (patched 116 (2 ∷ 0 ∷ []) file_B, bad reason.WrongBucket 116)
    ∷ [])
unfolding file body map_body letters code_bytes_field flat_body flat_inside direct_map
    full_sizes sparse_sizes list_sizes list_id list_rows ivf_body hash_run_checks bucket_id bucket_code bucket_rows
    hash_body map_run_checks map_fields multi_body header dim_field code_size_field count_field flag_field
    hash_rest b_field nflip_field hash_buckets bucket_count_field width_field buckets_of known_count run_field all_rows
    rows_under
    metric_field number_of signed_of bit_length key
faulty_B = refl

-- a faulty MultiHash
faulty_C : Reads (
    (patched 37 (eight 2) file_C, bad reason.Count 37)
    ∷ (patched 76 (four 3) file_C, bad reason.Bits 76)
    ∷ (patched 96 (1 ∷ 83 ∷ []) file_C, bad reason.Positions 96)
    ∷ (patched 96 (2 ∷ 147 ∷ []) file_C, bad reason.WrongBucket 96)
    ∷ [])
unfolding file body map_body letters code_bytes_field flat_body flat_inside direct_map
    full_sizes sparse_sizes list_sizes list_id list_rows ivf_body hash_run_checks bucket_id bucket_code bucket_rows
    hash_body map_run_checks map_fields multi_body header dim_field code_size_field count_field flag_field
    hash_rest b_field nflip_field hash_buckets bucket_count_field width_field buckets_of known_count run_field all_rows
    rows_under
    metric_field number_of signed_of bit_length key
faulty_C = refl

-- a faulty IVF; with the type 1 its direct map would have an entry
faulty_D : Reads (
    (patched 53 (eight 1) file_D, bad reason.Count 53)
    ∷ (patched 76 (1 ∷ []) file_D, bad reason.VectorSize 77)
    ∷ (patched 85 (codes "il00") file_D, bad reason.LeftOut 85)
    ∷ (patched 109 (eight 0) file_D, bad reason.ListSizes 109)
    ∷ (patched 125 (eight 2) file_D, bad reason.ListSizes 125)
    ∷ [])
unfolding file body map_body letters code_bytes_field flat_body flat_inside direct_map
    full_sizes sparse_sizes list_sizes list_id list_rows ivf_body hash_run_checks bucket_id bucket_code bucket_rows
    hash_body map_run_checks map_fields multi_body header dim_field code_size_field count_field flag_field
    hash_rest b_field nflip_field hash_buckets bucket_count_field width_field buckets_of known_count run_field all_rows
    rows_under
    metric_field number_of signed_of bit_length key
faulty_D = refl

-- a faulty IDMap
faulty_E : Reads (
    (patched 59 (eight 2) file_E, bad reason.VectorSize 59)
    ∷ (patched 25 (codes "IBM2") file_E, bad reason.LeftOut 25)
    ∷ [])
unfolding file body map_body letters code_bytes_field flat_body flat_inside direct_map
    full_sizes sparse_sizes list_sizes list_id list_rows ivf_body hash_run_checks bucket_id bucket_code bucket_rows
    hash_body map_run_checks map_fields multi_body header dim_field code_size_field count_field flag_field
    hash_rest b_field nflip_field hash_buckets bucket_count_field width_field buckets_of known_count run_field all_rows
    rows_under
    metric_field number_of signed_of bit_length key
faulty_E = refl

-- a faulty direct map: its entries exchanged, an id too great, and two types
faulty_F : Reads (
    (patched 85 (0 ∷ 0 ∷ 0 ∷ 0 ∷ four 1 ++ eight 0) file_F, bad reason.DirectMap 150)
    ∷ (patched 150 (eight 2) file_F, bad reason.IdRange 150)
    ∷ (patched 76 (2 ∷ []) file_F, bad reason.LeftOut 76)
    ∷ (patched 76 (3 ∷ []) file_F, bad reason.Number 76)
    ∷ [])
unfolding file body map_body letters code_bytes_field flat_body flat_inside direct_map
    full_sizes sparse_sizes list_sizes list_id list_rows ivf_body hash_run_checks bucket_id bucket_code bucket_rows
    hash_body map_run_checks map_fields multi_body header dim_field code_size_field count_field flag_field
    hash_rest b_field nflip_field hash_buckets bucket_count_field width_field buckets_of known_count run_field all_rows
    rows_under
    metric_field number_of signed_of bit_length key
faulty_F = refl

-- indexes without rows: a direct map may be kept, and a Hash has sizes of 0 bits
empty : Reads ((
  empty_ivf 1,
  good (Bare (Ivf (record {
    dim = 8;
    nlist = 2;
    nprobe = 1;
    max_codes = 0;
    direct = true;
    centroids =
        [];
    rows = [];
  }))),
)
    ∷ (
      empty_ivf 0,
      good (Bare (Ivf (record {
        dim = 8;
        nlist = 2;
        nprobe = 1;
        max_codes = 0;
        direct = false;
        centroids = [];
        rows = [];
      }))),
    )
    ∷ (empty_hash 0, good (value_B []))
    ∷ (empty_hash 1, bad reason.Bits 53)
    ∷ [])
unfolding file body map_body letters code_bytes_field flat_body flat_inside direct_map
    full_sizes sparse_sizes list_sizes list_id list_rows ivf_body hash_run_checks bucket_id bucket_code bucket_rows
    hash_body map_run_checks map_fields multi_body header dim_field code_size_field count_field flag_field
    hash_rest b_field nflip_field hash_buckets bucket_count_field width_field buckets_of known_count run_field all_rows
    rows_under
    metric_field number_of signed_of bit_length key
empty = refl

-- the Flat cut to each length: the field that is not whole
cut : map (λ n. read file (take n file_A)) (range_with_len 0 34)
    ≡ map (bad reason.Short) (0 ∷ 0 ∷ 0 ∷ 0 ∷ 4 ∷ 4 ∷ 4 ∷ 4 ∷ 8 ∷ 8 ∷ 8 ∷ 8 ∷ 12 ∷ 12
    ∷ 12 ∷ 12 ∷ 12 ∷ 12 ∷ 12 ∷ 12 ∷ 20 ∷ 21 ∷ 21 ∷ 21 ∷ 21 ∷ 25 ∷ 25 ∷ 25 ∷ 25 ∷ 25
    ∷ 25 ∷ 25 ∷ 25 ∷ 33 ∷ [])
unfolding file body map_body letters code_bytes_field flat_body flat_inside direct_map
    full_sizes sparse_sizes list_sizes list_id list_rows ivf_body hash_run_checks bucket_id bucket_code bucket_rows
    hash_body map_run_checks map_fields multi_body header dim_field code_size_field count_field flag_field
    hash_rest b_field nflip_field hash_buckets bucket_count_field width_field buckets_of known_count run_field all_rows
    rows_under
    metric_field number_of signed_of bit_length key
cut = refl

-- each is the spelling of its value; a limit on codes is not written, and rows go list by list and bucket by bucket
written : Writes (
    (value_A, file_A)
    ∷ (value_B (zero_rows ++ one_row), file_B)
    ∷ (value_B (one_row ++ zero_rows), file_B2)
    ∷ (value_C three, file_C)
    ∷ (value_D, file_D)
    ∷ (value_E, file_E)
    ∷ (value_F 2 (list_row (pos 1) (255 ∷ []) 1 ∷ list_row (pos 0) (15 ∷ []) 0 ∷ []), file_F)
    ∷ [])
unfolding canon number_bytes signed_bytes header_bytes flat_bytes low_bits on_list filled entry_of map_key map_keys
    positions packed bytes_of_bits bit_length key
written = refl

wide_buckets : map (λ cs. wide (value_C cs))
    (((1 ∷ 0 ∷ []) ∷ []) ∷ ((1 ∷ 0 ∷ []) ∷ (1 ∷ 1 ∷ []) ∷ []) ∷ three ∷ [])
    ≡ Some (record { map = 0; size = 1 }) ∷ Some (record { map = 0; size = 2 }) ∷ None ∷ []
unfolding wide differing
wide_buckets = refl
