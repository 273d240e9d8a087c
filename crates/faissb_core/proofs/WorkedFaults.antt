-- Faulty files, and what the script that loads them is answered.
use Rattle.std.specs.Prelude.{◌≡◌, ℕ, List, [], ◌∷◌, ◌++◌, map, take, codes}
use Rattle.std.proofs.Common.{replicate, refl}
use Rattle.std.specs.Fmt.{digits}
use Rattle.bcodes.specs.Bits.{key}
use Rattle.file_parts.specs.Fields.{header, dim_field, code_size_field, count_field, flag_field, metric_field}
use Rattle.file_parts.specs.Fields.{number_of, signed_of}
use Rattle.index_files.specs.Canon.{bit_length}
use Rattle.index_files.specs.Letters.{letters}
use Rattle.index_files.specs.FlatFormat.{code_bytes_field, flat_body, flat_inside}
use Rattle.index_files.specs.IvfFormat.{direct_map, full_sizes, sparse_sizes, list_sizes, list_id, list_rows, ivf_body}
use Rattle.index_files.specs.Counts.{known_count}
use Rattle.index_files.specs.HashFormat.{hash_run_checks, bucket_id, bucket_code, rows_under, bucket_rows, all_rows}
use Rattle.index_files.specs.HashFormat.{b_field, nflip_field, bucket_count_field, width_field, run_field}
use Rattle.index_files.specs.HashFormat.{buckets_of, hash_buckets, hash_rest, hash_body}
use Rattle.index_files.specs.MultiFormat.{map_run_checks, map_fields, multi_body}
use Rattle.index_files.specs.FileFormat.{file, body, map_body}
use Rattle.faissb_core.specs.Language.Lines.{line_of}
use Rattle.faissb_core.specs.Machine.Step.{step}
use Rattle.faissb_core.specs.Machine.Script.{script_text}
use Rattle.faissb_core.proofs.WorkedBytes.{four, eight, patched, with_f, flat_file, hash_file, multi_file, ivf_file}
use Rattle.faissb_core.proofs.WorkedBytes.{direct_file, map_file}

-- the load of each file is refused with these words and this place
abbrev Faults : List (List ℕ × List ℕ) → Type 0
Faults rows =
    map (λ r. script_text (codes "load f\n") (with_f r.0)) rows
    ≡ map (λ r. codes "refused file " ++ r.1 ++ codes "\n") rows

-- a Flat that is cut short
cut : Faults (
    (take 0 flat_file, codes "short at 0")
    ∷ (take 1 flat_file, codes "short at 0")
    ∷ (take 2 flat_file, codes "short at 0")
    ∷ (take 3 flat_file, codes "short at 0")
    ∷ (take 4 flat_file, codes "short at 4")
    ∷ (take 5 flat_file, codes "short at 4")
    ∷ (take 6 flat_file, codes "short at 4")
    ∷ (take 7 flat_file, codes "short at 4")
    ∷ (take 8 flat_file, codes "short at 8")
    ∷ (take 9 flat_file, codes "short at 8")
    ∷ (take 10 flat_file, codes "short at 8")
    ∷ (take 11 flat_file, codes "short at 8")
    ∷ (take 12 flat_file, codes "short at 12")
    ∷ (take 13 flat_file, codes "short at 12")
    ∷ (take 14 flat_file, codes "short at 12")
    ∷ (take 15 flat_file, codes "short at 12")
    ∷ (take 16 flat_file, codes "short at 12")
    ∷ (take 17 flat_file, codes "short at 12")
    ∷ (take 18 flat_file, codes "short at 12")
    ∷ (take 19 flat_file, codes "short at 12")
    ∷ (take 20 flat_file, codes "short at 20")
    ∷ (take 21 flat_file, codes "short at 21")
    ∷ (take 22 flat_file, codes "short at 21")
    ∷ (take 23 flat_file, codes "short at 21")
    ∷ (take 24 flat_file, codes "short at 21")
    ∷ (take 25 flat_file, codes "short at 25")
    ∷ (take 26 flat_file, codes "short at 25")
    ∷ (take 27 flat_file, codes "short at 25")
    ∷ (take 28 flat_file, codes "short at 25")
    ∷ (take 29 flat_file, codes "short at 25")
    ∷ (take 30 flat_file, codes "short at 25")
    ∷ (take 31 flat_file, codes "short at 25")
    ∷ (take 32 flat_file, codes "short at 25")
    ∷ (take 33 flat_file, codes "short at 33")
    ∷ [])
unfolding digits step line_of bit_length key file body map_body letters known_count code_bytes_field flat_body
    flat_inside direct_map full_sizes sparse_sizes list_sizes list_id list_rows ivf_body hash_run_checks bucket_id
    bucket_code bucket_rows hash_rest hash_buckets buckets_of run_field width_field bucket_count_field nflip_field
    b_field all_rows rows_under hash_body map_run_checks map_fields multi_body header dim_field code_size_field
    count_field flag_field metric_field number_of signed_of
cut = refl

-- a faulty Flat
faulty_flat : Faults (
    (patched 0 (codes "IBHf") flat_file, codes "leftout at 0")
    ∷ (patched 0 (codes "IBxx") flat_file, codes "fourcc at 0")
    ∷ (patched 4 (four 12) flat_file, codes "dim at 4")
    ∷ (patched 8 (four 2) flat_file, codes "codesize at 8")
    ∷ (patched 12 (replicate 8 255) flat_file, codes "count at 12")
    ∷ (patched 12 (0 ∷ 0 ∷ 0 ∷ 0 ∷ 0 ∷ 1 ∷ 0 ∷ 0 ∷ []) flat_file, codes "load at 12")
    ∷ (patched 20 (2 ∷ []) flat_file, codes "flag at 20")
    ∷ (patched 21 (four 2) flat_file, codes "metric at 21")
    ∷ (patched 25 (eight 2) flat_file, codes "vectorsize at 25")
    ∷ (flat_file ++ 0 ∷ [], codes "trailing at 34")
    ∷ [])
unfolding digits step line_of bit_length key file body map_body letters known_count code_bytes_field flat_body
    flat_inside direct_map full_sizes sparse_sizes list_sizes list_id list_rows ivf_body hash_run_checks bucket_id
    bucket_code bucket_rows hash_rest hash_buckets buckets_of run_field width_field bucket_count_field nflip_field
    b_field all_rows rows_under hash_body map_run_checks map_fields multi_body header dim_field code_size_field
    count_field flag_field metric_field number_of signed_of
faulty_flat = refl

-- a faulty Hash
faulty_hash : Faults (
    (patched 29 (four 9) hash_file, codes "number at 29")
    ∷ (patched 53 (0 ∷ 6 ∷ 20 ∷ []) hash_file, codes "padding at 53")
    ∷ (patched 53 (0 ∷ 2 ∷ 4 ∷ []) hash_file, codes "duplicatekey at 53")
    ∷ (patched 53 (0 ∷ 6 ∷ 0 ∷ []) hash_file, codes "emptybucket at 53")
    ∷ (patched 116 (2 ∷ 0 ∷ []) hash_file, codes "wrongbucket at 116")
    ∷ [])
unfolding digits step line_of bit_length key file body map_body letters known_count code_bytes_field flat_body
    flat_inside direct_map full_sizes sparse_sizes list_sizes list_id list_rows ivf_body hash_run_checks bucket_id
    bucket_code bucket_rows hash_rest hash_buckets buckets_of run_field width_field bucket_count_field nflip_field
    b_field all_rows rows_under hash_body map_run_checks map_fields multi_body header dim_field code_size_field
    count_field flag_field metric_field number_of signed_of
faulty_hash = refl

-- a faulty MultiHash
faulty_multi_hash : Faults (
    (patched 37 (eight 2) multi_file, codes "count at 37")
    ∷ (patched 76 (four 3) multi_file, codes "bits at 76")
    ∷ (patched 96 (1 ∷ 83 ∷ []) multi_file, codes "positions at 96")
    ∷ (patched 96 (2 ∷ 147 ∷ []) multi_file, codes "wrongbucket at 96")
    ∷ [])
unfolding digits step line_of bit_length key file body map_body letters known_count code_bytes_field flat_body
    flat_inside direct_map full_sizes sparse_sizes list_sizes list_id list_rows ivf_body hash_run_checks bucket_id
    bucket_code bucket_rows hash_rest hash_buckets buckets_of run_field width_field bucket_count_field nflip_field
    b_field all_rows rows_under hash_body map_run_checks map_fields multi_body header dim_field code_size_field
    count_field flag_field metric_field number_of signed_of
faulty_multi_hash = refl

-- a faulty IVF
faulty_ivf : Faults (
    (patched 53 (eight 1) ivf_file, codes "count at 53")
    ∷ (patched 76 (1 ∷ []) ivf_file, codes "vectorsize at 77")
    ∷ (patched 85 (codes "il00") ivf_file, codes "leftout at 85")
    ∷ (patched 109 (eight 0) ivf_file, codes "listsizes at 109")
    ∷ (patched 125 (eight 2) ivf_file, codes "listsizes at 125")
    ∷ [])
unfolding digits step line_of bit_length key file body map_body letters known_count code_bytes_field flat_body
    flat_inside direct_map full_sizes sparse_sizes list_sizes list_id list_rows ivf_body hash_run_checks bucket_id
    bucket_code bucket_rows hash_rest hash_buckets buckets_of run_field width_field bucket_count_field nflip_field
    b_field all_rows rows_under hash_body map_run_checks map_fields multi_body header dim_field code_size_field
    count_field flag_field metric_field number_of signed_of
faulty_ivf = refl

-- a faulty direct map
faulty_direct_map : Faults (
    (patched 85 (0 ∷ 0 ∷ 0 ∷ 0 ∷ four 1 ++ eight 0) direct_file, codes "directmap at 150")
    ∷ (patched 150 (eight 2) direct_file, codes "idrange at 150")
    ∷ (patched 76 (2 ∷ []) direct_file, codes "leftout at 76")
    ∷ (patched 76 (3 ∷ []) direct_file, codes "number at 76")
    ∷ [])
unfolding digits step line_of bit_length key file body map_body letters known_count code_bytes_field flat_body
    flat_inside direct_map full_sizes sparse_sizes list_sizes list_id list_rows ivf_body hash_run_checks bucket_id
    bucket_code bucket_rows hash_rest hash_buckets buckets_of run_field width_field bucket_count_field nflip_field
    b_field all_rows rows_under hash_body map_run_checks map_fields multi_body header dim_field code_size_field
    count_field flag_field metric_field number_of signed_of
faulty_direct_map = refl

-- an IDMap that is faulty
faulty_outer_ids : Faults (
    (patched 59 (eight 2) map_file, codes "vectorsize at 59")
    ∷ (patched 25 (codes "IBM2") map_file, codes "leftout at 25")
    ∷ [])
unfolding digits step line_of bit_length key file body map_body letters known_count code_bytes_field flat_body
    flat_inside direct_map full_sizes sparse_sizes list_sizes list_id list_rows ivf_body hash_run_checks bucket_id
    bucket_code bucket_rows hash_rest hash_buckets buckets_of run_field width_field bucket_count_field nflip_field
    b_field all_rows rows_under hash_body map_run_checks map_fields multi_body header dim_field code_size_field
    count_field flag_field metric_field number_of signed_of
faulty_outer_ids = refl
