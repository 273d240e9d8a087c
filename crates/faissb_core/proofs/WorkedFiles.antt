-- Worked scripts that save and load, as the definitions compute them, whatever the code does.
use Rattle.std.specs.Prelude.{◌≡◌, ℕ, List, codes, Option, Some, None}
use Rattle.std.proofs.Common.{refl}
use Rattle.std.specs.Fmt.{digits}
use Rattle.hex.specs.Hex.{decode_pairs, encode_with}
use Rattle.bcodes.specs.Bits.{differing, key}
use Rattle.bcodes.specs.Hits.{is_above}
use Rattle.bcodes.specs.Answers.{hits, best, within, looked, after_add, after_centroids}
use Rattle.factory_text.specs.Reading.{read_spec}
use Rattle.multi_hash.specs.Maps.{map_key, map_keys, positions}
use Rattle.multi_hash.specs.Wide.{wide}
use Rattle.bit_strings.specs.Packed.{low_bits, packed, bytes_of_bits}
use Rattle.file_parts.specs.Fields.{header, dim_field, code_size_field, count_field, flag_field, metric_field}
use Rattle.file_parts.specs.Fields.{number_of, signed_of, number_bytes, signed_bytes}
use Rattle.index_files.specs.Groups.{on_list, filled, entry_of}
use Rattle.index_files.specs.Canon.{bit_length, head as header_bytes, flat_bytes, canon}
use Rattle.index_files.specs.Letters.{letters}
use Rattle.index_files.specs.FlatFormat.{code_bytes_field, flat_body, flat_inside}
use Rattle.index_files.specs.IvfFormat.{direct_map, full_sizes, sparse_sizes, list_sizes, list_id, list_rows, ivf_body}
use Rattle.index_files.specs.Counts.{known_count}
use Rattle.index_files.specs.HashFormat.{hash_run_checks, bucket_id, bucket_code, rows_under, bucket_rows, all_rows}
use Rattle.index_files.specs.HashFormat.{b_field, nflip_field, bucket_count_field, width_field, run_field}
use Rattle.index_files.specs.HashFormat.{buckets_of, hash_buckets, hash_rest, hash_body}
use Rattle.index_files.specs.MultiFormat.{map_run_checks, map_fields, multi_body}
use Rattle.index_files.specs.FileFormat.{file, body, map_body}
use Rattle.outside.specs.Contents.{Files, no_files}
use Rattle.faissb_core.specs.Language.Lines.{line_of}
use Rattle.faissb_core.specs.Machine.Step.{step}
use Rattle.faissb_core.specs.Machine.Script.{check_script, script_files, script_text}
use Rattle.faissb_core.proofs.WorkedBytes.{with_f, flat_file, hash_file, other_hash_file, multi_file, ivf_file}
use Rattle.faissb_core.proofs.WorkedBytes.{direct_file, map_file}

-- the script, from these files on, is answered with this text
abbrev Answers : Files → List ℕ → List ℕ → Type 0
Answers files script text = script_text script files ≡ text

-- and leaves this file of the name `f`
abbrev Leaves : Files → List ℕ → Option (List ℕ) → Type 0
Leaves files script bytes = script_files script files (codes "f") ≡ bytes

saved_flat : Answers no_files (codes "new 8 BFlat\nadd ab\nsave f\n")
    (codes "ok\nadded 1 total 1\nsaved 34\n")
unfolding digits step line_of read_spec hits best within looked after_add after_centroids differing is_above
    decode_pairs encode_with bit_length key canon wide number_bytes signed_bytes header_bytes flat_bytes low_bits
    packed bytes_of_bits on_list filled entry_of map_keys map_key positions
saved_flat = refl

flat_is_written : Leaves no_files (codes "new 8 BFlat\nadd ab\nsave f\n")
    (Some flat_file)
unfolding digits step line_of read_spec hits best within looked after_add after_centroids differing is_above
    decode_pairs encode_with bit_length key canon wide number_bytes signed_bytes header_bytes flat_bytes low_bits
    packed bytes_of_bits on_list filled entry_of map_keys map_key positions
flat_is_written = refl

loaded_flat : Answers (with_f flat_file) (codes "load f\nsearch 1 ab\n")
    (codes "loaded 1\nhits 1 looked 1 exact\n0 0\n")
unfolding digits step line_of read_spec hits best within looked after_add after_centroids differing is_above
    decode_pairs encode_with bit_length key file body map_body letters known_count code_bytes_field flat_body
    flat_inside direct_map full_sizes sparse_sizes list_sizes list_id list_rows ivf_body hash_run_checks bucket_id
    bucket_code bucket_rows hash_rest hash_buckets buckets_of run_field width_field bucket_count_field nflip_field
    b_field all_rows rows_under hash_body map_run_checks map_fields multi_body header dim_field code_size_field
    count_field flag_field metric_field number_of signed_of
loaded_flat = refl

saved_and_loaded : Answers no_files (codes "new 8 BFlat\nadd ab\nsave f\nload f\nsearch 1 ab\n")
    (codes "ok\nadded 1 total 1\nsaved 34\nloaded 1\nhits 1 looked 1 exact\n0 0\n")
unfolding digits step line_of read_spec hits best within looked after_add after_centroids differing is_above
    decode_pairs encode_with bit_length key file body map_body letters known_count code_bytes_field flat_body
    flat_inside direct_map full_sizes sparse_sizes list_sizes list_id list_rows ivf_body hash_run_checks bucket_id
    bucket_code bucket_rows hash_rest hash_buckets buckets_of run_field width_field bucket_count_field nflip_field
    b_field all_rows rows_under hash_body map_run_checks map_fields multi_body header dim_field code_size_field
    count_field flag_field metric_field number_of signed_of canon wide number_bytes signed_bytes header_bytes
    flat_bytes low_bits packed bytes_of_bits on_list filled entry_of map_keys map_key positions
saved_and_loaded = refl

wide_buckets : Answers no_files (codes "new 16 BHash2x8\nadd 0100\nsave f\nadd 0101\nsave f\n")
    (codes "ok\nadded 1 total 1\nrefused bucketbits 0 1\nadded 1 total 2\nrefused bucketbits 0 2\n")
unfolding digits step line_of read_spec hits best within looked after_add after_centroids differing is_above
    decode_pairs encode_with bit_length key canon wide number_bytes signed_bytes header_bytes flat_bytes low_bits
    packed bytes_of_bits on_list filled entry_of map_keys map_key positions
wide_buckets = refl

a_refused_save_writes_nothing : Leaves no_files (codes "new 16 BHash2x8\nadd 0100\nsave f\nadd 0101\nsave f\n")
    None
unfolding digits step line_of read_spec hits best within looked after_add after_centroids differing is_above
    decode_pairs encode_with bit_length key canon wide number_bytes signed_bytes header_bytes flat_bytes low_bits
    packed bytes_of_bits on_list filled entry_of map_keys map_key positions
a_refused_save_writes_nothing = refl

saved_multi_hash : Answers no_files (codes "new 16 BHash2x8\nadd 0100 0100 0100\nsave f\n")
    (codes "ok\nadded 3 total 3\nsaved 120\n")
unfolding digits step line_of read_spec hits best within looked after_add after_centroids differing is_above
    decode_pairs encode_with bit_length key canon wide number_bytes signed_bytes header_bytes flat_bytes low_bits
    packed bytes_of_bits on_list filled entry_of map_keys map_key positions
saved_multi_hash = refl

multi_hash_is_written : Leaves no_files (codes "new 16 BHash2x8\nadd 0100 0100 0100\nsave f\n")
    (Some multi_file)
unfolding digits step line_of read_spec hits best within looked after_add after_centroids differing is_above
    decode_pairs encode_with bit_length key canon wide number_bytes signed_bytes header_bytes flat_bytes low_bits
    packed bytes_of_bits on_list filled entry_of map_keys map_key positions
multi_hash_is_written = refl

loaded_multi_hash : Answers (with_f multi_file) (codes "load f\nrange 1 0100\n")
    (codes "loaded 3\nhits 3 looked 3 exact\n0 0\n1 0\n2 0\n")
unfolding digits step line_of read_spec hits best within looked after_add after_centroids differing is_above
    decode_pairs encode_with bit_length key file body map_body letters known_count code_bytes_field flat_body
    flat_inside direct_map full_sizes sparse_sizes list_sizes list_id list_rows ivf_body hash_run_checks bucket_id
    bucket_code bucket_rows hash_rest hash_buckets buckets_of run_field width_field bucket_count_field nflip_field
    b_field all_rows rows_under hash_body map_run_checks map_fields multi_body header dim_field code_size_field
    count_field flag_field metric_field number_of signed_of
loaded_multi_hash = refl

saved_hash : Answers no_files (codes "new 16 BHash8\nadd 0000 0001 0100\nsave f\n")
    (codes "ok\nadded 3 total 3\nsaved 118\n")
unfolding digits step line_of read_spec hits best within looked after_add after_centroids differing is_above
    decode_pairs encode_with bit_length key canon wide number_bytes signed_bytes header_bytes flat_bytes low_bits
    packed bytes_of_bits on_list filled entry_of map_keys map_key positions
saved_hash = refl

hash_is_written : Leaves no_files (codes "new 16 BHash8\nadd 0000 0001 0100\nsave f\n")
    (Some hash_file)
unfolding digits step line_of read_spec hits best within looked after_add after_centroids differing is_above
    decode_pairs encode_with bit_length key canon wide number_bytes signed_bytes header_bytes flat_bytes low_bits
    packed bytes_of_bits on_list filled entry_of map_keys map_key positions
hash_is_written = refl

loaded_hash : Answers (with_f hash_file) (codes "load f\nrange 1 0000\nrange 2 0000\nsearch 2 0000\nsearch 1 0000\n")
    (codes "loaded 3\nhits 1 looked 2 exact\n0 0\nhits 2 looked 2 partial\n0 0\n1 1\nhits 2 looked 2 partial\n0 0\n1 1\nhits 1 looked 2 exact\n0 0\n")
unfolding digits step line_of read_spec hits best within looked after_add after_centroids differing is_above
    decode_pairs encode_with bit_length key file body map_body letters known_count code_bytes_field flat_body
    flat_inside direct_map full_sizes sparse_sizes list_sizes list_id list_rows ivf_body hash_run_checks bucket_id
    bucket_code bucket_rows hash_rest hash_buckets buckets_of run_field width_field bucket_count_field nflip_field
    b_field all_rows rows_under hash_body map_run_checks map_fields multi_body header dim_field code_size_field
    count_field flag_field metric_field number_of signed_of
loaded_hash = refl

buckets_in_another_order : Answers (with_f other_hash_file) (codes "load f\nrange 1 0000\nrange 2 0000\nsearch 2 0000\nsearch 1 0000\n")
    (codes "loaded 3\nhits 1 looked 2 exact\n0 0\nhits 2 looked 2 partial\n0 0\n1 1\nhits 2 looked 2 partial\n0 0\n1 1\nhits 1 looked 2 exact\n0 0\n")
unfolding digits step line_of read_spec hits best within looked after_add after_centroids differing is_above
    decode_pairs encode_with bit_length key file body map_body letters known_count code_bytes_field flat_body
    flat_inside direct_map full_sizes sparse_sizes list_sizes list_id list_rows ivf_body hash_run_checks bucket_id
    bucket_code bucket_rows hash_rest hash_buckets buckets_of run_field width_field bucket_count_field nflip_field
    b_field all_rows rows_under hash_body map_run_checks map_fields multi_body header dim_field code_size_field
    count_field flag_field metric_field number_of signed_of
buckets_in_another_order = refl

their_order_is_kept : Leaves (with_f other_hash_file) (codes "load f\nsave f\n")
    (Some other_hash_file)
unfolding digits step line_of read_spec hits best within looked after_add after_centroids differing is_above
    decode_pairs encode_with bit_length key file body map_body letters known_count code_bytes_field flat_body
    flat_inside direct_map full_sizes sparse_sizes list_sizes list_id list_rows ivf_body hash_run_checks bucket_id
    bucket_code bucket_rows hash_rest hash_buckets buckets_of run_field width_field bucket_count_field nflip_field
    b_field all_rows rows_under hash_body map_run_checks map_fields multi_body header dim_field code_size_field
    count_field flag_field metric_field number_of signed_of canon wide number_bytes signed_bytes header_bytes
    flat_bytes low_bits packed bytes_of_bits on_list filled entry_of map_keys map_key positions
their_order_is_kept = refl

no_such_file : Answers no_files (codes "new 16 BFlat\nadd 0000 0100\nload a\nsearch 1 0000\nsave .f\nsave f/g\nload\n")
    (codes "ok\nadded 2 total 2\nrefused nofile\nhits 1 looked 2 exact\n0 0\nrefused line\nrefused line\nrefused line\n")
unfolding digits step line_of read_spec hits best within looked after_add after_centroids differing is_above
    decode_pairs encode_with
no_such_file = refl

save_without_index : Answers no_files (codes "save f\nload f\n")
    (codes "refused none\nrefused nofile\n")
unfolding digits step line_of read_spec hits best within looked after_add after_centroids differing is_above
    decode_pairs encode_with
save_without_index = refl

saved_multi_hash_under_outer_ids : Answers no_files (codes "new 256 IDMap2,BHash16x16\naddids 1001:0000000000000000000000000000000000000000000000000000000000000000 1002:ff00000000000000000000000000000000000000000000000000000000000000 1003:ffffffffffffffffffffffffffffffffffffffffffffffffffffffffffffffff\nnflip 1\nrange 32 0000000000000000000000000000000000000000000000000000000000000000\nsave f\nshow\n")
    (codes "ok\nadded 3 total 3\nok\nhits 2 looked 2 exact\n1001 0\n1002 8\nsaved 641\nindex IDMap2,BHash16x16\nd 256\ntotal 3\ntrained yes\nnhash 16\nb 16\nnflip 1\nbound 32\nbuckets 3 2 2 2 2 2 2 2 2 2 2 2 2 2 2 2\n")
unfolding digits step line_of read_spec hits best within looked after_add after_centroids differing is_above
    decode_pairs encode_with bit_length key canon wide number_bytes signed_bytes header_bytes flat_bytes low_bits
    packed bytes_of_bits on_list filled entry_of map_keys map_key positions
saved_multi_hash_under_outer_ids = refl

saved_ivf : Answers no_files (codes "new 8 BIVF2\ncentroids 00 ff\nadd 0f\nsave f\nshow\n")
    (codes "ok\ncentroids 2 of 2\nadded 1 total 1\nsaved 142\nindex BIVF2\nd 8\ntotal 1\ntrained yes\nnlist 2\nnprobe 1\ncentroids 2\n")
unfolding digits step line_of read_spec hits best within looked after_add after_centroids differing is_above
    decode_pairs encode_with bit_length key canon wide number_bytes signed_bytes header_bytes flat_bytes low_bits
    packed bytes_of_bits on_list filled entry_of map_keys map_key positions
saved_ivf = refl

ivf_is_written : Leaves no_files (codes "new 8 BIVF2\ncentroids 00 ff\nadd 0f\nsave f\nshow\n")
    (Some ivf_file)
unfolding digits step line_of read_spec hits best within looked after_add after_centroids differing is_above
    decode_pairs encode_with bit_length key canon wide number_bytes signed_bytes header_bytes flat_bytes low_bits
    packed bytes_of_bits on_list filled entry_of map_keys map_key positions
ivf_is_written = refl

loaded_ivf : Answers (with_f ivf_file) (codes "load f\nnprobe 2\nsearch 1 ff\n")
    (codes "loaded 1\nok\nhits 1 looked 3 exact\n0 4\n")
unfolding digits step line_of read_spec hits best within looked after_add after_centroids differing is_above
    decode_pairs encode_with bit_length key file body map_body letters known_count code_bytes_field flat_body
    flat_inside direct_map full_sizes sparse_sizes list_sizes list_id list_rows ivf_body hash_run_checks bucket_id
    bucket_code bucket_rows hash_rest hash_buckets buckets_of run_field width_field bucket_count_field nflip_field
    b_field all_rows rows_under hash_body map_run_checks map_fields multi_body header dim_field code_size_field
    count_field flag_field metric_field number_of signed_of
loaded_ivf = refl

checked_flat : Answers (with_f flat_file) (check_script (codes "f"))
    (codes "loaded 1\nindex BFlat\nd 8\ntotal 1\ntrained yes\n")
unfolding digits step line_of read_spec hits best within looked after_add after_centroids differing is_above
    decode_pairs encode_with bit_length key file body map_body letters known_count code_bytes_field flat_body
    flat_inside direct_map full_sizes sparse_sizes list_sizes list_id list_rows ivf_body hash_run_checks bucket_id
    bucket_code bucket_rows hash_rest hash_buckets buckets_of run_field width_field bucket_count_field nflip_field
    b_field all_rows rows_under hash_body map_run_checks map_fields multi_body header dim_field code_size_field
    count_field flag_field metric_field number_of signed_of
checked_flat = refl

checked_nothing : Answers no_files (check_script (codes "f"))
    (codes "refused nofile\nrefused none\n")
unfolding digits step line_of read_spec hits best within looked after_add after_centroids differing is_above
    decode_pairs encode_with
checked_nothing = refl

a_limit_is_not_kept : Answers no_files (codes "new 8 BIVF2\ncentroids 00 ff\nadd 00 01 ff\nnprobe 2\nmaxcodes 2\nsave f\nload f\nsearch 3 00\n")
    (codes "ok\ncentroids 2 of 2\nadded 3 total 3\nok\nok\nsaved 160\nloaded 3\nhits 3 looked 5 exact\n0 0\n1 1\n2 8\n")
unfolding digits step line_of read_spec hits best within looked after_add after_centroids differing is_above
    decode_pairs encode_with bit_length key file body map_body letters known_count code_bytes_field flat_body
    flat_inside direct_map full_sizes sparse_sizes list_sizes list_id list_rows ivf_body hash_run_checks bucket_id
    bucket_code bucket_rows hash_rest hash_buckets buckets_of run_field width_field bucket_count_field nflip_field
    b_field all_rows rows_under hash_body map_run_checks map_fields multi_body header dim_field code_size_field
    count_field flag_field metric_field number_of signed_of canon wide number_bytes signed_bytes header_bytes
    flat_bytes low_bits packed bytes_of_bits on_list filled entry_of map_keys map_key positions
a_limit_is_not_kept = refl

saved_direct_map : Answers no_files (codes "new 8 BIVF2\ncentroids 00 ff\nadd 0f ff\ndirectmap on\nsave f\n")
    (codes "ok\ncentroids 2 of 2\nadded 2 total 2\nok\nsaved 167\n")
unfolding digits step line_of read_spec hits best within looked after_add after_centroids differing is_above
    decode_pairs encode_with bit_length key canon wide number_bytes signed_bytes header_bytes flat_bytes low_bits
    packed bytes_of_bits on_list filled entry_of map_keys map_key positions
saved_direct_map = refl

direct_map_is_written : Leaves no_files (codes "new 8 BIVF2\ncentroids 00 ff\nadd 0f ff\ndirectmap on\nsave f\n")
    (Some direct_file)
unfolding digits step line_of read_spec hits best within looked after_add after_centroids differing is_above
    decode_pairs encode_with bit_length key canon wide number_bytes signed_bytes header_bytes flat_bytes low_bits
    packed bytes_of_bits on_list filled entry_of map_keys map_key positions
direct_map_is_written = refl

loaded_direct_map : Answers (with_f direct_file) (codes "load f\nreconstruct 0\naddids 5:00\n")
    (codes "loaded 2\ncode 0f\nrefused ids\n")
unfolding digits step line_of read_spec hits best within looked after_add after_centroids differing is_above
    decode_pairs encode_with bit_length key file body map_body letters known_count code_bytes_field flat_body
    flat_inside direct_map full_sizes sparse_sizes list_sizes list_id list_rows ivf_body hash_run_checks bucket_id
    bucket_code bucket_rows hash_rest hash_buckets buckets_of run_field width_field bucket_count_field nflip_field
    b_field all_rows rows_under hash_body map_run_checks map_fields multi_body header dim_field code_size_field
    count_field flag_field metric_field number_of signed_of
loaded_direct_map = refl

saved_outer_ids : Answers no_files (codes "new 8 IDMap,BFlat\naddids -1:ab\nsave f\n")
    (codes "ok\nadded 1 total 1\nsaved 75\n")
unfolding digits step line_of read_spec hits best within looked after_add after_centroids differing is_above
    decode_pairs encode_with bit_length key canon wide number_bytes signed_bytes header_bytes flat_bytes low_bits
    packed bytes_of_bits on_list filled entry_of map_keys map_key positions
saved_outer_ids = refl

outer_ids_are_written : Leaves no_files (codes "new 8 IDMap,BFlat\naddids -1:ab\nsave f\n")
    (Some map_file)
unfolding digits step line_of read_spec hits best within looked after_add after_centroids differing is_above
    decode_pairs encode_with bit_length key canon wide number_bytes signed_bytes header_bytes flat_bytes low_bits
    packed bytes_of_bits on_list filled entry_of map_keys map_key positions
outer_ids_are_written = refl

loaded_outer_ids : Answers (with_f map_file) (codes "load f\nsearch 1 ab\n")
    (codes "loaded 1\nhits 1 looked 1 exact\n-1 0\n")
unfolding digits step line_of read_spec hits best within looked after_add after_centroids differing is_above
    decode_pairs encode_with bit_length key file body map_body letters known_count code_bytes_field flat_body
    flat_inside direct_map full_sizes sparse_sizes list_sizes list_id list_rows ivf_body hash_run_checks bucket_id
    bucket_code bucket_rows hash_rest hash_buckets buckets_of run_field width_field bucket_count_field nflip_field
    b_field all_rows rows_under hash_body map_run_checks map_fields multi_body header dim_field code_size_field
    count_field flag_field metric_field number_of signed_of
loaded_outer_ids = refl

a_refused_load_keeps_the_index : Answers (with_f (codes "IBx")) (codes "new 8 BFlat\nadd ab\nload f\nsearch 1 ab\n")
    (codes "ok\nadded 1 total 1\nrefused file short at 0\nhits 1 looked 1 exact\n0 0\n")
unfolding digits step line_of read_spec hits best within looked after_add after_centroids differing is_above
    decode_pairs encode_with bit_length key file body map_body letters known_count code_bytes_field flat_body
    flat_inside direct_map full_sizes sparse_sizes list_sizes list_id list_rows ivf_body hash_run_checks bucket_id
    bucket_code bucket_rows hash_rest hash_buckets buckets_of run_field width_field bucket_count_field nflip_field
    b_field all_rows rows_under hash_body map_run_checks map_fields multi_body header dim_field code_size_field
    count_field flag_field metric_field number_of signed_of
a_refused_load_keeps_the_index = refl
