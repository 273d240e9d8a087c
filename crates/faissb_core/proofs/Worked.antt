-- Worked scripts and what they are answered, as the definitions compute them, whatever the code does.
use Rattle.std.specs.Prelude.{◌≡◌, List, [], ◌∷◌, ℕ, codes, Some, None}
use Rattle.std.proofs.Common.{refl}
use Rattle.std.specs.Fmt.{digits}
use Rattle.hex.specs.Hex.{decode_pairs, encode_with}
use Rattle.bcodes.specs.Bits.{differing, key}
use Rattle.bcodes.specs.Hits.{is_above}
use Rattle.bcodes.specs.Answers.{hits, best, within, scan_best, looked, after_add, after_centroids}
use Rattle.factory_text.specs.Reading.{read_spec}
use Rattle.multi_hash.specs.Maps.{map_key, map_keys}
use Rattle.growing_probe.specs.Grown.{grown}
use Rattle.id_select.specs.Removal.{removed}
use Rattle.shard_set.specs.Joined.{joined, joined_hits, joined_best, joined_within}
use Rattle.outside.specs.Contents.{no_contents}
use Rattle.faissb_core.specs.Language.Lines.{line_of}
use Rattle.faissb_core.specs.Machine.Step.{step}
use Rattle.faissb_core.specs.Machine.Script.{script_text}
use Rattle.faissb_core.specs.Machine.Sample.{mix, sample_code, codes_from, sample_query, sample_queries, sample_text}
use Rattle.faissb_core.specs.Runs.Words.{Script, Sample, run_of}

-- the script, from no files on, is answered with this text
abbrev Answers : List ℕ → List ℕ → Type 0
Answers script text = script_text script no_contents.files ≡ text

search_of_two : Answers (codes "new 16 BFlat\nadd 0000 0100 0300 ffff\nsearch 2 0000\n") (codes "ok\nadded 4 total 4\nhits 2 looked 4 exact\n0 0\n1 1\n")
unfolding digits step line_of read_spec hits best within looked after_add after_centroids differing is_above decode_pairs encode_with
search_of_two = refl

more_hits_than_codes : Answers (codes "new 16 BFlat\nadd 0000 0100 0300 ffff\nsearch 2 0000\nsearch 9 0000\n") (codes "ok\nadded 4 total 4\nhits 2 looked 4 exact\n0 0\n1 1\nhits 4 looked 4 exact\n0 0\n1 1\n2 2\n3 16\n")
unfolding digits step line_of read_spec hits best within looked after_add after_centroids differing is_above decode_pairs encode_with
more_hits_than_codes = refl

radius_of_zero : Answers (codes "new 16 BFlat\nadd 0000 0100 0300 ffff\nsearch 2 0000\nrange 0 0000\n") (codes "ok\nadded 4 total 4\nhits 2 looked 4 exact\n0 0\n1 1\nhits 0 looked 4 exact\n")
unfolding digits step line_of read_spec hits best within looked after_add after_centroids differing is_above decode_pairs encode_with
radius_of_zero = refl

radius_is_strict : Answers (codes "new 16 BFlat\nadd 0000 0100 0300 ffff\nsearch 2 0000\nrange 1 0000\n") (codes "ok\nadded 4 total 4\nhits 2 looked 4 exact\n0 0\n1 1\nhits 1 looked 4 exact\n0 0\n")
unfolding digits step line_of read_spec hits best within looked after_add after_centroids differing is_above decode_pairs encode_with
radius_is_strict = refl

equal_codes_by_label : Answers (codes "new 16 BFlat\nadd 0100 0100\nsearch 1 0100\n") (codes "ok\nadded 2 total 2\nhits 1 looked 2 exact\n0 0\n")
unfolding digits step line_of read_spec hits best within looked after_add after_centroids differing is_above decode_pairs encode_with
equal_codes_by_label = refl

empty_script : Answers (codes "") (codes "")
unfolding digits step line_of read_spec hits best within looked after_add after_centroids differing is_above decode_pairs encode_with
empty_script = refl

silent_lines : Answers (codes "# nothing\n\n") (codes "")
unfolding digits step line_of read_spec hits best within looked after_add after_centroids differing is_above decode_pairs encode_with
silent_lines = refl

no_index_yet : Answers (codes "add 00\nnew 8 BFlat\n") (codes "refused none\nok\n")
unfolding digits step line_of read_spec hits best within looked after_add after_centroids differing is_above decode_pairs encode_with
no_index_yet = refl

dimensions : Answers (codes "new 12 BFlat\nnew 0 BFlat\nnew 65544 BFlat\nnew 65536 BFlat\n") (codes "refused dim\nrefused dim\nrefused dim\nok\n")
unfolding digits step line_of read_spec hits best within looked after_add after_centroids differing is_above decode_pairs encode_with
dimensions = refl

bits_8 : Answers (codes "new 8 BFlat\nadd ff 80\nsearch 2 00\n") (codes "ok\nadded 2 total 2\nhits 2 looked 2 exact\n1 1\n0 8\n")
unfolding digits step line_of read_spec hits best within looked after_add after_centroids differing is_above decode_pairs encode_with
bits_8 = refl

bits_32 : Answers (codes "new 32 BFlat\nadd ffffffff 00000080\nsearch 2 00000000\n") (codes "ok\nadded 2 total 2\nhits 2 looked 2 exact\n1 1\n0 32\n")
unfolding digits step line_of read_spec hits best within looked after_add after_centroids differing is_above decode_pairs encode_with
bits_32 = refl

bits_64 : Answers (codes "new 64 BFlat\nadd ffffffffffffffff 0000000000000080\nsearch 2 0000000000000000\n") (codes "ok\nadded 2 total 2\nhits 2 looked 2 exact\n1 1\n0 64\n")
unfolding digits step line_of read_spec hits best within looked after_add after_centroids differing is_above decode_pairs encode_with
bits_64 = refl

bits_128 : Answers (codes "new 128 BFlat\nadd ffffffffffffffffffffffffffffffff 00000000000000000000000000000080\nsearch 2 00000000000000000000000000000000\n") (codes "ok\nadded 2 total 2\nhits 2 looked 2 exact\n1 1\n0 128\n")
unfolding digits step line_of read_spec hits best within looked after_add after_centroids differing is_above decode_pairs encode_with
bits_128 = refl

bits_160 : Answers (codes "new 160 BFlat\nadd ffffffffffffffffffffffffffffffffffffffff 0000000000000000000000000000000000000080\nsearch 2 0000000000000000000000000000000000000000\n") (codes "ok\nadded 2 total 2\nhits 2 looked 2 exact\n1 1\n0 160\n")
unfolding digits step line_of read_spec hits best within looked after_add after_centroids differing is_above decode_pairs encode_with
bits_160 = refl

bits_256 : Answers (codes "new 256 BFlat\nadd ffffffffffffffffffffffffffffffffffffffffffffffffffffffffffffffff 0000000000000000000000000000000000000000000000000000000000000080\nsearch 2 0000000000000000000000000000000000000000000000000000000000000000\n") (codes "ok\nadded 2 total 2\nhits 2 looked 2 exact\n1 1\n0 256\n")
unfolding digits step line_of read_spec hits best within looked after_add after_centroids differing is_above decode_pairs encode_with
bits_256 = refl

bits_264 : Answers (codes "new 264 BFlat\nadd ffffffffffffffffffffffffffffffffffffffffffffffffffffffffffffffffff 000000000000000000000000000000000000000000000000000000000000000080\nsearch 2 000000000000000000000000000000000000000000000000000000000000000000\n") (codes "ok\nadded 2 total 2\nhits 2 looked 2 exact\n1 1\n0 264\n")
unfolding digits step line_of read_spec hits best within looked after_add after_centroids differing is_above decode_pairs encode_with
bits_264 = refl

bits_512 : Answers (codes "new 512 BFlat\nadd ffffffffffffffffffffffffffffffffffffffffffffffffffffffffffffffffffffffffffffffffffffffffffffffffffffffffffffffffffffffffffffffff 00000000000000000000000000000000000000000000000000000000000000000000000000000000000000000000000000000000000000000000000000000080\nsearch 2 00000000000000000000000000000000000000000000000000000000000000000000000000000000000000000000000000000000000000000000000000000000\n") (codes "ok\nadded 2 total 2\nhits 2 looked 2 exact\n1 1\n0 512\n")
unfolding digits step line_of read_spec hits best within looked after_add after_centroids differing is_above decode_pairs encode_with
bits_512 = refl

bits_520 : Answers (codes "new 520 BFlat\nadd ffffffffffffffffffffffffffffffffffffffffffffffffffffffffffffffffffffffffffffffffffffffffffffffffffffffffffffffffffffffffffffffffff 0000000000000000000000000000000000000000000000000000000000000000000000000000000000000000000000000000000000000000000000000000000080\nsearch 2 0000000000000000000000000000000000000000000000000000000000000000000000000000000000000000000000000000000000000000000000000000000000\n") (codes "ok\nadded 2 total 2\nhits 2 looked 2 exact\n1 1\n0 520\n")
unfolding digits step line_of read_spec hits best within looked after_add after_centroids differing is_above decode_pairs encode_with
bits_520 = refl

order_of_refusals_without_index : Answers (codes "add 0g\nsearch 0 0g\nrange 2147483648 0g\nadd\n") (codes "refused none\nrefused none\nrefused none\nrefused line\n")
unfolding digits step line_of read_spec hits best within looked after_add after_centroids differing is_above decode_pairs encode_with
order_of_refusals_without_index = refl

factory_texts : Answers (codes "new 16 BFlatt\nnew 16 BFla\nnew 16 bflat\nnew 12 BFlatt\n") (codes "refused factory unknown\nrefused factory unknown\nrefused factory unknown\nrefused dim\n")
unfolding digits step line_of read_spec hits best within looked after_add after_centroids differing is_above decode_pairs encode_with
factory_texts = refl

a_refused_new_keeps_the_index : Answers (codes "new 8 BFlat\nadd ab\nnew 12 BFlat\nnew 16 BFlatt\nsearch 1 ab\n") (codes "ok\nadded 1 total 1\nrefused dim\nrefused factory unknown\nhits 1 looked 1 exact\n0 0\n")
unfolding digits step line_of read_spec hits best within looked after_add after_centroids differing is_above decode_pairs encode_with
a_refused_new_keeps_the_index = refl

a_refused_add_keeps_no_code : Answers (codes "new 8 BFlat\nadd ab 0g\nadd ab 0\nadd ab 000\nadd ab\n") (codes "ok\nrefused code\nrefused code\nrefused code\nadded 1 total 1\n")
unfolding digits step line_of read_spec hits best within looked after_add after_centroids differing is_above decode_pairs encode_with
a_refused_add_keeps_no_code = refl

code_before_value : Answers (codes "new 16 BFlat\nsearch 0 00\nsearch 0 0000\nrange 2147483648 00\nrange 2147483648 0000\n") (codes "ok\nrefused code\nrefused value\nrefused code\nrefused value\n")
unfolding digits step line_of read_spec hits best within looked after_add after_centroids differing is_above decode_pairs encode_with
code_before_value = refl

greatest_k_and_radius : Answers (codes "new 8 BFlat\nadd ff\nsearch 1048576 00\nsearch 1048577 00\nrange 2147483647 00\nrange 2147483648 00\n") (codes "ok\nadded 1 total 1\nhits 1 looked 1 exact\n0 8\nrefused value\nhits 1 looked 1 exact\n0 8\nrefused value\n")
unfolding digits step line_of read_spec hits best within looked after_add after_centroids differing is_above decode_pairs encode_with
greatest_k_and_radius = refl

one_space_between_words : Answers (codes "new 8 BFlat\n add 00\nadd 00 \nadd  00\nadd 00\n") (codes "ok\nrefused line\nrefused line\nrefused line\nadded 1 total 1\n")
unfolding digits step line_of read_spec hits best within looked after_add after_centroids differing is_above decode_pairs encode_with
one_space_between_words = refl

no_leading_zeros : Answers (codes "new 08 BFlat\nnew 8 BFlat\nsearch 01 00\nsearch +1 00\nsearch 1 00\n") (codes "refused line\nok\nrefused line\nrefused line\nhits 0 looked 0 exact\n")
unfolding digits step line_of read_spec hits best within looked after_add after_centroids differing is_above decode_pairs encode_with
no_leading_zeros = refl

a_last_line_without_a_line_feed : Answers (codes "new 8 BFlat\nadd ab AB") (codes "ok\nadded 2 total 2\n")
unfolding digits step line_of read_spec hits best within looked after_add after_centroids differing is_above decode_pairs encode_with
a_last_line_without_a_line_feed = refl

windows_line_ends : Answers (codes "new 8 BFlat\r\nnew 8 BFlat\n") (codes "refused line\nok\n")
unfolding digits step line_of read_spec hits best within looked after_add after_centroids differing is_above decode_pairs encode_with
windows_line_ends = refl

more_factory_texts : Answers (codes "new 16 BFlatt\nnew 16 BHash0\nnew 16 BHash08\nnew 16 BHNSW32\nnew 16 BIVF4_HNSW32\nnew 16 IDMap,IDMap2,BFlat\nnew 16 BHash3x8\nnew 16 BHash17\nnew 16 BFlat,IDMap\n") (codes "refused factory unknown\nrefused factory number\nrefused factory number\nrefused factory leftout\nrefused factory leftout\nrefused factory nested\nrefused factory misfit\nrefused factory misfit\nrefused factory unknown\n")
unfolding digits step line_of read_spec hits best within looked after_add after_centroids differing is_above decode_pairs encode_with
more_factory_texts = refl

hash_marks : Answers (codes "new 16 BHash8\nadd 0000 0001 0100\nrange 1 0000\nrange 2 0000\nsearch 2 0000\nsearch 1 0000\n") (codes "ok\nadded 3 total 3\nhits 1 looked 2 exact\n0 0\nhits 2 looked 2 partial\n0 0\n1 1\nhits 2 looked 2 partial\n0 0\n1 1\nhits 1 looked 2 exact\n0 0\n")
unfolding digits step line_of read_spec hits best within looked after_add after_centroids differing is_above decode_pairs encode_with
hash_marks = refl

hash_flips : Answers (codes "new 16 BHash8\nadd 0000 0001 0100\nnflip 9\nnflip 1\nrange 2 0000\n") (codes "ok\nadded 3 total 3\nrefused value\nok\nhits 3 looked 3 exact\n0 0\n1 1\n2 1\n")
unfolding digits step line_of read_spec hits best within looked after_add after_centroids differing is_above decode_pairs encode_with
hash_flips = refl

hash_of_64_bits : Answers (codes "new 64 BHash64\nadd 0000000000000000 ffffffffffffffff 0123456789abcdef\nsearch 1 0123456789abcdef\nnflip 64\nrange 65 0000000000000000\n") (codes "ok\nadded 3 total 3\nhits 1 looked 1 exact\n2 0\nok\nhits 3 looked 3 exact\n0 0\n2 32\n1 64\n")
unfolding digits step line_of read_spec hits best within looked after_add after_centroids differing is_above decode_pairs encode_with
hash_of_64_bits = refl

multi_hash_bound : Answers (codes "new 16 BHash2x8\nadd 0100 0101\nrange 2 0000\nrange 3 0000\nnflip 1\nrange 4 0000\n") (codes "ok\nadded 2 total 2\nhits 1 looked 1 exact\n0 1\nhits 1 looked 1 partial\n0 1\nok\nhits 2 looked 2 exact\n0 1\n1 2\n")
unfolding digits step line_of read_spec hits best within looked after_add after_centroids differing is_above decode_pairs encode_with
multi_hash_bound = refl

multi_hash_bits_outside_chunks : Answers (codes "new 24 BHash2x8\nadd 0000ff 010100\nrange 9 000000\nrange 2 000000\n") (codes "ok\nadded 2 total 2\nhits 1 looked 1 partial\n0 8\nhits 0 looked 1 exact\n")
unfolding digits step line_of read_spec hits best within looked after_add after_centroids differing is_above decode_pairs encode_with
multi_hash_bits_outside_chunks = refl

ivf_lists : Answers (codes "new 8 BIVF2\nadd 0f\ncentroids 00\ncentroids ff 01\ncentroids ff\nadd 0f\nsearch 1 ff\nnprobe 2\nsearch 1 ff\n") (codes "ok\nrefused untrained\ncentroids 1 of 2\nrefused full\ncentroids 2 of 2\nadded 1 total 1\nhits 0 looked 2 partial\nok\nhits 1 looked 3 exact\n0 4\n")
unfolding digits step line_of read_spec hits best within looked after_add after_centroids differing is_above decode_pairs encode_with
ivf_lists = refl

ivf_refusals : Answers (codes "new 8 BIVF2\nsearch 1 00\nnprobe 0\nnprobe 9223372036854775807\nnprobe 9223372036854775808\nnflip 1\n") (codes "ok\nrefused untrained\nrefused value\nok\nrefused value\nrefused kind\n")
unfolding digits step line_of read_spec hits best within looked after_add after_centroids differing is_above decode_pairs encode_with
ivf_refusals = refl

ivf_limit : Answers (codes "new 8 BIVF2\ncentroids 00 ff\nadd 00 01 ff\nnprobe 2\nmaxcodes 2\nsearch 3 00\nmaxcodes 3\nsearch 3 00\nmaxcodes 9223372036854775808\n") (codes "ok\ncentroids 2 of 2\nadded 3 total 3\nok\nok\nhits 2 looked 4 partial\n0 0\n1 1\nok\nhits 3 looked 5 exact\n0 0\n1 1\n2 8\nrefused value\n")
unfolding digits step line_of read_spec hits best within looked after_add after_centroids differing is_above decode_pairs encode_with
ivf_limit = refl

ivf_direct_map : Answers (codes "new 8 BIVF2\ncentroids 00 ff\nadd 0f ff\nreconstruct 1\ndirectmap on\nreconstruct 1\nreconstruct 2\naddids 5:00\n") (codes "ok\ncentroids 2 of 2\nadded 2 total 2\nrefused nodirect\nok\ncode ff\nrefused value\nrefused ids\n")
unfolding digits step line_of read_spec hits best within looked after_add after_centroids differing is_above decode_pairs encode_with
ivf_direct_map = refl

ivf_labels_with_a_gap : Answers (codes "new 8 BIVF1\ncentroids 00\naddids 3:00\ndirectmap on\n") (codes "ok\ncentroids 1 of 1\nadded 1 total 1\nrefused sequential\n")
unfolding digits step line_of read_spec hits best within looked after_add after_centroids differing is_above decode_pairs encode_with
ivf_labels_with_a_gap = refl

outer_ids : Answers (codes "new 16 IDMap,BFlat\nadd 0000\naddids 7:0000 -3:0000 7:0100\nsearch 3 0000\n") (codes "ok\nrefused ids\nadded 3 total 3\nhits 3 looked 3 exact\n7 0\n-3 0\n7 1\n")
unfolding digits step line_of read_spec hits best within looked after_add after_centroids differing is_above decode_pairs encode_with
outer_ids = refl

outer_ids_over_multi_hash : Answers (codes "new 256 IDMap2,BHash16x16\naddids 1001:0000000000000000000000000000000000000000000000000000000000000000 1002:ff00000000000000000000000000000000000000000000000000000000000000 1003:ffffffffffffffffffffffffffffffffffffffffffffffffffffffffffffffff\nnflip 1\nrange 32 0000000000000000000000000000000000000000000000000000000000000000\n") (codes "ok\nadded 3 total 3\nok\nhits 2 looked 2 exact\n1001 0\n1002 8\n")
unfolding digits step line_of read_spec hits best within looked after_add after_centroids differing is_above decode_pairs encode_with
outer_ids_over_multi_hash = refl

outer_ids_over_ivf : Answers (codes "new 8 IDMap2,BIVF1\ncentroids 00\ndirectmap on\naddids 5:01 5:02\nsearch 2 00\n") (codes "ok\ncentroids 1 of 1\nok\nadded 2 total 2\nhits 2 looked 3 exact\n5 1\n5 1\n")
unfolding digits step line_of read_spec hits best within looked after_add after_centroids differing is_above decode_pairs encode_with
outer_ids_over_ivf = refl

words_of_addids : Answers (codes "new 8 BHash8\naddids 7\naddids 7:\naddids 1:2:3\naddids 01:00\naddids -0:00\naddids 9223372036854775808:00\naddids -9223372036854775808:00 9223372036854775807:ff\nsearch 2 00\n") (codes "ok\nrefused line\nrefused line\nrefused code\nrefused line\nrefused line\nrefused line\nadded 2 total 2\nhits 1 looked 1 partial\n-9223372036854775808 0\n")
unfolding digits step line_of read_spec hits best within looked after_add after_centroids differing is_above decode_pairs encode_with
words_of_addids = refl

flat_refusals : Answers (codes "new 16 BFlat\nadd 0000 0100 0300 ffff\nnflip 1\nsearch 0 0000\nsearch 1 00\nsearch 1 00g0\nrange 2147483648 0000\naddids 1:0000\nsearch  1 0000\nsearch 1 0000\n") (codes "ok\nadded 4 total 4\nrefused kind\nrefused value\nrefused code\nrefused code\nrefused value\nrefused ids\nrefused line\nhits 1 looked 4 exact\n0 0\n")
unfolding digits step line_of read_spec hits best within looked after_add after_centroids differing is_above decode_pairs encode_with
flat_refusals = refl

flat_codes_by_label : Answers (codes "new 8 BFlat\nadd AB\nreconstruct 0\nreconstruct 1\n") (codes "ok\nadded 1 total 1\ncode ab\nrefused value\n")
unfolding digits step line_of read_spec hits best within looked after_add after_centroids differing is_above decode_pairs encode_with
flat_codes_by_label = refl

settings_without_index : Answers (codes "nprobe 1\nnflip 1\nmaxcodes 1\ndirectmap on\ncentroids 0\naddids 1:0\nreconstruct 0\n") (codes "refused none\nrefused none\nrefused none\nrefused none\nrefused none\nrefused none\nrefused none\n")
unfolding digits step line_of read_spec hits best within looked after_add after_centroids differing is_above decode_pairs encode_with
settings_without_index = refl

order_of_refusals_under_outer_ids : Answers (codes "new 8 IDMap,BIVF1\nadd 0\nadd 00\naddids 1:00\nsearch 0 00\nsearch 1 00\nrange 2147483648 00\nreconstruct 0\ndirectmap off\ndirectmap on\ndirectmap\ndirectmap yes\n") (codes "ok\nrefused code\nrefused ids\nrefused untrained\nrefused value\nrefused untrained\nrefused value\nrefused kind\nok\nok\nrefused line\nrefused line\n")
unfolding digits step line_of read_spec hits best within looked after_add after_centroids differing is_above decode_pairs encode_with
order_of_refusals_under_outer_ids = refl

order_of_refusals_of_other_kinds : Answers (codes "new 16 BHash2x8\nnprobe 0\nmaxcodes 9223372036854775808\ndirectmap on\ncentroids 00\ncentroids 0000\nreconstruct 0\nnflip 9\nnflip 8\n") (codes "ok\nrefused kind\nrefused kind\nrefused kind\nrefused code\nrefused kind\nrefused kind\nrefused value\nok\n")
unfolding digits step line_of read_spec hits best within looked after_add after_centroids differing is_above decode_pairs encode_with
order_of_refusals_of_other_kinds = refl

growing_search : Answers (codes "new 16 BHash2x8\nadd 0100 0101\nrange 2 0000\nrange 3 0000\nnearest 1 0000\nnearest 2 0000\nsearch 2 0000\n") (codes "ok\nadded 2 total 2\nhits 1 looked 1 exact\n0 1\nhits 1 looked 1 partial\n0 1\nhits 1 looked 1 exact\n0 1\nhits 2 looked 2 exact\n0 1\n1 2\nhits 1 looked 1 partial\n0 1\n")
unfolding digits step line_of read_spec hits best within scan_best looked after_add after_centroids differing is_above grown removed joined joined_hits joined_best joined_within decode_pairs encode_with
growing_search = refl

growing_search_under_outer_ids : Answers (codes "new 8 IDMap,BHash1x8\nnearest 1 00\naddids 7:01 7:00\nnearest 9 00\nnearest 0 00\nnearest 1 0\n") (codes "ok\nhits 0 looked 0 exact\nadded 2 total 2\nhits 2 looked 2 exact\n7 0\n7 1\nrefused value\nrefused code\n")
unfolding digits step line_of read_spec hits best within scan_best looked after_add after_centroids differing is_above grown removed joined joined_hits joined_best joined_within decode_pairs encode_with
growing_search_under_outer_ids = refl

growing_search_of_flat : Answers (codes "nearest 1 00\nnew 16 BFlat\nnearest 1 0000\nnearest 0 0000\nnearest 0 00\n") (codes "refused none\nok\nrefused kind\nrefused kind\nrefused code\n")
unfolding digits step line_of read_spec hits best within scan_best looked after_add after_centroids differing is_above grown removed joined joined_hits joined_best joined_within decode_pairs encode_with
growing_search_of_flat = refl

shards_as_one : Answers (codes "new 16 BFlat\nadd 0100 0000\nshard\nnew 16 BFlat\nadd 0000 ffff\nshard\nshardsearch 3 0000\n") (codes "ok\nadded 2 total 2\nshards 1 total 2\nok\nadded 2 total 2\nshards 2 total 4\nhits 3 looked 4 exact\n1 0\n2 0\n0 1\n")
unfolding digits step line_of read_spec hits best within scan_best looked after_add after_centroids differing is_above grown removed joined joined_hits joined_best joined_within decode_pairs encode_with
shards_as_one = refl

shards_and_an_index : Answers (codes "new 16 BFlat\nadd 0100 0000\nshard\nsearch 1 0000\nnew 24 BFlat\nshard\nsearch 1 000000\nshardrange 1 0000\nunshard\nshardrange 1 0000\nsearch 1 000000\n") (codes "ok\nadded 2 total 2\nshards 1 total 2\nrefused none\nok\nrefused mismatch\nhits 0 looked 0 exact\nhits 1 looked 2 exact\n1 0\nok\nrefused none\nhits 0 looked 0 exact\n")
unfolding digits step line_of read_spec hits best within scan_best looked after_add after_centroids differing is_above grown removed joined joined_hits joined_best joined_within decode_pairs encode_with
shards_and_an_index = refl

shards_of_a_multi_hash : Answers (codes "new 16 BHash2x8\nadd 0101\nshard\nnew 16 BHash2x8\nnflip 1\nshard\nnflip 0\nadd 0001\nshard\nshardrange 2 0000\nshardrange 3 0000\nshardsearch 1 0001\n") (codes "ok\nadded 1 total 1\nshards 1 total 1\nok\nok\nrefused mismatch\nok\nadded 1 total 1\nshards 2 total 2\nhits 1 looked 1 exact\n1 1\nhits 1 looked 1 partial\n1 1\nhits 1 looked 2 exact\n1 0\n")
unfolding digits step line_of read_spec hits best within scan_best looked after_add after_centroids differing is_above grown removed joined joined_hits joined_best joined_within decode_pairs encode_with
shards_of_a_multi_hash = refl

order_of_refusals_of_shards : Answers (codes "shard\nshardsearch 0 0\nnew 16 BIVF1\nshard\nnew 16 IDMap,BFlat\nshard\nnew 16 BFlat\nshard\nshardsearch 0 00\nshardsearch 0 0000\nshardrange 2147483648 0000\nshard x\nshard\nunshard\n") (codes "refused none\nrefused none\nok\nrefused kind\nok\nrefused kind\nok\nshards 1 total 0\nrefused code\nrefused value\nrefused value\nrefused line\nrefused none\nok\n")
unfolding digits step line_of read_spec hits best within scan_best looked after_add after_centroids differing is_above grown removed joined joined_hits joined_best joined_within decode_pairs encode_with
order_of_refusals_of_shards = refl

removal_from_flat : Answers (codes "new 16 BFlat\nadd 0000 0100 0300 ffff\nremove 1 7 1\nsearch 9 0000\n") (codes "ok\nadded 4 total 4\nremoved 1 total 3\nhits 3 looked 3 exact\n0 0\n1 2\n2 16\n")
unfolding digits step line_of read_spec hits best within scan_best looked after_add after_centroids differing is_above grown removed joined joined_hits joined_best joined_within decode_pairs encode_with
removal_from_flat = refl

removal_under_outer_ids : Answers (codes "new 16 IDMap,BFlat\naddids 7:0000 -3:0000 7:0100\nremove 7\nremoverange -3 -3\nsearch 3 0000\n") (codes "ok\nadded 3 total 3\nremoved 2 total 1\nremoved 0 total 1\nhits 1 looked 1 exact\n-3 0\n")
unfolding digits step line_of read_spec hits best within scan_best looked after_add after_centroids differing is_above grown removed joined joined_hits joined_best joined_within decode_pairs encode_with
removal_under_outer_ids = refl

removal_from_ivf : Answers (codes "new 8 BIVF1\ncentroids 00\naddids 5:01 -2:03 5:07\nkeep -2\nadd ff\nsearch 3 00\n") (codes "ok\ncentroids 1 of 1\nadded 3 total 3\nremoved 2 total 1\nadded 1 total 2\nhits 2 looked 3 exact\n-2 2\n1 8\n")
unfolding digits step line_of read_spec hits best within scan_best looked after_add after_centroids differing is_above grown removed joined joined_hits joined_best joined_within decode_pairs encode_with
removal_from_ivf = refl

removal_of_other_kinds : Answers (codes "remove 0\nnew 16 BHash8\nremove 0\nnew 8 BIVF1\ndirectmap on\nremoverange 0 1\ndirectmap off\nremoverange 0 1\nremove\nremoverange 1\nkeep 9223372036854775808\n") (codes "refused none\nok\nrefused kind\nok\nok\nrefused kind\nok\nremoved 0 total 0\nrefused line\nrefused line\nrefused line\n")
unfolding digits step line_of read_spec hits best within scan_best looked after_add after_centroids differing is_above grown removed joined joined_hits joined_best joined_within decode_pairs encode_with
removal_of_other_kinds = refl

shown_flat : Answers (codes "show\nnew 8 IDMap,BFlat\nshow\nshow x\n") (codes "refused none\nok\nindex IDMap,BFlat\nd 8\ntotal 0\ntrained yes\nrefused line\n")
unfolding digits step line_of read_spec hits best within scan_best looked after_add after_centroids differing is_above grown removed joined joined_hits joined_best joined_within decode_pairs encode_with
shown_flat = refl

shown_ivf : Answers (codes "new 8 BIVF2\nshow\ncentroids 00 ff\nadd 0f\nmaxcodes 3\ndirectmap on\nshow\n") (codes "ok\nindex BIVF2\nd 8\ntotal 0\ntrained no\nnlist 2\nnprobe 1\ncentroids 0\ncentroids 2 of 2\nadded 1 total 1\nok\nok\nindex BIVF2\nd 8\ntotal 1\ntrained yes\nnlist 2\nnprobe 1\ncentroids 2\nmaxcodes 3\ndirectmap array\n")
unfolding digits step line_of read_spec hits best within scan_best looked after_add after_centroids differing is_above grown removed joined joined_hits joined_best joined_within decode_pairs encode_with
shown_ivf = refl

shown_hash : Answers (codes "new 16 BHash8\nadd 0000 0001 0100\nnflip 2\nshow\n") (codes "ok\nadded 3 total 3\nok\nindex BHash8\nd 16\ntotal 3\ntrained yes\nb 8\nnflip 2\nbound 3\nbuckets 2\n")
unfolding digits step line_of read_spec hits best within scan_best looked after_add after_centroids differing key is_above grown removed joined joined_hits joined_best joined_within decode_pairs encode_with
shown_hash = refl

shown_multi_hash : Answers (codes "new 16 BHash2x8\nadd 0100 0101\nshow\n") (codes "ok\nadded 2 total 2\nindex BHash2x8\nd 16\ntotal 2\ntrained yes\nnhash 2\nb 8\nnflip 0\nbound 2\nbuckets 1 2\n")
unfolding digits step line_of read_spec hits best within scan_best looked after_add after_centroids differing key map_key map_keys is_above grown removed joined joined_hits joined_best joined_within decode_pairs encode_with
shown_multi_hash = refl

-- ---- samples

sample_of_one : sample_text 1 1 ≡ codes "sample codes 1 queries 64 hits 64 looked 64 exact 64\n"
unfolding digits hits within looked differing is_above mix sample_code codes_from sample_query sample_queries sample_text
sample_of_one = refl

sample_of_twenty : sample_text 7 20 ≡ codes "sample codes 20 queries 64 hits 64 looked 64 exact 64\n"
unfolding digits hits within looked differing is_above mix sample_code codes_from sample_query sample_queries sample_text
sample_of_twenty = refl

sample_of_64 : sample_text 9223372036854775807 64 ≡ codes "sample codes 64 queries 64 hits 64 looked 67 exact 64\n"
unfolding digits hits within looked differing is_above mix sample_code codes_from sample_query sample_queries sample_text
sample_of_64 = refl

-- ---- words of the command line

script_alone : run_of (codes "script" ∷ []) ≡ Some Script
script_alone = refl

script_and_more : run_of (codes "script" ∷ codes "x" ∷ []) ≡ None
script_and_more = refl

no_words : run_of [] ≡ None
no_words = refl

sample_words : run_of (codes "sample" ∷ codes "1" ∷ codes "100000" ∷ []) ≡ Some (Sample 1 100000)
sample_words = refl

sample_of_none : run_of (codes "sample" ∷ codes "1" ∷ codes "0" ∷ []) ≡ None
sample_of_none = refl

sample_too_many : run_of (codes "sample" ∷ codes "1" ∷ codes "1000001" ∷ []) ≡ None
sample_too_many = refl

sample_leading_zero : run_of (codes "sample" ∷ codes "01" ∷ codes "5" ∷ []) ≡ None
sample_leading_zero = refl

sample_great_seed : run_of (codes "sample" ∷ codes "9223372036854775808" ∷ codes "5" ∷ []) ≡ None
sample_great_seed = refl
