-- The run of `sample`: range searches over a MultiHash of generated codes.
use Rattle.std.specs.Prelude.{ℕ, ◌+◌, ◌*◌, ◌/◌, ◌%◌, ◌^◌, bit_xor, List, [], ◌∷◌, ◌++◌, length, map, take, drop, codes}
use Rattle.std.specs.Prelude.{sum_by, count_by}
use Rattle.std.specs.List.{range_with_len}
use Rattle.std.specs.Int.{w64, to_le_bytes}
use Rattle.std.specs.Fmt.{decimal}
use Rattle.bcodes.specs.Value.{IndexValue, Bare, Multi}
use Rattle.bcodes.specs.Answers.{within, looked}
use Rattle.bcodes.specs.Marks.{range_mark}
use Rattle.faissb_core.specs.declared.sample.tally.Tally.{Tally}
use Rattle.faissb_core.specs.Reply.Text.{text_line}

-- ---- the generator, over numbers of 64 bits, whose sums and products wrap

unfoldable pub mix : ℕ → ℕ
mix z =
    let once = bit_xor z (z / 2 ^ 30) * 0xBF58476D1CE4E5B9 % 2 ^ 64 in
    let twice = bit_xor once (once / 2 ^ 27) * 0x94D049BB133111EB % 2 ^ 64 in
    bit_xor twice (twice / 2 ^ 31)

-- the code at position i, counted from 0: the bytes of a number, the least significant one first
unfoldable pub sample_code : ℕ → ℕ → List ℕ
sample_code seed i = to_le_bytes w64 (mix ((seed + (i + 1) * 0x9E3779B97F4A7C15) % 2 ^ 64))

-- n codes, from position `from` on
unfoldable pub codes_from : ℕ → ℕ → ℕ → List (List ℕ)
codes_from seed from n = map (sample_code seed) (range_with_len from n)

-- ---- the index

-- a `BHash4x16` of 64 bits that holds these codes and tries each key with one flip
abbrev pub sample_value : List (List ℕ) → IndexValue
sample_value held = Bare (Multi (record { dim = 64; nhash = 4; b = 16; nflip = 1; codes = held }))

abbrev pub sample_index : ℕ → ℕ → IndexValue
sample_index seed count = sample_value (codes_from seed 0 count)

-- ---- the queries

-- the least significant bit of each of the first n bytes is the other one
abbrev pub with_flips : ℕ → List ℕ → List ℕ
with_flips n code = map (λ b. bit_xor b 1) (take n code) ++ drop n code

-- a code of the index with at most seven flips; the 64 queries go evenly over the index
unfoldable pub sample_query : ℕ → ℕ → ℕ → List ℕ
sample_query seed count j = with_flips (j % 8) (sample_code seed (j * count / 64))

-- the first n queries
unfoldable pub sample_queries : ℕ → ℕ → ℕ → List (List ℕ)
sample_queries seed count n = map (sample_query seed count) (range_with_len 0 n)

-- ---- what they are answered, all together

abbrev pub sample_radius : ℕ
sample_radius = 8

abbrev pub tallied : IndexValue → List (List ℕ) → Tally
tallied v queries = record {
  hits = sum_by (λ q. length (within v q sample_radius)) queries;
  looked = sum_by (λ q. looked v q) queries;
  exact = count_by (λ q. range_mark v q sample_radius) queries;
}

abbrev pub sample_tally : ℕ → ℕ → Tally
sample_tally seed count = tallied (sample_index seed count) (sample_queries seed count 64)

-- ---- the line that `sample` writes

abbrev pub tally_line : ℕ → ℕ → Tally → List ℕ
tally_line count queries tally =
    text_line (codes "sample" ∷ codes "codes" ∷ decimal count
    ∷ codes "queries" ∷ decimal queries
    ∷ codes "hits" ∷ decimal tally.hits
    ∷ codes "looked" ∷ decimal tally.looked
    ∷ codes "exact" ∷ decimal tally.exact
    ∷ [])

unfoldable pub sample_text : ℕ → ℕ → List ℕ
sample_text seed count = tally_line count 64 (sample_tally seed count)
