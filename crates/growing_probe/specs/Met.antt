-- What a search has met.
use Rattle.std.specs.Prelude.{◌≡◌, ℕ, ◌+◌, ◌*◌, ◌/◌, List, [], length, nat_abs, nat_eq}
use Rattle.std.specs.Prelude.{slice_index_or, Bool, false, bit_xor, count_ones}
use Rattle.std.specs.List.{filter, list_any, range_with_len}
use Rattle.bcodes.specs.Bits.{dist_between}
use Rattle.bcodes.specs.Value.{MultiValue, Row, IsLegalMulti, numbered}
use Rattle.list_scan.specs.Visited.{first, hits_on}
use Rattle.growing_probe.specs.declared.found.Found.{Found}

-- whether a position was met
abbrev pub is_seen : List Bool → ℕ → Bool
is_seen seen p = slice_index_or seen p false

-- the rows at the positions that were met
abbrev pub met_rows : List (List ℕ) → List Bool → List Row
met_rows codes seen = filter (λ row. is_seen seen (nat_abs row.label)) (numbered 0 codes)

-- a search by q for so many codes has met the positions that are seen, and keeps the first of the codes there
pub record IsFound (v : MultiValue) (q : List ℕ) (wanted : ℕ) (found : Found) : Type 0 where
  pub legal : IsLegalMulti v
  pub size : length q ≡ v.dim / 8
  pub positions : length found.seen ≡ length v.codes
  pub met : found.met ≡ length (met_rows v.codes found.seen)
  pub kept : found.best.items ≡ first wanted (hits_on q (met_rows v.codes found.seen))
  pub k : found.best.k ≡ wanted
  pub most : found.best.most ≡ length v.codes
  pub bits : found.best.bits ≡ v.dim

-- in how many bits of chunk i the code at a position differs from the query
abbrev pub chunk_dist : MultiValue → List ℕ → ℕ → ℕ → ℕ
chunk_dist v q i p = dist_between (slice_index_or v.codes p []) q (i * v.b) (i * v.b + v.b)

-- it differs in exactly so many bits in some chunk below chunk n
abbrev pub some_chunk_at : MultiValue → List ℕ → ℕ → ℕ → ℕ → Bool
some_chunk_at v q flips n p = list_any (λ i. nat_eq (chunk_dist v q i p) flips) (range_with_len 0 n)

-- a key differs from the query's in exactly so many bits
abbrev pub is_at : ℕ → ℕ → ℕ → Bool
is_at query_key flips k = nat_eq (count_ones (bit_xor query_key k)) flips
