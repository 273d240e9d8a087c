-- What is told of an index.
use Rattle.std.specs.Prelude.{ℕ, Bool, false, List, [], ◌∷◌, length, map}
use Rattle.std.specs.List.{range_with_len}
use Rattle.bcodes.specs.Value.{Inner, Flat, Ivf, Hash, Multi, IndexValue, inner_of, dim_of, count_of, is_trained}
use Rattle.bcodes.specs.Answers.{bound_of}
use Rattle.hash_index.specs.Keys.{hash_keys}
use Rattle.multi_hash.specs.Maps.{map_keys}
use Rattle.any_index.specs.declared.about.About.{About}
use Rattle.any_index.specs.Specs.{spec_of, held_of}

-- the numbers that only some kinds have; one that a kind lacks is 0
abbrev pub nprobe_of : Inner → ℕ
nprobe_of (Flat v) = 0
nprobe_of (Ivf v) = v.nprobe
nprobe_of (Hash v) = 0
nprobe_of (Multi v) = 0

abbrev pub max_codes_of : Inner → ℕ
max_codes_of (Flat v) = 0
max_codes_of (Ivf v) = v.max_codes
max_codes_of (Hash v) = 0
max_codes_of (Multi v) = 0

abbrev pub is_direct : Inner → Bool
is_direct (Flat v) = false
is_direct (Ivf v) = v.direct
is_direct (Hash v) = false
is_direct (Multi v) = false

abbrev pub nflip_of : Inner → ℕ
nflip_of (Flat v) = 0
nflip_of (Ivf v) = 0
nflip_of (Hash v) = v.nflip
nflip_of (Multi v) = v.nflip

-- the number of distinct keys under each map
abbrev pub buckets_of : Inner → List ℕ
buckets_of (Flat v) = []
buckets_of (Ivf v) = []
buckets_of (Hash v) = length (hash_keys v) ∷ []
buckets_of (Multi v) = map (λ i. length (map_keys v i)) (range_with_len 0 v.nhash)

abbrev pub about : IndexValue → About
about v = record {
  spec = spec_of v;
  bits = dim_of v;
  total = count_of v;
  trained = is_trained v;
  nprobe = nprobe_of (inner_of v);
  max_codes = max_codes_of (inner_of v);
  direct = is_direct (inner_of v);
  held = held_of v;
  nflip = nflip_of (inner_of v);
  bound = bound_of v;
  buckets = buckets_of (inner_of v);
}
