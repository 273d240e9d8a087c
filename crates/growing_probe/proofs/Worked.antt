-- Values that the definitions compute, whatever the code does.
use Rattle.std.specs.Prelude.{◌≡◌, ℕ, List, [], ◌∷◌}
use Rattle.std.proofs.Common.{refl}
use Rattle.std.specs.Int.RustNames.{count_ones}
use Rattle.bcodes.specs.Bits.{differing, key}
use Rattle.bcodes.specs.Hits.{is_above}
use Rattle.bcodes.specs.Value.{MultiValue, empty_multi}
use Rattle.bcodes.specs.Answers.{best, hits, looked}
use Rattle.flip_walk.specs.Patterns.{with_ones}
use Rattle.multi_hash.specs.Maps.{map_key, map_keys}
use Rattle.growing_probe.specs.Grown.{flipped, grown}
use Rattle.growing_probe.specs.Looks.{looks_up_to}

-- two codes, at distances 1 and 2 from the query
two : MultiValue
two = record {
  dim = 16;
  nhash = 2;
  b = 8;
  nflip = 0;
  codes = (1 ∷ 0 ∷ []) ∷ (1 ∷ 1 ∷ []) ∷ [];
}

zeros : List ℕ
zeros = 0 ∷ 0 ∷ []

nearest_of_two : grown two zeros 1 ≡ 0
unfolding grown best hits differing is_above two zeros
nearest_of_two = refl

both_of_two : grown two zeros 2 ≡ 1
unfolding grown best hits differing is_above two zeros
both_of_two = refl

read_for_one : looked (flipped two 0) zeros ≡ 1
unfolding looked differing two zeros
read_for_one = refl

read_for_both : looked (flipped two 1) zeros ≡ 2
unfolding looked differing two zeros
read_for_both = refl

asked_for_one : looks_up_to two 0 ≡ 2
unfolding with_ones map_keys map_key key count_ones two
asked_for_one = refl

asked_for_both : looks_up_to two 1 ≡ 5
unfolding with_ones map_keys map_key key count_ones two
asked_for_both = refl

-- three codes, each chunk of which differs from the query's in at least seven bits
three : MultiValue
three = record {
  dim = 16;
  nhash = 2;
  b = 8;
  nflip = 3;
  codes = (0 ∷ 0 ∷ []) ∷ (1 ∷ 0 ∷ []) ∷ (0 ∷ 128 ∷ []) ∷ [];
}

ones : List ℕ
ones = 255 ∷ 255 ∷ []

nearest_far : grown three ones 1 ≡ 7
unfolding grown best hits differing is_above three ones
nearest_far = refl

all_far : grown three ones 3 ≡ 8
unfolding grown best hits differing is_above three ones
all_far = refl

asked_far : looks_up_to three 7 ≡ 30
unfolding with_ones map_keys map_key key count_ones three
asked_far = refl

-- no code at all
none_left : grown (empty_multi 16 2 8) zeros 9 ≡ 0
unfolding grown best hits
none_left = refl

none_asked : looks_up_to (empty_multi 16 2 8) 0 ≡ 0
unfolding with_ones map_keys count_ones
none_asked = refl
