-- What is probed, and which ranges are marked.
use Rattle.std.proofs.Common.{◌≡◌, ℕ, ◌+◌, ◌*◌, ◌<◌, ◌≤◌, Bool, true, false, ◌||◌, nat_le, List, refl, ap, ◌∙◌}
use Rattle.std.proofs.lemmas.Bool.{le-leb}
use Rattle.bcodes.specs.Bits.{dist}
use Rattle.bcodes.specs.Value.{Row, MultiValue, Multi, Inner, IndexValue, IsLegalMulti, IsCode, inner_of}
use Rattle.bcodes.specs.Answers.{is_probed_multi, bound_of_inner}
use Rattle.bcodes.specs.Marks.{range_mark, probes_all_inner}
use Rattle.bcodes.proofs.PigeonholeLemmas.{near_chunk}

pub close_is_probed : (v : MultiValue) (q : List ℕ) (row : Row) → IsLegalMulti v → IsCode v.dim row.code
    → dist row.code q < v.nhash * (v.nflip + 1) → is_probed_multi v q row ≡ true
close_is_probed v q row legal code less = near_chunk v row.code q legal code.size less

or_true : (s t : Bool) → t ≡ true → (s || t) ≡ true
or_true true t e = refl
or_true false t e = e

pub small_range_marked : (v : MultiValue) (outer : IndexValue) (q : List ℕ) (radius : ℕ) → inner_of outer ≡ Multi v
    → radius ≤ v.nhash * (v.nflip + 1) → range_mark outer q radius ≡ true
small_range_marked v outer q radius e h =
    or_true (probes_all_inner (inner_of outer) q) (nat_le radius (bound_of_inner (inner_of outer)))
    (ap (λ (w : Inner). nat_le radius (bound_of_inner w)) e ∙ le-leb radius (v.nhash * (v.nflip + 1)) h)
