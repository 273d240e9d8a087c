-- Where the labels of hits come from.
use Rattle.std.proofs.Common.{◌≡◌, ℕ, ◌+◌, ◌-◌, ◌^◌, ◌<◌, ℤ, List, [], ◌∷◌, get_or, map}
use Rattle.std.proofs.Common.{nat_lt, false, true≢false}
use Rattle.std.proofs.Common.{arith, inl, inr}
use Rattle.std.proofs.lemmas.Int.{ints}
use Rattle.std.specs.List.{All, filter}
use Rattle.std.proofs.lemmas.List.Elements.{All-nil, All-cons, All-head, All-tail, All-filter, All-map, All-take}
use Rattle.bcodes.specs.declared.hit.Hit.{Hit}
use Rattle.bcodes.specs.Hits.{in_order, insert_hit, is_above}
use Rattle.bcodes.specs.Settings.{needs_ids}
use Rattle.bcodes.specs.Value.{Row, ListRow, Inner, Flat, Ivf, Hash, Multi, IndexValue, Bare, IdMap}
use Rattle.bcodes.specs.Value.{IsPlace, count_of, numbered, row_of, rows_of, rows_of_inner}
use Rattle.bcodes.specs.Answers.{best, within, hits, hit_of, ranked_rows, probed_rows_inner}
use Rattle.bcodes.specs.Answers.{is_probed_ivf, is_probed_hash, is_probed_multi}
use Rattle.bcodes.proofs.RankedLemmas.{All-best, All-within}

-- ---- labels that can be moved

-- a place among few rows, of which others come before
place_before : (n before : ℕ) (label : ℤ) → before + n < 2 ^ 31 → IsPlace n label
    → IsPlace (2 ^ 31 - before) label
place_before n before label few p =
    let least = p.least in
    let most = p.most in
    record { least = least; most = omega (arith, ints) }

places_before : (n before : ℕ) (rows : List Row) → before + n < 2 ^ 31 → All (λ row. IsPlace n row.label) rows
    → All (λ row. IsPlace (2 ^ 31 - before) row.label) rows
places_before n before rows few a = λ k d h. place_before n before (get_or rows k d).label few (a k d h)

pub best_places : (v : IndexValue) (q : List ℕ) (k before : ℕ) → needs_ids v ≡ false
    → All (λ row. IsPlace (count_of v) row.label) (rows_of v) → before + count_of v < 2 ^ 31
    → All (λ h. IsPlace (2 ^ 31 - before) h.label) (best v q k)
best_places v q k before bare a few =
    All-best (IsPlace (2 ^ 31 - before)) v q k bare (places_before (count_of v) before (rows_of v) few a)

pub within_places : (v : IndexValue) (q : List ℕ) (radius before : ℕ) → needs_ids v ≡ false
    → All (λ row. IsPlace (count_of v) row.label) (rows_of v) → before + count_of v < 2 ^ 31
    → All (λ h. IsPlace (2 ^ 31 - before) h.label) (within v q radius)
within_places v q radius before bare a few =
    All-within (IsPlace (2 ^ 31 - before)) v q radius bare (places_before (count_of v) before (rows_of v) few a)
