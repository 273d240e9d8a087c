-- The answer of a growing search under outer ids.
use Rattle.std.proofs.Common.{◌≡◌, ℕ, List, length, Some, refl, sym, ap, arith, take}
use Rattle.std.specs.List.{All}
use Rattle.std.proofs.lemmas.List.Elements.{All-take}
use Rattle.bcodes.specs.declared.hit.Hit.{Hit}
use Rattle.bcodes.specs.Ranges.{raised}
use Rattle.bcodes.specs.Value.{MultiValue, Flat, Ivf, Hash, Multi, IndexValue, Bare, IdMap, IsLegal, IsPlace}
use Rattle.bcodes.specs.Value.{count_of, numbered}
use Rattle.bcodes.specs.Settings.{multi_in}
use Rattle.bcodes.specs.Answers.{looked, ranked_rows, relabelled, scan_best}
use Rattle.bcodes.proofs.LegalLemmas.{count-le, looked-le}
use Rattle.bcodes.proofs.RankedLemmas.{All-ranked}
use Rattle.id_map.proofs.RowLemmas.{All-numbered}
use Rattle.growing_probe.specs.Grown.{flipped}
use Rattle.faissb_core.proofs.SessionLemmas.MarkLemmas.{same_multi}

plain_places : (v : MultiValue) (q : List ℕ) (k : ℕ)
    → All (λ (h : Hit). IsPlace (length v.codes) h.label) (scan_best (Bare (Multi v)) q k)
unfolding scan_best
plain_places v q k =
    All-take (λ (h : Hit). IsPlace (length v.codes) h.label) k (ranked_rows q (numbered 0 v.codes))
    (All-ranked (IsPlace (length v.codes)) q (numbered 0 v.codes)
    (All-numbered 0 (length v.codes) v.codes (omega arith)))

count_is : (v : IndexValue) (multi : MultiValue) → multi_in v ≡ Some multi → count_of v ≡ length multi.codes
count_is (Bare (Flat v)) multi is = absurd cc
count_is (Bare (Ivf v)) multi is = absurd cc
count_is (Bare (Hash v)) multi is = absurd cc
count_is (Bare (Multi v)) multi is = ap (λ (m : MultiValue). length m.codes) (same_multi v multi is)
count_is (IdMap name (Flat v) ids) multi is = absurd cc
count_is (IdMap name (Ivf v) ids) multi is = absurd cc
count_is (IdMap name (Hash v) ids) multi is = absurd cc
count_is (IdMap name (Multi v) ids) multi is = ap (λ (m : MultiValue). length m.codes) (same_multi v multi is)

-- the labels are places
pub scan_places : (v : IndexValue) (multi : MultiValue) (q : List ℕ) (k : ℕ) → multi_in v ≡ Some multi
    → All (λ (h : Hit). IsPlace (count_of v) h.label) (scan_best (Bare (Multi multi)) q k)
scan_places v multi q k is = rw (count_is v multi is) (plain_places multi q k)

plain_scan : (v : MultiValue) (q : List ℕ) (k : ℕ)
    → relabelled (Bare (Multi v)) (scan_best (Bare (Multi v)) q k) ≡ scan_best (Bare (Multi v)) q k
plain_scan v q k = refl

-- with outer ids in their place it is the scan of the index
pub scan_outer : (v : IndexValue) (multi : MultiValue) (q : List ℕ) (k : ℕ) → multi_in v ≡ Some multi
    → relabelled v (scan_best (Bare (Multi multi)) q k) ≡ scan_best v q k
unfolding scan_best
scan_outer (Bare (Flat v)) multi q k is = absurd cc
scan_outer (Bare (Ivf v)) multi q k is = absurd cc
scan_outer (Bare (Hash v)) multi q k is = absurd cc
scan_outer (Bare (Multi v)) multi q k is =
    ap (λ (m : MultiValue). take k (ranked_rows q (numbered 0 m.codes))) (sym (same_multi v multi is))
scan_outer (IdMap name (Flat v) ids) multi q k is = absurd cc
scan_outer (IdMap name (Ivf v) ids) multi q k is = absurd cc
scan_outer (IdMap name (Hash v) ids) multi q k is = absurd cc
scan_outer (IdMap name (Multi v) ids) multi q k is =
    ap (λ (m : MultiValue). relabelled (IdMap name (Multi v) ids) (take k (ranked_rows q (numbered 0 m.codes))))
    (sym (same_multi v multi is))

-- the number looked at, of a meter that began at 0
pub looked_small : (v : IndexValue) (multi : MultiValue) (flips : ℕ) (q : List ℕ) → IsLegal v → multi_in v ≡ Some multi
    → raised 0 (looked (flipped multi flips) q) ≡ looked (flipped multi flips) q
looked_small v multi flips q legal is =
    omega (arith, looked-le (flipped multi flips) q, count-le v legal, count_is v multi is)
