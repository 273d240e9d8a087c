use Rattle.std.proofs.Common.{◌≡◌, ◌+◌, ◌*◌, ◌/◌, ◌≤◌, ℤ, List, length, ap, ◌∙◌, arith}
use Rattle.bcodes.specs.Ranges.{load_limit}
use Rattle.bcodes.specs.Value.{CodeList, IndexValue, Bare, Flat, empty_flat, labels_from, load_of}
use Rattle.bcodes.specs.Answers.{after_add}
use Rattle.bcodes.proofs.FormLemmas.{after_add_flat, load_flat}
use Rattle.bcodes.proofs.NumberedLemmas.{length-labels_from}
use Rattle.index_tests.proofs.flat.fill.Goals as goal

-- an empty index holds the codes after their add
filled : (v : IndexValue) (labels : List ℤ) (codes : CodeList) → v ≡ Bare (Flat (empty_flat codes.dim))
    → labels ≡ labels_from 0 (length codes.codes)
    → after_add v labels codes.codes ≡ Bare (Flat codes)
filled v labels codes empty positions =
    ap (λ (u : IndexValue). after_add u labels codes.codes) empty
    ∙ after_add_flat (empty_flat codes.dim) labels codes.codes (ap length positions
    ∙ length-labels_from 0 (length codes.codes))

-- a few codes are within the load limit
light : (codes : CodeList) → codes.dim ≤ 65536 → length codes.codes ≤ 4 → load_of (Bare (Flat codes)) ≤ load_limit
light codes small few =
    let most : length codes.codes * (codes.dim / 8 + 16) ≤ 4 * (codes.dim / 8 + 16) = grind arith in
    omega (arith, most, load_flat codes)

pub add_all-requires-clause-same_count : goal.add_all-requires-clause-same_count
add_all-requires-clause-same_count g c = ap length c.requires.positions
    ∙ length-labels_from 0 (length c.args.codes.now.codes)

pub add_all-requires-clause-load : goal.add_all-requires-clause-load
add_all-requires-clause-load g c =
    rw (filled _ c.args.labels.now c.args.codes.now c.requires.empty c.requires.positions)
    (light c.args.codes.now c.dim-dim.ensures.range.at_most c.requires.few)

pub returns : goal.returns
returns g c = c.in_ok-add_all.ensures.ok
    ∙ filled _ c.args.labels.now c.args.codes.now c.requires.empty c.requires.positions
