use Rattle.std.proofs.Common.{◌≡◌, ◌+◌, ◌*◌, ◌/◌, ◌≤◌, ◌++◌, ℤ, ℕ, List, [], length, ap, ◌∙◌, arith, subst, sym}
use Rattle.bcodes.specs.Ranges.{load_limit}
use Rattle.bcodes.specs.Value.{Row, HashValue, IndexValue, Bare, Hash, load_of, weight}
use Rattle.bcodes.specs.Answers.{after_add, paired}
use Rattle.row_lists.proofs.PutLemmas.{length-paired}
use Rattle.hash_index.proofs.HashLemmas.{after_add_hash}
use Rattle.index_tests.proofs.hash.fill.Goals as goal

-- an empty index holds the rows after their add
filled : (v : HashValue) (labels : List ℤ) (codes : List (List ℕ)) → v.rows ≡ []
    → after_add (Bare (Hash v)) labels codes ≡ Bare (Hash (record v { rows = paired labels codes }))
filled v labels codes empty =
    after_add_hash v labels codes
    ∙ ap (λ (rows : List Row). Bare (Hash (record v { rows = rows ++ paired labels codes }))) empty

-- a few rows are within the load limit
light : (d n : ℕ) → d ≤ 65536 → n ≤ 4 → weight d 1 n 0 ≤ load_limit
light d n small few =
    let most : n * (d / 8 + 16 + 64 * 1) ≤ 4 * (d / 8 + 16 + 64 * 1) = grind arith in
    omega (arith, most)

same : (v w : HashValue) → Bare (Hash v) ≡ Bare (Hash w) → v ≡ w
same v w e = cc

pub add_all-requires-clause-load : goal.add_all-requires-clause-load
add_all-requires-clause-load c =
    let v : HashValue = c.args.index.now in
    let small : v.dim ≤ 65536 = omega (arith, c.dim-dim.ensures.range.at_most, c.requires.same_dim) in
    subst (λ (w : IndexValue). load_of w ≤ load_limit)
    (sym (filled v c.args.labels.now c.args.codes.now.codes c.requires.empty))
    (subst (λ (n : ℕ). weight v.dim 1 n 0 ≤ load_limit)
    (sym (length-paired c.args.labels.now c.args.codes.now.codes c.requires.same_count))
    (light v.dim (length c.args.codes.now.codes) small c.requires.few))

pub returns : goal.returns
returns c =
    same _ _ (c.in_ok-add_all.ensures.ok
    ∙ filled c.args.index.now c.args.labels.now c.args.codes.now.codes c.requires.empty)
