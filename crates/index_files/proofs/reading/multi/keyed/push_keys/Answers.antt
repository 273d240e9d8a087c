use Rattle.std.proofs.Common.{◌≡◌, ◌<◌, ◌∷◌, ◌++◌, [], ℕ, List, length, map, take, get_or, sym, ap, ◌∙◌}
use Rattle.std.proofs.Common.{append_assoc, arith}
use Rattle.std.proofs.lemmas.List.{map_more, take_all}
use Rattle.bcodes.specs.Value.{Row}
use Rattle.code_pool.specs.Lists.{no_row, rows_in}
use Rattle.code_pool.proofs.RowLemmas.{get-rows_in, length-rows_in}
use Rattle.key_buckets.specs.Keys.{key_in}
use Rattle.multi_hash.specs.Inside.{row_key}
use Rattle.index_files.proofs.reading.multi.keyed.push_keys.Goals as goal

pub loop-at-preserved : goal.loop-at-preserved
loop-at-preserved c =
    let f : Row → ℕ = row_key c.args.number c.args.b in
    let at : ℕ = c.loop-at.at in
    let old : List ℕ = c.args.keys.now in
    let rows : List Row = rows_in c.args.size c.args.run.labels.now c.args.run.codes.now in
    let low : at < length c.args.run.labels.now = omega arith in
    let here : at < length rows = omega (
      arith,
      low,
      length-rows_in c.args.size c.args.run.labels.now c.args.run.codes.now,
    ) in
    let key : c.chunk.result ≡ f (get_or rows at no_row) = c.chunk.ensures
    ∙ ap (key_in c.args.number c.args.b) (c.code_at.ensures.value
    ∙ ap (λ (row : Row). row.code)
    (sym (get-rows_in c.args.size c.args.run.labels.now c.args.run.codes.now at no_row low))) in
    c.in_ok-push.ensures
    ∙ ap (λ (ks : List ℕ). ks ++ c.chunk.result ∷ []) c.loop-at.invariant
    ∙ ap (λ (k : ℕ). (old ++ map f (take at rows)) ++ k ∷ []) key
    ∙ append_assoc old (map f (take at rows)) (f (get_or rows at no_row) ∷ [])
    ∙ ap (λ (ks : List ℕ). old ++ ks) (sym (map_more f rows at no_row here))

pub returns : goal.returns
returns c =
    let f : Row → ℕ = row_key c.args.number c.args.b in
    let rows : List Row = rows_in c.args.size c.args.run.labels.now c.args.run.codes.now in
    c.loop-at.invariant
    ∙ ap (λ (rs : List Row). c.args.keys.now ++ map f rs) (take_all c.loop-at.at rows
    (omega (arith, length-rows_in c.args.size c.args.run.labels.now c.args.run.codes.now)))
