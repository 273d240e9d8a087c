use Rattle.std.proofs.Common.{◌≡◌, ◌++◌, ℕ, List, map, sym, ap, ◌∙◌}
use Rattle.bcodes.specs.Value.{ListRow, IvfValue, Ivf, Bare}
use Rattle.bcodes.specs.Answers.{paired}
use Rattle.ivf_index.specs.Near.{nearest_by}
use Rattle.ivf_index.specs.Table.{put_rows}
use Rattle.ivf_index.proofs.AddLemmas.{after_add_ivf, onto_nearest_is, load_added}
use Rattle.ivf_index.proofs.ivf.IvfAddable.add_all.Goals as goal

pub put-requires-clause-load : goal.put-requires-clause-load
put-requires-clause-load g c = load_added c.args.self.now c.args.labels.now c.args.codes.now.codes
    c.requires.same_count c.requires.load

pub returns-clause-ok : goal.returns-clause-ok
returns-clause-ok g c =
    let v : IvfValue = c.args.self.now in
    let numbers : c.deref.result.now ≡ map (nearest_by v.centroids) c.args.codes.now.codes
    = c.deref.ensures.value ∙ c.in_ok-numbers.ensures.nearest
    ∙ ap (λ (w : IvfValue). map (nearest_by w.centroids) c.args.codes.now.codes) c.self.view_is in
    ap (λ (w : IvfValue). Bare (Ivf w)) c.in_ok-put.ensures.ok
    ∙ ap (λ (ns : List ℕ). Bare
    (Ivf (record v { rows = v.rows ++ put_rows ns (paired c.args.labels.now c.args.codes.now.codes) }))) numbers
    ∙ ap (λ (rows : List ListRow). Bare (Ivf (record v { rows = v.rows ++ rows })))
    (onto_nearest_is v c.args.labels.now c.args.codes.now.codes c.requires.same_count)
    ∙ sym (after_add_ivf v c.args.labels.now c.args.codes.now.codes)
