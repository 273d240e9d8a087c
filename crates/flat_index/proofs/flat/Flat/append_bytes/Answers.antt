use Rattle.std.proofs.Common.{◌/◌, ◌++◌, ℕ, List, ap, ◌∙◌}
use Rattle.bcodes.specs.Chunks.{chunks_of}
use Rattle.bcodes.specs.Value.{CodeList}
use Rattle.bcodes.proofs.ChunkLemmas.{length-chunks_of}
use Rattle.flat_index.specs.Inside.{codes_in}
use Rattle.flat_index.proofs.AddLemmas.{added, flat_added, codes_added, load_inside}
use Rattle.flat_index.proofs.flat.Flat.append_bytes.Goals as goal

pub invariant_of-self-2 : goal.invariant_of-self-2
invariant_of-self-2 g c =
    let cs : List (List ℕ) = chunks_of c.bytes.result c.args.n c.args.bytes.now in
    let a = added c.self.inside.pool c.reserve.new.self c.append_all_bytes.new.pool c.len-count.result _ cs
    c.in_ok-reserve.ensures.ok c.append_all_bytes.ensures.rows c.append_all_bytes.ensures.lists
    c.append_all_bytes.ensures.size in
    flat_added c.self.inside.dim.bits c.self.inside.pool c.append_all_bytes.new.pool c.len-count.result cs
    c.self.invariant c.len-count.ensures.value a
    (load_inside (record { dim = c.self.inside.dim.bits; codes = codes_in c.self.inside.pool }) c.args.self.now
    c.args.n cs c.self.view_is (length-chunks_of c.bytes.result c.args.n c.args.bytes.now) c.requires.load)

pub returns-clause-ok : goal.returns-clause-ok
returns-clause-ok g c =
    let cs : List (List ℕ) = chunks_of c.bytes.result c.args.n c.args.bytes.now in
    let a = added c.self.inside.pool c.reserve.new.self c.append_all_bytes.new.pool c.len-count.result _ cs
    c.in_ok-reserve.ensures.ok c.append_all_bytes.ensures.rows c.append_all_bytes.ensures.lists
    c.append_all_bytes.ensures.size in
    ap (λ (ds : List (List ℕ)). record { dim = c.self.inside.dim.bits; codes = ds })
    (codes_added c.self.inside.pool c.append_all_bytes.new.pool c.len-count.result cs a.rows
    ∙ ap (λ (size : ℕ). codes_in c.self.inside.pool ++ chunks_of size c.args.n c.args.bytes.now)
    c.bytes.ensures.value)
    ∙ ap (λ (v : CodeList). record v { codes = v.codes ++ chunks_of (v.dim / 8) c.args.n c.args.bytes.now })
    c.self.view_is
