use Rattle.std.proofs.Common.{ap, sym, ◌∙◌}
use Rattle.bcodes.specs.Value.{HashValue, Hash, Bare}
use Rattle.hash_index.proofs.HashLemmas.{after_add_hash, load_added}
use Rattle.hash_index.proofs.hash.HashAddable.add_all.Goals as goal

pub append-requires-clause-load : goal.append-requires-clause-load
append-requires-clause-load g c = load_added c.args.self.now c.args.labels.now c.args.codes.now.codes
    c.requires.same_count c.requires.load

pub returns-clause-ok : goal.returns-clause-ok
returns-clause-ok g c =
    ap (λ (v : HashValue). Bare (Hash v)) c.in_ok-append.ensures.ok
    ∙ sym (after_add_hash c.args.self.now c.args.labels.now c.args.codes.now.codes)
