use Rattle.std.proofs.Common.{ap, sym, ◌∙◌}
use Rattle.bcodes.specs.Value.{MultiValue, Multi, Bare}
use Rattle.multi_hash.proofs.MultiLemmas.{after_add_multi, load_added}
use Rattle.multi_hash.proofs.multi.MultiAddable.add_all.Goals as goal

pub append-requires-clause-load : goal.append-requires-clause-load
append-requires-clause-load g c = load_added c.args.self.now c.args.labels.now c.args.codes.now.codes
    c.requires.same_count c.requires.load

pub returns-clause-ok : goal.returns-clause-ok
returns-clause-ok g c =
    ap (λ (v : MultiValue). Bare (Multi v)) c.in_ok-append.ensures.ok
    ∙ sym (after_add_multi c.args.self.now c.args.labels.now c.args.codes.now.codes c.requires.same_count)
