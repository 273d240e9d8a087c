use Rattle.std.proofs.Common.{refl, sym, ap, ◌∙◌, length-append}
use Rattle.bcodes.specs.Value.{CodeList, Bare, Flat}
use Rattle.bcodes.proofs.FormLemmas.{after_add_flat}
use Rattle.flat_index.proofs.AddLemmas.{load_added}
use Rattle.flat_index.proofs.flat.FlatAddable.add_all.Goals as goal

pub append-requires-clause-load : goal.append-requires-clause-load
append-requires-clause-load g c =
    rw (← length-append c.args.self.now.codes c.args.codes.now.codes)
    (load_added c.args.self.now c.args.self.now c.args.labels.now c.args.codes.now.codes refl
    c.requires.same_count c.requires.load)

pub returns-clause-ok : goal.returns-clause-ok
returns-clause-ok g c =
    ap (λ (v : CodeList). Bare (Flat v)) c.in_ok-append.ensures.ok
    ∙ sym (after_add_flat c.args.self.now c.args.labels.now c.args.codes.now.codes c.requires.same_count)
