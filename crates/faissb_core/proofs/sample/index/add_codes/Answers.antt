use Rattle.std.proofs.Common.{◌∙◌, ap}
use Rattle.bcodes.specs.Value.{CodeList}
use Rattle.faissb_core.proofs.SampleLemmas.{added-light, index-added}
use Rattle.faissb_core.proofs.sample.index.add_codes.Goals as goal

pub add-requires-clause-load : goal.add-requires-clause-load
add-requires-clause-load c = added-light c.args.seed c.args.held c.args.len c.args.index.now _
    c.requires.so_far (ap (λ (cs : CodeList). cs.codes) c.in_ok-codes.ensures) c.requires.few

pub returns : goal.returns
returns c = c.in_ok-add.ensures.ok
    ∙ index-added c.args.seed c.args.held c.args.len c.args.index.now _ c.requires.so_far
    (ap (λ (cs : CodeList). cs.codes) c.in_ok-codes.ensures)
