use Rattle.std.proofs.Common.{ℕ, List, ap, ◌∙◌}
use Rattle.std.specs.List.{items_where_true}
use Rattle.bcodes.specs.Value.{CodeList}
use Rattle.flat_index.proofs.KeepLemmas.{flat_kept}
use Rattle.flat_index.proofs.flat.Flat.keep.Goals as goal

pub invariant_of-self : goal.invariant_of-self
invariant_of-self g c =
    (flat_kept c.self.inside.dim.bits c.self.inside.pool c.keep_rows.new.self c.number_rows.new.self c.args.flags.now
    c.self.invariant c.keep_rows.ensures.lists c.keep_rows.ensures.code_size c.number_rows.ensures).flat

pub returns : goal.returns
returns g c =
    let kept = flat_kept c.self.inside.dim.bits c.self.inside.pool c.keep_rows.new.self c.number_rows.new.self
    c.args.flags.now c.self.invariant c.keep_rows.ensures.lists c.keep_rows.ensures.code_size
    c.number_rows.ensures in
    ap (λ (cs : List (List ℕ)). record { dim = c.self.inside.dim.bits; codes = cs }) kept.codes
    ∙ ap (λ (v : CodeList). record v { codes = items_where_true c.args.flags.now v.codes }) c.self.view_is
