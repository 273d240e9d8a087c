use Rattle.std.proofs.Common.{ℕ, ◌/◌, List, length, sym, ap, ◌∙◌}
use Rattle.bcodes.specs.Value.{CodeList}
use Rattle.any_index.proofs.LabelLemmas.{size_labelled}
use Rattle.any_index.proofs.any_index.AnyIndex.reconstruct.Goals as goal

pub push-requires : goal.push-requires
push-requires c =
    ap (λ (code : List ℕ). length code) c.labelled.ensures.code
    ∙ size_labelled c.args.self.now c.args.label c.dim.ensures.legal c.requires.finds c.requires.within
    ∙ ap (λ (n : ℕ). n / 8) (sym (ap (λ (codes : CodeList). codes.dim) c.new-codes.ensures ∙ c.dim.ensures.value))
