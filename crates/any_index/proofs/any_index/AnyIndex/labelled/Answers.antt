use Rattle.std.proofs.Common.{sym, ap, ◌∙◌}
use Rattle.any_index.specs.Kinds.{inner_value}
use Rattle.any_index.proofs.LabelLemmas.{code_in_flat, code_in_ivf}
use Rattle.any_index.proofs.any_index.AnyIndex.labelled.Goals as goal

pub returns-in-Flat-clause-code : goal.returns-in-Flat-clause-code
returns-in-Flat-clause-code c =
    c.code.ensures.code
    ∙ code_in_flat c.args.self.now c.in-Flat.index c.args.label c.requires.finds
    (sym (ap inner_value c.in-Flat.is) ∙ c.inner.ensures) c.requires.within

pub returns-in-Ivf-clause-code : goal.returns-in-Ivf-clause-code
returns-in-Ivf-clause-code c =
    c.code_of.ensures.code
    ∙ code_in_ivf c.args.self.now c.in-Ivf.index c.args.label c.requires.finds
    (sym (ap inner_value c.in-Ivf.is) ∙ c.inner.ensures)
