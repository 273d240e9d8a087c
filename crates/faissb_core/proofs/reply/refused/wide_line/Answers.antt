use Rattle.std.proofs.Common.{◌++◌, ◌∷◌, [], ℕ, List, codes, sym, ap, ◌∙◌}
use Rattle.std.specs.Fmt.{decimal}
use Rattle.std.proofs.lemmas.List.{append_assoc}
use Rattle.faissb_core.proofs.reply.refused.wide_line.Goals as goal

pub returns : goal.returns
returns c = c.in_ok-line.ensures.ok ∙ ap (λ (end : List ℕ). codes "refused bucketbits " ++ end)
    (sym (append_assoc (decimal c.args.wide.map) (32 ∷ decimal c.args.wide.size) (10 ∷ [])))
