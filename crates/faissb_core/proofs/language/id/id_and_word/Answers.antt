use Rattle.std.proofs.Common.{rules, ◌≡◌, ◌∙◌, sym, ap, Some, ℤ, FitsSigned, w64, to_z}
use Rattle.std.proofs.Common.{of_z}
use Rattle.std.proofs.lemmas.Int.{to_z-of_z}
use Rattle.faissb_core.specs.Language.Words.{id, id_before}
use Rattle.faissb_core.proofs.LanguageLemmas.IdLemmas.{no_id, id_behind, id_before-some, id_before-none}
use Rattle.faissb_core.proofs.LanguageLemmas.IdLemmas.{no_id_before}
use Rattle.faissb_core.proofs.language.id.id_and_word.Goals as goal

pub returns-in_err-front : goal.returns-in_err-front
returns-in_err-front c = rw (no_id c.args.word.now c.in_err-front.ensures) (search rules)

pub returns-then-is_empty : goal.returns-then-is_empty
returns-then-is_empty c =
    let parts = c.in_ok-front.ensures in
    sym (id_behind c.args.word.now c.in_ok-front.front.now c.in_ok-front.word.now parts.0 parts.1
    ∙ id_before-none c.in_ok-front.word.now (id c.in_ok-front.front.now)
    (sym c.is_empty.ensures ∙ c.if-is_empty.true))

pub returns-in_err-id : goal.returns-in_err-id
returns-in_err-id c =
    let parts = c.in_ok-front.ensures in
    rw (
      c.from_residual-in_err-id.ensures,
      id_behind c.args.word.now c.in_ok-front.front.now c.in_ok-front.word.now
          parts.0 parts.1,
      sym c.in_err-id.ensures,
    ) (sym (no_id_before c.in_ok-front.word.now))

pub returns : goal.returns
returns c =
    let parts = c.in_ok-front.ensures in
    let i : ℤ = c.in_ok-id.field-0 in
    let fits : FitsSigned w64 i = search rules in
    let same : to_z w64 (of_z w64 i) ≡ i = to_z-of_z w64 i fits in
    rw same (sym (id_behind c.args.word.now c.in_ok-front.front.now c.in_ok-front.word.now parts.0 parts.1
    ∙ ap (id_before c.in_ok-front.word.now) (sym c.in_ok-id.ensures)
    ∙ id_before-some c.in_ok-front.word.now (Some i) (sym c.is_empty.ensures ∙ c.if-is_empty.false)))
