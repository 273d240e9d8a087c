use Rattle.std.proofs.Common.{Err, ap, ◌∙◌}
use Rattle.bcodes.specs.declared.direct_error.DirectError.{DirectError}
use Rattle.index_files.proofs.reading.ivf.with_map.Goals as goal

pub unreachable-requires : goal.unreachable-requires
unreachable-requires c =
    (c.set_direct.ensures.only
    (c.in-Err-NotSequential.is ∙ ap (λ (e : DirectError). Err e) c.in-Err-NotSequential.field-0-is)).1
    (c.requires.numbered c.if-not-direct.false)
