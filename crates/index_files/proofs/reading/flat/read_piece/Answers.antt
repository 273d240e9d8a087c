use Rattle.std.proofs.Common.{◌/◌, length, ap, ◌∙◌}
use Rattle.bcodes.proofs.ChunkLemmas.{length-chunks_of}
use Rattle.index_files.proofs.reading.flat.read_piece.Goals as goal

pub returns-clause-count : goal.returns-clause-count
returns-clause-count g c =
    ap (λ v. length v.codes) c.in_ok-codes.ensures ∙ length-chunks_of (c.args.dim.bits / 8) c.args.n _
