use Rattle.std.proofs.Common.{ap, ◌∙◌}
use Rattle.bit_strings.specs.Packed.{low_bits}
use Rattle.index_files.proofs.PackingLemmas.{cut_below, low_cut, packs_one}
use Rattle.index_files.proofs.writing.packed.put_bits.Goals as goal

pub write-requires-clause-number : goal.write-requires-clause-number
write-requires-clause-number c = cut_below c.args.n c.args.x c.lowest_bits.result c.lowest_bits.ensures

pub returns : goal.returns
returns c =
    packs_one c.args.x c.args.n c.lowest_bits.result c.args.writer.now c.write.new.self
    (ap (low_bits c.args.n) c.lowest_bits.ensures ∙ low_cut c.args.n c.args.x) c.write.ensures.bits
    c.write.ensures.room c.requires.room
