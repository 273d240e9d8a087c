use Rattle.hamming_kernels.proofs.WordLemmas.{AreBytes-fits}
use Rattle.hamming_kernels.proofs.LaneLemmas.{differing_part}
use Rattle.hamming_kernels.proofs.lanes.differing_in_part.Goals as goal

pub returns : goal.returns
returns c =
    differing_part c.args.code.now c.args.query.now c.words-2.result c.words.result
    (AreBytes-fits c.args.code.now c.type_inv.code) (AreBytes-fits c.args.query.now c.type_inv.query)
    c.words-2.ensures.size c.words.ensures.size c.words-2.ensures.value c.words.ensures.value
