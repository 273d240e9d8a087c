use Rattle.std.proofs.Common.{rules, length, arith}
use Rattle.faissb_core.proofs.SessionLemmas.DecodeLemmas.{decoded_start, decoded_more, all_decoded}
use Rattle.faissb_core.proofs.session.read_codes.decode_pairs.Goals as goal

pub loop-i-init : goal.loop-i-init
loop-i-init c = record { decoded = decoded_start _ _ c.requires; len = search rules }

pub loop-i-preserved : goal.loop-i-preserved
loop-i-preserved c = record {
  decoded = decoded_more _ _ c.loop-i.i c.loop-i.greatest c.digit-high.result c.digit-low.result _ _
      c.loop-i.invariant.decoded (omega arith) c.digit-high.ensures c.digit-low.ensures (search rules) (search rules);
  len = search rules;
}

pub returns : goal.returns
returns c = all_decoded c.args.word.now c.loop-i.code
    (length c.args.code.now) c.loop-i.i c.loop-i.greatest c.loop-i.invariant.decoded (omega arith) (omega arith)
