use Rattle.std.proofs.Common.{arith, refl}
use Rattle.multi_hash.proofs.PlaceLemmas.{partly_none, partly_whole}
use Rattle.multi_hash.proofs.place.place_all.Goals as goal

pub loop-i-init : goal.loop-i-init
loop-i-init g c = record {
  partly = partly_none c.args.storage.now.dim c.args.b c.args.storage.now.codes c.args.maps.now c.args.buckets.now
      c.requires.multi c.requires.load;
  count = refl;
}

pub returns-clause-multi : goal.returns-clause-multi
returns-clause-multi g c =
    partly_whole c.args.storage.now.dim c.args.b c.loop-i.i c.loop-i.used c.args.storage.now.codes c.loop-i.maps
    c.loop-i.buckets c.loop-i.invariant.partly (omega (arith, c.loop-i.invariant.count))
