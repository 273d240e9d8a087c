use Rattle.std.proofs.Common.{◌<◌, length, arith}
use Rattle.shard_set.proofs.MoveLemmas.{move_more}
use Rattle.shard_set.proofs.merging.move_labels.Goals as goal

pub loop-i-preserved : goal.loop-i-preserved
loop-i-preserved c =
    let low : c.loop-i.i < length c.args.hits.now.items = omega (arith, c.loop-i-test.true, c.len-i-end.ensures) in
    move_more c.args.hits.now.items c.loop-i.hits.items c.relabel.new.self.items c.loop-i.i c.args.before low
    c.requires.few c.requires.places c.loop-i.invariant (rw c.as_slice.ensures at c.relabel.ensures.items)
