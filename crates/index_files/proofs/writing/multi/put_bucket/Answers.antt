use Rattle.std.proofs.Common.{get_or, arith}
use Rattle.bcodes.specs.Value.{MultiValue}
use Rattle.multi_hash.specs.Maps.{map_keys}
use Rattle.index_files.proofs.MultiWriting.{entry_packs, head_room, positions_room}
use Rattle.index_files.proofs.PackingLemmas.{one_width}
use Rattle.index_files.proofs.writing.multi.put_bucket.Goals as goal

pub put_bits-requires-clause-width : goal.put_bits-requires-clause-width
put_bits-requires-clause-width c = omega (arith, c.b.ensures, c.requires.legal.b_most)

pub put_bits-requires-clause-room : goal.put_bits-requires-clause-room
put_bits-requires-clause-room c =
    let v : MultiValue = c.args.multi.now in
    omega (
      arith,
      head_room v c.args.i c.args.width (get_or (map_keys v c.args.i) c.args.bucket 0) c.b.result
          c.args.writer.now c.b.ensures c.requires.room,
    )

pub put_bits-requires-2-clause-room : goal.put_bits-requires-2-clause-room
put_bits-requires-2-clause-room c =
    let v : MultiValue = c.args.multi.now in
    omega (
      arith,
      head_room v c.args.i c.args.width (get_or (map_keys v c.args.i) c.args.bucket 0) c.b.result
          c.args.writer.now c.b.ensures c.requires.room,
      c.put_bits.ensures.room,
      one_width c.bucket_key.result c.b.result,
    )

pub put_positions-requires-clause-room : goal.put_positions-requires-clause-room
put_positions-requires-clause-room c =
    let v : MultiValue = c.args.multi.now in
    positions_room v c.args.i c.args.width (get_or (map_keys v c.args.i) c.args.bucket 0) c.bucket_key.result
    c.bucket_len-count.result c.b.result c.args.writer.now c.put_bits.new.writer c.put_bits-2.new.writer c.b.ensures
    c.requires.room c.put_bits.ensures c.put_bits-2.ensures

pub returns : goal.returns
returns c =
    let v : MultiValue = c.args.multi.now in
    entry_packs v c.args.i c.args.width (get_or (map_keys v c.args.i) c.args.bucket 0) c.bucket_key.result
    c.bucket_len-count.result c.b.result c.args.writer.now c.put_bits.new.writer c.put_bits-2.new.writer
    c.put_positions.new.writer c.bucket_key.ensures c.bucket_len-count.ensures c.b.ensures c.put_bits.ensures
    c.put_bits-2.ensures c.put_positions.ensures
