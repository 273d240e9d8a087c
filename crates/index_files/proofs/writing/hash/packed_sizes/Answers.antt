use Rattle.std.proofs.Common.{◌≡◌, ℕ, ◌+◌, ◌*◌, ◌^◌, ◌<◌, ◌≤◌, [], ◌++◌, length, get_or, drop, ap, ◌∙◌, arith}
use Rattle.std.specs.List.{flat_map}
use Rattle.std.proofs.lemmas.List.{drop_all}
use Rattle.bcodes.specs.Value.{HashValue}
use Rattle.bit_strings.specs.Packed.{spread}
use Rattle.bit_strings.specs.States.{Written}
use Rattle.hash_index.specs.Keys.{hash_keys}
use Rattle.index_files.specs.File.{bits_of_bucket, hash_bits}
use Rattle.index_files.proofs.HashWriting.{bits_more, keys_few, pair_packs, pair_room}
use Rattle.index_files.proofs.PackingLemmas.{packing_goes_on, packing_ends, product_most, one_width}
use Rattle.index_files.proofs.writing.hash.packed_sizes.Goals as goal
use Rattle.index_files.proofs.writing.hash.packed_sizes.Goals.{After-from}

run_few : (c : After-from) → c.buckets-count.result * c.from.result < 2 ^ 31
run_few c =
    let legal = c.dim-dim.ensures.legal in
    let most = product_most c.buckets-count.result c.from.result 128
    (omega (arith, c.from.ensures, c.b-b.ensures, legal.b_most, c.requires)) in
    omega (arith, most, c.buckets-count.ensures, keys_few c.args.hash.now legal)

pub overflow_mul-count : goal.overflow_mul-count
overflow_mul-count c = omega (arith, run_few c)

pub new-requires : goal.new-requires
new-requires c = omega (arith, run_few c)

pub put_bits-requires-clause-room : goal.put_bits-requires-clause-room
put_bits-requires-clause-room c =
    let v : HashValue = c.args.hash.now in
    let here : c.loop-i.i < length (hash_keys v) = omega (arith, c.loop-i-test.true, c.buckets-count.ensures) in
    omega (
      arith,
      c.b-b.ensures,
      pair_room v c.args.width c.loop-i.i c.buckets-count.result c.from.result c.b-b.result
          c.in_ok-writer.writer c.loop-i.writer here c.loop-i.invariant c.in_ok-writer.ensures c.buckets-count.ensures
          c.from.ensures c.b-b.ensures,
    )

pub put_bits-requires-in-loop-i-clause-room : goal.put_bits-requires-in-loop-i-clause-room
put_bits-requires-in-loop-i-clause-room c =
    let v : HashValue = c.args.hash.now in
    let here : c.loop-i.i < length (hash_keys v) = omega (arith, c.loop-i-test.true, c.buckets-count.ensures) in
    let room = pair_room v c.args.width c.loop-i.i c.buckets-count.result c.from.result c.b-b.result
    c.in_ok-writer.writer c.loop-i.writer here c.loop-i.invariant c.in_ok-writer.ensures c.buckets-count.ensures
    c.from.ensures c.b-b.ensures in
    omega (arith, c.b-b.ensures, room, c.put_bits.ensures.room, one_width c.bucket_key.result c.b-b.result)

pub loop-i-preserved : goal.loop-i-preserved
loop-i-preserved c =
    let v : HashValue = c.args.hash.now in
    let n : ℕ = c.args.width in
    let i : ℕ = c.loop-i.i in
    let k : ℕ = get_or (hash_keys v) i 0 in
    let here : i < length (hash_keys v) = omega (arith, c.loop-i-test.true, c.buckets-count.ensures) in
    packing_goes_on c.in_ok-writer.writer (hash_bits v n) (bits_of_bucket v n k)
    (flat_map (bits_of_bucket v n) (drop (i + 1) (hash_keys v)))
    (flat_map (bits_of_bucket v n) (drop i (hash_keys v))) c.loop-i.writer c.put_bits-in-loop-i.new.writer
    c.loop-i.invariant (bits_more v n i here)
    (pair_packs v n k c.bucket_key.result c.bucket_len.result c.b-b.result c.loop-i.writer c.put_bits.new.writer
    c.put_bits-in-loop-i.new.writer c.bucket_key.ensures c.bucket_len.ensures c.b-b.ensures c.put_bits.ensures
    c.put_bits-in-loop-i.ensures)

pub returns : goal.returns
returns c =
    let v : HashValue = c.args.hash.now in
    let n : ℕ = c.args.width in
    let past : length (hash_keys v) ≤ c.loop-i.i = omega (arith, c.loop-i-test.false, c.buckets-count.ensures) in
    let none : flat_map (bits_of_bucket v n) (drop c.loop-i.i (hash_keys v)) ≡ [] =
    ap (flat_map (bits_of_bucket v n)) (drop_all c.loop-i.i (hash_keys v) past) in
    let ends = packing_ends c.in_ok-writer.writer (hash_bits v n)
    (flat_map (bits_of_bucket v n) (drop c.loop-i.i (hash_keys v))) c.loop-i.writer c.loop-i.invariant none in
    c.finish.ensures.packed (hash_bits v n) (ends.bits
    ∙ ap (λ (w : Written). w.bits ++ spread (hash_bits v n)) c.in_ok-writer.ensures)
