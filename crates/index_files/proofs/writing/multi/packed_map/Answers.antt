use Rattle.std.proofs.Common.{◌≡◌, ℕ, ◌+◌, ◌*◌, ◌^◌, ◌<◌, ◌≤◌, List, [], ◌++◌, length, map, get_or, drop, ap, ◌∙◌}
use Rattle.std.proofs.Common.{arith}
use Rattle.std.proofs.lemmas.List.{drop_all}
use Rattle.bcodes.specs.Value.{MultiValue}
use Rattle.bit_strings.specs.Packed.{spread}
use Rattle.bit_strings.specs.States.{Written}
use Rattle.multi_hash.specs.Maps.{map_keys}
use Rattle.index_files.specs.File.{bits_of_entry, entry_bits}
use Rattle.index_files.specs.Groups.{entries_of}
use Rattle.index_files.proofs.MultiWriting.{codes_few, entries_more, entry_at, entry_room, keys_few}
use Rattle.index_files.proofs.PackingLemmas.{packing_goes_on, packing_ends, product_most}
use Rattle.index_files.proofs.writing.multi.packed_map.Goals as goal
use Rattle.index_files.proofs.writing.multi.packed_map.Goals.{After-from, After-from-2}

heads_few : (c : After-from) → c.buckets-buckets.result * c.from.result ≤ c.buckets-buckets.result * 128
heads_few c = product_most c.buckets-buckets.result c.from.result 128
    (omega (arith, c.from.ensures, c.b.ensures, c.dim-dim.ensures.legal.b_most, c.requires.width))

pub overflow_mul-heads : goal.overflow_mul-heads
overflow_mul-heads c =
    let v : MultiValue = c.args.multi.now in
    omega (arith, heads_few c, c.buckets-buckets.ensures, keys_few v c.args.i, codes_few v c.dim-dim.ensures.legal)

run_few : (c : After-from-2)
    → c.buckets-buckets.result * c.from.result + c.count.result * c.from-2.result < 2 ^ 34
run_few c =
    let v : MultiValue = c.args.multi.now in
    let heads = product_most c.buckets-buckets.result c.from.result 128
    (omega (arith, c.from.ensures, c.b.ensures, c.dim-dim.ensures.legal.b_most, c.requires.width)) in
    let positions = product_most c.count.result c.from-2.result 64
    (omega (arith, c.from-2.ensures, c.requires.width)) in
    omega (
      arith,
      heads,
      positions,
      c.buckets-buckets.ensures,
      c.count.ensures,
      keys_few v c.args.i,
      codes_few v c.dim-dim.ensures.legal,
    )

pub overflow_add-heads : goal.overflow_add-heads
overflow_add-heads c = omega (arith, run_few c)

pub new-requires : goal.new-requires
new-requires c = omega (arith, run_few c)

pub put_bucket-requires-clause-room : goal.put_bucket-requires-clause-room
put_bucket-requires-clause-room c =
    let v : MultiValue = c.args.multi.now in
    let n : ℕ = c.args.width in
    let keys = map_keys v c.args.i in
    let here : c.loop-bucket.bucket < length keys = omega (arith, c.loop-bucket-test.true, c.buckets-buckets.ensures) in
    let heads : c.buckets-buckets.result * c.from.result ≡ length keys * (v.b + n) =
    ap (λ (k : ℕ). k * c.from.result) c.buckets-buckets.ensures
    ∙ ap (λ (w : ℕ). length keys * w) (c.from.ensures ∙ ap (λ (b : ℕ). b + n) c.b.ensures) in
    let positions : c.count.result * c.from-2.result ≡ length v.codes * n =
    ap (λ (k : ℕ). k * c.from-2.result) c.count.ensures ∙ ap (λ (w : ℕ). length v.codes * w) c.from-2.ensures in
    entry_room v c.args.i n c.loop-bucket.bucket _ c.in_ok-writer.writer c.loop-bucket.writer c.dim-dim.ensures.legal
    here c.loop-bucket.invariant c.in_ok-writer.ensures (omega (arith, heads, positions))

pub loop-bucket-preserved : goal.loop-bucket-preserved
loop-bucket-preserved c =
    let v : MultiValue = c.args.multi.now in
    let n : ℕ = c.args.width in
    let i : ℕ = c.args.i in
    let j : ℕ = c.loop-bucket.bucket in
    let keys = map_keys v i in
    let here : j < length keys = omega (arith, c.loop-bucket-test.true, c.buckets-buckets.ensures) in
    packing_goes_on c.in_ok-writer.writer (entry_bits v.b n (entries_of v i))
    (bits_of_entry v.b n (entry_at v i (get_or keys j 0))) (entry_bits v.b n (map (entry_at v i) (drop (j + 1) keys)))
    (entry_bits v.b n (map (entry_at v i) (drop j keys))) c.loop-bucket.writer c.put_bucket.new.writer
    c.loop-bucket.invariant (entries_more v i n j here) c.put_bucket.ensures

pub returns : goal.returns
returns c =
    let v : MultiValue = c.args.multi.now in
    let n : ℕ = c.args.width in
    let i : ℕ = c.args.i in
    let keys = map_keys v i in
    let past : length keys ≤ c.loop-bucket.bucket =
    omega (arith, c.loop-bucket-test.false, c.buckets-buckets.ensures) in
    let none : entry_bits v.b n (map (entry_at v i) (drop c.loop-bucket.bucket keys)) ≡ [] =
    ap (λ (ks : List ℕ). entry_bits v.b n (map (entry_at v i) ks)) (drop_all c.loop-bucket.bucket keys past) in
    let ends = packing_ends c.in_ok-writer.writer (entry_bits v.b n (entries_of v i))
    (entry_bits v.b n (map (entry_at v i) (drop c.loop-bucket.bucket keys))) c.loop-bucket.writer
    c.loop-bucket.invariant none in
    c.finish.ensures.packed (entry_bits v.b n (entries_of v i)) (ends.bits
    ∙ ap (λ (w : Written). w.bits ++ spread (entry_bits v.b n (entries_of v i))) c.in_ok-writer.ensures)
