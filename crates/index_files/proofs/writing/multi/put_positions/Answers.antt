use Rattle.std.proofs.Common.{ℕ, ◌+◌, ◌≤◌, ℤ, pos, List, length, map, get_or, drop, refl, ap, arith}
use Rattle.std.proofs.lemmas.List.{drop_all, length-map}
use Rattle.multi_hash.specs.Maps.{map_keys, positions_at}
use Rattle.index_files.proofs.MultiWriting.{in_bits, label_in_bits, part_bits, part_fits, width_all}
use Rattle.index_files.proofs.PackingLemmas.{packing_goes_on, packing_ends, packing_room}
use Rattle.index_files.proofs.writing.multi.put_positions.Goals as goal

pub put_labels-requires-clause-fits : goal.put_labels-requires-clause-fits
put_labels-requires-clause-fits c =
    part_fits c.args.multi.now c.args.i (get_or (map_keys c.args.multi.now c.args.i) c.args.bucket 0) c.loop-from.from
    c.positions-part.result.now c.requires.legal c.positions-part.ensures

pub put_labels-requires-clause-room : goal.put_labels-requires-clause-room
put_labels-requires-clause-room c =
    let n : ℕ = c.args.width in
    let ps : List ℕ = positions_at c.args.multi.now c.args.i c.args.bucket in
    let part : List ℤ = c.positions-part.result.now in
    let all = width_all n (in_bits n) (λ p. refl) ps in
    let next = packing_room c.args.writer.now (map (in_bits n) ps) (map (label_in_bits n) part)
    (map (in_bits n) (drop (c.loop-from.from + length part) ps)) (map (in_bits n) (drop c.loop-from.from ps))
    c.loop-from.writer c.loop-from.invariant.packing (part_bits n ps c.loop-from.from part c.positions-part.ensures)
    (omega (arith, all, c.requires.room)) in
    omega (arith, next, width_all n (label_in_bits n) (λ z. refl) part)

pub loop-from-preserved : goal.loop-from-preserved
loop-from-preserved c =
    let n : ℕ = c.args.width in
    let ps : List ℕ = positions_at c.args.multi.now c.args.i c.args.bucket in
    let part : List ℤ = c.positions-part.result.now in
    record {
      within = omega (arith, c.positions-part.ensures.within, c.bucket_len-count.ensures, length-map ps (λ p. pos p));
      packing =
          packing_goes_on c.args.writer.now (map (in_bits n) ps) (map (label_in_bits n) part)
          (map (in_bits n) (drop (c.loop-from.from + length part) ps)) (map (in_bits n) (drop c.loop-from.from ps))
          c.loop-from.writer c.put_labels.new.writer c.loop-from.invariant.packing
          (part_bits n ps c.loop-from.from part c.positions-part.ensures) c.put_labels.ensures;
    }

pub returns : goal.returns
returns c =
    let n : ℕ = c.args.width in
    let ps : List ℕ = positions_at c.args.multi.now c.args.i c.args.bucket in
    let past : length ps ≤ c.loop-from.from = omega (arith, c.bucket_len-count.ensures, c.loop-from-test.false) in
    packing_ends c.args.writer.now (map (in_bits n) ps) (map (in_bits n) (drop c.loop-from.from ps))
    c.loop-from.writer c.loop-from.invariant.packing (ap (map (in_bits n)) (drop_all c.loop-from.from ps past))
