use Rattle.std.proofs.Common.{◌≡◌, ℕ, ◌+◌, ◌<◌, ◌≤◌, ℤ, pos, nat_abs, List, [], ◌∷◌, length, map, get_or, drop}
use Rattle.std.proofs.Common.{refl, ap, subst, ◌∙◌, arith, to_z, of_z, w64, FitsSigned}
use Rattle.std.proofs.lemmas.Int.{to_z-of_z}
use Rattle.std.proofs.lemmas.List.{drop_all}
use Rattle.index_files.specs.Writing.{Packs}
use Rattle.index_files.proofs.MultiWriting.{label_in_bits, label_more, width_all}
use Rattle.index_files.proofs.PackingLemmas.{packing_goes_on, packing_ends, packing_room, one_width}
use Rattle.index_files.proofs.writing.multi.put_labels.Goals as goal

pub put_bits-requires-clause-room : goal.put_bits-requires-clause-room
put_bits-requires-clause-room c =
    let n : ℕ = c.args.width in
    let labels : List ℤ = c.args.labels.now in
    let i : ℕ = c.loop-i.i in
    let here : i < length labels = omega (arith, c.loop-i-test.true) in
    let all = width_all n (label_in_bits n) (λ z. refl) labels in
    let next = packing_room c.args.writer.now (map (label_in_bits n) labels)
    (label_in_bits n (get_or labels i (pos 0)) ∷ []) (map (label_in_bits n) (drop (i + 1) labels))
    (map (label_in_bits n) (drop i labels)) c.loop-i.writer c.loop-i.invariant (label_more n labels i here)
    (omega (arith, all, c.requires.room)) in
    omega (arith, next, one_width (nat_abs (get_or labels i (pos 0))) n)

pub loop-i-preserved : goal.loop-i-preserved
loop-i-preserved c =
    let n : ℕ = c.args.width in
    let labels : List ℤ = c.args.labels.now in
    let i : ℕ = c.loop-i.i in
    let here : i < length labels = omega (arith, c.loop-i-test.true) in
    let label : ℤ = get_or labels i (pos 0) in
    let fits : FitsSigned w64 label = c.requires.fits i (pos 0) here in
    let same : to_z w64 (of_z w64 label) ≡ label = to_z-of_z w64 label fits in
    let number : c.unsigned_abs.result ≡ nat_abs label =
    c.unsigned_abs.ensures.value ∙ ap (λ (z : ℤ). nat_abs z) same in
    packing_goes_on c.args.writer.now (map (label_in_bits n) labels) (label_in_bits n label ∷ [])
    (map (label_in_bits n) (drop (i + 1) labels)) (map (label_in_bits n) (drop i labels)) c.loop-i.writer
    c.put_bits.new.writer c.loop-i.invariant (label_more n labels i here)
    (subst (λ (x : ℕ). Packs (record { number = x; width = n } ∷ []) c.loop-i.writer c.put_bits.new.writer) number
    c.put_bits.ensures)

pub returns : goal.returns
returns c =
    let n : ℕ = c.args.width in
    let labels : List ℤ = c.args.labels.now in
    let past : length labels ≤ c.loop-i.i = omega (arith, c.loop-i-test.false) in
    packing_ends c.args.writer.now (map (label_in_bits n) labels) (map (label_in_bits n) (drop c.loop-i.i labels))
    c.loop-i.writer c.loop-i.invariant (ap (map (label_in_bits n)) (drop_all c.loop-i.i labels past))
