use Rattle.std.proofs.Common.{◌≡◌, ◌*◌, ◌/◌, ◌≤◌, ℕ, List, inr, length, take, drop, get_or, refl}
use Rattle.std.proofs.Common.{sym, ap, ◌∙◌, arith, length-take}
use Rattle.std.proofs.lemmas.List.{length-map}
use Rattle.bcodes.specs.Bits.{dist}
use Rattle.bcodes.specs.Chunks.{chunks_of}
use Rattle.bcodes.proofs.ChunkLemmas.{length-chunks_of}
use Rattle.list_scan.proofs.RunLemmas.{distances_of, distances_of-le}
use Rattle.ivf_index.proofs.NearestLemmas.{IsLeastOf, distances, least_turns, least_stays, nearest_end}
use Rattle.ivf_index.proofs.NearestLemmas.{run_distances, run_fits, run_within}
use Rattle.ivf_index.proofs.nearest.nearest_list.Goals as goal
use Rattle.ivf_index.proofs.nearest.nearest_list.Goals.{then-part-first, else-part-first}

pub slice_bounds-part-end : goal.slice_bounds-part-end
slice_bounds-part-end g c =
    run_fits c.args.quantizer.now.codes c.loop-from.from (c.args.quantizer.now.dim / 8)
    (length c.loop-from.distances) c.lend-run.result.labels.now c.lend-run.result.codes.now c.lend-run.ensures.run
    (omega (arith, c.requires.written, c.loop-from.invariant.room))

pub slice_bounds-part-end-in-loop-from : goal.slice_bounds-part-end-in-loop-from
slice_bounds-part-end-in-loop-from g c =
    let fits : length c.lend-run.result.labels.now ≤ length c.loop-from.distances
    = run_fits c.args.quantizer.now.codes c.loop-from.from (c.args.quantizer.now.dim / 8)
    (length c.loop-from.distances) c.lend-run.result.labels.now c.lend-run.result.codes.now c.lend-run.ensures.run
    (omega (arith, c.requires.written, c.loop-from.invariant.room)) in
    omega (arith, fits, length-take (length c.lend-run.result.labels.now) c.loop-from.distances)

pub scan-requires : goal.scan-requires
scan-requires g c =
    let n : ℕ = length c.lend-run.result.labels.now in
    let fits : n ≤ length c.loop-from.distances
    = run_fits c.args.quantizer.now.codes c.loop-from.from (c.args.quantizer.now.dim / 8)
    (length c.loop-from.distances) c.lend-run.result.labels.now c.lend-run.result.codes.now c.lend-run.ensures.run
    (omega (arith, c.requires.written, c.loop-from.invariant.room)) in
    let taken : n ≡ length (take n c.loop-from.distances) = omega (arith, fits, length-take n c.loop-from.distances) in
    let turned : n * (c.args.quantizer.now.dim / 8) ≡ (c.args.quantizer.now.dim / 8) * n = grind arith in
    c.lend-run.ensures.run.size ∙ turned ∙ ap (λ (m : ℕ). m * n) (sym c.requires.size)
    ∙ ap (λ (m : ℕ). length c.args.kernel.now * m) taken

pub loop-from-preserved : goal.loop-from-preserved
loop-from-preserved g c =
    let q : List ℕ = c.args.kernel.now in
    let codes : List (List ℕ) = c.args.quantizer.now.codes in
    let size : ℕ = c.args.quantizer.now.dim / 8 in
    let from : ℕ = c.loop-from.from in
    let n : ℕ = length c.lend-run.result.labels.now in
    let part : List ℕ = c.scan.new.out in
    let first : ℕ = c.first_least-first.result in
    let fits : n ≤ length c.loop-from.distances
    = run_fits codes from size (length c.loop-from.distances) c.lend-run.result.labels.now c.lend-run.result.codes.now
    c.lend-run.ensures.run (omega (arith, c.requires.written, c.loop-from.invariant.room)) in
    let taken : length (take n c.loop-from.distances) ≡ n = omega (arith, fits, length-take n c.loop-from.distances) in
    let scanned : part ≡ distances_of q size n c.lend-run.result.codes.now
    = c.scan.ensures ∙ ap (λ (m : ℕ). distances_of q (length q) m c.lend-run.result.codes.now) taken
    ∙ ap (λ (m : ℕ). distances_of q m n c.lend-run.result.codes.now) c.requires.size in
    let is : part ≡ take n (drop from (distances q codes)) = scanned
    ∙ run_distances q codes from size c.lend-run.result.labels.now c.lend-run.result.codes.now
    c.lend-run.ensures.run in
    let count : length part ≡ n = ap length scanned
    ∙ length-map (chunks_of size n c.lend-run.result.codes.now) (λ (code : List ℕ). dist code q)
    ∙ length-chunks_of size n c.lend-run.result.codes.now in
    let l : IsLeastOf part first =
    record {
      within = c.first_least-first.ensures.within;
      least = c.first_least-first.ensures.least;
      before =
          c.first_least-first.ensures.first;
    } in
    let small : get_or part first 0 ≤ c.args.quantizer.now.dim
    = let few = distances_of-le q size n (8 * size) c.lend-run.result.codes.now refl first 0
    (omega (arith, l.within, ap length scanned)) in
    omega (arith, few, ap (λ (xs : List ℕ). get_or xs first 0) scanned) in
    let so_far = c.loop-from.invariant.so_far in
    let bits : ℕ = c.args.quantizer.now.dim in
    record {
      so_far = elim c.if-part-first.branch [
        | then-part-first w ↦ inr
            (rw (w.nearest-is, w.least-is)
            (least_turns (distances q codes) part bits from n first c.loop-from.nearest c.loop-from.least so_far is
            count l (omega (arith, w.if-part-first))))
        | else-part-first w ↦ inr
            (rw (w.nearest-is, w.least-is)
            (least_stays (distances q codes) part bits from n first c.loop-from.nearest c.loop-from.least so_far is
            count l (λ h. absurd (omega (arith, w.if-part-first, h))) small))
      ];
      within = run_within codes from size c.lend-run.result.labels.now c.lend-run.result.codes.now c.lend-run.ensures.run;
      room = c.if-part-first.auto.distances ∙ c.loop-from.invariant.room;
    }

pub overflow_cast-result : goal.overflow_cast-result
overflow_cast-result g c =
    let all : c.loop-from.from ≡ length c.args.quantizer.now.codes = omega (
      arith,
      c.loop-from-test.false,
      c.count-count.ensures,
      c.loop-from.invariant.within,
    ) in
    omega (
      arith,
      (nearest_end c.args.kernel.now c.args.quantizer.now.codes c.args.quantizer.now.dim c.loop-from.from
          c.loop-from.nearest c.loop-from.least c.loop-from.invariant.so_far all c.requires.some).1,
      c.requires.few,
    )

pub returns-clause-nearest : goal.returns-clause-nearest
returns-clause-nearest g c =
    let all : c.loop-from.from ≡ length c.args.quantizer.now.codes = omega (
      arith,
      c.loop-from-test.false,
      c.count-count.ensures,
      c.loop-from.invariant.within,
    ) in
    sym (nearest_end c.args.kernel.now c.args.quantizer.now.codes c.args.quantizer.now.dim c.loop-from.from
    c.loop-from.nearest c.loop-from.least c.loop-from.invariant.so_far all c.requires.some).0

pub returns-clause-below : goal.returns-clause-below
returns-clause-below g c =
    let all : c.loop-from.from ≡ length c.args.quantizer.now.codes = omega (
      arith,
      c.loop-from-test.false,
      c.count-count.ensures,
      c.loop-from.invariant.within,
    ) in
    (nearest_end c.args.kernel.now c.args.quantizer.now.codes c.args.quantizer.now.dim c.loop-from.from
    c.loop-from.nearest c.loop-from.least c.loop-from.invariant.so_far all c.requires.some).1
