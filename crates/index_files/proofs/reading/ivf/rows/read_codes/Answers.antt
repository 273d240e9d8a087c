use Rattle.std.proofs.Common.{rules, ◌≡◌, ℕ, ◌+◌, ◌-◌, ◌*◌, ◌≤◌, List, ◌++◌, length, refl, sym, ap, ◌∙◌, arith}
use Rattle.std.proofs.Common.{length-append}
use Rattle.std.proofs.lemmas.Result.{err_from_is_err_and}
use Rattle.bcodes.specs.Chunks.{chunks_of}
use Rattle.file_parts.specs.Format.{run}
use Rattle.file_parts.specs.Fields.{bytes_field, no_check, repeated}
use Rattle.file_parts.specs.Feeding.{place}
use Rattle.index_files.proofs.IvfReading.{front-none}
use Rattle.index_files.proofs.LoadLemmas.{chunks_of-append, piece_read, piece_fails, keeps_then, told_kept}
use Rattle.index_files.proofs.reading.ivf.rows.read_codes.Goals as goal

pub loop-done-init : goal.loop-done-init
unfolding chunks_of
loop-done-init g c =
    let whole = run (repeated c.args.count (bytes_field c.args.size no_check))
    (place g.H.Shelf.contents c.args.feed.now) in
    let all : c.args.count - 0 ≡ c.args.count = omega arith in
    record {
      within = omega arith;
      whole = search rules;
      so_far = λ told. (rw all (front-none whole));
      same_shelf = refl;
      files = search rules;
      reading = refl;
      count_stays = refl;
    }

pub loop-done-preserved : goal.loop-done-preserved
loop-done-preserved g c =
    let inv = c.loop-done.invariant in
    let n : ℕ = c.min-n.result in
    let size : ℕ = c.args.size in
    let less : c.loop-done.done + n ≤ c.args.count = omega (arith, c.loop-done-test.true, c.min-n.ensures) in
    let f = bytes_field size no_check in
    let before : List ℕ = c.loop-done.codes.items in
    let bytes : List ℕ = c.in_ok-bytes.bytes.items in
    let joined : c.join.new.bytes.items ≡ before ++ bytes = c.in_ok-join.ensures in
    let added : chunks_of size (c.loop-done.done + n) c.join.new.bytes.items
    ≡ chunks_of size c.loop-done.done before ++ chunks_of size n bytes =
    ap (chunks_of size (c.loop-done.done + n)) joined
    ∙ chunks_of-append size c.loop-done.done n before bytes inv.whole in
    let all : (c.loop-done.done + n) * size ≡ c.loop-done.done * size + n * size = grind arith in
    record {
      within = less;
      whole = omega (arith, ap length joined, length-append before bytes, inv.whole, c.in_ok-bytes.ensures.count, all);
      so_far = λ told. (
          rw added (piece_read f (chunks_of size c.loop-done.done before) (chunks_of size n bytes) c.args.count
          c.loop-done.done n (place g.H.Shelf.contents c.loop-done.feed)
          (place g.H.Shelf.contents c.read_bytes.new.feed)
          (run (repeated c.args.count f) (place g.H.Shelf.contents c.args.feed.now)) less
          (c.in_ok-bytes.ensures.gives (told_kept _ _ inv.files told)) (inv.so_far told)));
      same_shelf = c.in_ok-bytes.ensures.shelf.same_shelf ∙ inv.same_shelf;
      files = keeps_then _ _ _ inv.files c.in_ok-bytes.ensures.shelf.files;
      reading = c.in_ok-bytes.ensures.shelf.reading ∙ inv.reading;
      count_stays = search rules;
    }

pub returns-in_err-bytes-clause-gives : goal.returns-in_err-bytes-clause-gives
returns-in_err-bytes-clause-gives g c = λ told. (
    let inv = c.loop-done.invariant in
    let n : ℕ = c.min-n.result in
    let less : c.loop-done.done + n ≤ c.args.count = omega (arith, c.loop-done-test.true, c.min-n.ensures) in
    let f = bytes_field c.args.size no_check in
    let r = err_from_is_err_and c.from_residual.result c.from_residual.ensures.1 in
    rw (r.1, r.2) (piece_fails f c.in_err-bytes.field-0.0 (chunks_of c.args.size c.loop-done.done c.loop-done.codes.items)
    c.args.count c.loop-done.done n (place g.H.Shelf.contents c.loop-done.feed)
    (run (repeated c.args.count f) (place g.H.Shelf.contents c.args.feed.now)) less
    (c.in_err-bytes.ensures.gives (told_kept _ _ inv.files told)) (inv.so_far told)))
