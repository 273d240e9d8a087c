use Rattle.std.proofs.Common.{rules, ◌≡◌, ℕ, ◌+◌, ◌-◌, ◌*◌, ◌/◌, ◌≤◌, List, ◌++◌, Ok, length, sym, ap, subst, ◌∙◌, arith}
use Rattle.std.proofs.Common.{length-append}
use Rattle.std.proofs.lemmas.Result.{err_from_is_err_and}
use Rattle.bcodes.specs.Chunks.{chunks_of}
use Rattle.bcodes.specs.Ranges.{load_limit}
use Rattle.bcodes.specs.Value.{weight}
use Rattle.bcodes.proofs.ChunkLemmas.{length-chunks_of}
use Rattle.file_parts.specs.Format.{run}
use Rattle.file_parts.specs.Fields.{bytes_field, no_check, repeated}
use Rattle.file_parts.specs.Feeding.{GivesError, place}
use Rattle.index_files.proofs.LoadLemmas.{piece_read, piece_fails, piece_load, keeps_then, told_kept}
use Rattle.index_files.proofs.reading.flat.read_codes.Goals as goal

pub append_bytes-requires-clause-load : goal.append_bytes-requires-clause-load
append_bytes-requires-clause-load g c =
    let inv = c.loop-done.invariant in
    let less : c.loop-done.done + c.min-n.result ≤ c.args.count
    = omega (arith, c.loop-done-test.true, c.min-n.ensures) in
    let load = piece_load c.args.dim.bits c.loop-done.done c.min-n.result c.args.count less c.requires.load in
    subst (λ (d : ℕ). weight d 0 (length c.loop-done.flat.codes + c.min-n.result) 0 ≤ load_limit) (sym inv.dim)
    (subst (λ (m : ℕ). weight c.args.dim.bits 0 (m + c.min-n.result) 0 ≤ load_limit) (sym inv.count) load)

pub loop-done-preserved : goal.loop-done-preserved
loop-done-preserved g c =
    let inv = c.loop-done.invariant in
    let n : ℕ = c.min-n.result in
    let size : ℕ = c.args.dim.bits / 8 in
    let less : c.loop-done.done + n ≤ c.args.count = omega (arith, c.loop-done-test.true, c.min-n.ensures) in
    let f = bytes_field size no_check in
    let bytes : List ℕ = c.in_ok-bytes.bytes.items in
    let cs : List (List ℕ) = chunks_of size n bytes in
    let same : c.loop-done.flat.dim / 8 ≡ size = ap (λ (d : ℕ). d / 8) inv.dim in
    let start = place g.H.Shelf.contents c.loop-done.feed in
    let end = place g.H.Shelf.contents c.read_bytes.new.feed in
    let added : c.append_bytes.new.self.codes ≡ c.loop-done.flat.codes ++ cs =
    ap (λ v. v.codes) c.in_ok-append_bytes.ensures.ok
    ∙ ap (λ (bs : List ℕ). c.loop-done.flat.codes ++ chunks_of (c.loop-done.flat.dim / 8) n bs) c.deref.ensures.value
    ∙ ap (λ (k : ℕ). c.loop-done.flat.codes ++ chunks_of k n bytes) same in
    record {
      within = less;
      dim = ap (λ v. v.dim) c.in_ok-append_bytes.ensures.ok ∙ inv.dim;
      count =
          ap length added ∙ length-append c.loop-done.flat.codes cs
          ∙ ap (λ (m : ℕ). m + length cs) inv.count
          ∙ ap (λ (m : ℕ). c.loop-done.done + m) (length-chunks_of size n bytes);
      so_far = λ told. (
          let read : run (repeated n f) start ≡ Ok (cs, end) =
          subst (λ (k : ℕ). run (repeated n (bytes_field k no_check)) start ≡ Ok (chunks_of k n bytes, end))
          c.bytes-size.ensures.value (c.in_ok-bytes.ensures.gives (told_kept _ _ inv.files told)) in
          rw added (piece_read f c.loop-done.flat.codes cs c.args.count c.loop-done.done n start end
          (run (repeated c.args.count f) (place g.H.Shelf.contents c.args.feed.now)) less read (inv.so_far told)));
      same_shelf = c.in_ok-bytes.ensures.shelf.same_shelf ∙ inv.same_shelf;
      files = keeps_then _ _ _ inv.files c.in_ok-bytes.ensures.shelf.files;
      reading = c.in_ok-bytes.ensures.shelf.reading ∙ inv.reading;
      count_stays = search rules;
    }

pub returns-in_err-bytes-clause-gives : goal.returns-in_err-bytes-clause-gives
returns-in_err-bytes-clause-gives g c = λ told. (
    let inv = c.loop-done.invariant in
    let n : ℕ = c.min-n.result in
    let less : c.loop-done.done + n ≤ c.args.count = omega (arith, c.loop-done-test.true, c.min-n.ensures) in
    let f = bytes_field (c.args.dim.bits / 8) no_check in
    let e = c.in_err-bytes.field-0.0 in
    let start = place g.H.Shelf.contents c.loop-done.feed in
    let stop : GivesError e (run (repeated n f) start) =
    subst (λ (k : ℕ). GivesError e (run (repeated n (bytes_field k no_check)) start)) c.bytes-size.ensures.value
    (c.in_err-bytes.ensures.gives (told_kept _ _ inv.files told)) in
    let r = err_from_is_err_and c.from_residual.result c.from_residual.ensures.1 in
    rw (r.1, r.2) (piece_fails f e c.loop-done.flat.codes c.args.count c.loop-done.done n start
    (run (repeated c.args.count f) (place g.H.Shelf.contents c.args.feed.now)) less stop (inv.so_far told)))
