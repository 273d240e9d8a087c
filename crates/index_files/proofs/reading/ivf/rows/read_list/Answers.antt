use Rattle.std.proofs.Common.{◌≡◌, ℕ, ◌+◌, ◌*◌, ◌/◌, ◌^◌, ◌<◌, ◌≤◌, List, ◌++◌, All, Ok, get_or, length, map, ap, sym, subst, ◌∙◌}
use Rattle.std.proofs.Common.{ℤ, arith, true}
use Rattle.std.specs.Prelude.{nat_le}
use Rattle.std.proofs.lemmas.Bool.{le-leb}
use Rattle.std.proofs.lemmas.Result.{err_from_is_err_and}
use Rattle.bcodes.specs.Answers.{paired}
use Rattle.bcodes.specs.Chunks.{chunks_of}
use Rattle.bcodes.specs.Ranges.{load_limit}
use Rattle.bcodes.specs.Value.{HasBytes, ListRow, weight}
use Rattle.bcodes.proofs.ChunkLemmas.{IsCode-chunks_of, length-chunks_of}
use Rattle.file_parts.specs.Feeding.{GivesError, place}
use Rattle.file_parts.specs.Fields.{bytes_field, no_check, repeated}
use Rattle.file_parts.specs.Format.{run}
use Rattle.ivf_index.specs.Table.{put_row}
use Rattle.index_files.specs.IvfFormat.{ListSize}
use Rattle.index_files.proofs.IvfReading.{list-ids-stop, list-read, list-rows, list-stops, rows-added, rows-are, rows-put}
use Rattle.index_files.proofs.LoadLemmas.{told_kept}
use Rattle.index_files.proofs.reading.ivf.rows.read_list.Goals as goal

pub add_in-requires-clause-whole : goal.add_in-requires-clause-whole
add_in-requires-clause-whole g c =
    let size : c.bytes.result ≡ c.args.ivf.now.dim / 8 =
    c.bytes.ensures.value ∙ ap (λ (d : ℕ). d / 8) (sym c.requires.dim) in
    ap length c.deref-3.ensures.value ∙ c.in_ok-codes.ensures.count
    ∙ ap (λ (k : ℕ). c.args.size * k) size
    ∙ ap (λ (n : ℕ). n * (c.args.ivf.now.dim / 8)) (sym (ap length c.deref-2.ensures.value ∙ c.in_ok-ids.ensures.count))

pub add_in-requires-clause-is_trained : goal.add_in-requires-clause-is_trained
add_in-requires-clause-is_trained g c = le-leb _ _ c.requires.trained

pub add_in-requires-clause-load : goal.add_in-requires-clause-load
add_in-requires-clause-load g c =
    let old = c.args.ivf.now in
    let count : length c.deref-2.result.now ≡ c.args.size = ap length c.deref-2.ensures.value ∙ c.in_ok-ids.ensures.count in
    subst (λ (d : ℕ). weight d 0 (length old.rows + length c.deref-2.result.now) (length old.centroids) ≤ load_limit)
    (sym c.requires.dim)
    (subst (λ (n : ℕ). weight c.args.dim.bits 0 (length old.rows + n) (length old.centroids) ≤ load_limit) (sym count)
    c.requires.load)

pub returns-clause-gives : goal.returns-clause-gives
returns-clause-gives g c = λ told.
    let p : ListSize = record { list = c.args.list; size = c.args.size } in
    let w : ℕ = c.args.dim.bits / 8 in
    let bytes : List ℕ = c.in_ok-codes.codes.items in
    let codes : List (List ℕ) = chunks_of w c.args.size bytes in
    let ids : List ℤ = c.in_ok-ids.ids.items in
    let start = place g.H.Shelf.contents c.args.feed.now in
    let mid = place g.H.Shelf.contents c.read_codes.new.feed in
    let now = told_kept _ _ c.in_ok-codes.ensures.shelf.files told in
    let same : length ids ≡ length codes = c.in_ok-ids.ensures.count ∙ sym (length-chunks_of w c.args.size bytes) in
    let read : run (repeated c.args.size (bytes_field w no_check)) start ≡ Ok (codes, mid) =
    subst (λ (k : ℕ). run (repeated c.args.size (bytes_field k no_check)) start ≡ Ok (chunks_of k c.args.size bytes, mid))
    c.bytes.ensures.value (c.in_ok-codes.ensures.gives told) in
    let all : c.add_in.new.self.rows ≡ c.args.ivf.now.rows ++ map (put_row c.args.list) (paired ids codes) =
    rows-put c.args.list c.args.dim.bits c.args.size c.args.ivf.now c.add_in.new.self ids bytes c.requires.dim
    c.in_ok-ids.ensures.count (rw (c.deref-2.ensures.value, c.deref-3.ensures.value) at c.in_ok-add_in.ensures.ok) in
    let added = rows-added c.args.list c.args.ivf.now.rows c.add_in.new.self.rows ids codes same all in
    rw added (list-read c.args.checks.now w p codes ids start mid (place g.H.Shelf.contents c.read_list_ids.new.feed) read
    (c.in_ok-ids.ensures.gives now))

pub returns-clause-all : goal.returns-clause-all
returns-clause-all g c =
    let w : ℕ = c.args.dim.bits / 8 in
    let bytes : List ℕ = c.in_ok-codes.codes.items in
    let codes : List (List ℕ) = chunks_of w c.args.size bytes in
    let ids : List ℤ = c.in_ok-ids.ids.items in
    let same : length ids ≡ length codes = c.in_ok-ids.ensures.count ∙ sym (length-chunks_of w c.args.size bytes) in
    let all : c.add_in.new.self.rows ≡ c.args.ivf.now.rows ++ map (put_row c.args.list) (paired ids codes) =
    rows-put c.args.list c.args.dim.bits c.args.size c.args.ivf.now c.add_in.new.self ids bytes c.requires.dim
    c.in_ok-ids.ensures.count (rw (c.deref-2.ensures.value, c.deref-3.ensures.value) at c.in_ok-add_in.ensures.ok) in
    let added = rows-added c.args.list c.args.ivf.now.rows c.add_in.new.self.rows ids codes same all in
    all ∙ ap (λ (rs : List ListRow). c.args.ivf.now.rows ++ rs) (rows-are c.args.list ids codes same ∙ sym added)

pub returns-clause-read : goal.returns-clause-read
returns-clause-read g c =
    let p : ListSize = record { list = c.args.list; size = c.args.size } in
    let w : ℕ = c.args.dim.bits / 8 in
    let bytes : List ℕ = c.in_ok-codes.codes.items in
    let codes : List (List ℕ) = chunks_of w c.args.size bytes in
    let ids : List ℤ = c.in_ok-ids.ids.items in
    let same : length ids ≡ length codes = c.in_ok-ids.ensures.count ∙ sym (length-chunks_of w c.args.size bytes) in
    let all : c.add_in.new.self.rows ≡ c.args.ivf.now.rows ++ map (put_row c.args.list) (paired ids codes) =
    rows-put c.args.list c.args.dim.bits c.args.size c.args.ivf.now c.add_in.new.self ids bytes c.requires.dim
    c.in_ok-ids.ensures.count (rw (c.deref-2.ensures.value, c.deref-3.ensures.value) at c.in_ok-add_in.ensures.ok) in
    let added = rows-added c.args.list c.args.ivf.now.rows c.add_in.new.self.rows ids codes same all in
    let whole : length bytes ≡ c.args.size * w = c.in_ok-codes.ensures.count
    ∙ ap (λ (k : ℕ). c.args.size * k) c.bytes.ensures.value in
    let small : (i : ℕ) → get_or bytes i 0 < 2 ^ 8 = rw c.deref.ensures.value at c.are_bytes.ensures in
    let are : All (HasBytes w) codes = IsCode-chunks_of c.args.dim.bits c.args.size bytes whole small in
    rw added (list-rows c.args.checks.now w p codes ids (length-chunks_of w c.args.size bytes)
    c.in_ok-ids.ensures.count are c.in_ok-ids.ensures.passed)

pub returns-in_err-codes-clause-gives : goal.returns-in_err-codes-clause-gives
returns-in_err-codes-clause-gives g c = λ told. (
    let p : ListSize = record { list = c.args.list; size = c.args.size } in
    let start = place g.H.Shelf.contents c.args.feed.now in
    let stop : GivesError c.in_err-codes.field-0.0
    (run (repeated c.args.size (bytes_field (c.args.dim.bits / 8) no_check)) start) =
    subst (λ (k : ℕ). GivesError c.in_err-codes.field-0.0 (run (repeated c.args.size (bytes_field k no_check)) start))
    c.bytes.ensures.value (c.in_err-codes.ensures.gives told) in
    let r = err_from_is_err_and c.from_residual.result c.from_residual.ensures.1 in
    rw (r.1, r.2) (list-stops c.args.checks.now (c.args.dim.bits / 8) p start c.in_err-codes.field-0.0 stop))

pub returns-in_err-ids-clause-gives : goal.returns-in_err-ids-clause-gives
returns-in_err-ids-clause-gives g c = λ told. (
    let p : ListSize = record { list = c.args.list; size = c.args.size } in
    let w : ℕ = c.args.dim.bits / 8 in
    let bytes : List ℕ = c.in_ok-codes.codes.items in
    let start = place g.H.Shelf.contents c.args.feed.now in
    let mid = place g.H.Shelf.contents c.read_codes.new.feed in
    let now = told_kept _ _ c.in_ok-codes.ensures.shelf.files told in
    let read : run (repeated c.args.size (bytes_field w no_check)) start ≡ Ok (chunks_of w c.args.size bytes, mid) =
    subst (λ (k : ℕ). run (repeated c.args.size (bytes_field k no_check)) start ≡ Ok (chunks_of k c.args.size bytes, mid))
    c.bytes.ensures.value (c.in_ok-codes.ensures.gives told) in
    let r = err_from_is_err_and c.from_residual-in_err-ids.result c.from_residual-in_err-ids.ensures.1 in
    rw (r.1, r.2) (list-ids-stop c.args.checks.now w p (chunks_of w c.args.size bytes) start mid
    c.in_err-ids.field-0.0 read (c.in_err-ids.ensures.gives now)))
