use Rattle.std.proofs.Common.{◌≡◌, ◌+◌, ◌-◌, ◌∷◌, ◌++◌, [], ℕ, List, replicate, sym, subst}
use Rattle.std.specs.List.{range_with_len}
use Rattle.std.proofs.lemmas.Result.{err_from_is_err_and}
use Rattle.file_parts.specs.declared.part_error.PartError.TheVariants.{Failed}
use Rattle.file_parts.specs.Feeding.{place}
use Rattle.file_parts.specs.Fields.{each}
use Rattle.file_parts.specs.Format.{Format, run}
use Rattle.file_parts.proofs.Repeats.{with_front}
use Rattle.index_files.specs.MultiFormat.{map_fields}
use Rattle.index_files.proofs.LoadLemmas.{told_kept}
use Rattle.index_files.proofs.MultiReading.{each_ends, each_goes_on, replicate_more}
use Rattle.index_files.proofs.MultiParts.{no_error, stays_calm, stays_then}
use Rattle.index_files.proofs.reading.multi.map.read_maps.Goals as goal

pub loop-number-preserved : goal.loop-number-preserved
loop-number-preserved g c =
    let inv = c.loop-number.invariant in
    let f : ℕ → Format (Unit {0}) = map_fields c.args.storage.now.codes c.args.b in
    let i : ℕ = c.loop-number.number in
    let more : replicate i tt ++ tt ∷ [] ≡ replicate (i + 1) tt = sym (replicate_more {A = Unit {0}} tt i) in
    let q = place g.H.Shelf.contents c.read_map.new.feed in
    let total = run (each (range_with_len 0 c.args.nhash) f) (place g.H.Shelf.contents c.args.feed.now) in
    record {
      so_far = λ told.
          subst (λ (front : List (Unit {0})). with_front front
          (run (each (range_with_len (i + 1) (c.args.nhash - (i + 1))) f) q) ≡ total) more
          (each_goes_on f (replicate i tt) c.args.nhash i (place g.H.Shelf.contents c.loop-number.feed) q tt total
          c.loop-number-test.true (c.in_ok-read_map.ensures.gives (told_kept _ _ inv.shelf.files told))
          (inv.so_far told));
      shelf = stays_calm g.H.Shelf.contents g.H.Shelf.is_reading g.H.Shelf.faults c.args.feed.now
          c.read_map.new.feed _ ⊥ (no_error c.in_ok-read_map.field-0 Failed) (λ x. x)
          (stays_then g.H.Shelf.contents g.H.Shelf.is_reading g.H.Shelf.faults c.args.feed.now c.loop-number.feed
          c.read_map.new.feed ⊥ _ (λ x. x) inv.shelf c.in_ok-read_map.ensures.shelf);
    }

pub returns-in_err-read_map-clause-gives : goal.returns-in_err-read_map-clause-gives
returns-in_err-read_map-clause-gives g c = λ told. (
    let inv = c.loop-number.invariant in
    let f : ℕ → Format (Unit {0}) = map_fields c.args.storage.now.codes c.args.b in
    let i : ℕ = c.loop-number.number in
    let total = run (each (range_with_len 0 c.args.nhash) f) (place g.H.Shelf.contents c.args.feed.now) in
    let r = err_from_is_err_and c.from_residual.result c.from_residual.ensures.1 in
    rw (r.1, r.2) (each_ends f c.in_err-read_map.field-0.0 (replicate i tt) c.args.nhash i
    (place g.H.Shelf.contents c.loop-number.feed) total c.loop-number-test.true
    (c.in_err-read_map.ensures.gives (told_kept _ _ inv.shelf.files told)) (inv.so_far told)))
