use Rattle.std.proofs.Common.{◌≡◌, ℕ, ℤ, ◌+◌, ◌-◌, ◌<◌, ◌≤◌, List, [], ◌++◌, length}
use Rattle.std.proofs.Common.{rules, drop, refl, sym, ap, ◌∙◌, arith, take}
use Rattle.std.specs.Int.{w64, cast_unsigned}
use Rattle.std.specs.List.{flat_map}
use Rattle.std.proofs.lemmas.List.{drop_all}
use Rattle.byteorder.specs.Endian.{little_bytes}
use Rattle.file_parts.specs.Storing.{behind}
use Rattle.file_parts.proofs.StoreLemmas.{behind_none}
use Rattle.index_files.specs.Canon.{ids_bytes}
use Rattle.index_files.specs.Writing.{gathered}
use Rattle.index_files.proofs.WritingLemmas.{ids_part, goes_on}
use Rattle.index_files.proofs.writing.held.put_ids.Goals as goal

pub loop-from-preserved : goal.loop-from-preserved
loop-from-preserved g c =
    let ids : List ℤ = c.args.ids.now in
    let from : ℕ = c.loop-from.from in
    let n : ℕ = c.min-n.result in
    let cut : (from + n) - from ≡ n = omega arith in
    let piece : c.write_i64_into.new.dst
    ≡ flat_map (λ z. little_bytes 8 (cast_unsigned w64 z)) (take n (drop from ids)) =
    c.write_i64_into.ensures
    ∙ ap (λ (k : ℕ). flat_map (λ z. little_bytes 8 (cast_unsigned w64 z)) (take k (drop from ids))) cut in
    record {
      within = omega (arith, c.min-n.ensures, c.loop-from-test.true);
      same_shelf = c.in_ok-put.ensures.shelf.same_shelf ∙ c.loop-from.invariant.same_shelf;
      rest =
          goes_on c.write_i64_into.new.dst (ids_bytes (drop (from + n) ids)) (ids_bytes (drop from ids)) _ _ _
          c.in_ok-put.ensures.ok (ids_part ids from n c.write_i64_into.new.dst piece) c.loop-from.invariant.rest;
      files = c.in_ok-put.ensures.shelf.files ∙ c.loop-from.invariant.files;
      making = c.in_ok-put.ensures.shelf.making;
      count_stays = search rules;
    }

pub returns-clause-ok : goal.returns-clause-ok
returns-clause-ok g c =
    let now = gathered g.H.Shelf.contents c.loop-from.store c.loop-from.held in
    let past : length c.args.ids.now ≤ c.loop-from.from = omega (arith, c.loop-from-test.false) in
    let none : drop c.loop-from.from c.args.ids.now ≡ [] = drop_all c.loop-from.from c.args.ids.now past in
    sym (behind_none now) ∙ ap (λ (zs : List ℤ). behind (ids_bytes zs) now) (sym none)
    ∙ c.loop-from.invariant.rest
