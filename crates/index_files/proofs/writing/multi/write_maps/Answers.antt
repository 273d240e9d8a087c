use Rattle.std.proofs.Common.{rules, ◌≡◌, ℕ, ◌+◌, ◌-◌, ◌<◌, List, sym, ap, ◌∙◌, arith}
use Rattle.std.specs.List.{flat_map, range_with_len}
use Rattle.bcodes.specs.Value.{MultiValue}
use Rattle.file_parts.specs.Storing.{behind, written}
use Rattle.file_parts.proofs.StoreLemmas.{behind_none}
use Rattle.index_files.specs.Canon.{map_bytes}
use Rattle.index_files.proofs.MultiWriting.{maps_more}
use Rattle.index_files.proofs.WritingLemmas.{goes_on}
use Rattle.index_files.proofs.writing.multi.write_maps.Goals as goal

pub loop-i-preserved : goal.loop-i-preserved
loop-i-preserved g c =
    let v : MultiValue = c.args.multi.now in
    let i : ℕ = c.loop-i.i in
    let here : i < v.nhash = omega (arith, c.loop-i-test.true, c.nhash-i-end.ensures) in
    let bytes = λ (is : List ℕ). flat_map (map_bytes v) is in
    record {
      same_shelf = c.in_ok-write_map.ensures.shelf.same_shelf ∙ c.loop-i.invariant.same_shelf;
      rest =
          goes_on (map_bytes v i) (bytes (range_with_len (i + 1) (v.nhash - (i + 1))))
          (bytes (range_with_len i (v.nhash - i))) _ _ _ c.in_ok-write_map.ensures.ok (maps_more v i here)
          c.loop-i.invariant.rest;
      files = c.in_ok-write_map.ensures.shelf.files ∙ c.loop-i.invariant.files;
      making = c.in_ok-write_map.ensures.shelf.making;
      count_stays = search rules;
    }

pub returns-clause-ok : goal.returns-clause-ok
returns-clause-ok g c =
    let v : MultiValue = c.args.multi.now in
    let now = written g.H.Shelf.contents c.loop-i.store in
    let none : v.nhash - c.loop-i.i ≡ 0 = omega (arith, c.loop-i-test.false, c.nhash-i-end.ensures) in
    sym (behind_none now)
    ∙ ap (λ (n : ℕ). behind (flat_map (map_bytes v) (range_with_len c.loop-i.i n)) now) (sym none)
    ∙ c.loop-i.invariant.rest
