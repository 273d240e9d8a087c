use Rattle.std.proofs.Common.{rules, ◌≡◌, ℕ, List, [], length, refl, sym, ap, ◌∙◌, arith}
use Rattle.std.specs.List.{flat_map, range_with_len}
use Rattle.file_parts.specs.Storing.{behind, written}
use Rattle.file_parts.proofs.StoreLemmas.{behind_none}
use Rattle.index_files.specs.Canon.{number}
use Rattle.index_files.specs.Groups.{entry_of}
use Rattle.index_files.proofs.IvfWriting.{entry-placed, mapped_range, mapped_within, one_more}
use Rattle.index_files.specs.Writing.{gathered}
use Rattle.index_files.proofs.writing.ivf.put_entries.Goals as goal

pub loop-label-init : goal.loop-label-init
loop-label-init g c = record {
  same_shelf = refl;
  so_far = sym (behind_none (gathered g.H.Shelf.contents c.args.store.now c.args.held.now));
  files = refl;
  making = c.requires.making;
  count_stays = refl;
}

pub place-requires-clause-direct : goal.place-requires-clause-direct
place-requires-clause-direct g c =
    (mapped_within c.args.ivf.now c.loop-label.label (omega arith)).0

pub place-requires-clause-within : goal.place-requires-clause-within
place-requires-clause-within g c =
    (mapped_within c.args.ivf.now c.loop-label.label (omega arith)).1

pub loop-label-preserved : goal.loop-label-preserved
loop-label-preserved g c =
    let v = c.args.ivf.now in
    let label : ℕ = c.loop-label.label in
    let within = mapped_within v label (omega arith) in
    record {
      same_shelf = c.in_ok-put_u64.ensures.shelf.same_shelf ∙ c.loop-label.invariant.same_shelf;
      so_far =
          one_more (λ k. number (entry_of v k)) label (number c.place.result) _ _ _ c.loop-label.invariant.so_far
          c.in_ok-put_u64.ensures.ok
          (ap number (entry-placed v label c.place.result (c.requires.legal.direct within.0) within.1
          c.place.ensures));
      files = c.in_ok-put_u64.ensures.shelf.files ∙ c.loop-label.invariant.files;
      making = c.in_ok-put_u64.ensures.shelf.making;
      count_stays = search rules;
    }

pub returns-clause-ok : goal.returns-clause-ok
returns-clause-ok g c =
    let v = c.args.ivf.now in
    let f : ℕ → List ℕ = λ label. number (entry_of v label) in
    let end : c.loop-label.label ≡ c.args.count = omega arith in
    c.loop-label.invariant.so_far
    ∙ ap (λ (bytes : List ℕ). behind bytes
    (gathered g.H.Shelf.contents c.args.store.now c.args.held.now))
    (ap (λ (n : ℕ). flat_map f (range_with_len 0 n)) end
    ∙ ap (flat_map f) (sym (mapped_range v c.args.count c.requires.count)))
