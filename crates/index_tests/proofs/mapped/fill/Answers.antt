use Rattle.std.proofs.Common.{◌≡◌, ◌+◌, ◌*◌, ◌/◌, ◌≤◌, ℕ, ℤ, List, [], length, map, arith, subst, sym, ◌∙◌}
use Rattle.std.proofs.lemmas.List.{length-map}
use Rattle.bcodes.specs.declared.map_name.MapName.TheVariants.{Map}
use Rattle.bcodes.specs.Ranges.{load_limit}
use Rattle.bcodes.specs.Value.{Row, CodeList, IdMap, Flat, empty_flat, load_of, numbered, weight}
use Rattle.bcodes.specs.Answers.{after_add}
use Rattle.bcodes.proofs.NumberedLemmas.{length-numbered}
use Rattle.id_map.specs.Mapped.{MappedValue}
use Rattle.id_map.proofs.RowLemmas.{after_add_map}
use Rattle.index_tests.proofs.mapped.fill.Goals as goal

-- a few codes are within the load limit
light : (d n : ℕ) → d ≤ 65536 → n ≤ 4 → weight d 0 n 0 ≤ load_limit
light d n small few =
    let most : n * (d / 8 + 16) ≤ 4 * (d / 8 + 16) = grind arith in
    omega arith

light_filled : (m : MappedValue) (ids : List ℤ) (codes : CodeList) → codes.dim ≤ 65536 → length codes.codes ≤ 4
    → m ≡ record { name = Map; inner = Flat (empty_flat codes.dim); ids = [] }
    → load_of (after_add (IdMap m.name m.inner m.ids) ids codes.codes) ≤ load_limit
light_filled m ids codes small few is =
    let count : length (map (λ (row : Row). row.code) (numbered 0 codes.codes)) ≡ length codes.codes =
    length-map (numbered 0 codes.codes) (λ (row : Row). row.code) ∙ length-numbered 0 codes.codes in
    subst (λ (n : MappedValue). load_of (after_add (IdMap n.name n.inner n.ids) ids codes.codes) ≤ load_limit) (sym is)
    (rw (after_add_map Map (Flat (empty_flat codes.dim)) [] ids codes.codes)
    (light codes.dim (length (map (λ (row : Row). row.code) (numbered 0 codes.codes))) small (omega arith)))

pub add_all-requires-clause-load : goal.add_all-requires-clause-load
add_all-requires-clause-load c =
    light_filled c.args.index.now c.args.ids.now c.args.codes.now c.dim-dim.ensures.range.at_most c.requires.few
    c.requires.empty
