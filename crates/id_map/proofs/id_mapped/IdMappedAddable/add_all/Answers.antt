use Rattle.std.proofs.Common.{◌≡◌, ◌≤◌, ◌++◌, ℕ, ℤ, IsTrue, List, length, sym, subst, ap, ◌∙◌, arith}
use Rattle.bcodes.specs.declared.map_name.MapName.{MapName}
use Rattle.bcodes.specs.Ranges.{load_limit}
use Rattle.bcodes.specs.Value.{IdMap, IndexValue, count_of, dim_of_inner, inner_of, is_trained_inner, load_of, labels_from}
use Rattle.bcodes.specs.Answers.{after_add}
use Rattle.bcodes.proofs.NumberedLemmas.{length-labels_from}
use Rattle.id_map.specs.Mapped.{MappedValue}
use Rattle.id_map.proofs.RowLemmas.{after_add_map, load_added, few_added, added, placed_labels}
use Rattle.id_map.proofs.SettingLemmas.{seen}
use Rattle.id_map.proofs.id_mapped.IdMappedAddable.add_all.Goals as goal

-- the load after the add, by the fields
load_inside : (name : MapName) (v : IndexValue) (ids more : List ℤ) (cs : List (List ℕ)) (m : MappedValue)
    → seen name v ids ≡ m → load_of (after_add (IdMap m.name m.inner m.ids) more cs) ≤ load_limit
    → load_of (after_add (IdMap name (inner_of v) ids) more cs) ≤ load_limit
load_inside name v ids more cs m is h =
    subst (λ (n : MappedValue). load_of (after_add (IdMap n.name n.inner n.ids) more cs) ≤ load_limit) (sym is) h

pub count_up-requires : goal.count_up-requires
count_up-requires g c =
    let v = g.I.BinaryIndex.value c.self.inside.inner in
    let ids = c.self.inside.ids.items in
    let load = load_inside c.self.inside.name v ids c.args.ids.now c.args.codes.now.codes c.args.self.now c.self.view_is
    c.requires.load in
    omega (
      arith,
      few_added c.self.inside.name (inner_of v) ids c.args.ids.now c.args.codes.now.codes load,
      c.requires.same_count,
      c.self.invariant.count,
      c.len.ensures,
      c.self.inside.ids.ok,
    )

pub add_all-requires : goal.add_all-requires
add_all-requires g c =
    let v = g.I.BinaryIndex.value c.self.inside.inner in
    let ids = c.self.inside.ids.items in
    let cs = c.args.codes.now.codes in
    let count : c.len.result ≡ count_of v = omega (arith, c.len.ensures, c.self.inside.ids.ok, c.self.invariant.count) in
    let labels : c.deref.result.now ≡ labels_from (count_of v) (length cs) = c.deref.ensures.value ∙ placed_labels
    c.in_ok-labels.labels.items c.len.result (length c.args.ids.now) (count_of v) (length cs) c.in_ok-labels.ensures count
    c.requires.same_count in
    record {
      same_count = rw labels (length-labels_from (count_of v) (length cs));
      same_dim = c.requires.same_dim ∙ ap (λ (m : MappedValue). dim_of_inner m.inner) (sym c.self.view_is);
      is_trained = subst (λ (m : MappedValue). IsTrue (is_trained_inner m.inner)) (sym c.self.view_is)
          c.requires.is_trained;
      positions = λ _. labels;
      load = rw labels (load_added c.self.inside.name v ids c.args.ids.now cs c.self.invariant.bare
          (load_inside c.self.inside.name v ids c.args.ids.now cs c.args.self.now c.self.view_is c.requires.load));
    }

pub append_ids-requires : goal.append_ids-requires
append_ids-requires g c = omega (arith, c.in_ok-reserve.ensures.ok)

pub invariant_of-self-2 : goal.invariant_of-self-2
invariant_of-self-2 g c =
    let v = g.I.BinaryIndex.value c.self.inside.inner in
    let w = g.I.BinaryIndex.value c.add_all.new.self in
    let ids = c.self.inside.ids.items in
    let cs = c.args.codes.now.codes in
    let count : c.len.result ≡ count_of v = omega (arith, c.len.ensures, c.self.inside.ids.ok, c.self.invariant.count) in
    let labels : c.deref.result.now ≡ labels_from (count_of v) (length cs) = c.deref.ensures.value ∙ placed_labels
    c.in_ok-labels.labels.items c.len.result (length c.args.ids.now) (count_of v) (length cs) c.in_ok-labels.ensures count
    c.requires.same_count in
    let a = added v w ids c.args.ids.now cs c.self.invariant c.append_ids.ensures.fit c.requires.same_count
    (c.in_ok-add_all.ensures.ok ∙ ap (λ (ls : List ℤ). after_add v ls cs) labels) in
    rw (c.append_ids.ensures.items, c.in_ok-reserve.ensures.items) a.kept

pub returns-clause-ok : goal.returns-clause-ok
returns-clause-ok g c =
    let v = g.I.BinaryIndex.value c.self.inside.inner in
    let w = g.I.BinaryIndex.value c.add_all.new.self in
    let ids = c.self.inside.ids.items in
    let more = c.args.ids.now in
    let cs = c.args.codes.now.codes in
    let count : c.len.result ≡ count_of v = omega (arith, c.len.ensures, c.self.inside.ids.ok, c.self.invariant.count) in
    let labels : c.deref.result.now ≡ labels_from (count_of v) (length cs) = c.deref.ensures.value ∙ placed_labels
    c.in_ok-labels.labels.items c.len.result (length more) (count_of v) (length cs) c.in_ok-labels.ensures count
    c.requires.same_count in
    let a = added v w ids more cs c.self.invariant c.append_ids.ensures.fit c.requires.same_count
    (c.in_ok-add_all.ensures.ok ∙ ap (λ (ls : List ℤ). after_add v ls cs) labels) in
    let items : c.append_ids.new.ids.items ≡ ids ++ more
    = c.append_ids.ensures.items ∙ ap (λ (l : List ℤ). l ++ more) c.in_ok-reserve.ensures.items in
    rw (items, a.is)
    (sym (after_add_map c.self.inside.name (inner_of v) ids more cs)
    ∙ ap (λ (m : MappedValue). after_add (IdMap m.name m.inner m.ids) more cs) c.self.view_is)
