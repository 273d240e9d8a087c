use Rattle.std.proofs.Common.{length, map, ap, sym, ◌∙◌, arith}
use Rattle.bcodes.specs.Value.{IdMap}
use Rattle.id_select.specs.Removal.{removed, stays}
use Rattle.id_map.specs.Mapped.{MappedValue}
use Rattle.id_map.proofs.RemoveLemmas.{flat_inside, is_left}
use Rattle.id_map.proofs.id_mapped.IdMapped.remove.Goals as goal

pub overflow_sub-result : goal.overflow_sub-result
overflow_sub-result g c =
    let v = g.I.BinaryIndex.value c.self.inside.inner in
    let ids = c.self.inside.ids.items in
    let left = is_left c.args.sel.now c.self.inside.name v (g.I.BinaryIndex.value c.keep.new.self) ids
    c.retain_ids.new.ids.items c.deref-2.result.now c.self.invariant
    (flat_inside c.self.inside.name v ids c.args.self.now c.self.invariant c.self.view_is c.requires.is_flat)
    (c.deref-2.ensures.value ∙ c.in_ok-flags.ensures ∙ ap (map (stays c.args.sel.now)) c.deref.ensures.value)
    c.keep.ensures c.retain_ids.ensures in
    omega (arith, left.fewer, c.len.ensures, c.len-count.ensures, c.self.inside.ids.ok, c.retain_ids.new.ids.ok)

pub invariant_of-self : goal.invariant_of-self
invariant_of-self g c =
    let v = g.I.BinaryIndex.value c.self.inside.inner in
    let ids = c.self.inside.ids.items in
    (is_left c.args.sel.now c.self.inside.name v (g.I.BinaryIndex.value c.keep.new.self) ids
    c.retain_ids.new.ids.items c.deref-2.result.now c.self.invariant
    (flat_inside c.self.inside.name v ids c.args.self.now c.self.invariant c.self.view_is c.requires.is_flat)
    (c.deref-2.ensures.value ∙ c.in_ok-flags.ensures ∙ ap (map (stays c.args.sel.now)) c.deref.ensures.value)
    c.keep.ensures c.retain_ids.ensures).kept

pub returns-clause-ok : goal.returns-clause-ok
returns-clause-ok g c =
    let v = g.I.BinaryIndex.value c.self.inside.inner in
    let ids = c.self.inside.ids.items in
    let left = is_left c.args.sel.now c.self.inside.name v (g.I.BinaryIndex.value c.keep.new.self) ids
    c.retain_ids.new.ids.items c.deref-2.result.now c.self.invariant
    (flat_inside c.self.inside.name v ids c.args.self.now c.self.invariant c.self.view_is c.requires.is_flat)
    (c.deref-2.ensures.value ∙ c.in_ok-flags.ensures ∙ ap (map (stays c.args.sel.now)) c.deref.ensures.value)
    c.keep.ensures c.retain_ids.ensures in
    ap (λ (m : MappedValue). removed c.args.sel.now (IdMap m.name m.inner m.ids)) (sym c.self.view_is) ∙ left.is

pub returns-clause-count : goal.returns-clause-count
returns-clause-count g c =
    let v = g.I.BinaryIndex.value c.self.inside.inner in
    let ids = c.self.inside.ids.items in
    let left = is_left c.args.sel.now c.self.inside.name v (g.I.BinaryIndex.value c.keep.new.self) ids
    c.retain_ids.new.ids.items c.deref-2.result.now c.self.invariant
    (flat_inside c.self.inside.name v ids c.args.self.now c.self.invariant c.self.view_is c.requires.is_flat)
    (c.deref-2.ensures.value ∙ c.in_ok-flags.ensures ∙ ap (map (stays c.args.sel.now)) c.deref.ensures.value)
    c.keep.ensures c.retain_ids.ensures in
    omega (
      arith,
      left.fewer,
      c.len.ensures,
      c.len-count.ensures,
      c.self.inside.ids.ok,
      c.retain_ids.new.ids.ok,
      ap (λ (m : MappedValue). length m.ids) c.self.view_is,
    )
