use Rattle.std.proofs.Common.{◌≡◌, ◌+◌, IfOk, IsSome, sym, ap, ◌∙◌, subst}
use Rattle.bcodes.specs.Value.{IndexValue, Bare, IdMap, IsLegal, count_of, count_of_inner}
use Rattle.id_map.specs.Mapped.{MappedValue}
use Rattle.id_select.specs.Removal.{removed}
use Rattle.any_index.specs.Held.{index_value}
use Rattle.any_index.specs.Kinds.{inner_value}
use Rattle.any_index.proofs.RemoveLemmas.{counted_under, flat_under}
use Rattle.any_index.proofs.any_index.AnyIndex.remove.Goals as goal
use Rattle.any_index.proofs.any_index.AnyIndex.remove.Goals.{in-Plain, in-Mapped}

pub remove-requires-in-Mapped : goal.remove-requires-in-Mapped
remove-requires-in-Mapped c =
    record {
      is_flat = flat_under c.args.sel.now c.in-Mapped.index.name c.in-Mapped.index.inner c.in-Mapped.index.ids
          (subst (λ (v : IndexValue). IsSome (removed c.args.sel.now v))
          (sym c.self.view_is ∙ ap index_value c.in-Mapped.is) c.requires.removes);
    }

pub returns-clause-count : goal.returns-clause-count
returns-clause-count c = elim c.match-self.branch [
  | in-Plain w ↦
      let was : Bare (inner_value w.in-Plain.index) ≡ c.args.self.now = sym (ap index_value w.in-Plain.is)
      ∙ c.self.view_is in
      rw (w.result-is, w.self-inside-is)
      (subst (λ (v : IndexValue). IfOk w.remove.result (λ n. count_of_inner (inner_value w.remove.new.self) + n ≡ count_of v))
      was w.remove.ensures.count)
  | in-Mapped w ↦
      let old : MappedValue = w.in-Mapped.index in
      let new : MappedValue = w.remove-in-Mapped.new.self in
      let was : IdMap old.name old.inner old.ids ≡ c.args.self.now = sym (ap index_value w.in-Mapped.is)
      ∙ c.self.view_is in
      let legal : IsLegal (IdMap old.name old.inner old.ids) = subst (λ (v : IndexValue). IsLegal v) (sym was)
      c.dim-dim.ensures.legal in
      rw (w.result-is, w.self-inside-is)
      (subst (λ (v : IndexValue). IfOk w.remove-in-Mapped.result (λ n. count_of_inner new.inner + n ≡ count_of v)) was
      (counted_under c.args.sel.now old.name new.name old.inner new.inner old.ids new.ids w.remove-in-Mapped.result legal
      w.remove-in-Mapped.ensures.ok w.remove-in-Mapped.ensures.count))
]
