use Rattle.std.proofs.Common.{◌≡◌, true, false, not, inl, inr, sym, ap, ◌∙◌}
use Rattle.bcodes.specs.Settings.{needs_ids}
use Rattle.any_index.specs.Kinds.{inner_value}
use Rattle.any_index.proofs.RemoveLemmas.{removes_flat, removes_ivf, removes_hash, removes_multi}
use Rattle.any_index.proofs.any_index.AnyIndex.removes_rows.Goals as goal

pub returns-in-Flat : goal.returns-in-Flat
returns-in-Flat c = λ s.
    removes_flat s c.args.self.now c.in-Flat.field-0 (sym (ap inner_value c.in-Flat.is) ∙ c.inner.ensures)

pub returns-then-not-needs_ids : goal.returns-then-not-needs_ids
returns-then-not-needs_ids c = λ s.
    let removes = removes_ivf s c.args.self.now c.in-Ivf.index (sym (ap inner_value c.in-Ivf.is) ∙ c.inner.ensures) in
    let plain : needs_ids c.args.self.now ≡ false = sym c.if-not-needs_ids.ensures in
    ap not c.direct.ensures ∙ (rw plain at removes)

pub returns-else-not-needs_ids : goal.returns-else-not-needs_ids
returns-else-not-needs_ids c = λ s.
    let removes = removes_ivf s c.args.self.now c.in-Ivf.index (sym (ap inner_value c.in-Ivf.is) ∙ c.inner.ensures) in
    let mapped : needs_ids c.args.self.now ≡ true = sym c.if-not-needs_ids.ensures in
    ap not c.if-not-needs_ids.false ∙ (rw mapped at removes)

pub returns-in-Hash : goal.returns-in-Hash
returns-in-Hash c = λ s. elim c.in-Hash.is [
  | inl w ↦ removes_hash s c.args.self.now w.0 (sym (ap inner_value w.1) ∙ c.inner.ensures)
  | inr w ↦ removes_multi s c.args.self.now w.0 (sym (ap inner_value w.1) ∙ c.inner.ensures)
]

pub returns-in-Hash-2 : goal.returns-in-Hash-2
returns-in-Hash-2 c = λ s. elim c.in-Hash.is [
  | inl w ↦ removes_hash s c.args.self.now w.0 (sym (ap inner_value w.1) ∙ c.inner.ensures)
  | inr w ↦ removes_multi s c.args.self.now w.0 (sym (ap inner_value w.1) ∙ c.inner.ensures)
]
