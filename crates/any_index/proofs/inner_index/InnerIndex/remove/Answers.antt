use Rattle.std.proofs.Common.{inl, inr, sym, ap}
use Rattle.any_index.specs.Kinds.{inner_value}
use Rattle.any_index.proofs.RemoveLemmas.{no_direct, no_hash, no_multi}
use Rattle.any_index.proofs.inner_index.InnerIndex.remove.Goals as goal

pub remove-requires-in-Ivf : goal.remove-requires-in-Ivf
remove-requires-in-Ivf c = record {
  direct = no_direct c.args.sel.now (inner_value c.args.self.now) c.in-Ivf.index (sym (ap inner_value c.in-Ivf.is))
      c.requires.removes;
}

pub unreachable-requires : goal.unreachable-requires
unreachable-requires c = elim c.in-Hash.is [
  | inl w ↦ no_hash c.args.sel.now (inner_value c.args.self.now) w.0 (sym (ap inner_value w.1)) c.requires.removes
  | inr w ↦ no_multi c.args.sel.now (inner_value c.args.self.now) w.0 (sym (ap inner_value w.1)) c.requires.removes
]
