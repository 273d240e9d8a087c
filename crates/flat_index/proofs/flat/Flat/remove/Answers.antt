use Rattle.std.proofs.Common.{Some, ap, ◌∙◌, sym, arith, length}
use Rattle.bcodes.specs.Value.{CodeList, Bare, Flat}
use Rattle.flat_index.proofs.KeepLemmas.{AreFlags, are_flags}
use Rattle.flat_index.proofs.flat.Flat.remove.Goals as goal

pub keep-requires : goal.keep-requires
keep-requires g c =
    ap length c.deref.ensures.value
    ∙ (are_flags c.args.sel.now c.args.self.now c.in_ok-flags.flags.items c.count-count.result c.count-count.ensures
    c.in_ok-flags.ensures).count

pub overflow_sub-result : goal.overflow_sub-result
overflow_sub-result g c =
    let flags : AreFlags c.args.sel.now c.args.self.now c.deref.result.now = are_flags c.args.sel.now c.args.self.now
    c.deref.result.now c.count-count.result c.count-count.ensures (c.deref.ensures.value ∙ c.in_ok-flags.ensures) in
    omega (
      arith,
      flags.fewer,
      c.count.ensures,
      c.count-count.ensures,
      ap (λ (v : CodeList). length v.codes) c.keep.ensures,
    )

pub returns-clause-ok : goal.returns-clause-ok
returns-clause-ok g c =
    let flags : AreFlags c.args.sel.now c.args.self.now c.deref.result.now = are_flags c.args.sel.now c.args.self.now
    c.deref.result.now c.count-count.result c.count-count.ensures (c.deref.ensures.value ∙ c.in_ok-flags.ensures) in
    flags.removed_is ∙ ap (λ (v : CodeList). Some (Bare (Flat v))) (sym c.keep.ensures)

pub returns-clause-count : goal.returns-clause-count
returns-clause-count g c =
    let flags : AreFlags c.args.sel.now c.args.self.now c.deref.result.now = are_flags c.args.sel.now c.args.self.now
    c.deref.result.now c.count-count.result c.count-count.ensures (c.deref.ensures.value ∙ c.in_ok-flags.ensures) in
    omega (
      arith,
      flags.fewer,
      c.count.ensures,
      c.count-count.ensures,
      ap (λ (v : CodeList). length v.codes) c.keep.ensures,
    )
