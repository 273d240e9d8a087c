use Rattle.std.proofs.Common.{◌≡◌, ◌<◌, ℤ, pos, List, length, get_or, to_z, of_z, w64, FitsSigned, arith, ap, sym, subst}
use Rattle.std.proofs.lemmas.Int.{to_z-of_z}
use Rattle.std.proofs.lemmas.List.{length-set, get_or_read}
use Rattle.std.proofs.lemmas.List.Elements.{All-set}
use Rattle.bcodes.specs.Value.{Row}
use Rattle.code_pool.specs.Lists.{SizedRows}
use Rattle.code_pool.proofs.RowLemmas.{length-rows_in, rows_in-copy, copied_size}
use Rattle.code_pool.proofs.rows.Rows.copy.Goals as goal

pub copy_code-requires-clause-from : goal.copy_code-requires-clause-from
copy_code-requires-clause-from c =
    omega (
      arith,
      c.requires.from,
      c.len.ensures,
      c.self.inside.labels.ok.0,
      ap (λ (v : SizedRows). length v.rows) c.self.view_is,
      length-rows_in c.self.inside.code_size c.self.inside.labels.items c.self.inside.codes.items,
    )

pub copy_code-requires-clause-to : goal.copy_code-requires-clause-to
copy_code-requires-clause-to c =
    omega (
      arith,
      c.requires.to,
      c.len.ensures,
      c.self.inside.labels.ok.0,
      ap (λ (v : SizedRows). length v.rows) c.self.view_is,
      length-rows_in c.self.inside.code_size c.self.inside.labels.items c.self.inside.codes.items,
    )

pub index-label-requires : goal.index-label-requires
index-label-requires c =
    omega (
      arith,
      c.requires.from,
      c.self.inside.labels.ok.0,
      ap (λ (v : SizedRows). length v.rows) c.self.view_is,
      length-rows_in c.self.inside.code_size c.self.inside.labels.items c.self.inside.codes.items,
    )

pub index_mut-requires : goal.index_mut-requires
index_mut-requires c =
    omega (
      arith,
      c.requires.to,
      c.self.inside.labels.ok.0,
      ap (λ (v : SizedRows). length v.rows) c.self.view_is,
      length-rows_in c.self.inside.code_size c.self.inside.labels.items c.self.inside.codes.items,
    )

pub invariant_of-self : goal.invariant_of-self
invariant_of-self c =
    let size = c.self.inside.code_size in
    let labels = c.self.inside.labels.items in
    let codes = c.self.inside.codes.items in
    let from : c.args.from < length labels = omega (
      arith,
      c.requires.from,
      ap (λ (v : SizedRows). length v.rows) c.self.view_is,
      length-rows_in size labels codes,
    ) in
    let to : c.args.to < length labels = omega (
      arith,
      c.requires.to,
      ap (λ (v : SizedRows). length v.rows) c.self.view_is,
      length-rows_in size labels codes,
    ) in
    let label : c.index-label.result.now ≡ get_or labels c.args.from (pos 0) =
    get_or_read labels c.args.from c.index-label.result.now from c.index-label.ensures (pos 0) in
    let fits : FitsSigned w64 c.index-label.result.now = subst (λ (z : ℤ). FitsSigned w64 z) (sym label)
    (c.self.invariant.fit c.args.from (pos 0) from) in
    let same : to_z w64 (of_z w64 c.index-label.result.now) ≡ c.index-label.result.now =
    to_z-of_z w64 c.index-label.result.now fits in
    record {
      whole = rw (length-set, c.copy_code.ensures)
          (copied_size size c.args.from c.args.to (length labels) codes c.self.invariant.whole from to);
      fit = rw same (All-set (FitsSigned w64) labels c.args.to c.index-label.result.now fits c.self.invariant.fit);
    }

pub returns : goal.returns
returns c =
    let size = c.self.inside.code_size in
    let labels = c.self.inside.labels.items in
    let codes = c.self.inside.codes.items in
    let from : c.args.from < length labels = omega (
      arith,
      c.requires.from,
      ap (λ (v : SizedRows). length v.rows) c.self.view_is,
      length-rows_in size labels codes,
    ) in
    let to : c.args.to < length labels = omega (
      arith,
      c.requires.to,
      ap (λ (v : SizedRows). length v.rows) c.self.view_is,
      length-rows_in size labels codes,
    ) in
    let label : c.index-label.result.now ≡ get_or labels c.args.from (pos 0) =
    get_or_read labels c.args.from c.index-label.result.now from c.index-label.ensures (pos 0) in
    let fits : FitsSigned w64 c.index-label.result.now = subst (λ (z : ℤ). FitsSigned w64 z) (sym label)
    (c.self.invariant.fit c.args.from (pos 0) from) in
    let same : to_z w64 (of_z w64 c.index-label.result.now) ≡ c.index-label.result.now =
    to_z-of_z w64 c.index-label.result.now fits in
    rw (← c.self.view_is, c.copy_code.ensures, same)
    (ap (λ (rs : List Row). record { code_size = size; rows = rs })
    (rows_in-copy size c.args.from c.args.to labels codes c.index-label.result.now c.self.invariant.whole from to
    label))
