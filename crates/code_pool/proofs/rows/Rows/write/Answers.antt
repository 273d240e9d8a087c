use Rattle.std.proofs.Common.{◌≡◌, ◌<◌, List, length, to_z, of_z, w64, FitsSigned, arith, ap, sym, ◌∙◌}
use Rattle.std.proofs.lemmas.Int.{to_z-of_z}
use Rattle.std.proofs.lemmas.List.{length-set}
use Rattle.std.proofs.lemmas.List.Elements.{All-set}
use Rattle.bcodes.specs.Value.{Row}
use Rattle.code_pool.specs.Lists.{SizedRows}
use Rattle.code_pool.proofs.RowLemmas.{length-rows_in, rows_in-write, written_size}
use Rattle.code_pool.proofs.rows.Rows.write.Goals as goal

pub write_code-requires-clause-within : goal.write_code-requires-clause-within
write_code-requires-clause-within c =
    omega (
      arith,
      c.requires.within,
      c.len.ensures,
      c.self.inside.labels.ok.0,
      ap (λ (v : SizedRows). length v.rows) c.self.view_is,
      length-rows_in c.self.inside.code_size c.self.inside.labels.items c.self.inside.codes.items,
    )

pub index_mut-requires : goal.index_mut-requires
index_mut-requires c =
    omega (
      arith,
      c.requires.within,
      c.self.inside.labels.ok.0,
      ap (λ (v : SizedRows). length v.rows) c.self.view_is,
      length-rows_in c.self.inside.code_size c.self.inside.labels.items c.self.inside.codes.items,
    )

pub invariant_of-self : goal.invariant_of-self
invariant_of-self c =
    let size = c.self.inside.code_size in
    let labels = c.self.inside.labels.items in
    let codes = c.self.inside.codes.items in
    let here : c.args.at < length labels = omega (
      arith,
      c.requires.within,
      ap (λ (v : SizedRows). length v.rows) c.self.view_is,
      length-rows_in size labels codes,
    ) in
    let k : length c.args.code.now ≡ size = c.requires.size ∙ ap (λ (v : SizedRows). v.code_size) (sym c.self.view_is) in
    let same : to_z w64 (of_z w64 c.args.label) ≡ c.args.label = to_z-of_z w64 c.args.label c.ranges.label in
    record {
      whole = rw (length-set, c.write_code.ensures)
          (written_size size c.args.at (length labels) codes c.args.code.now c.self.invariant.whole here k);
      fit = rw same (All-set (FitsSigned w64) labels c.args.at c.args.label c.ranges.label c.self.invariant.fit);
    }

pub returns : goal.returns
returns c =
    let size = c.self.inside.code_size in
    let labels = c.self.inside.labels.items in
    let codes = c.self.inside.codes.items in
    let here : c.args.at < length labels = omega (
      arith,
      c.requires.within,
      ap (λ (v : SizedRows). length v.rows) c.self.view_is,
      length-rows_in size labels codes,
    ) in
    let k : length c.args.code.now ≡ size = c.requires.size ∙ ap (λ (v : SizedRows). v.code_size) (sym c.self.view_is) in
    let same : to_z w64 (of_z w64 c.args.label) ≡ c.args.label = to_z-of_z w64 c.args.label c.ranges.label in
    rw (← c.self.view_is, c.write_code.ensures, same)
    (ap (λ (rs : List Row). record { code_size = size; rows = rs })
    (rows_in-write size c.args.at labels codes c.args.label c.args.code.now c.self.invariant.whole here k))
