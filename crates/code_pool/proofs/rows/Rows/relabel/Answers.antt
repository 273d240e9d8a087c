use Rattle.std.proofs.Common.{◌≡◌, ◌<◌, List, length, to_z, of_z, w64, FitsSigned, arith, ap}
use Rattle.std.proofs.lemmas.Int.{to_z-of_z}
use Rattle.std.proofs.lemmas.List.{length-set}
use Rattle.std.proofs.lemmas.List.Elements.{All-set}
use Rattle.bcodes.specs.Value.{Row}
use Rattle.code_pool.specs.Lists.{SizedRows}
use Rattle.code_pool.proofs.RowLemmas.{length-rows_in}
use Rattle.code_pool.proofs.NumberLemmas.{rows_in-relabel}
use Rattle.code_pool.proofs.rows.Rows.relabel.Goals as goal

pub index_mut-requires : goal.index_mut-requires
index_mut-requires c =
    omega (
      arith,
      c.requires,
      c.self.inside.labels.ok.0,
      ap (λ (v : SizedRows). length v.rows) c.self.view_is,
      length-rows_in c.self.inside.code_size c.self.inside.labels.items c.self.inside.codes.items,
    )

pub invariant_of-self : goal.invariant_of-self
invariant_of-self c =
    let labels = c.self.inside.labels.items in
    let same : to_z w64 (of_z w64 c.args.label) ≡ c.args.label = to_z-of_z w64 c.args.label c.ranges.label in
    record {
      whole = rw length-set c.self.invariant.whole;
      fit = rw same (All-set (FitsSigned w64) labels c.args.at c.args.label c.ranges.label c.self.invariant.fit);
    }

pub returns : goal.returns
returns c =
    let size = c.self.inside.code_size in
    let labels = c.self.inside.labels.items in
    let codes = c.self.inside.codes.items in
    let here : c.args.at < length labels = omega (
      arith,
      c.requires,
      ap (λ (v : SizedRows). length v.rows) c.self.view_is,
      length-rows_in size labels codes,
    ) in
    let same : to_z w64 (of_z w64 c.args.label) ≡ c.args.label = to_z-of_z w64 c.args.label c.ranges.label in
    rw (← c.self.view_is, same)
    (ap (λ (rs : List Row). record { code_size = size; rows = rs })
    (rows_in-relabel size c.args.at labels codes c.args.label here))
