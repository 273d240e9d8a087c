use Rattle.std.proofs.Common.{◌≡◌, ◌+◌, ◌*◌, ◌≤◌, ℤ, List, length, FitsSigned, w64, arith, ap, sym, ◌∙◌}
use Rattle.std.specs.List.{All}
use Rattle.bcodes.specs.Value.{Row}
use Rattle.code_pool.specs.Lists.{SizedRows, rows_in, with_run}
use Rattle.code_pool.proofs.RowLemmas.{length-rows_in}
use Rattle.code_pool.proofs.RunLemmas.{All-put, bytes_fit, length-put, put, rows_in-run}
use Rattle.code_pool.proofs.rows.Rows.write_run.Goals as goal

pub overflow_mul-at : goal.overflow_mul-at
overflow_mul-at c =
    let size = c.self.inside.code_size in
    let labels = c.self.inside.labels.items in
    let codes = c.self.inside.codes.items in
    let here : c.args.at + length c.args.run.labels.now ≤ length labels = omega (
      arith,
      c.requires.within,
      ap (λ (v : SizedRows). length v.rows) c.self.view_is,
      length-rows_in size labels codes,
    ) in
    let k : length c.args.run.codes.now ≡ length c.args.run.labels.now * size = c.requires.whole
    ∙ ap (λ (v : SizedRows). length c.args.run.labels.now * v.code_size) (sym c.self.view_is) in
    omega (
      arith,
      bytes_fit size c.args.at (length c.args.run.labels.now) (length labels) (length codes)
          (length c.args.run.codes.now) c.self.invariant.whole k here,
      c.self.inside.codes.ok,
      c.self.inside.codes.small,
    )

pub write_bytes-requires : goal.write_bytes-requires
write_bytes-requires c =
    let size = c.self.inside.code_size in
    let labels = c.self.inside.labels.items in
    let codes = c.self.inside.codes.items in
    let here : c.args.at + length c.args.run.labels.now ≤ length labels = omega (
      arith,
      c.requires.within,
      ap (λ (v : SizedRows). length v.rows) c.self.view_is,
      length-rows_in size labels codes,
    ) in
    let k : length c.args.run.codes.now ≡ length c.args.run.labels.now * size = c.requires.whole
    ∙ ap (λ (v : SizedRows). length c.args.run.labels.now * v.code_size) (sym c.self.view_is) in
    bytes_fit size c.args.at (length c.args.run.labels.now) (length labels) (length codes)
    (length c.args.run.codes.now) c.self.invariant.whole k here

pub write_labels-requires : goal.write_labels-requires
write_labels-requires c =
    omega (
      arith,
      c.requires.within,
      ap (λ (v : SizedRows). length v.rows) c.self.view_is,
      length-rows_in c.self.inside.code_size c.self.inside.labels.items c.self.inside.codes.items,
    )

pub invariant_of-self : goal.invariant_of-self
invariant_of-self c =
    let size = c.self.inside.code_size in
    let labels = c.self.inside.labels.items in
    let codes = c.self.inside.codes.items in
    let here : c.args.at + length c.args.run.labels.now ≤ length labels = omega (
      arith,
      c.requires.within,
      ap (λ (v : SizedRows). length v.rows) c.self.view_is,
      length-rows_in size labels codes,
    ) in
    let k : length c.args.run.codes.now ≡ length c.args.run.labels.now * size = c.requires.whole
    ∙ ap (λ (v : SizedRows). length c.args.run.labels.now * v.code_size) (sym c.self.view_is) in
    let fits = bytes_fit size c.args.at (length c.args.run.labels.now) (length labels) (length codes)
    (length c.args.run.codes.now) c.self.invariant.whole k here in
    rw (c.write_labels.ensures.items, c.write_bytes.ensures) (record {
      whole = length-put codes (c.args.at * size) c.args.run.codes.now fits ∙ c.self.invariant.whole
          ∙ ap (λ n. n * size) (sym (length-put labels c.args.at c.args.run.labels.now here));
      fit = All-put (FitsSigned w64) labels c.args.at c.args.run.labels.now c.self.invariant.fit
          c.write_labels.ensures.fit;
    })

pub returns : goal.returns
returns c =
    let size = c.self.inside.code_size in
    let labels = c.self.inside.labels.items in
    let codes = c.self.inside.codes.items in
    let here : c.args.at + length c.args.run.labels.now ≤ length labels = omega (
      arith,
      c.requires.within,
      ap (λ (v : SizedRows). length v.rows) c.self.view_is,
      length-rows_in size labels codes,
    ) in
    let k : length c.args.run.codes.now ≡ length c.args.run.labels.now * size = c.requires.whole
    ∙ ap (λ (v : SizedRows). length c.args.run.labels.now * v.code_size) (sym c.self.view_is) in
    rw (← c.self.view_is, c.write_labels.ensures.items, c.write_bytes.ensures)
    (ap (λ (rs : List Row). record { code_size = size; rows = rs })
    (rows_in-run size c.args.at labels codes c.args.run.labels.now c.args.run.codes.now c.self.invariant.whole k here))
