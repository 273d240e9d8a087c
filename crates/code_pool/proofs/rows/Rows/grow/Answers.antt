use Rattle.std.proofs.Common.{◌≡◌, ◌+◌, ◌-◌, ◌*◌, ◌≤◌, ℕ, length, pos, arith, ap, ◌∙◌}
use Rattle.std.proofs.Math.Nat.{mul-le-mul_right}
use Rattle.code_pool.specs.Lists.{SizedRows}
use Rattle.code_pool.proofs.RowLemmas.{length-rows_in, rows_in-more, fill_size, filled_length}
use Rattle.code_pool.proofs.rows.Rows.grow.Goals as goal

pub overflow_sub-more : goal.overflow_sub-more
overflow_sub-more c =
    omega (
      arith,
      c.requires.more,
      c.len-2.ensures,
      c.self.inside.labels.ok.0,
      ap (λ (v : SizedRows). length v.rows) c.self.view_is,
      length-rows_in c.self.inside.code_size c.self.inside.labels.items c.self.inside.codes.items,
    )

pub returns-then-n-len-clause-ok : goal.returns-then-n-len-clause-ok
returns-then-n-len-clause-ok c =
    omega (
      arith,
      c.if-n-len.true,
      c.len.ensures,
      c.self.inside.labels.ok.0,
      ap (λ (v : SizedRows). length v.rows) c.self.view_is,
      length-rows_in c.self.inside.code_size c.self.inside.labels.items c.self.inside.codes.items,
    )

pub returns-in_err-reserve-clause-none : goal.returns-in_err-reserve-clause-none
returns-in_err-reserve-clause-none c = λ e.
    absurd (c.if-n-len.false
    (omega (
      arith,
      e,
      c.len.ensures,
      c.self.inside.labels.ok.0,
      ap (λ (v : SizedRows). length v.rows) c.self.view_is,
      length-rows_in c.self.inside.code_size c.self.inside.labels.items c.self.inside.codes.items,
    )))

pub returns-in_err-reserve-2-clause-none : goal.returns-in_err-reserve-2-clause-none
returns-in_err-reserve-2-clause-none c = λ e.
    absurd (c.if-n-len.false
    (omega (
      arith,
      e,
      c.len.ensures,
      c.self.inside.labels.ok.0,
      ap (λ (v : SizedRows). length v.rows) c.self.view_is,
      length-rows_in c.self.inside.code_size c.self.inside.labels.items c.self.inside.codes.items,
    )))

pub fill-requires-clause-more : goal.fill-requires-clause-more
fill-requires-clause-more c =
    omega (
      arith,
      c.in_ok-reserve.ensures.len,
      c.requires.more,
      c.self.inside.labels.ok.0,
      ap (λ (v : SizedRows). length v.rows) c.self.view_is,
      length-rows_in c.self.inside.code_size c.self.inside.labels.items c.self.inside.codes.items,
    )

pub fill_bytes-requires-clause-more : goal.fill_bytes-requires-clause-more
fill_bytes-requires-clause-more c =
    let labels = c.self.inside.labels.items in
    let size = c.self.inside.code_size in
    let low : length labels ≤ c.args.n = omega (
      arith,
      c.requires.more,
      ap (λ (v : SizedRows). length v.rows) c.self.view_is,
      length-rows_in c.self.inside.code_size c.self.inside.labels.items c.self.inside.codes.items,
    ) in
    let most : length labels * size ≤ c.args.n * size = mul-le-mul_right size low in
    omega (arith, c.in_ok-reserve-2.ensures.len, c.self.inside.codes.ok.0, c.self.invariant.whole)

pub fill_bytes-requires-clause-room : goal.fill_bytes-requires-clause-room
fill_bytes-requires-clause-room c =
    let labels = c.self.inside.labels.items in
    let size = c.self.inside.code_size in
    let low : length labels ≤ c.args.n = omega (
      arith,
      c.requires.more,
      ap (λ (v : SizedRows). length v.rows) c.self.view_is,
      length-rows_in c.self.inside.code_size c.self.inside.labels.items c.self.inside.codes.items,
    ) in
    let more : (c.args.n - length labels) * size + length labels * size ≡ c.args.n * size = fill_size c.args.n
    (length labels) size low in
    let count : c.len-2.result ≡ length labels = c.len-2.ensures ∙ c.self.inside.labels.ok.0 in
    let same : (c.args.n - c.len-2.result) * size ≡ (c.args.n - length labels) * size = ap
    (λ (k : ℕ). (c.args.n - k) * size) count in
    omega (
      arith,
      c.in_ok-reserve-2.ensures.ok,
      c.in_ok-reserve-2.ensures.len,
      c.self.inside.codes.ok.0,
      c.self.invariant.whole,
    )

pub returns-clause-ok : goal.returns-clause-ok
returns-clause-ok c =
    let labels = c.self.inside.labels.items in
    let size = c.self.inside.code_size in
    let low : length labels ≤ c.args.n = omega (
      arith,
      c.requires.more,
      ap (λ (v : SizedRows). length v.rows) c.self.view_is,
      length-rows_in c.self.inside.code_size c.self.inside.labels.items c.self.inside.codes.items,
    ) in
    length-rows_in size _ _ ∙ filled_length c.args.n labels _ _ (pos 0) c.in_ok-reserve.ensures.items low c.fill.ensures

pub returns-clause-rows : goal.returns-clause-rows
returns-clause-rows c =
    rw (
      c.fill.ensures,
      c.fill_bytes.ensures,
      c.in_ok-reserve.ensures.items,
      c.in_ok-reserve-2.ensures.items,
      ← c.self.view_is,
    )
    (rows_in-more c.self.inside.code_size c.self.inside.labels.items _ c.self.inside.codes.items _ c.self.invariant.whole)
