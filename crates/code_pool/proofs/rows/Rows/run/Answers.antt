use Rattle.std.proofs.Common.{◌≡◌, ◌+◌, ◌*◌, ◌≤◌, ℕ, ℤ, List, length, take, drop, ap, ◌∙◌, arith}
use Rattle.code_pool.specs.Lists.{SizedRows}
use Rattle.code_pool.proofs.RowLemmas.{length-rows_in, run_rows}
use Rattle.code_pool.proofs.rows.Rows.run.Goals as goal

pub run_of-requires-clause-within : goal.run_of-requires-clause-within
run_of-requires-clause-within c =
    rw c.deref.ensures.value
    (omega (
      arith,
      c.requires,
      ap (λ (v : SizedRows). length v.rows) c.self.view_is,
      length-rows_in c.self.inside.code_size c.self.inside.labels.items c.self.inside.codes.items,
    ))

pub returns : goal.returns
returns c =
    let size = c.self.inside.code_size in
    let labels = c.self.inside.labels.items in
    let codes = c.self.inside.codes.items in
    let whole : length codes ≡ length labels * size = c.self.invariant.whole in
    let inside : c.args.from + c.args.n ≤ length labels = omega
    (arith, c.requires, ap (λ (v : SizedRows). length v.rows) c.self.view_is, length-rows_in size labels codes) in
    let r = run_rows size c.args.from c.args.n labels codes whole inside in
    let l = c.run_of.ensures.labels ∙ ap (λ (xs : List ℤ). take c.args.n (drop c.args.from xs)) c.deref.ensures.value in
    let b = c.run_of.ensures.codes
    ∙ ap (λ (xs : List ℕ). take (c.args.n * size) (drop (c.args.from * size) xs)) c.deref-2.ensures.value in
    record {
      labels = ap (λ (xs : List ℤ). length xs) l ∙ r.0;
      codes = rw (← c.self.view_is) (ap (λ (xs : List ℕ). length xs) b ∙ r.1);
      rows = rw (← c.self.view_is, l, b) r.2;
    }
