use Rattle.std.proofs.Common.{ℤ, List, length, take, drop, ap, arith, sym, ◌∙◌}
use Rattle.code_pool.specs.Lists.{SizedRows}
use Rattle.code_pool.proofs.RowLemmas.{length-rows_in, map-rows_in}
use Rattle.code_pool.proofs.rows.Rows.labels.Goals as goal

pub labels_of-requires : goal.labels_of-requires
labels_of-requires c =
    rw c.deref.ensures.value
    (omega (
      arith,
      c.requires,
      ap (λ (v : SizedRows). length v.rows) c.self.view_is,
      length-rows_in c.self.inside.code_size c.self.inside.labels.items c.self.inside.codes.items,
    ))

pub returns : goal.returns
returns c =
    rw (← c.self.view_is) (c.labels_of.ensures
    ∙ ap (λ (xs : List ℤ). take c.args.n (drop c.args.from xs)) (c.deref.ensures.value
    ∙ sym (map-rows_in c.self.inside.code_size c.self.inside.labels.items c.self.inside.codes.items)))
