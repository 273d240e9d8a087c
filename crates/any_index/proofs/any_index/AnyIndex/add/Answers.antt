use Rattle.std.proofs.Common.{ℤ, List, length, ap, ◌∙◌, arith}
use Rattle.bcodes.specs.Value.{count_of, labels_from}
use Rattle.bcodes.proofs.NumberedLemmas.{length-labels_from}
use Rattle.any_index.proofs.LoadLemmas.{few_after_add}
use Rattle.any_index.proofs.any_index.AnyIndex.add.Goals as goal

pub count_up-requires : goal.count_up-requires
count_up-requires c =
    let n = length c.args.codes.now.codes in
    omega (
      arith,
      few_after_add c.args.self.now (labels_from (count_of c.args.self.now) n) c.args.codes.now.codes
          (length-labels_from (count_of c.args.self.now) n) c.requires.load,
      c.count.ensures,
      c.len.ensures.value,
    )

pub add_labelled-requires-clause-same_count : goal.add_labelled-requires-clause-same_count
add_labelled-requires-clause-same_count c =
    ap (λ (ls : List ℤ). length ls) (c.deref.ensures.value ∙ c.in_ok-labels.ensures)
    ∙ length-labels_from c.count.result c.len.result
    ∙ c.len.ensures.value
