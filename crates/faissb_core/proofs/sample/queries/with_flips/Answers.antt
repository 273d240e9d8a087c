use Rattle.std.proofs.Common.{ℕ, ◌∙◌, arith, rules, get_or}
use Rattle.std.proofs.lemmas.List.{length-set}
use Rattle.std.proofs.lemmas.List.Edits.{map_over_more}
use Rattle.std.specs.Prelude.{bit_xor}
use Rattle.faissb_core.proofs.sample.queries.with_flips.Goals as goal

pub loop-i-preserved : goal.loop-i-preserved
loop-i-preserved c = (
  map_over_more (λ (b : ℕ). bit_xor b 1) c.args.code c.loop-i.code c.loop-i.i (get_or c.loop-i.code c.loop-i.i 0)
      (omega arith) c.loop-i.invariant.0 (search rules),
  length-set c.loop-i.code c.loop-i.i _ ∙ c.loop-i.invariant.1,
)
