use Rattle.std.proofs.Common.{List, ℕ, ◌∙◌, ap, sym, arith}
use Rattle.faissb_core.specs.Machine.Sample.{sample_value}
use Rattle.faissb_core.proofs.SampleLemmas.{codes-none}
use Rattle.faissb_core.proofs.sample.index.sample_index.Goals as goal

pub loop-held-init : goal.loop-held-init
loop-held-init c = record {
  so_far = c.in_ok-index.ensures ∙ ap (λ (held : List (List ℕ)). sample_value held) (sym (codes-none c.args.seed 0));
  within = omega arith;
}
