use Rattle.std.proofs.Common.{◌∙◌, ◌≤◌, ◌+◌, ◌-◌, ap, drop, arith}
use Rattle.std.proofs.lemmas.List.{length-take}
use Rattle.file_parts.proofs.FillLemmas.{held_after}
use Rattle.file_parts.proofs.ahead.Ahead.take.Goals as goal

pub returns-clause-rest : goal.returns-clause-rest
returns-clause-rest c =
    let held = c.self.inside in
    let n = c.copy_front-count.result in
    let few : held.start + n ≤ held.end = omega (
      arith,
      c.self.invariant.0,
      c.self.invariant.1,
      c.copy_front-count.ensures.count,
      length-take (held.end - held.start) (drop held.start held.bytes),
    ) in
    held_after held.bytes held.start held.end n few ∙ ap (drop n) c.self.view_is
