use Rattle.std.proofs.Common.{◌≡◌, ◌/◌, ◌<◌, length, arith}
use Rattle.std.proofs.Math.Nat.{mul-div_cancel_left}
use Rattle.code_pool.proofs.RowLemmas.{part_inside, part_rows}
use Rattle.code_pool.proofs.run.Run.part.Goals as goal

pub slice_bounds-result-end-2 : goal.slice_bounds-result-end-2
slice_bounds-result-end-2 c = part_inside c.args.from c.args.n (length c.args.self.now.labels.now)
    (length c.args.self.now.codes.now) c.requires.within

pub returns-clause-codes : goal.returns-clause-codes
returns-clause-codes c = λ size whole.
    let labels = c.args.self.now.labels.now in
    let codes = c.args.self.now.codes.now in
    let some : 0 < length labels = omega (arith, c.requires.some, c.requires.within) in
    let same : length codes / length labels ≡ size = rw whole (mul-div_cancel_left size some) in
    (part_rows size (length codes / length labels) c.args.from c.args.n labels codes whole same c.requires.within).0

pub returns-clause-rows : goal.returns-clause-rows
returns-clause-rows c = λ size whole.
    let labels = c.args.self.now.labels.now in
    let codes = c.args.self.now.codes.now in
    let some : 0 < length labels = omega (arith, c.requires.some, c.requires.within) in
    let same : length codes / length labels ≡ size = rw whole (mul-div_cancel_left size some) in
    (part_rows size (length codes / length labels) c.args.from c.args.n labels codes whole same c.requires.within).1
