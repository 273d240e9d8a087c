use Rattle.std.proofs.Common.{◌<◌, ◌≤◌, ◌∷◌, ◌++◌, [], length, sym, subst, arith}
use Rattle.key_buckets.specs.Direct.{AreDirect}
use Rattle.key_buckets.proofs.DirectLemmas.{direct_noted, direct_past}
use Rattle.key_buckets.proofs.direct.note.Goals as goal

pub returns-then-key-len : goal.returns-then-key-len
returns-then-key-len c es none h =
    let within : c.args.key < length c.args.direct.now = omega (arith, c.len.ensures) in
    subst (AreDirect (es ++ (c.args.key, c.args.list) ∷ [])) (sym c.set.ensures)
    (direct_noted es c.args.direct.now c.args.key c.args.list within none h)

pub returns-else-key-len : goal.returns-else-key-len
returns-else-key-len c es none h =
    let past : length c.args.direct.now ≤ c.args.key = omega (arith, c.len.ensures) in
    direct_past es c.args.direct.now c.args.key c.args.list past h
