use Rattle.std.proofs.Common.{◌∙◌, sym, arith}
use Rattle.shard_set.proofs.MergeLemmas.{next_of_two, next_of_one, at_most_told, above_told}
use Rattle.shard_set.proofs.merging.is_left_next.Goals as goal

pub returns-in-Some-Some-clause-left : goal.returns-in-Some-Some-clause-left
returns-in-Some-Some-clause-left c = λ is.
    let l = c.in-Some-Some.ensures.item in
    let r = c.in-Some-Some.ensures'.item in
    next_of_two c.args.left.now c.args.right.now c.in-Some-Some.l.now c.in-Some-Some.r.now c.requires.left
    c.requires.right
    l.0 r.0 l.1 r.1 (at_most_told c.in-Some-Some.l.now c.in-Some-Some.r.now (sym c.le.ensures ∙ is))

pub returns-in-Some-Some-clause-right : goal.returns-in-Some-Some-clause-right
returns-in-Some-Some-clause-right c = λ is.
    let l = c.in-Some-Some.ensures.item in
    let r = c.in-Some-Some.ensures'.item in
    next_of_two c.args.right.now c.args.left.now c.in-Some-Some.r.now c.in-Some-Some.l.now c.requires.right
    c.requires.left
    r.0 l.0 r.1 l.1 (above_told c.in-Some-Some.l.now c.in-Some-Some.r.now (sym c.le.ensures ∙ is))

pub returns-in-Some-None-clause-left : goal.returns-in-Some-None-clause-left
returns-in-Some-None-clause-left c = λ is.
    next_of_one c.args.left.now c.args.right.now c.requires.left c.in-Some-None.ensures'.item.0 c.requires.some

pub returns-in-None-default-clause-right : goal.returns-in-None-default-clause-right
returns-in-None-default-clause-right c = λ is.
    let some = c.requires.some in
    next_of_one c.args.right.now c.args.left.now c.requires.right c.in-None-default.ensures.item.0 (omega (arith, some))
