use Rattle.std.proofs.Common.{◌<◌, ◌≤◌, ◌∷◌, ◌++◌, [], ℕ, false, get_or, length, sym, subst, ◌∙◌, arith}
use Rattle.file_parts.specs.declared.reason.Reason.TheVariants as reason
use Rattle.multi_hash.specs.Seen.{IsSeen}
use Rattle.multi_hash.proofs.SeenLemmas.{seen_more}
use Rattle.index_files.proofs.MultiReading.{refuses_by, too_high, met_before, under_other, is_under}
use Rattle.index_files.proofs.MultiReading.{is_fresh, not_fresh}
use Rattle.index_files.proofs.reading.multi.map_run.check_position.Goals as goal

pub returns-then-position-len-clause-checked : goal.returns-then-position-len-clause-checked
returns-then-position-len-clause-checked c = λ before seen. (
    let v = c.args.codes.now in
    let high : length v.codes ≤ c.args.position = omega (arith, c.if-position-len.true, c.len.ensures) in
    refuses_by c.args.at _ reason.Positions c.bad.result c.bad.ensures
    (too_high v.codes v.number v.b c.args.wanted before c.args.position high))

pub returns-then-not-insert-clause-checked : goal.returns-then-not-insert-clause-checked
returns-then-not-insert-clause-checked c = λ before seen. (
    let v = c.args.codes.now in
    let low : c.args.position < length v.codes = omega (arith, c.if-position-len.false, c.len.ensures) in
    let met = not_fresh (get_or c.args.met.now c.args.position false) c.insert.result c.insert.ensures.fresh
    c.if-not-insert.true in
    refuses_by c.args.at _ reason.Positions c.bad-then-not-insert.result c.bad-then-not-insert.ensures
    (met_before v.codes v.number v.b c.args.wanted before c.args.met.now c.args.position seen low met))

pub returns-then-key-wanted-clause-checked : goal.returns-then-key-wanted-clause-checked
returns-then-key-wanted-clause-checked c = λ before seen. (
    let v = c.args.codes.now in
    let low : c.args.position < length v.codes = omega (arith, c.if-position-len.false, c.len.ensures) in
    let fresh = is_fresh (get_or c.args.met.now c.args.position false) c.insert.result c.insert.ensures.fresh
    c.if-not-insert.false in
    refuses_by c.args.at _ reason.WrongBucket c.bad-then-key-wanted.result c.bad-then-key-wanted.ensures
    (under_other v.codes v.number v.b c.args.wanted before c.args.met.now c.args.position seen low fresh
    (λ e. c.if-key-wanted.true (c.key.ensures ∙ e))))

pub returns-clause-checked : goal.returns-clause-checked
returns-clause-checked c = λ before seen. (
    let v = c.args.codes.now in
    let low : c.args.position < length v.codes = omega (arith, c.if-position-len.false, c.len.ensures) in
    let fresh = is_fresh (get_or c.args.met.now c.args.position false) c.insert.result c.insert.ensures.fresh
    c.if-not-insert.false in
    is_under v.codes v.number v.b c.args.wanted before c.args.met.now c.args.position seen low fresh
    (sym c.key.ensures ∙ c.if-key-wanted.false))

pub returns-clause-met : goal.returns-clause-met
returns-clause-met c = λ before seen. (
    let n : ℕ = length c.args.codes.now.codes in
    let low : c.args.position < n = omega (arith, c.if-position-len.false, c.len.ensures) in
    subst (IsSeen n (before ++ c.args.position ∷ [])) (sym c.insert.ensures.marked)
    (seen_more n before c.args.met.now c.args.position seen low))
