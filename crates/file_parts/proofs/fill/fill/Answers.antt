use Rattle.std.proofs.Common.{rules, ◌≡◌, ◌≤◌, ◌-◌, ◌∙◌, Bool, true, Ok, length, subst, arith}
use Rattle.outside.specs.Calls.{WhereTold}
use Rattle.outside.specs.declared.trouble.Trouble.{Trouble}
use Rattle.file_parts.specs.Ahead.{Refills}
use Rattle.file_parts.proofs.FillLemmas.{one_more, length-put_mid}
use Rattle.file_parts.proofs.fill.fill.Goals as goal

pub loop-got-preserved : goal.loop-got-preserved
loop-got-preserved g c =
    let l = c.loop-got in
    let buf = c.take.new.into in
    let n = c.take.result in
    let few : n ≤ length buf = omega (arith, c.take.auto.into, c.take.ensures.count) in
    let some : c.in_ok-refill.field-0 ≡ true = search rules in
    let refilled = let P : Bool → Type 0 = λ b. WhereTold (g.H.Shelf.contents l.shelf)
    (g.H.Shelf.contents c.refill.new.shelf) (Refills {E = Trouble} l.ahead c.refill.new.self (Ok b)) in
    subst P some c.in_ok-refill.ensures.contents in
    record {
      within = omega (
        arith,
        few,
        c.take.auto.into,
        length-put_mid l.got (length l.into - l.got) l.into buf l.invariant.within,
      );
      so_far = rw c.take.ensures.rest (one_more c.args.ahead.now l.ahead c.refill.new.self l.got n
          (length l.into - l.got) l.into buf _ _ _ l.invariant.within few l.invariant.so_far refilled
          c.take.ensures.front);
      reading = c.in_ok-refill.ensures.reading ∙ l.invariant.reading;
      count_stays = search rules;
    }
