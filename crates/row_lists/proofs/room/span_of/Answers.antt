use Rattle.std.proofs.Common.{◌≡◌, ◌<◌, ◌≤◌, ℕ, List, length, take, get_or, subst, sym, arith}
use Rattle.std.specs.List.{All}
use Rattle.std.proofs.lemmas.List.{take_all}
use Rattle.row_lists.proofs.SpanLemmas.{all_more, most-of}
use Rattle.row_lists.proofs.room.span_of.Goals as goal

pub loop-number-preserved : goal.loop-number-preserved
loop-number-preserved c =
    let xs : List ℕ = c.args.numbers.now in
    let i : ℕ = c.loop-number.number-index in
    let here : i < length xs = omega arith in
    let more = most-of c.loop-number.last (get_or xs i 0) in
    let last : c.loop-number.last ≤ c.max-last.result = subst (λ n. c.loop-number.last ≤ n) (sym c.max-last.ensures) more.0 in
    let next : get_or xs i 0 ≤ c.max-last.result = subst (λ n. get_or xs i 0 ≤ n) (sym c.max-last.ensures) more.1 in
    record {
      least = all_more (λ n. c.min-first.result ≤ n) xs i here
          (λ k d low. omega (arith, c.loop-number.invariant.least k d low, c.min-first.ensures))
          (omega (arith, c.min-first.ensures));
      most = all_more (λ n. n ≤ c.max-last.result) xs i here
          (λ k d low. omega (arith, c.loop-number.invariant.most k d low, last))
          next;
    }

pub returns-clause-least : goal.returns-clause-least
returns-clause-least c =
    let all : take c.loop-number.number-index c.args.numbers.now ≡ c.args.numbers.now
    = take_all c.loop-number.number-index c.args.numbers.now (omega arith) in
    subst (All (λ n. c.loop-number.first ≤ n)) all c.loop-number.invariant.least

pub returns-clause-most : goal.returns-clause-most
returns-clause-most c =
    let all : take c.loop-number.number-index c.args.numbers.now ≡ c.args.numbers.now
    = take_all c.loop-number.number-index c.args.numbers.now (omega arith) in
    let most : All (λ n. n ≤ c.loop-number.last) c.args.numbers.now
    = subst (All (λ n. n ≤ c.loop-number.last)) all c.loop-number.invariant.most in
    λ k d low. omega (arith, most k d low, c.saturating_sub.ensures)
