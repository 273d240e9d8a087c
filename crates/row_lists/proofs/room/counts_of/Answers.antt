use Rattle.std.proofs.Common.{◌≡◌, ◌+◌, ◌-◌, ◌<◌, ◌≤◌, ℕ, List, length, get_or, ap, ◌∙◌, arith, length-set}
use Rattle.std.proofs.lemmas.List.{get_or_read}
use Rattle.row_lists.proofs.SpanLemmas.{counted-few, counts-more}
use Rattle.row_lists.proofs.room.counts_of.Goals as goal

pub overflow_add-index_mut : goal.overflow_add-index_mut
overflow_add-index_mut c =
    let xs : List ℕ = c.args.numbers.now in
    let i : ℕ = c.loop-number.number-index in
    let at : ℕ = get_or xs i 0 - c.args.span.first in
    let inside : at < c.args.span.len = omega (
      arith,
      c.requires.most i 0 (omega arith),
      c.requires.least i 0 (omega arith),
    ) in
    let counts : List ℕ = c.loop-number.counts.items in
    let read : c.index_mut.result.now ≡ get_or counts at 0
    = get_or_read counts at c.index_mut.result.now (omega (arith, inside, c.loop-number.invariant.count))
    c.index_mut.ensures.value 0 in
    omega (
      arith,
      read,
      c.loop-number.invariant.each at inside,
      counted-few (c.args.span.first + at) xs i,
      c.requires.few,
    )

pub loop-number-preserved : goal.loop-number-preserved
loop-number-preserved c =
    let xs : List ℕ = c.args.numbers.now in
    let i : ℕ = c.loop-number.number-index in
    let here : i < length xs = omega arith in
    let first : ℕ = c.args.span.first in
    let least : first ≤ get_or xs i 0 = c.requires.least i 0 here in
    let inside : get_or xs i 0 - first < c.args.span.len = omega (arith, c.requires.most i 0 here, least) in
    let counts : List ℕ = c.loop-number.counts.items in
    let len : length counts ≡ c.args.span.len = c.loop-number.invariant.count in
    let low_here : get_or xs i 0 - first < length counts = omega (arith, inside, len) in
    let read : c.index_mut.result.now ≡ get_or counts (get_or xs i 0 - first) 0
    = get_or_read counts (get_or xs i 0 - first) c.index_mut.result.now low_here c.index_mut.ensures.value 0 in
    record {
      count = length-set counts (get_or xs i 0 - first) (c.index_mut.result.now + 1) ∙ len;
      each = λ at low. counts-more xs counts first i (c.index_mut.result.now + 1) here least
          low_here (ap (λ (n : ℕ). n + 1) read)
          (λ k h. c.loop-number.invariant.each k (omega (arith, h, len))) at (omega (arith, low, len));
    }
