use Rattle.std.proofs.Common.{◌≡◌, ℕ, ◌+◌, ◌-◌, length, sym, ap, ◌∙◌, arith}
use Rattle.flip_walk.specs.Patterns.{by_ones, with_ones}
use Rattle.flip_walk.proofs.CountLemmas.{by_ones-more, choose, many_is}
use Rattle.growing_probe.proofs.count.patterns_of.Goals as goal

-- the patterns with one flip more
more : (b n : ℕ) → length (by_ones b 0 (n + 1)) ≡ length (by_ones b 0 n) + length (with_ones b n)
more b n = let at : 0 + n ≡ n = omega arith in omega (arith, by_ones-more b 0 n, many_is b n, ap (choose b) at)

one : (b : ℕ) → length (with_ones b 0) ≡ 1
unfolding choose
one b = many_is b 0

pub overflow_sub-result : goal.overflow_sub-result
overflow_sub-result c =
    let b : ℕ = c.args.b in
    let before : (c.args.flips - 1) + 1 ≡ c.args.flips = omega arith in
    omega (arith, more b c.args.flips, ap (λ (n : ℕ). length (by_ones b 0 n)) before)

pub returns-then-flips-eq0 : goal.returns-then-flips-eq0
returns-then-flips-eq0 c = sym (ap (λ (n : ℕ). length (with_ones c.args.b n)) c.if-flips-eq0.true ∙ one c.args.b)

pub returns-else-flips-eq0 : goal.returns-else-flips-eq0
returns-else-flips-eq0 c =
    let b : ℕ = c.args.b in
    let before : (c.args.flips - 1) + 1 ≡ c.args.flips = omega arith in
    omega (arith, more b c.args.flips, ap (λ (n : ℕ). length (by_ones b 0 n)) before)
