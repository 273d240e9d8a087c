use Rattle.std.proofs.Common.{rules, ◌≡◌, ◌*◌, ◌/◌, ◌≤◌, length, ap, ℕ, arith}
use Rattle.file_parts.specs.Format.{forward, short_at}
use Rattle.file_parts.proofs.RecordLemmas.{filled_short, filled_whole}
use Rattle.file_parts.proofs.feed.Feed.records.Goals as goal

pub returns-then-got-into-clause-gives : goal.returns-then-got-into-clause-gives
returns-then-got-into-clause-gives g c = λ told.
    let feed = c.args.self.now in
    let w = c.args.width in
    let n = length c.args.into.now / w in
    let small : feed.at ≤ 18446744073709551615 = search rules in
    let len : length c.fill.new.into ≡ n * w = omega (arith, c.requires.whole, c.fill.auto.into) in
    let cut : c.saturating_add.result ≡ forward feed.at (c.in_ok-got.got / w * w) = search rules in
    rw c.bad.ensures (filled_short feed.ahead c.fill.new.ahead c.fill.new.into w n feed.at c.in_ok-got.got
    (g.H.Shelf.contents feed.shelf.now) (g.H.Shelf.contents c.fill.new.shelf) _ told c.in_ok-got.ensures.contents
    small len c.requires.width c.if-got-into.true (ap (λ (at : ℕ). short_at at) cut))

pub returns-clause-gives : goal.returns-clause-gives
returns-clause-gives g c = λ told.
    let feed = c.args.self.now in
    let w = c.args.width in
    let n = length c.args.into.now / w in
    let small : feed.at ≤ 18446744073709551615 = search rules in
    let all : length c.fill.new.into ≤ c.in_ok-got.got = search rules in
    let len : length c.fill.new.into ≡ n * w = omega (arith, c.requires.whole, c.fill.auto.into) in
    let stands : c.saturating_add-self.result ≡ forward feed.at (length c.fill.new.into) = search rules in
    filled_whole feed.ahead c.fill.new.ahead c.fill.new.into w n feed.at c.in_ok-got.got
    (g.H.Shelf.contents feed.shelf.now) (g.H.Shelf.contents c.fill.new.shelf) _ told c.in_ok-got.ensures.contents
    small len all stands
