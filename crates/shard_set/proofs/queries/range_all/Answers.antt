use Rattle.std.proofs.Common.{◌≡◌, ◌++◌, ℕ, List, length, map, take, refl, sym, ap, ◌∙◌, arith}
use Rattle.bcodes.specs.declared.hit.Hit.{Hit}
use Rattle.bcodes.specs.Hits.{in_order}
use Rattle.bcodes.specs.Ranges.{raised}
use Rattle.bcodes.specs.Value.{IndexValue, code_size, count_of}
use Rattle.bcodes.specs.Answers.{looked}
use Rattle.bcodes.proofs.LegalLemmas.{raised-raised, raised-zero, raised-le}
use Rattle.shard_set.specs.Joined.{joined_within, joined_count, joined_looked, moved_hit}
use Rattle.shard_set.specs.Shards.{IsShard}
use Rattle.shard_set.proofs.JoinLemmas.{within_in_order, joined_within-most, joined_within_in_order, joined_within_none}
use Rattle.shard_set.proofs.PlaceLemmas.{within_places}
use Rattle.shard_set.proofs.StepLemmas.{turn, at_turn, sum_turn, sum_within}
use Rattle.shard_set.proofs.queries.range_all.Goals as goal

pub loop-shard-init : goal.loop-shard-init
loop-shard-init g c = record {
  items = c.new-all.ensures ∙ joined_within_none c.args.q.now c.args.radius;
  before = refl;
  lent = sym (raised-zero c.args.meter.now.lent);
}

pub range-requires-clause-code_size : goal.range-requires-clause-code_size
range-requires-clause-code_size g c =
    at_turn (λ (v : IndexValue). length c.args.q.now ≡ code_size v) g.I.BinaryIndex.value c.args.shards.now
    c.loop-shard.shard-index c.shard-item.result c.loop-shard-test.true c.shard-item.is c.requires.code_size

pub range-requires-clause-is_trained : goal.range-requires-clause-is_trained
range-requires-clause-is_trained g c =
    (at_turn IsShard g.I.BinaryIndex.value c.args.shards.now c.loop-shard.shard-index c.shard-item.result
    c.loop-shard-test.true c.shard-item.is c.requires.shards).trained

pub returns-in_err-found-clause-lent_most : goal.returns-in_err-found-clause-lent_most
returns-in_err-found-clause-lent_most g c =
    omega (
      arith,
      c.in_err-found.ensures.lent_most,
      c.loop-shard.invariant.lent,
      raised-le c.args.meter.now.lent
          (joined_looked (map g.I.BinaryIndex.value (take c.loop-shard.shard-index c.args.shards.now)) c.args.q.now),
      sum_within (λ (v : IndexValue). looked v c.args.q.now) g.I.BinaryIndex.value c.args.shards.now
          c.loop-shard.shard-index c.shard-item.result c.loop-shard-test.true c.shard-item.is,
    )

pub with_answer-requires-clause-answer_in_order : goal.with_answer-requires-clause-answer_in_order
with_answer-requires-clause-answer_in_order g c =
    rw c.loop-shard.invariant.items
    (joined_within_in_order (map g.I.BinaryIndex.value (take c.loop-shard.shard-index c.args.shards.now)) c.args.q.now
    c.args.radius)

pub with_answer-requires-clause-next_in_order : goal.with_answer-requires-clause-next_in_order
with_answer-requires-clause-next_in_order g c =
    let shard = at_turn IsShard g.I.BinaryIndex.value c.args.shards.now c.loop-shard.shard-index c.shard-item.result
    c.loop-shard-test.true c.shard-item.is c.requires.shards in
    rw c.in_ok-found.ensures.ok (within_in_order (g.I.BinaryIndex.value c.shard-item.result) c.args.q.now c.args.radius
    shard.bare)

pub with_answer-requires-clause-few : goal.with_answer-requires-clause-few
with_answer-requires-clause-few g c =
    omega (
      arith,
      c.loop-shard.invariant.before,
      c.requires.few,
      sum_within count_of g.I.BinaryIndex.value c.args.shards.now c.loop-shard.shard-index c.shard-item.result
          c.loop-shard-test.true c.shard-item.is,
    )

pub with_answer-requires-clause-places : goal.with_answer-requires-clause-places
with_answer-requires-clause-places g c =
    let shard = at_turn IsShard g.I.BinaryIndex.value c.args.shards.now c.loop-shard.shard-index c.shard-item.result
    c.loop-shard-test.true c.shard-item.is c.requires.shards in
    let within = sum_within count_of g.I.BinaryIndex.value c.args.shards.now c.loop-shard.shard-index
    c.shard-item.result c.loop-shard-test.true c.shard-item.is in
    rw c.in_ok-found.ensures.ok
    (within_places (g.I.BinaryIndex.value c.shard-item.result) c.args.q.now c.args.radius c.loop-shard.before shard.bare
    shard.places (omega (arith, within, c.loop-shard.invariant.before, c.requires.few)))

pub returns-in_err-all-clause-lent_most : goal.returns-in_err-all-clause-lent_most
returns-in_err-all-clause-lent_most g c =
    omega (
      arith,
      c.in_ok-found.ensures.lent_most,
      c.loop-shard.invariant.lent,
      raised-le c.args.meter.now.lent
          (joined_looked (map g.I.BinaryIndex.value (take c.loop-shard.shard-index c.args.shards.now)) c.args.q.now),
      sum_within (λ (v : IndexValue). looked v c.args.q.now) g.I.BinaryIndex.value c.args.shards.now
          c.loop-shard.shard-index c.shard-item.result c.loop-shard-test.true c.shard-item.is,
    )

pub overflow_add-before : goal.overflow_add-before
overflow_add-before g c =
    let within = sum_within count_of g.I.BinaryIndex.value c.args.shards.now c.loop-shard.shard-index
    c.shard-item.result c.loop-shard-test.true c.shard-item.is in
    omega (arith, within, c.loop-shard.invariant.before, c.requires.few, c.count-before.ensures)

pub loop-shard-preserved : goal.loop-shard-preserved
loop-shard-preserved g c =
    let f = g.I.BinaryIndex.value in
    let xs = c.args.shards.now in
    let i = c.loop-shard.shard-index in
    let x = c.shard-item.result in
    let low = c.loop-shard-test.true in
    let is = c.shard-item.is in
    let vs : List IndexValue = map f (take i xs) in
    let q = c.args.q.now in
    let shard = at_turn IsShard f xs i x low is c.requires.shards in
    let more = turn f xs i x low is in
    let radius = c.args.radius in
    let most : ℕ = 18446744073709551615 in
    let within = sum_within count_of f xs i x low is in
    record {
      items = c.in_ok-all.ensures
          ∙ ap (λ (n : ℕ). take most (in_order
          (c.loop-shard.all.items ++ map (moved_hit n) c.in_ok-found.found.items)))
          c.loop-shard.invariant.before
          ∙ ap (λ (hs : List Hit). take most
          (in_order (hs ++ map (moved_hit (joined_count vs)) c.in_ok-found.found.items)))
          c.loop-shard.invariant.items
          ∙ ap (λ (hs : List Hit). take most
          (in_order (joined_within vs q radius ++ map (moved_hit (joined_count vs)) hs)))
          c.in_ok-found.ensures.ok
          ∙ joined_within-most vs (f x) q radius most shard.bare
          (omega (arith, within, ap joined_count more, sum_turn count_of f xs i x low is, c.requires.few))
          ∙ ap (λ (ws : List IndexValue). joined_within ws q radius) (sym more);
      before = omega (arith, c.loop-shard.invariant.before, c.count-before.ensures, sum_turn count_of f xs i x low is);
      lent = c.in_ok-found.ensures.lent
          ∙ ap (λ (n : ℕ). raised n (looked (f x) q)) c.loop-shard.invariant.lent
          ∙ raised-raised c.args.meter.now.lent (joined_looked vs q) (looked (f x) q)
          ∙ ap (raised c.args.meter.now.lent) (sym (sum_turn (λ (v : IndexValue). looked v q) f xs i x low is));
    }
