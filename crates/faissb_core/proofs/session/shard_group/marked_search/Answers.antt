use Rattle.std.proofs.Common.{◌≡◌, ◌<◌, ◌^◌, ℕ, refl, ap, ◌∙◌, subst}
use Rattle.bcodes.specs.Ranges.{raised}
use Rattle.bcodes.specs.Marks.{AreNumbers, search_mark}
use Rattle.shard_set.specs.Joined.{joined_looked}
use Rattle.shard_set.proofs.LawLemmas.{joined_best_is}
use Rattle.faissb_core.proofs.SessionLemmas.ShardLemmas.{numbers_joined, looked_joined}
use Rattle.faissb_core.proofs.session.shard_group.marked_search.Goals as goal

pub returns : goal.returns
returns c = λ v is.
    let vs = c.args.shards.now.values in
    let q = c.args.q.now in
    let numbers = numbers_joined vs v c.get.result.now q c.requires.alike is c.requires.some (c.get.ensures c.get.result.now) in
    let few = subst (λ (n : ℕ). n < 2 ^ 31) c.count.ensures.value c.count.ensures.few in
    let rises : c.lent.result ≡ raised 0 (joined_looked vs q) = c.lent.ensures ∙ c.in_ok-hits.ensures.lent
    ∙ ap (λ (n : ℕ). raised n (joined_looked vs q)) (ap (λ m. m.lent) c.new-meter.ensures) in
    let rises_still : c.lent-2.result ≡ raised 0 (joined_looked vs q) = c.lent-2.ensures ∙ c.in_ok-hits.ensures.lent
    ∙ ap (λ (n : ℕ). raised n (joined_looked vs q)) (ap (λ m. m.lent) c.new-meter.ensures) in
    let lent : c.lent.result ≡ joined_looked vs q = looked_joined vs v c.get.result.now q c.lent.result numbers few rises in
    let lent_still : c.lent-2.result ≡ joined_looked vs q =
    looked_joined vs v c.get.result.now q c.lent-2.result numbers few rises_still in
    let told : AreNumbers v q c.lent.result 0 c.count.result c.bound-bound.result = record {
      lent = lent ∙ numbers.lent;
      fixed = numbers.fixed;
      count = c.count.ensures.value ∙ numbers.count;
      bound = c.bound-bound.ensures ∙ numbers.bound;
    } in
    let mark : c.search_exact-exact.result ≡ search_mark v q c.args.k = c.search_exact-exact.ensures v q told
    (c.in_ok-hits.ensures.ok ∙ joined_best_is c.args.shards.now.values v c.args.q.now c.args.k c.requires.alike is) in
    rw (c.in_ok-hits.ensures.ok, lent_still, mark) refl
