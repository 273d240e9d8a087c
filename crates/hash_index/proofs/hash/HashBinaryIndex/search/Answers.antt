use Rattle.std.proofs.Common.{◌≡◌, ◌^◌, ◌<◌, ℕ, List, length, subst, sym, ap, ◌∙◌, arith}
use Rattle.std.specs.List.{All}
use Rattle.bcodes.specs.Bits.{key}
use Rattle.bcodes.specs.Counts.{Counts}
use Rattle.bcodes.specs.Ranges.{raised}
use Rattle.list_scan.specs.Visited.{first, hits_on, rows_at}
use Rattle.key_buckets.specs.Near.{near_lists}
use Rattle.hash_index.proofs.NearLemmas.{zero_times, near_known, few_seen, visit_seen}
use Rattle.hash_index.proofs.hash.HashBinaryIndex.search.Goals as goal

pub search_lists-requires-clause-exist : goal.search_lists-requires-clause-exist
search_lists-requires-clause-exist g c =
    let i = c.self.inside in
    let ns : List ℕ = near_lists i.table i.b i.nflip (key c.args.q.now 0 i.b) in
    let near_is : c.deref.result.now ≡ ns = c.deref.ensures.value ∙ c.in_ok-near.ensures.near
    ∙ ap (near_lists i.table i.b i.nflip) (c.chunk-key.ensures
    ∙ ap (λ (n : ℕ). key c.args.q.now n i.b) (zero_times i.b)) in
    subst (All (λ l. l < length i.buckets.lists)) (sym near_is)
    (near_known i.dim.bits i.b i.nflip i.table i.order i.buckets c.self.invariant
    c.in_ok-near.ensures.distinct c.args.q.now)

pub search_lists-requires-clause-few : goal.search_lists-requires-clause-few
search_lists-requires-clause-few g c =
    let i = c.self.inside in
    let ns : List ℕ = near_lists i.table i.b i.nflip (key c.args.q.now 0 i.b) in
    let near_is : c.deref.result.now ≡ ns = c.deref.ensures.value ∙ c.in_ok-near.ensures.near
    ∙ ap (near_lists i.table i.b i.nflip) (c.chunk-key.ensures
    ∙ ap (λ (n : ℕ). key c.args.q.now n i.b) (zero_times i.b)) in
    subst (λ (ms : List ℕ). length (rows_at i.buckets ms) < 2 ^ 64) (sym near_is)
    (few_seen i.dim.bits i.b i.nflip i.table i.order i.buckets c.self.invariant
    c.in_ok-near.ensures.distinct c.args.q.now)

pub returns-clause-ok : goal.returns-clause-ok
returns-clause-ok g c =
    let i = c.self.inside in
    let ns : List ℕ = near_lists i.table i.b i.nflip (key c.args.q.now 0 i.b) in
    let near_is : c.deref.result.now ≡ ns = c.deref.ensures.value ∙ c.in_ok-near.ensures.near
    ∙ ap (near_lists i.table i.b i.nflip) (c.chunk-key.ensures
    ∙ ap (λ (n : ℕ). key c.args.q.now n i.b) (zero_times i.b)) in
    let seen = visit_seen i.dim.bits i.b i.nflip i.table i.order i.buckets c.self.invariant
    c.in_ok-near.ensures.distinct c.args.q.now c.args.self.now c.self.view_is in
    c.in_ok-hits.ensures.ok ∙ ap (λ (ms : List ℕ). first c.args.k (hits_on c.args.q.now (rows_at i.buckets ms))) near_is
    ∙ seen.best_is c.args.k

pub returns-clause-lent : goal.returns-clause-lent
returns-clause-lent g c =
    let i = c.self.inside in
    let ns : List ℕ = near_lists i.table i.b i.nflip (key c.args.q.now 0 i.b) in
    let near_is : c.deref.result.now ≡ ns = c.deref.ensures.value ∙ c.in_ok-near.ensures.near
    ∙ ap (near_lists i.table i.b i.nflip) (c.chunk-key.ensures
    ∙ ap (λ (n : ℕ). key c.args.q.now n i.b) (zero_times i.b)) in
    let seen = visit_seen i.dim.bits i.b i.nflip i.table i.order i.buckets c.self.invariant
    c.in_ok-near.ensures.distinct c.args.q.now c.args.self.now c.self.view_is in
    ap (λ (m : Counts). m.lent) c.in_ok-hits.ensures.lent
    ∙ ap (λ (n : ℕ). raised n (length (rows_at i.buckets c.deref.result.now))) c.in_ok-near.ensures.lent
    ∙ ap (λ (ms : List ℕ). raised c.args.meter.now.lent (length (rows_at i.buckets ms))) near_is
    ∙ ap (raised c.args.meter.now.lent) (omega (arith, seen.looked_is))

pub returns-clause-lent_most : goal.returns-clause-lent_most
returns-clause-lent_most g c =
    let i = c.self.inside in
    let ns : List ℕ = near_lists i.table i.b i.nflip (key c.args.q.now 0 i.b) in
    let near_is : c.deref.result.now ≡ ns = c.deref.ensures.value ∙ c.in_ok-near.ensures.near
    ∙ ap (near_lists i.table i.b i.nflip) (c.chunk-key.ensures
    ∙ ap (λ (n : ℕ). key c.args.q.now n i.b) (zero_times i.b)) in
    let seen = visit_seen i.dim.bits i.b i.nflip i.table i.order i.buckets c.self.invariant
    c.in_ok-near.ensures.distinct c.args.q.now c.args.self.now c.self.view_is in
    omega (
      arith,
      ap (λ (m : Counts). m.lent) c.in_ok-hits.ensures.lent,
      c.in_ok-near.ensures.lent,
      ap (λ (ms : List ℕ). length (rows_at i.buckets ms)) near_is,
      seen.looked_is,
    )
