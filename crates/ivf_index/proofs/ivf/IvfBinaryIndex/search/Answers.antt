use Rattle.std.proofs.Common.{◌≡◌, ◌<◌, ℕ, List, length, subst, sym, ap, ◌∙◌, arith}
use Rattle.std.specs.List.{All}
use Rattle.bcodes.specs.Counts.{Counts}
use Rattle.bcodes.specs.Ranges.{raised}
use Rattle.bcodes.specs.Value.{IvfValue}
use Rattle.bcodes.specs.Answers.{near}
use Rattle.bcodes.proofs.LegalLemmas.{raised-raised}
use Rattle.list_scan.specs.Visited.{first, hits_on, rows_at}
use Rattle.ivf_index.specs.Direct.{entries_of}
use Rattle.ivf_index.proofs.AddLemmas.{light}
use Rattle.ivf_index.proofs.VisitLemmas.{visit_seen, few_seen, looked_least}
use Rattle.ivf_index.proofs.ivf.IvfBinaryIndex.search.Goals as goal

pub search_lists-requires-clause-exist : goal.search_lists-requires-clause-exist
search_lists-requires-clause-exist g c =
    let i = c.self.inside in
    let count : c.args.self.now.nlist ≡ length i.lists.lists
    = sym (c.self.invariant.lists ∙ ap (λ (v : IvfValue). v.nlist) c.self.view_is) in
    subst (λ (n : ℕ). All (λ l. l < n) c.deref.result.now) count
    (subst (All (λ l. l < c.args.self.now.nlist)) (sym c.deref.ensures.value) c.in_ok-near.ensures.known)

pub search_lists-requires-clause-few : goal.search_lists-requires-clause-few
search_lists-requires-clause-few g c =
    let i = c.self.inside in
    let near_is : c.deref.result.now ≡ near c.args.self.now c.args.q.now
    = c.deref.ensures.value ∙ c.in_ok-near.ensures.near in
    omega (
      arith,
      few_seen i.dim.bits i.nlist i.nprobe i.max_codes (entries_of i.direct) i.quantizer i.order i.lists
          c.self.invariant c.args.q.now c.args.self.now c.self.view_is,
      light i.dim.bits _ (length i.quantizer.codes) c.self.invariant.load,
      ap (λ (ms : List ℕ). length (rows_at i.lists ms)) near_is,
    )

pub returns-clause-ok : goal.returns-clause-ok
returns-clause-ok g c =
    let i = c.self.inside in
    let near_is : c.deref.result.now ≡ near c.args.self.now c.args.q.now
    = c.deref.ensures.value ∙ c.in_ok-near.ensures.near in
    let seen = visit_seen i.dim.bits i.nlist i.nprobe i.max_codes (entries_of i.direct) i.quantizer i.order i.lists
    c.self.invariant c.args.q.now c.args.self.now c.self.view_is in
    c.in_ok-hits.ensures.ok
    ∙ ap (λ (ms : List ℕ). first c.args.k (hits_on c.args.q.now (rows_at i.lists ms))) near_is ∙ seen.best_is c.args.k

-- the centroids, and then the rows
pub returns-clause-lent : goal.returns-clause-lent
returns-clause-lent g c =
    let i = c.self.inside in
    let near_is : c.deref.result.now ≡ near c.args.self.now c.args.q.now
    = c.deref.ensures.value ∙ c.in_ok-near.ensures.near in
    let seen = visit_seen i.dim.bits i.nlist i.nprobe i.max_codes (entries_of i.direct) i.quantizer i.order i.lists
    c.self.invariant c.args.q.now c.args.self.now c.self.view_is in
    let rows : ℕ = length (rows_at i.lists (near c.args.self.now c.args.q.now)) in
    ap (λ (m : Counts). m.lent) c.in_ok-hits.ensures.lent
    ∙ ap (λ (ms : List ℕ). raised c.probed.new.meter.lent (length (rows_at i.lists ms))) near_is
    ∙ ap (λ (n : ℕ). raised n rows) c.in_ok-near.ensures.lent
    ∙ raised-raised c.args.meter.now.lent c.args.self.now.nlist rows
    ∙ ap (raised c.args.meter.now.lent) (omega (arith, seen.looked_is))

pub returns-in_err-near-clause-lent_most : goal.returns-in_err-near-clause-lent_most
returns-in_err-near-clause-lent_most g c =
    omega (arith, c.in_err-near.ensures.lent_most, looked_least c.args.self.now c.args.q.now)

pub returns-in_err-hits-clause-lent_most : goal.returns-in_err-hits-clause-lent_most
returns-in_err-hits-clause-lent_most g c =
    let i = c.self.inside in
    let seen = visit_seen i.dim.bits i.nlist i.nprobe i.max_codes (entries_of i.direct) i.quantizer i.order i.lists
    c.self.invariant c.args.q.now c.args.self.now c.self.view_is in
    omega (
      arith,
      c.in_ok-near.ensures.lent_most,
      ap (λ (m : Counts). m.lent) c.in_err-hits.ensures.err,
      seen.looked_is,
    )

pub returns-clause-lent_most : goal.returns-clause-lent_most
returns-clause-lent_most g c =
    let i = c.self.inside in
    let near_is : c.deref.result.now ≡ near c.args.self.now c.args.q.now
    = c.deref.ensures.value ∙ c.in_ok-near.ensures.near in
    let seen = visit_seen i.dim.bits i.nlist i.nprobe i.max_codes (entries_of i.direct) i.quantizer i.order i.lists
    c.self.invariant c.args.q.now c.args.self.now c.self.view_is in
    omega (
      arith,
      c.in_ok-near.ensures.lent_most,
      ap (λ (m : Counts). m.lent) c.in_ok-hits.ensures.lent,
      ap (λ (ms : List ℕ). length (rows_at i.lists ms)) near_is,
      seen.looked_is,
    )
