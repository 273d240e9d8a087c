use Rattle.std.proofs.Common.{◌≡◌, ◌<◌, ℕ, length, take, ap, ◌∙◌, arith}
use Rattle.std.proofs.lemmas.List.Elements.{All-weaker}
use Rattle.bcodes.specs.Value.{IvfValue}
use Rattle.ivf_index.specs.Near.{count_in, lists_by, near_by}
use Rattle.ivf_index.specs.Direct.{entries_of}
use Rattle.ivf_index.proofs.VisitLemmas.{near_seen}
use Rattle.ivf_index.proofs.ivf.Ivf.probed.Goals as goal

pub returns-clause-near : goal.returns-clause-near
returns-clause-near g c =
    let i = c.self.inside in
    c.in_ok-near.ensures.near
    ∙ ap (λ (n : ℕ). near_by (count_in i.lists) i.max_codes (take n (lists_by i.quantizer.codes c.args.q.now)))
    c.lesser-probes.ensures
    ∙ near_seen i.dim.bits i.nlist i.nprobe i.max_codes (entries_of i.direct) i.quantizer i.order i.lists
    c.self.invariant c.args.q.now c.args.self.now c.self.view_is

pub returns-clause-known : goal.returns-clause-known
returns-clause-known g c =
    let i = c.self.inside in
    let nlist : i.nlist ≡ c.args.self.now.nlist = ap (λ (v : IvfValue). v.nlist) c.self.view_is in
    All-weaker (λ l. l < length i.quantizer.codes) (λ l. l < c.args.self.now.nlist)
    (λ l h. omega (arith, h, c.self.invariant.held, nlist)) c.in_ok-near.near.items c.in_ok-near.ensures.below
