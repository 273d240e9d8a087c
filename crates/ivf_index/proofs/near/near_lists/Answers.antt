use Rattle.std.proofs.Common.{◌≡◌, ◌<◌, ℕ, length, map, take, sym, ap, ◌∙◌, arith, subst}
use Rattle.std.specs.List.{All}
use Rattle.std.proofs.lemmas.List.Elements.{All-take, All-weaker}
use Rattle.bcodes.specs.declared.hit.Hit.{Hit}
use Rattle.bcodes.specs.Ranges.{raised}
use Rattle.bcodes.proofs.FormLemmas.{looked_flat}
use Rattle.ivf_index.specs.Near.{IsNumber, count_in, near_by}
use Rattle.ivf_index.proofs.NearLemmas.{number, found_small, numbers_found, numbers_known}
use Rattle.ivf_index.proofs.near.near_lists.Goals as goal

pub returns-in_err-hits-clause-lent_most : goal.returns-in_err-hits-clause-lent_most
returns-in_err-hits-clause-lent_most g c = omega (
  arith,
  c.in_err-hits.ensures.lent_most,
  looked_flat c.args.quantizer.now c.args.q.now,
)

pub numbers_of-requires : goal.numbers_of-requires
numbers_of-requires g c =
    subst (All (λ (h : Hit). IsNumber 4194304 h.label)) (sym c.as_slice.ensures)
    (found_small c.args.quantizer.now c.args.q.now c.args.probes c.in_ok-hits.hits.items c.requires.few
    c.in_ok-hits.ensures.ok)

pub returns-in_err-near-clause-lent_most : goal.returns-in_err-near-clause-lent_most
returns-in_err-near-clause-lent_most g c = omega (
  arith,
  c.in_ok-hits.ensures.lent_most,
  looked_flat c.args.quantizer.now c.args.q.now,
)

pub front-n-requires : goal.front-n-requires
front-n-requires g c =
    let numbers : c.deref.result.now ≡ map number c.in_ok-hits.hits.items = c.deref.ensures.value
    ∙ c.in_ok-near.ensures ∙ ap (map number) c.as_slice.ensures in
    subst (All (λ (n : ℕ). n < length c.args.lists.now.lists)) (sym numbers)
    (All-weaker (λ (n : ℕ). n < length c.args.quantizer.now.codes) (λ (n : ℕ). n < length c.args.lists.now.lists)
    (λ n h. omega (arith, h, c.requires.lists)) (map number c.in_ok-hits.hits.items)
    (numbers_known c.args.quantizer.now c.args.q.now c.args.probes c.in_ok-hits.hits.items c.in_ok-hits.ensures.ok))

pub returns-clause-near : goal.returns-clause-near
returns-clause-near g c =
    let all : c.in_ok-near.near.items ≡ map number c.in_ok-hits.hits.items = c.in_ok-near.ensures
    ∙ ap (map number) c.as_slice.ensures in
    c.truncate.ensures.items ∙ ap (take c.front-n.result) (sym c.deref.ensures.value) ∙ c.front-n.ensures
    ∙ ap (near_by (count_in c.args.lists.now) c.args.max_codes)
    (c.deref.ensures.value ∙ all
    ∙ numbers_found c.args.quantizer.now c.args.q.now c.args.probes c.in_ok-hits.hits.items
    c.in_ok-hits.ensures.ok)

pub returns-clause-below : goal.returns-clause-below
returns-clause-below g c =
    let all : c.in_ok-near.near.items ≡ map number c.in_ok-hits.hits.items = c.in_ok-near.ensures
    ∙ ap (map number) c.as_slice.ensures in
    let known : All (λ (n : ℕ). n < length c.args.quantizer.now.codes) c.in_ok-near.near.items
    = subst (All (λ (n : ℕ). n < length c.args.quantizer.now.codes)) (sym all)
    (numbers_known c.args.quantizer.now c.args.q.now c.args.probes c.in_ok-hits.hits.items
    c.in_ok-hits.ensures.ok) in
    subst (All (λ (n : ℕ). n < length c.args.quantizer.now.codes)) (sym c.truncate.ensures.items)
    (All-take (λ (n : ℕ). n < length c.args.quantizer.now.codes) c.front-n.result c.in_ok-near.near.items known)

pub returns-clause-lent : goal.returns-clause-lent
returns-clause-lent g c = c.in_ok-hits.ensures.lent
    ∙ ap (raised c.args.meter.now.lent) (looked_flat c.args.quantizer.now c.args.q.now)

pub returns-clause-lent_most : goal.returns-clause-lent_most
returns-clause-lent_most g c = omega (
  arith,
  c.in_ok-hits.ensures.lent_most,
  looked_flat c.args.quantizer.now c.args.q.now,
)
