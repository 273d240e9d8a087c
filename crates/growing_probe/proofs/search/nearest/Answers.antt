use Rattle.std.proofs.Common.{◌≡◌, ℕ, ◌<◌, List, [], length, replicate, false, sym, ap, ◌∙◌, subst}
use Rattle.bcodes.specs.Answers.{is_probed_multi}
use Rattle.bcodes.specs.Ranges.{raised}
use Rattle.bcodes.proofs.LegalLemmas.{raised-zero}
use Rattle.multi_hash.specs.Seen.{row_at}
use Rattle.growing_probe.specs.declared.found.Found.{Found}
use Rattle.growing_probe.specs.Grown.{grown}
use Rattle.growing_probe.specs.Met.{is_seen, IsFound}
use Rattle.growing_probe.proofs.CertainLemmas.{best_is, certain_best, last_mark, looked_is}
use Rattle.growing_probe.proofs.FoundLemmas.{first_number, found_none, own_number, same_query}
use Rattle.growing_probe.proofs.GrownLemmas.{grown_marked, grown_most}
use Rattle.growing_probe.proofs.search.nearest.Goals as goal

pub probe_rounds-requires-clause-found : goal.probe_rounds-requires-clause-found
probe_rounds-requires-clause-found g c =
    let v = c.args.index.now in
    let q : List ℕ = c.args.q.now in
    let k : ℕ = c.args.k in
    let none = c.in_ok-found.found in
    let made : (count bits : ℕ) → Found = λ count bits. record {
      seen = replicate count false;
      met = 0;
      best = record { items = []; k = k; most = count; bits = bits };
    } in
    let is : none ≡ made (length v.codes) v.dim = c.in_ok-found.ensures
    ∙ ap (λ (n : ℕ). made n c.dim-dim.result.bits) c.count.ensures
    ∙ ap (made (length v.codes)) c.dim-dim.ensures.value in
    let start : IsFound v q k none = subst (IsFound v q k) (sym is)
    (found_none v q k c.dim-dim.ensures.legal c.requires.size) in
    own_number v c.new-kernel.result k none (same_query v q c.new-kernel.result k none (sym c.new-kernel.ensures) start)

pub returns-clause-ok : goal.returns-clause-ok
returns-clause-ok g c =
    let v = c.args.index.now in
    let q : List ℕ = c.args.q.now in
    let k : ℕ = c.args.k in
    let none = c.in_ok-found.found in
    let now = c.probe_rounds.new.found in
    let wanted : none.best.k ≡ k = ap (λ (f : Found). f.best.k) c.in_ok-found.ensures in
    let found : IsFound v q k now = same_query v c.new-kernel.result q k now c.new-kernel.ensures
    (first_number v c.new-kernel.result none.best.k k now wanted c.probe_rounds.ensures.found) in
    let met : (p : ℕ) → p < length v.codes → is_seen now.seen p
    ≡ is_probed_multi (record v { nflip = grown v q k }) q (row_at v.codes p) = λ p low.
    c.probe_rounds.ensures.seen p low
    ∙ ap (λ (n : ℕ). is_probed_multi (record v { nflip = grown v q n }) q (row_at v.codes p)) wanted in
    c.into_hits.ensures ∙ best_is v q k (grown v q k) now found met
    ∙ certain_best v (grown v q k) q k c.dim-dim.ensures.legal (grown_most v q k)
    (grown_marked v q k (last_mark v q k c.dim-dim.ensures.legal))

pub returns-clause-lent : goal.returns-clause-lent
returns-clause-lent g c =
    let v = c.args.index.now in
    let q : List ℕ = c.args.q.now in
    let k : ℕ = c.args.k in
    let none = c.in_ok-found.found in
    let now = c.probe_rounds.new.found in
    let wanted : none.best.k ≡ k = ap (λ (f : Found). f.best.k) c.in_ok-found.ensures in
    let found : IsFound v q k now = same_query v c.new-kernel.result q k now c.new-kernel.ensures
    (first_number v c.new-kernel.result none.best.k k now wanted c.probe_rounds.ensures.found) in
    let met : (p : ℕ) → p < length v.codes → is_seen now.seen p
    ≡ is_probed_multi (record v { nflip = grown v q k }) q (row_at v.codes p) = λ p low.
    c.probe_rounds.ensures.seen p low
    ∙ ap (λ (n : ℕ). is_probed_multi (record v { nflip = grown v q n }) q (row_at v.codes p)) wanted in
    let start : c.args.meter.now.lent ≡ raised c.args.meter.now.lent none.met = sym
    (ap (λ (f : Found). raised c.args.meter.now.lent f.met) c.in_ok-found.ensures
    ∙ raised-zero c.args.meter.now.lent) in
    c.probe_rounds.ensures.lent c.args.meter.now.lent start
    ∙ ap (raised c.args.meter.now.lent) (looked_is v q k (grown v q k) now found met)
