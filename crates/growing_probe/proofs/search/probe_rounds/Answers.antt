use Rattle.std.proofs.Common.{◌≡◌, ℕ, ◌+◌, ◌*◌, ◌<◌, ◌≤◌, ◌||◌, Bool, nat_eq, List}
use Rattle.std.proofs.Common.{length, sym, ap, ◌∙◌, arith}
use Rattle.std.specs.List.{range_with_len, sum_by}
use Rattle.bcodes.specs.Answers.{is_probed_multi}
use Rattle.bcodes.specs.Marks.{is_full_below}
use Rattle.bcodes.specs.Ranges.{raised}
use Rattle.bcodes.specs.Value.{MultiValue}
use Rattle.bcodes.proofs.LegalLemmas.{raised-raised, raised-zero}
use Rattle.multi_hash.specs.Seen.{row_at}
use Rattle.growing_probe.specs.Grown.{grown}
use Rattle.growing_probe.specs.Looks.{looks_of, looks_up_to}
use Rattle.growing_probe.specs.Met.{some_chunk_at, is_seen, IsFound}
use Rattle.growing_probe.proofs.AnyLemmas.{sum_more}
use Rattle.growing_probe.proofs.CertainLemmas.{is_within, round_end, round_last, round_more, within_more, within_none}
use Rattle.growing_probe.proofs.CertainLemmas.{within_probed}
use Rattle.growing_probe.proofs.FoundLemmas.{first_number, same_query}
use Rattle.growing_probe.proofs.search.probe_rounds.Goals as goal

-- what was looked at, with one round more
asked_more : (v : MultiValue) (flips asked before now : ℕ) → now ≡ raised before (looks_of v flips)
    → before ≡ raised asked (sum_by (looks_of v) (range_with_len 0 flips))
    → now ≡ raised asked (looks_up_to v flips)
asked_more v flips asked before now e f =
    e ∙ ap (λ (n : ℕ). raised n (looks_of v flips)) f
    ∙ raised-raised asked (sum_by (looks_of v) (range_with_len 0 flips)) (looks_of v flips)
    ∙ ap (raised asked) (sym (sum_more (looks_of v) flips))

pub loop-flips-init : goal.loop-flips-init
loop-flips-init g c = record {
  found = c.requires.found;
  seen = λ p low. c.requires.none p ∙ sym (within_none c.args.index.now c.args.q.now p);
  unmarked = λ i low. absurd (omega arith);
  lent = λ n e. e;
  asked = sym (raised-zero c.args.meter.now.asked);
}

pub returns-then-is_certain-clause-seen : goal.returns-then-is_certain-clause-seen
returns-then-is_certain-clause-seen g c =
    let v = c.args.index.now in
    let q : List ℕ = c.args.q.now in
    let k : ℕ = c.args.found.now.best.k in
    let flips : ℕ = c.loop-flips.flips in
    let now = c.probe_round.new.found in
    let before = c.loop-flips.invariant in
    let found : IsFound v q k now = same_query v c.args.kernel.now q k now (sym c.requires.query)
    (first_number v c.args.kernel.now c.loop-flips.found.best.k k now before.found.k c.probe_round.ensures.found) in
    let within : (p : ℕ) → p < length v.codes → is_seen now.seen p ≡ is_within v q (flips + 1) p = λ p low.
    c.probe_round.ensures.seen p low
    ∙ ap (λ (b : Bool). b || some_chunk_at v q flips v.nhash p) (before.seen p low) ∙ within_more v q flips p in
    let bound : c.from.result * (c.from-in-loop-flips.result + 1) ≡ v.nhash * (flips + 1)
    = ap (λ (n : ℕ). n * (c.from-in-loop-flips.result + 1)) (c.from.ensures ∙ c.nhash.ensures)
    ∙ ap (λ (n : ℕ). v.nhash * (n + 1)) c.from-in-loop-flips.ensures in
    let certain : Bool = c.is_certain.result in
    let test : certain ≡ (nat_eq now.met (length v.codes) || is_full_below now.best.items k (v.nhash * (flips + 1)))
    = c.is_certain.ensures
    ∙ ap (λ (n : ℕ). nat_eq now.met n || is_full_below now.best.items now.best.k (c.from.result
    * (c.from-in-loop-flips.result + 1))) c.count.ensures
    ∙ ap (λ (n : ℕ). nat_eq now.met (length v.codes) || is_full_below now.best.items n (c.from.result
    * (c.from-in-loop-flips.result + 1))) found.k
    ∙ ap (λ (n : ℕ). nat_eq now.met (length v.codes) || is_full_below now.best.items k n) bound in
    let most : flips ≤ v.b = omega arith in
    let last : grown v q k ≡ flips = round_last v q k flips now found within certain test before.unmarked
    c.if-is_certain.true most in
    λ p low. within p low ∙ within_probed v q flips p
    ∙ ap (λ (n : ℕ). is_probed_multi (record v { nflip = n }) q (row_at v.codes p)) (sym last)

pub returns-then-is_certain-clause-asked : goal.returns-then-is_certain-clause-asked
returns-then-is_certain-clause-asked g c =
    let v = c.args.index.now in
    let q : List ℕ = c.args.q.now in
    let k : ℕ = c.args.found.now.best.k in
    let flips : ℕ = c.loop-flips.flips in
    let now = c.probe_round.new.found in
    let before = c.loop-flips.invariant in
    let found : IsFound v q k now = same_query v c.args.kernel.now q k now (sym c.requires.query)
    (first_number v c.args.kernel.now c.loop-flips.found.best.k k now before.found.k c.probe_round.ensures.found) in
    let within : (p : ℕ) → p < length v.codes → is_seen now.seen p ≡ is_within v q (flips + 1) p = λ p low.
    c.probe_round.ensures.seen p low
    ∙ ap (λ (b : Bool). b || some_chunk_at v q flips v.nhash p) (before.seen p low) ∙ within_more v q flips p in
    let bound : c.from.result * (c.from-in-loop-flips.result + 1) ≡ v.nhash * (flips + 1)
    = ap (λ (n : ℕ). n * (c.from-in-loop-flips.result + 1)) (c.from.ensures ∙ c.nhash.ensures)
    ∙ ap (λ (n : ℕ). v.nhash * (n + 1)) c.from-in-loop-flips.ensures in
    let certain : Bool = c.is_certain.result in
    let test : certain ≡ (nat_eq now.met (length v.codes) || is_full_below now.best.items k (v.nhash * (flips + 1)))
    = c.is_certain.ensures
    ∙ ap (λ (n : ℕ). nat_eq now.met n || is_full_below now.best.items now.best.k (c.from.result
    * (c.from-in-loop-flips.result + 1))) c.count.ensures
    ∙ ap (λ (n : ℕ). nat_eq now.met (length v.codes) || is_full_below now.best.items n (c.from.result
    * (c.from-in-loop-flips.result + 1))) found.k
    ∙ ap (λ (n : ℕ). nat_eq now.met (length v.codes) || is_full_below now.best.items k n) bound in
    let most : flips ≤ v.b = omega arith in
    let last : grown v q k ≡ flips = round_last v q k flips now found within certain test before.unmarked
    c.if-is_certain.true most in
    asked_more v flips c.args.meter.now.asked c.loop-flips.meter.asked c.probe_round.new.meter.asked
    c.probe_round.ensures.asked before.asked
    ∙ ap (λ (n : ℕ). raised c.args.meter.now.asked (looks_up_to v n)) (sym last)

pub loop-flips-preserved : goal.loop-flips-preserved
loop-flips-preserved g c =
    let v = c.args.index.now in
    let q : List ℕ = c.args.q.now in
    let k : ℕ = c.args.found.now.best.k in
    let flips : ℕ = c.loop-flips.flips in
    let now = c.probe_round.new.found in
    let before = c.loop-flips.invariant in
    let found : IsFound v q k now = same_query v c.args.kernel.now q k now (sym c.requires.query)
    (first_number v c.args.kernel.now c.loop-flips.found.best.k k now before.found.k c.probe_round.ensures.found) in
    let within : (p : ℕ) → p < length v.codes → is_seen now.seen p ≡ is_within v q (flips + 1) p = λ p low.
    c.probe_round.ensures.seen p low
    ∙ ap (λ (b : Bool). b || some_chunk_at v q flips v.nhash p) (before.seen p low) ∙ within_more v q flips p in
    let bound : c.from.result * (c.from-in-loop-flips.result + 1) ≡ v.nhash * (flips + 1)
    = ap (λ (n : ℕ). n * (c.from-in-loop-flips.result + 1)) (c.from.ensures ∙ c.nhash.ensures)
    ∙ ap (λ (n : ℕ). v.nhash * (n + 1)) c.from-in-loop-flips.ensures in
    let certain : Bool = c.is_certain.result in
    let test : certain ≡ (nat_eq now.met (length v.codes) || is_full_below now.best.items k (v.nhash * (flips + 1)))
    = c.is_certain.ensures
    ∙ ap (λ (n : ℕ). nat_eq now.met n || is_full_below now.best.items now.best.k (c.from.result
    * (c.from-in-loop-flips.result + 1))) c.count.ensures
    ∙ ap (λ (n : ℕ). nat_eq now.met (length v.codes) || is_full_below now.best.items n (c.from.result
    * (c.from-in-loop-flips.result + 1))) found.k
    ∙ ap (λ (n : ℕ). nat_eq now.met (length v.codes) || is_full_below now.best.items k n) bound in
    record {
      found = first_number v c.args.kernel.now c.loop-flips.found.best.k k now before.found.k
          c.probe_round.ensures.found;
      seen = within;
      unmarked = round_more v q k flips now found within certain test before.unmarked c.if-is_certain.false;
      lent = λ n e. c.probe_round.ensures.lent n (before.lent n e);
      asked = asked_more v flips c.args.meter.now.asked c.loop-flips.meter.asked c.probe_round.new.meter.asked
          c.probe_round.ensures.asked before.asked;
    }

pub returns-else-is_certain-clause-seen : goal.returns-else-is_certain-clause-seen
returns-else-is_certain-clause-seen g c =
    let v = c.args.index.now in
    let q : List ℕ = c.args.q.now in
    let k : ℕ = c.args.found.now.best.k in
    let flips : ℕ = c.loop-flips.flips in
    let now = c.probe_round.new.found in
    let before = c.loop-flips.invariant in
    let found : IsFound v q k now = same_query v c.args.kernel.now q k now (sym c.requires.query)
    (first_number v c.args.kernel.now c.loop-flips.found.best.k k now before.found.k c.probe_round.ensures.found) in
    let within : (p : ℕ) → p < length v.codes → is_seen now.seen p ≡ is_within v q (flips + 1) p = λ p low.
    c.probe_round.ensures.seen p low
    ∙ ap (λ (b : Bool). b || some_chunk_at v q flips v.nhash p) (before.seen p low) ∙ within_more v q flips p in
    let bound : c.from.result * (c.from-in-loop-flips.result + 1) ≡ v.nhash * (flips + 1)
    = ap (λ (n : ℕ). n * (c.from-in-loop-flips.result + 1)) (c.from.ensures ∙ c.nhash.ensures)
    ∙ ap (λ (n : ℕ). v.nhash * (n + 1)) c.from-in-loop-flips.ensures in
    let certain : Bool = c.is_certain.result in
    let test : certain ≡ (nat_eq now.met (length v.codes) || is_full_below now.best.items k (v.nhash * (flips + 1)))
    = c.is_certain.ensures
    ∙ ap (λ (n : ℕ). nat_eq now.met n || is_full_below now.best.items now.best.k (c.from.result
    * (c.from-in-loop-flips.result + 1))) c.count.ensures
    ∙ ap (λ (n : ℕ). nat_eq now.met (length v.codes) || is_full_below now.best.items n (c.from.result
    * (c.from-in-loop-flips.result + 1))) found.k
    ∙ ap (λ (n : ℕ). nat_eq now.met (length v.codes) || is_full_below now.best.items k n) bound in
    let last : flips ≡ v.b = omega arith in
    absurd (round_end v q k flips now found within certain test before.unmarked c.if-is_certain.false last)

pub returns-else-is_certain-clause-asked : goal.returns-else-is_certain-clause-asked
returns-else-is_certain-clause-asked g c =
    let v = c.args.index.now in
    let q : List ℕ = c.args.q.now in
    let k : ℕ = c.args.found.now.best.k in
    let flips : ℕ = c.loop-flips.flips in
    let now = c.probe_round.new.found in
    let before = c.loop-flips.invariant in
    let found : IsFound v q k now = same_query v c.args.kernel.now q k now (sym c.requires.query)
    (first_number v c.args.kernel.now c.loop-flips.found.best.k k now before.found.k c.probe_round.ensures.found) in
    let within : (p : ℕ) → p < length v.codes → is_seen now.seen p ≡ is_within v q (flips + 1) p = λ p low.
    c.probe_round.ensures.seen p low
    ∙ ap (λ (b : Bool). b || some_chunk_at v q flips v.nhash p) (before.seen p low) ∙ within_more v q flips p in
    let bound : c.from.result * (c.from-in-loop-flips.result + 1) ≡ v.nhash * (flips + 1)
    = ap (λ (n : ℕ). n * (c.from-in-loop-flips.result + 1)) (c.from.ensures ∙ c.nhash.ensures)
    ∙ ap (λ (n : ℕ). v.nhash * (n + 1)) c.from-in-loop-flips.ensures in
    let certain : Bool = c.is_certain.result in
    let test : certain ≡ (nat_eq now.met (length v.codes) || is_full_below now.best.items k (v.nhash * (flips + 1)))
    = c.is_certain.ensures
    ∙ ap (λ (n : ℕ). nat_eq now.met n || is_full_below now.best.items now.best.k (c.from.result
    * (c.from-in-loop-flips.result + 1))) c.count.ensures
    ∙ ap (λ (n : ℕ). nat_eq now.met (length v.codes) || is_full_below now.best.items n (c.from.result
    * (c.from-in-loop-flips.result + 1))) found.k
    ∙ ap (λ (n : ℕ). nat_eq now.met (length v.codes) || is_full_below now.best.items k n) bound in
    let last : flips ≡ v.b = omega arith in
    absurd (round_end v q k flips now found within certain test before.unmarked c.if-is_certain.false last)
