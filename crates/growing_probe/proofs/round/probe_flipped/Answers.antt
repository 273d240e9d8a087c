use Rattle.std.proofs.Common.{◌≡◌, ℕ, suc, ◌+◌, ◌-◌, ◌≤◌, ◌||◌, Bool, bit_xor, nat_eq, List}
use Rattle.std.proofs.Common.{[], ◌∷◌, length}
use Rattle.std.proofs.Common.{map, Some, None, sym, ap, ◌∙◌, arith}
use Rattle.std.specs.List.{list_any, position}
use Rattle.bcodes.specs.Counts.{Counts}
use Rattle.bcodes.specs.Ranges.{raised}
use Rattle.bcodes.proofs.LegalLemmas.{raised-raised}
use Rattle.flip_walk.specs.Patterns.{with_ones}
use Rattle.multi_hash.specs.Maps.{map_key, map_keys}
use Rattle.growing_probe.specs.Met.{is_seen}
use Rattle.growing_probe.proofs.AnyLemmas.{or_assoc, or_false}
use Rattle.growing_probe.proofs.BucketLemmas.{absent_key, any_flipped, key_low, present_key}
use Rattle.growing_probe.proofs.FoundLemmas.{first_number}
use Rattle.growing_probe.proofs.round.probe_flipped.Goals as goal

-- the count after one more look
one_more_look : (asked before now all w : ℕ) (rest : ℕ) → now ≡ raised before 1
    → before ≡ raised asked (all - w)
    → w ≡ suc rest → w ≤ all → now ≡ raised asked (all - rest)
one_more_look asked before now all w rest e f walk most =
    let next : (all - w) + 1 ≡ all - rest = omega arith in
    e ∙ ap (λ (n : ℕ). raised n 1) f ∙ raised-raised asked (all - w) 1 ∙ ap (raised asked) next

pub loop-pattern-preserved-in-Some-find : goal.loop-pattern-preserved-in-Some-find
loop-pattern-preserved-in-Some-find g c =
    let v = c.args.index.now in
    let i : ℕ = c.args.map in
    let k : ℕ = bit_xor c.args.key c.in-Some.pattern in
    let rest : List ℕ = c.next.new.self in
    let before = c.loop-pattern.invariant in
    let walk : c.loop-pattern.walk ≡ c.in-Some.pattern ∷ rest = c.in-Some.ensures in
    let found : position (nat_eq k) (map_keys v i) ≡ Some c.in-Some-find.bucket
    = sym c.find.ensures.place ∙ c.in-Some-find.is in
    record {
      found = first_number v c.args.kernel.now c.loop-pattern.found.best.k c.args.found.now.best.k
          c.probe_bucket.new.found before.found.k c.probe_bucket.ensures.found;
      seen = λ p low.
          let any : List ℕ → Bool = λ ks. list_any (nat_eq (map_key v i p)) (map (bit_xor c.args.key) ks) in
          ap (λ (b : Bool). b || any rest) (c.probe_bucket.ensures.seen p low
          ∙ ap (λ (j : ℕ). is_seen c.loop-pattern.found.seen p || nat_eq (map_key v i p) j)
          (present_key v i k c.in-Some-find.bucket found))
          ∙ or_assoc (is_seen c.loop-pattern.found.seen p) (nat_eq (map_key v i p) k) (any rest)
          ∙ ap (λ (ks : List ℕ). is_seen c.loop-pattern.found.seen p || any ks) (sym walk)
          ∙ before.seen p low;
      walk = omega (arith, ap length walk, before.walk);
      lent = λ n e. c.probe_bucket.ensures.lent n (ap (λ (m : Counts). m.lent) c.find.ensures.asked
          ∙ before.lent n e);
      asked = c.probe_bucket.ensures.asked
          ∙ one_more_look c.args.meter.now.asked c.loop-pattern.meter.asked c.find.new.meter.asked
          (length (with_ones v.b c.args.flips)) (length c.loop-pattern.walk) (length rest)
          (ap (λ (m : Counts). m.asked) c.find.ensures.asked) before.asked (ap length walk) before.walk;
    }

pub loop-pattern-preserved : goal.loop-pattern-preserved
loop-pattern-preserved g c =
    let v = c.args.index.now in
    let i : ℕ = c.args.map in
    let k : ℕ = bit_xor c.args.key c.in-Some.pattern in
    let rest : List ℕ = c.next.new.self in
    let before = c.loop-pattern.invariant in
    let walk : c.loop-pattern.walk ≡ c.in-Some.pattern ∷ rest = c.in-Some.ensures in
    let none : position (nat_eq k) (map_keys v i) ≡ None = sym c.find.ensures.place ∙ c.in_default-find.is in
    record {
      found = before.found;
      seen = λ p low.
          let any : List ℕ → Bool = λ ks. list_any (nat_eq (map_key v i p)) (map (bit_xor c.args.key) ks) in
          ap (λ (b : Bool). is_seen c.loop-pattern.found.seen p || (b || any rest))
          (sym (absent_key v i k p none low))
          ∙ ap (λ (ks : List ℕ). is_seen c.loop-pattern.found.seen p || any ks) (sym walk)
          ∙ before.seen p low;
      walk = omega (arith, ap length walk, before.walk);
      lent = λ n e. ap (λ (m : Counts). m.lent) c.find.ensures.asked ∙ before.lent n e;
      asked = one_more_look c.args.meter.now.asked c.loop-pattern.meter.asked c.find.new.meter.asked
          (length (with_ones v.b c.args.flips)) (length c.loop-pattern.walk) (length rest)
          (ap (λ (m : Counts). m.asked) c.find.ensures.asked) before.asked (ap length walk) before.walk;
    }

pub returns-clause-seen : goal.returns-clause-seen
returns-clause-seen g c =
    let v = c.args.index.now in
    let i : ℕ = c.args.map in
    let done : (c.loop-pattern.walk ≡ []) × (c.next.new.self ≡ []) = c.in_default.ensures in
    λ p low. sym (or_false (is_seen c.loop-pattern.found.seen p))
    ∙ ap (λ (ks : List ℕ). is_seen c.loop-pattern.found.seen p
    || list_any (nat_eq (map_key v i p)) (map (bit_xor c.args.key) ks)) (sym done.0)
    ∙ c.loop-pattern.invariant.seen p low
    ∙ ap (λ (b : Bool). is_seen c.args.found.now.seen p || b)
    (any_flipped c.args.key (map_key v i p) v.b c.args.flips c.requires.key (key_low v i p))
