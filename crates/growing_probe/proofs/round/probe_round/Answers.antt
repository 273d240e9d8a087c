use Rattle.std.proofs.Common.{◌≡◌, ℕ, ◌+◌, ◌*◌, ◌^◌, ◌<◌, ◌||◌, Bool, nat_eq, List, length}
use Rattle.std.proofs.Common.{sym, ap, ◌∙◌, arith, subst}
use Rattle.std.specs.List.{range_with_len, sum_by}
use Rattle.bcodes.specs.Bits.{key}
use Rattle.bcodes.specs.Counts.{Counts}
use Rattle.bcodes.specs.Ranges.{raised}
use Rattle.bcodes.specs.Value.{MultiValue}
use Rattle.bcodes.proofs.KeyLemmas.{key_below}
use Rattle.bcodes.proofs.LegalLemmas.{raised-raised, raised-zero}
use Rattle.flip_walk.specs.Patterns.{with_ones}
use Rattle.multi_hash.specs.Maps.{map_key, map_keys}
use Rattle.growing_probe.specs.declared.found.Found.{Found}
use Rattle.growing_probe.specs.Looks.{looks_under}
use Rattle.growing_probe.specs.Met.{chunk_dist, is_at, is_seen, some_chunk_at, IsFound}
use Rattle.growing_probe.proofs.AnyLemmas.{any_more, or_assoc, or_false, sum_more}
use Rattle.growing_probe.proofs.BucketLemmas.{chunk_key_is}
use Rattle.growing_probe.proofs.FoundLemmas.{first_number}
use Rattle.growing_probe.proofs.round.probe_round.Goals.{then-patterns-buckets, else-patterns-buckets}
use Rattle.growing_probe.proofs.round.probe_round.Goals as goal

-- what is seen with the positions of one more map
seen_more : (v : MultiValue) (q : List ℕ) (flips i p k : ℕ) (first before : Bool) → k ≡ key q (i * v.b) v.b
    → before ≡ (first || some_chunk_at v q flips i p)
    → (before || is_at k flips (map_key v i p)) ≡ (first || some_chunk_at v q flips (i + 1) p)
seen_more v q flips i p k first before is e =
    let test : ℕ → Bool = λ j. nat_eq (chunk_dist v q j p) flips in
    ap (λ (n : ℕ). before || is_at n flips (map_key v i p)) is
    ∙ ap (λ (b : Bool). before || b) (chunk_key_is v q i p flips)
    ∙ ap (λ (b : Bool). b || test i) e
    ∙ or_assoc first (some_chunk_at v q flips i p) (test i)
    ∙ ap (λ (b : Bool). first || b) (sym (any_more test i))

-- what was looked at, with the keys or buckets of one more map
asked_more : (v : MultiValue) (flips i asked before now looks : ℕ) → now ≡ raised before looks
    → looks ≡ looks_under v flips i
    → before ≡ raised asked (sum_by (looks_under v flips) (range_with_len 0 i))
    → now ≡ raised asked (sum_by (looks_under v flips) (range_with_len 0 (i + 1)))
asked_more v flips i asked before now looks e is f =
    e ∙ ap (raised before) is ∙ ap (λ (n : ℕ). raised n (looks_under v flips i)) f
    ∙ raised-raised asked (sum_by (looks_under v flips) (range_with_len 0 i)) (looks_under v flips i)
    ∙ ap (raised asked) (sym (sum_more (looks_under v flips) i))

pub loop-map-init : goal.loop-map-init
loop-map-init g c = record {
  found = c.requires.found;
  seen = λ p low. sym (or_false (is_seen c.args.found.now.seen p));
  lent = λ n e. e;
  asked = sym (raised-zero c.args.meter.now.asked);
}

pub probe_flipped-requires-clause-key : goal.probe_flipped-requires-clause-key
probe_flipped-requires-clause-key g c =
    let v = c.args.index.now in
    let q : List ℕ = c.args.q.now in
    let i : ℕ = c.loop-map.map in
    let is : c.chunk-key.result ≡ key q (i * v.b) v.b = c.chunk-key.ensures
    ∙ ap (λ (n : ℕ). key q (i * n) n) c.b-b.ensures in
    subst (λ (k : ℕ). k < 2 ^ v.b) (sym is) (key_below q (i * v.b) v.b)

pub loop-map-preserved : goal.loop-map-preserved
loop-map-preserved g c =
    let v = c.args.index.now in
    let q : List ℕ = c.args.q.now in
    let i : ℕ = c.loop-map.map in
    let flips : ℕ = c.args.flips in
    let first = c.args.found.now in
    let before = c.loop-map.invariant in
    let k : ℕ = c.chunk-key.result in
    let is : k ≡ key q (i * v.b) v.b = c.chunk-key.ensures ∙ ap (λ (n : ℕ). key q (i * n) n) c.b-b.ensures in
    let patterns : c.patterns_of-patterns.result ≡ length (with_ones v.b flips) = c.patterns_of-patterns.ensures
    ∙ ap (λ (n : ℕ). length (with_ones n flips)) c.b-b.ensures in
    let seen : (p : ℕ) → p < length v.codes
    → (is_seen c.loop-map.found.seen p || is_at k flips (map_key v i p))
    ≡ (is_seen first.seen p || some_chunk_at v q flips (i + 1) p) = λ p low.
    seen_more v q flips i p k (is_seen first.seen p) (is_seen c.loop-map.found.seen p) is (before.seen p low) in
    elim c.if-patterns-buckets.branch [
      | then-patterns-buckets w ↦ record {
        found = subst (IsFound v c.args.kernel.now first.best.k) (sym w.found-is)
            (first_number v c.args.kernel.now c.loop-map.found.best.k first.best.k w.probe_flipped.new.found
            before.found.k w.probe_flipped.ensures.found);
        seen = λ p low. ap (λ (f : Found). is_seen f.seen p) w.found-is ∙ w.probe_flipped.ensures.seen p low
            ∙ seen p low;
        lent = λ n e. ap (λ (m : Counts). m.lent) w.meter-is ∙ w.probe_flipped.ensures.lent n (before.lent n e)
            ∙ ap (λ (f : Found). raised n f.met) (sym w.found-is);
        asked = ap (λ (m : Counts). m.asked) w.meter-is
            ∙ asked_more v flips i c.args.meter.now.asked c.loop-map.meter.asked w.probe_flipped.new.meter.asked
            (length (with_ones v.b flips)) w.probe_flipped.ensures.asked
            (omega (arith, patterns, c.buckets.ensures, w.if-patterns-buckets.true)) before.asked;
      }
      | else-patterns-buckets w ↦ record {
        found = subst (IsFound v c.args.kernel.now first.best.k) (sym w.found-is)
            (first_number v c.args.kernel.now c.loop-map.found.best.k first.best.k w.probe_by_key.new.found
            before.found.k w.probe_by_key.ensures.found);
        seen = λ p low. ap (λ (f : Found). is_seen f.seen p) w.found-is ∙ w.probe_by_key.ensures.seen p low
            ∙ seen p low;
        lent = λ n e. ap (λ (m : Counts). m.lent) w.meter-is ∙ w.probe_by_key.ensures.lent n (before.lent n e)
            ∙ ap (λ (f : Found). raised n f.met) (sym w.found-is);
        asked = ap (λ (m : Counts). m.asked) w.meter-is
            ∙ asked_more v flips i c.args.meter.now.asked c.loop-map.meter.asked w.probe_by_key.new.meter.asked
            (length (map_keys v i)) w.probe_by_key.ensures.asked
            (omega (arith, patterns, c.buckets.ensures, w.if-patterns-buckets.false)) before.asked;
      }
    ]
