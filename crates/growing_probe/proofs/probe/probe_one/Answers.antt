use Rattle.std.proofs.Common.{◌≡◌, ◌+◌, ◌*◌, ◌/◌, ◌^◌, ◌<◌, inl, [], ◌∷◌, ℕ, ℤ, pos}
use Rattle.std.proofs.Common.{nat_abs, List, length, map, take, set}
use Rattle.std.proofs.Common.{Bool, true, false, not, get_or, refl, sym, ap, ◌∙◌, arith, subst, rules, to_z, of_z}
use Rattle.std.proofs.Common.{w64}
use Rattle.std.proofs.lemmas.List.{length-set}
use Rattle.bcodes.specs.declared.hit.Hit.{Hit}
use Rattle.bcodes.specs.Bits.{dist}
use Rattle.bcodes.specs.Hits.{in_order}
use Rattle.bcodes.specs.Value.{Bare, IsLegalMulti, IsPlace, Multi, MultiValue}
use Rattle.bcodes.specs.Answers.{hit_of}
use Rattle.bcodes.proofs.BitLemmas.{differing-le}
use Rattle.bcodes.proofs.LegalLemmas.{count-le}
use Rattle.multi_hash.specs.Seen.{row_at}
use Rattle.multi_hash.proofs.MetLemmas.{place_low}
use Rattle.growing_probe.specs.Met.{is_seen, met_rows}
use Rattle.growing_probe.proofs.BucketLemmas.{label_is, same_label}
use Rattle.growing_probe.proofs.RowLemmas.{count_less, count_more, kept_few, kept_more}
use Rattle.growing_probe.proofs.probe.probe_one.Goals as goal

place_of : (v : MultiValue) (label : ℤ) → IsLegalMulti v → IsPlace (length v.codes) label
    → IsPlace (length v.codes) (to_z w64 (of_z w64 label))
place_of v label legal place =
    subst (IsPlace (length v.codes))
    (sym (same_label (length v.codes) label (count-le (Bare (Multi v)) legal) place)) place

fresh_new : (t : Bool) → true ≡ not t → t ≡ false
fresh_new true e = e
fresh_new false e = refl

pub offer-requires-clause-distance : goal.offer-requires-clause-distance
offer-requires-clause-distance g c =
    let z : ℤ = to_z w64 (of_z w64 c.args.label) in
    let p : ℕ = nat_abs z in
    let place : IsPlace (length c.args.index.now.codes) z = place_of c.args.index.now c.args.label
    c.requires.found.legal c.requires.place in
    let n : ℕ = length c.args.index.now.codes in
    let low : p < n = place_low n z place in
    let code : List ℕ = c.code.result.now in
    let size : length code ≡ c.args.index.now.dim / 8 = ap length c.code.ensures.code
    ∙ (c.requires.found.legal.codes p [] low).size in
    omega (
      arith,
      c.distance-distance.ensures,
      differing-le code c.args.kernel.now 0 (8 * length code),
      size,
      c.requires.found.bits,
    )

pub offer-requires-clause-room : goal.offer-requires-clause-room
offer-requires-clause-room g c =
    let z : ℤ = to_z w64 (of_z w64 c.args.label) in
    let p : ℕ = nat_abs z in
    let place : IsPlace (length c.args.index.now.codes) z = place_of c.args.index.now c.args.label
    c.requires.found.legal c.requires.place in
    let codes : List (List ℕ) = c.args.index.now.codes in
    let seen : List Bool = c.args.found.now.seen in
    let low : p < length codes = place_low (length codes) z place in
    let new : is_seen seen p ≡ false = fresh_new (is_seen seen p) (sym c.if-insert.true ∙ c.insert.ensures.fresh) in
    inl (omega (
      arith,
      kept_few c.args.kernel.now c.args.found.now.best.k c.args.found.now.best.items (met_rows codes seen)
          c.requires.found.kept,
      count_less codes seen p c.requires.found.positions low new,
      c.requires.found.most,
    ))

pub overflow_add-found : goal.overflow_add-found
overflow_add-found g c =
    let z : ℤ = to_z w64 (of_z w64 c.args.label) in
    let p : ℕ = nat_abs z in
    let place : IsPlace (length c.args.index.now.codes) z = place_of c.args.index.now c.args.label
    c.requires.found.legal c.requires.place in
    let codes : List (List ℕ) = c.args.index.now.codes in
    let seen : List Bool = c.args.found.now.seen in
    let low : p < length codes = place_low (length codes) z place in
    let new : is_seen seen p ≡ false = fresh_new (is_seen seen p) (sym c.if-insert.true ∙ c.insert.ensures.fresh) in
    let small : c.args.found.now.met + 1 < 2 ^ 64 = omega (
      arith,
      count_less codes seen p c.requires.found.positions low new,
      c.requires.found.met,
      count-le (Bare (Multi c.args.index.now)) c.requires.found.legal,
    ) in
    search rules

pub returns-then-insert-clause-found : goal.returns-then-insert-clause-found
returns-then-insert-clause-found g c =
    let z : ℤ = to_z w64 (of_z w64 c.args.label) in
    let p : ℕ = nat_abs z in
    let place : IsPlace (length c.args.index.now.codes) z = place_of c.args.index.now c.args.label
    c.requires.found.legal c.requires.place in
    let codes : List (List ℕ) = c.args.index.now.codes in
    let seen : List Bool = c.args.found.now.seen in
    let q : List ℕ = c.args.kernel.now in
    let k : ℕ = c.args.found.now.best.k in
    let before : List Hit = c.args.found.now.best.items in
    let low : p < length codes = place_low (length codes) z place in
    let new : is_seen seen p ≡ false = fresh_new (is_seen seen p) (sym c.if-insert.true ∙ c.insert.ensures.fresh) in
    let at : z ≡ pos p = sym (label_is (length codes) z place) in
    let hit : record { distance = c.distance-distance.result; label = z } ≡ hit_of q (row_at codes p)
    = ap (λ (d : ℕ). record { distance = d; label = z })
    (c.distance-distance.ensures ∙ ap (λ (code : List ℕ). dist code q) c.code.ensures.code)
    ∙ ap (λ (l : ℤ). record { distance = dist (get_or codes p []) q; label = l }) at in
    let kept : c.offer.new.self.items ≡ take k (in_order (hit_of q (row_at codes p) ∷ before))
    = c.offer.ensures.items
    ∙ ap (λ (h : Hit). take k (in_order (h ∷ before))) hit in
    let marked : c.insert.new.self ≡ set seen p true = c.insert.ensures.marked in
    let found = c.requires.found in
    record {
      legal = found.legal;
      size = found.size;
      positions = ap length marked ∙ length-set seen p true ∙ found.positions;
      met = ap (λ (n : ℕ). n + 1) found.met ∙ sym (count_more codes seen p found.positions low new)
          ∙ ap (λ (s : List Bool). length (met_rows codes s)) (sym marked);
      kept = kept_more codes seen p found.positions low new q k before c.offer.new.self.items found.kept kept
          ∙ ap (λ (s : List Bool). take k (in_order (map (hit_of q) (met_rows codes s)))) (sym marked);
      k = c.offer.ensures.k;
      most = c.offer.ensures.most ∙ found.most;
      bits = c.offer.ensures.bits ∙ found.bits;
    }
