use Rattle.std.proofs.Common.{◌≡◌, ◌+◌, ◌*◌, ◌/◌, ◌<◌, ◌≤◌, ◌++◌, ℕ, zero, suc, List, [], length, map, take, nat_eq, sym, ap, ◌∙◌}
use Rattle.std.proofs.Common.{arith, subst, refl}
use Rattle.std.proofs.Common.{nat_lt}
use Rattle.std.specs.List.{filter, All, IsDistinct, flat_map, range_with_len}
use Rattle.std.specs.Map.{keys_of}
use Rattle.bcodes.specs.declared.hit.Hit.{Hit}
use Rattle.bcodes.specs.Counts.{Counts}
use Rattle.bcodes.specs.Hits.{in_order}
use Rattle.bcodes.specs.Ranges.{raised}
use Rattle.bcodes.specs.Value.{MultiValue, Bare, Multi}
use Rattle.bcodes.specs.Answers.{hit_of, looked, within}
use Rattle.multi_hash.specs.Inside.{map_at}
use Rattle.multi_hash.specs.Maps.{looks, looks_below}
use Rattle.multi_hash.specs.Meet.{asked_below, met_under}
use Rattle.multi_hash.specs.Seen.{first_met, row_at}
use Rattle.multi_hash.proofs.ViewLemmas.{asked_is, met_known, within_is, looked_is}
use Rattle.multi_hash.proofs.multi.MultiBinaryIndex.range.Goals as goal

pub meet-requires-clause-within : goal.meet-requires-clause-within
meet-requires-clause-within g c =
    let i = c.self.inside in
    omega (
      arith,
      c.self.invariant.within,
      ap (λ ms. length ms * i.b) c.deref.ensures.value,
      c.requires.size,
      ap (λ (v : MultiValue). v.dim) c.self.view_is,
      c.dim-dim.ensures.legal.dim.whole_bytes,
    )

pub returns-in_err-met-clause-asked_most : goal.returns-in_err-met-clause-asked_most
returns-in_err-met-clause-asked_most g c =
    let i = c.self.inside in
    let q : List ℕ = c.args.q.now in
    let maps : List (List (ℕ × ℕ)) = i.maps.items in
    let maps_is : c.deref.result.now ≡ maps = c.deref.ensures.value in
    let asked : asked_below c.deref.result.now i.b i.nflip (length c.deref.result.now) ≡ looks c.args.self.now
    = ap (λ (ms : List (List (ℕ × ℕ))). asked_below ms i.b i.nflip (length ms)) maps_is
    ∙ asked_is i.storage.dim i.b i.nflip i.keys i.storage.codes maps i.buckets c.self.invariant (length maps) (omega arith)
    ∙ ap looks c.self.view_is in
    omega (arith, c.in_err-met.ensures.asked_most, asked)

pub offer_met_below-requires-clause-known : goal.offer_met_below-requires-clause-known
offer_met_below-requires-clause-known g c =
    let i = c.self.inside in
    let q : List ℕ = c.args.q.now in
    let maps : List (List (ℕ × ℕ)) = i.maps.items in
    let maps_is : c.deref.result.now ≡ maps = c.deref.ensures.value in
    let distinct : (j : ℕ) → j < length maps → IsDistinct nat_eq (keys_of (map_at maps j)) = λ j low.
    subst (λ (ms : List (List (ℕ × ℕ))). IsDistinct nat_eq (keys_of (map_at ms j))) maps_is
    (c.in_ok-met.ensures.distinct j (omega (arith, low, ap length maps_is))) in
    let all : List ℕ = first_met [] (flat_map (met_under maps i.buckets i.b i.nflip q) (range_with_len 0 (length maps))) in
    let met_is : c.deref-2.result.now ≡ all = c.deref-2.ensures.value ∙ c.in_ok-met.ensures.met
    ∙ ap (λ (ms : List (List (ℕ × ℕ))). first_met [] (flat_map (met_under ms i.buckets i.b i.nflip q)
    (range_with_len 0 (length ms)))) maps_is in
    subst (All (λ k. k < length i.storage.codes)) (sym met_is) (met_known i.storage.dim i.b i.nflip i.keys i.storage.codes maps i.buckets c.self.invariant q distinct)

pub returns-in_err-offer_met_below-clause-lent_most : goal.returns-in_err-offer_met_below-clause-lent_most
returns-in_err-offer_met_below-clause-lent_most g c =
    let i = c.self.inside in
    let q : List ℕ = c.args.q.now in
    let maps : List (List (ℕ × ℕ)) = i.maps.items in
    let maps_is : c.deref.result.now ≡ maps = c.deref.ensures.value in
    let distinct : (j : ℕ) → j < length maps → IsDistinct nat_eq (keys_of (map_at maps j)) = λ j low.
    subst (λ (ms : List (List (ℕ × ℕ))). IsDistinct nat_eq (keys_of (map_at ms j))) maps_is
    (c.in_ok-met.ensures.distinct j (omega (arith, low, ap length maps_is))) in
    let all : List ℕ = first_met [] (flat_map (met_under maps i.buckets i.b i.nflip q) (range_with_len 0 (length maps))) in
    let met_is : c.deref-2.result.now ≡ all = c.deref-2.ensures.value ∙ c.in_ok-met.ensures.met
    ∙ ap (λ (ms : List (List (ℕ × ℕ))). first_met [] (flat_map (met_under ms i.buckets i.b i.nflip q)
    (range_with_len 0 (length ms)))) maps_is in
    omega (
      arith,
      c.in_err-offer_met_below.ensures.lent_most,
      c.in_ok-met.ensures.lent,
      ap length met_is,
      looked_is i.storage.dim i.b i.nflip i.keys i.storage.codes maps i.buckets c.self.invariant q distinct,
      ap (λ (v : MultiValue). looked (Bare (Multi v)) q) c.self.view_is,
    )

pub returns-in_err-offer_met_below-clause-asked_most : goal.returns-in_err-offer_met_below-clause-asked_most
returns-in_err-offer_met_below-clause-asked_most g c =
    let i = c.self.inside in
    let q : List ℕ = c.args.q.now in
    let maps : List (List (ℕ × ℕ)) = i.maps.items in
    let maps_is : c.deref.result.now ≡ maps = c.deref.ensures.value in
    let asked : asked_below c.deref.result.now i.b i.nflip (length c.deref.result.now) ≡ looks c.args.self.now
    = ap (λ (ms : List (List (ℕ × ℕ))). asked_below ms i.b i.nflip (length ms)) maps_is
    ∙ asked_is i.storage.dim i.b i.nflip i.keys i.storage.codes maps i.buckets c.self.invariant (length maps) (omega arith)
    ∙ ap looks c.self.view_is in
    omega (arith, c.in_err-offer_met_below.ensures.asked, c.in_ok-met.ensures.asked_most, asked)

pub returns-clause-ok : goal.returns-clause-ok
returns-clause-ok g c =
    let i = c.self.inside in
    let q : List ℕ = c.args.q.now in
    let maps : List (List (ℕ × ℕ)) = i.maps.items in
    let maps_is : c.deref.result.now ≡ maps = c.deref.ensures.value in
    let distinct : (j : ℕ) → j < length maps → IsDistinct nat_eq (keys_of (map_at maps j)) = λ j low.
    subst (λ (ms : List (List (ℕ × ℕ))). IsDistinct nat_eq (keys_of (map_at ms j))) maps_is
    (c.in_ok-met.ensures.distinct j (omega (arith, low, ap length maps_is))) in
    let all : List ℕ = first_met [] (flat_map (met_under maps i.buckets i.b i.nflip q) (range_with_len 0 (length maps))) in
    let met_is : c.deref-2.result.now ≡ all = c.deref-2.ensures.value ∙ c.in_ok-met.ensures.met
    ∙ ap (λ (ms : List (List (ℕ × ℕ))). first_met [] (flat_map (met_under ms i.buckets i.b i.nflip q)
    (range_with_len 0 (length ms)))) maps_is in
    let none : c.new-found.result.items ≡ [] = c.new-found.ensures in
    let found : c.offer_met_below.new.found.items ≡ filter (λ (h : Hit). nat_lt h.distance c.args.radius)
    (map (hit_of q) (map (row_at i.storage.codes) all))
    = c.in_ok-offer_met_below.ensures.items
    ∙ ap (λ (hs : List Hit). hs ++ filter (λ (h : Hit). nat_lt h.distance c.args.radius)
    (map (hit_of c.new-kernel.result) (map (row_at i.storage.codes) c.deref-2.result.now))) none
    ∙ ap (λ (r : List ℕ). filter (λ (h : Hit). nat_lt h.distance c.args.radius)
    (map (hit_of r) (map (row_at i.storage.codes) c.deref-2.result.now))) c.new-kernel.ensures
    ∙ ap (λ (ms : List ℕ). filter (λ (h : Hit). nat_lt h.distance c.args.radius)
    (map (hit_of q) (map (row_at i.storage.codes) ms))) met_is in
    c.into_hits.ensures ∙ ap in_order found
    ∙ within_is i.storage.dim i.b i.nflip i.keys i.storage.codes maps i.buckets c.self.invariant q distinct c.args.radius
    ∙ ap (λ (v : MultiValue). within (Bare (Multi v)) q c.args.radius) c.self.view_is

pub returns-clause-lent : goal.returns-clause-lent
returns-clause-lent g c =
    let i = c.self.inside in
    let q : List ℕ = c.args.q.now in
    let maps : List (List (ℕ × ℕ)) = i.maps.items in
    let maps_is : c.deref.result.now ≡ maps = c.deref.ensures.value in
    let distinct : (j : ℕ) → j < length maps → IsDistinct nat_eq (keys_of (map_at maps j)) = λ j low.
    subst (λ (ms : List (List (ℕ × ℕ))). IsDistinct nat_eq (keys_of (map_at ms j))) maps_is
    (c.in_ok-met.ensures.distinct j (omega (arith, low, ap length maps_is))) in
    let all : List ℕ = first_met [] (flat_map (met_under maps i.buckets i.b i.nflip q) (range_with_len 0 (length maps))) in
    let met_is : c.deref-2.result.now ≡ all = c.deref-2.ensures.value ∙ c.in_ok-met.ensures.met
    ∙ ap (λ (ms : List (List (ℕ × ℕ))). first_met [] (flat_map (met_under ms i.buckets i.b i.nflip q)
    (range_with_len 0 (length ms)))) maps_is in
    c.in_ok-offer_met_below.ensures.lent
    ∙ ap (λ (n : ℕ). raised n (length c.deref-2.result.now)) c.in_ok-met.ensures.lent
    ∙ ap (λ (ms : List ℕ). raised c.args.meter.now.lent (length ms)) met_is
    ∙ ap (raised c.args.meter.now.lent) (looked_is i.storage.dim i.b i.nflip i.keys i.storage.codes maps i.buckets c.self.invariant q distinct)
    ∙ ap (λ (v : MultiValue). raised c.args.meter.now.lent (looked (Bare (Multi v)) q)) c.self.view_is

pub returns-clause-lent_most : goal.returns-clause-lent_most
returns-clause-lent_most g c =
    let i = c.self.inside in
    let q : List ℕ = c.args.q.now in
    let maps : List (List (ℕ × ℕ)) = i.maps.items in
    let maps_is : c.deref.result.now ≡ maps = c.deref.ensures.value in
    let distinct : (j : ℕ) → j < length maps → IsDistinct nat_eq (keys_of (map_at maps j)) = λ j low.
    subst (λ (ms : List (List (ℕ × ℕ))). IsDistinct nat_eq (keys_of (map_at ms j))) maps_is
    (c.in_ok-met.ensures.distinct j (omega (arith, low, ap length maps_is))) in
    let all : List ℕ = first_met [] (flat_map (met_under maps i.buckets i.b i.nflip q) (range_with_len 0 (length maps))) in
    let met_is : c.deref-2.result.now ≡ all = c.deref-2.ensures.value ∙ c.in_ok-met.ensures.met
    ∙ ap (λ (ms : List (List (ℕ × ℕ))). first_met [] (flat_map (met_under ms i.buckets i.b i.nflip q)
    (range_with_len 0 (length ms)))) maps_is in
    omega (
      arith,
      c.in_ok-offer_met_below.ensures.lent_most,
      c.in_ok-met.ensures.lent,
      ap length met_is,
      looked_is i.storage.dim i.b i.nflip i.keys i.storage.codes maps i.buckets c.self.invariant q distinct,
      ap (λ (v : MultiValue). looked (Bare (Multi v)) q) c.self.view_is,
    )

pub returns-clause-asked : goal.returns-clause-asked
returns-clause-asked g c =
    let i = c.self.inside in
    let q : List ℕ = c.args.q.now in
    let maps : List (List (ℕ × ℕ)) = i.maps.items in
    let maps_is : c.deref.result.now ≡ maps = c.deref.ensures.value in
    let asked : asked_below c.deref.result.now i.b i.nflip (length c.deref.result.now) ≡ looks c.args.self.now
    = ap (λ (ms : List (List (ℕ × ℕ))). asked_below ms i.b i.nflip (length ms)) maps_is
    ∙ asked_is i.storage.dim i.b i.nflip i.keys i.storage.codes maps i.buckets c.self.invariant (length maps) (omega arith)
    ∙ ap looks c.self.view_is in
    c.in_ok-offer_met_below.ensures.asked ∙ c.in_ok-met.ensures.asked ∙ ap (raised c.args.meter.now.asked) asked

pub returns-clause-asked_most : goal.returns-clause-asked_most
returns-clause-asked_most g c =
    let i = c.self.inside in
    let q : List ℕ = c.args.q.now in
    let maps : List (List (ℕ × ℕ)) = i.maps.items in
    let maps_is : c.deref.result.now ≡ maps = c.deref.ensures.value in
    let asked : asked_below c.deref.result.now i.b i.nflip (length c.deref.result.now) ≡ looks c.args.self.now
    = ap (λ (ms : List (List (ℕ × ℕ))). asked_below ms i.b i.nflip (length ms)) maps_is
    ∙ asked_is i.storage.dim i.b i.nflip i.keys i.storage.codes maps i.buckets c.self.invariant (length maps) (omega arith)
    ∙ ap looks c.self.view_is in
    omega (arith, c.in_ok-offer_met_below.ensures.asked, c.in_ok-met.ensures.asked_most, asked)
