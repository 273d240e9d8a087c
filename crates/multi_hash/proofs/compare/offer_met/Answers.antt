use Rattle.std.proofs.Common.{◌≡◌, ◌+◌, ◌<◌, ◌≤◌, ◌++◌, ◌∷◌, [], ℕ, List, length, map, take, get_or, ap, sym, ◌∙◌, arith}
use Rattle.std.proofs.Common.{append_assoc, length-take}
use Rattle.std.proofs.lemmas.List.{map_more, map-append, take_more}
use Rattle.bcodes.specs.declared.hit.Hit.{Hit}
use Rattle.bcodes.specs.Counts.{Counts}
use Rattle.bcodes.specs.Hits.{in_order}
use Rattle.bcodes.specs.Ranges.{raised}
use Rattle.bcodes.specs.Value.{Row}
use Rattle.bcodes.specs.Answers.{hit_of}
use Rattle.bcodes.proofs.OrderLemmas.{best_more, length-in_order}
use Rattle.bcodes.proofs.LegalLemmas.{raised-raised}
use Rattle.multi_hash.specs.Seen.{row_at}
use Rattle.multi_hash.proofs.compare.offer_met.Goals as goal

-- one more of the positions as a hit
pub hits_more : (q : List ℕ) (codes : List (List ℕ)) (met : List ℕ) (i : ℕ) → i < length met
    → map (hit_of q) (map (row_at codes) (take (i + 1) met))
    ≡ map (hit_of q) (map (row_at codes) (take i met)) ++ hit_of q (row_at codes (get_or met i 0)) ∷ []
hits_more q codes met i h =
    ap (map (hit_of q)) (map_more (row_at codes) met i 0 h)
    ∙ map-append (hit_of q) (map (row_at codes) (take i met)) (row_at codes (get_or met i 0) ∷ [])

pub loop-i-preserved : goal.loop-i-preserved
loop-i-preserved g c =
    let i : ℕ = c.loop-i.i in
    let met : List ℕ = c.args.met.now in
    let q : List ℕ = c.args.kernel.now in
    let codes : List (List ℕ) = c.args.storage.now.codes in
    let here : i < length met = omega arith in
    let k : ℕ = c.args.best.now.k in
    let hit : Hit = hit_of q (row_at codes (get_or met i 0)) in
    let kept : c.offer.new.self.items ≡ take k (in_order (hit ∷ c.loop-i.best.items))
    = c.offer.ensures.items
    ∙ ap (λ (h : Hit). take c.loop-i.best.k (in_order (h ∷ c.loop-i.best.items))) c.hit_at-hit.ensures.hit
    ∙ ap (λ (n : ℕ). take n (in_order (hit ∷ c.loop-i.best.items))) c.loop-i.invariant.k in
    record {
      items = λ hits e.
          best_more k (hits ++ map (hit_of q) (map (row_at codes) (take i met))) c.loop-i.best.items
          c.offer.new.self.items hit (c.loop-i.invariant.items hits e) kept
          ∙ ap (λ (hs : List Hit). take k (in_order hs))
          (append_assoc hits (map (hit_of q) (map (row_at codes) (take i met))) (hit ∷ [])
          ∙ ap (λ (hs : List Hit). hits ++ hs) (sym (hits_more q codes met i here)));
      grown = omega (
        arith,
        ap length kept,
        length-take k (in_order (hit ∷ c.loop-i.best.items)),
        length-in_order (hit ∷ c.loop-i.best.items),
        c.loop-i.invariant.grown,
      );
      k = c.offer.ensures.k ∙ c.loop-i.invariant.k;
      most = c.offer.ensures.most ∙ c.loop-i.invariant.most;
      bits = c.offer.ensures.bits ∙ c.loop-i.invariant.bits;
      lent = c.hit_at-hit.ensures.lent
          ∙ ap (λ (m : Counts). record m { lent = raised m.lent 1 }) c.loop-i.invariant.lent
          ∙ ap (λ (n : ℕ). record c.args.meter.now { lent = n }) (raised-raised c.args.meter.now.lent i 1);
      rises = omega (
        arith,
        c.loop-i.invariant.rises,
        ap (λ (m : Counts). m.lent) c.hit_at-hit.ensures.lent,
      );
    }
