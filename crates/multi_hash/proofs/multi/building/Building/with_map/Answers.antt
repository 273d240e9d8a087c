use Rattle.std.proofs.Common.{◌≡◌, ◌+◌, ◌++◌, ℕ, List, length, take, drop, sym, ap, subst, arith}
use Rattle.multi_hash.specs.Partly.{IsPartly}
use Rattle.multi_hash.proofs.StoreLemmas.{written}
use Rattle.multi_hash.proofs.multi.building.Building.with_map.Goals as goal

pub invariant_of-result : goal.invariant_of-result
invariant_of-result g c =
    let i = c.self.inside in
    let after : List (List (ℕ × ℕ)) = c.place_named.new.maps in
    let whole : take i.maps.len (after ++ drop (length after) i.maps.items) ≡ after
    = written i.maps.len after i.maps.items (omega (
      arith,
      c.in_ok-keys.ensures.count,
      ap length c.deref_mut.ensures.value,
      c.deref_mut.ensures.len,
    )) in
    subst (λ (ms : List (List (ℕ × ℕ))). IsPartly i.storage.dim i.b (i.made + 1) c.in_ok-keys.keys i.storage.codes ms
    c.place_named.new.buckets) (sym whole) c.in_ok-keys.ensures.partly
