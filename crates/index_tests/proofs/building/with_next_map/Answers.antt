use Rattle.std.proofs.Common.{◌≡◌, List, ℕ, length, ap, ◌∙◌}
use Rattle.std.specs.List.{range_with_len}
use Rattle.bcodes.specs.Value.{CodeList}
use Rattle.index_tests.proofs.BuildingLemmas.{all_known, all_named}
use Rattle.index_tests.proofs.building.with_next_map.Goals as goal

pub with_map-requires-clause-known : goal.with_map-requires-clause-known
with_map-requires-clause-known c =
    let keys : List ℕ = c.deref.result.now in
    let numbers : List ℕ = c.deref-2.result.now in
    let below : numbers ≡ range_with_len 0 c.len.result = c.deref-2.ensures.value ∙ c.in_ok-numbers.ensures in
    let all : c.len.result ≡ length keys = cc in
    all_known keys numbers c.len.result below all

pub with_map-requires-clause-keys : goal.with_map-requires-clause-keys
with_map-requires-clause-keys c =
    let keys : List ℕ = c.deref.result.now in
    let numbers : List ℕ = c.deref-2.result.now in
    let below : numbers ≡ range_with_len 0 c.len.result = c.deref-2.ensures.value ∙ c.in_ok-numbers.ensures in
    let all : c.len.result ≡ length keys = cc in
    let codes = ap (λ (flat : CodeList). flat.codes) c.storage.ensures in
    all_named keys numbers c.len.result below all ∙ c.deref.ensures.value ∙ c.in_ok-keys.ensures ∙ cc codes
