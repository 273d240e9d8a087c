use Rattle.std.proofs.Common.{◌≡◌, ◌<◌, ◌≤◌, ℕ, Bool, true, false, List, length, cond, nat_eq, find, Option, None, Some, sym, ap, ◌∙◌}
use Rattle.std.proofs.Common.{arith, subst, option_map}
use Rattle.std.specs.List.{range_with_len}
use Rattle.std.specs.Int.RustNames.{count_ones}
use Rattle.bcodes.specs.Value.{MultiValue, Bare, Multi}
use Rattle.multi_hash.specs.Inside.{map_at}
use Rattle.multi_hash.specs.Wide.{wide}
use Rattle.multi_hash.proofs.ViewLemmas.{wide_none, wide_found}
use Rattle.multi_hash.proofs.multi.Multi.wide_bucket.Goals as goal

pub returns-then-not-is_power_of_two : goal.returns-then-not-is_power_of_two
returns-then-not-is_power_of_two g c =
    let i = c.self.inside in
    let power : nat_eq (count_ones (length i.storage.codes)) 1 ≡ false
    = ap (λ (n : ℕ). nat_eq (count_ones n) 1) (sym c.count-size.ensures)
    ∙ sym c.is_power_of_two.ensures ∙ c.if-not-is_power_of_two.true in
    wide_none i.storage.dim i.b i.nflip i.keys i.storage.codes i.maps.items i.buckets c.self.invariant power
    ∙ ap (λ (v : MultiValue). wide (Bare (Multi v))) c.self.view_is

pub returns-in_err-map : goal.returns-in_err-map
returns-in_err-map g c =
    let i = c.self.inside in
    let ms_is : c.deref.result.now ≡ i.maps.items = c.deref.ensures.value in
    let power : nat_eq (count_ones (length i.storage.codes)) 1 ≡ true
    = ap (λ (n : ℕ). nat_eq (count_ones n) 1) (sym c.count-size.ensures)
    ∙ sym c.is_power_of_two.ensures ∙ c.if-not-is_power_of_two.false in
    let found : c.first_of_one_key.result
    ≡ find (λ j. nat_eq (length (map_at i.maps.items j)) 1) (range_with_len 0 (length i.maps.items))
    = c.first_of_one_key.ensures
    ∙ ap (λ ms. find (λ j. nat_eq (length (map_at ms j)) 1) (range_with_len 0 (length ms))) ms_is in
    let wide_is : option_map (λ j. record { map = j; size = length i.storage.codes }) c.first_of_one_key.result
    ≡ wide (Bare (Multi c.args.self.now))
    = ap (option_map (λ j. record { map = j; size = length i.storage.codes })) found
    ∙ wide_found i.storage.dim i.b i.nflip i.keys i.storage.codes i.maps.items i.buckets c.self.invariant power
    ∙ ap (λ (v : MultiValue). wide (Bare (Multi v))) c.self.view_is in
    c.from_residual.ensures
    ∙ ap (option_map (λ j. record { map = j; size = length i.storage.codes })) (sym c.in_err-map.was) ∙ wide_is

pub returns : goal.returns
returns g c =
    let i = c.self.inside in
    let ms_is : c.deref.result.now ≡ i.maps.items = c.deref.ensures.value in
    let power : nat_eq (count_ones (length i.storage.codes)) 1 ≡ true
    = ap (λ (n : ℕ). nat_eq (count_ones n) 1) (sym c.count-size.ensures)
    ∙ sym c.is_power_of_two.ensures ∙ c.if-not-is_power_of_two.false in
    let found : c.first_of_one_key.result
    ≡ find (λ j. nat_eq (length (map_at i.maps.items j)) 1) (range_with_len 0 (length i.maps.items))
    = c.first_of_one_key.ensures
    ∙ ap (λ ms. find (λ j. nat_eq (length (map_at ms j)) 1) (range_with_len 0 (length ms))) ms_is in
    let wide_is : option_map (λ j. record { map = j; size = length i.storage.codes }) c.first_of_one_key.result
    ≡ wide (Bare (Multi c.args.self.now))
    = ap (option_map (λ j. record { map = j; size = length i.storage.codes })) found
    ∙ wide_found i.storage.dim i.b i.nflip i.keys i.storage.codes i.maps.items i.buckets c.self.invariant power
    ∙ ap (λ (v : MultiValue). wide (Bare (Multi v))) c.self.view_is in
    ap (λ (n : ℕ). Some (record { map = c.in_ok-map.map; size = n })) c.count-size.ensures
    ∙ ap (option_map (λ j. record { map = j; size = length i.storage.codes })) (sym c.in_ok-map.was) ∙ wide_is
