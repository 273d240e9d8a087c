use Rattle.std.proofs.Common.{◌≡◌, ◌<◌, ℕ, List, IsPermutation, length, sym, subst}
use Rattle.std.specs.List.{All}
use Rattle.std.specs.List.Sorted.{IsNonDecreasing}
use Rattle.std.proofs.lemmas.List.Sorted.{All-permutation, IsNonDecreasingBy-from_sort}
use Rattle.row_lists.proofs.RoomLemmas.{room_permuted, keep_permuted}
use Rattle.row_lists.proofs.room.reserve_in_order.Goals as goal

pub reserve_sorted-requires-clause-known : goal.reserve_sorted-requires-clause-known
reserve_sorted-requires-clause-known g c =
    let copied : c.in_ok-sorted.sorted.items ≡ c.args.numbers.now = c.in_ok-sorted.ensures.items_if_clones_equal
    (λ x y h. h) in
    let known : ℕ → Type 0 = λ n. n < length c.args.lists.now.lists in
    subst (All known) (sym c.deref.ensures.value)
    (All-permutation known _ _ c.sort_unstable.ensures.permutation
    (subst (All known) (sym copied) c.requires.known))

pub reserve_sorted-requires-clause-sorted : goal.reserve_sorted-requires-clause-sorted
reserve_sorted-requires-clause-sorted g c =
    subst IsNonDecreasing (sym c.deref.ensures.value)
    (IsNonDecreasingBy-from_sort (λ (n : ℕ). n) _ c.sort_unstable.ensures.sorted)

pub returns-clause-room : goal.returns-clause-room
returns-clause-room g c =
    let copied : c.in_ok-sorted.sorted.items ≡ c.args.numbers.now = c.in_ok-sorted.ensures.items_if_clones_equal
    (λ x y h. h) in
    let same : IsPermutation c.args.numbers.now c.deref.result.now
    = subst (λ (ys : List ℕ). IsPermutation c.args.numbers.now ys) (sym c.deref.ensures.value)
    (subst (λ (xs : List ℕ). IsPermutation xs c.sort_unstable.new.self.items) copied
    c.sort_unstable.ensures.permutation) in
    room_permuted c.args.numbers.now c.deref.result.now c.reserve_sorted.new.lists same
    c.in_ok-reserve_sorted.ensures.room

pub returns-in_err-reserve_sorted-clause-others : goal.returns-in_err-reserve_sorted-clause-others
returns-in_err-reserve_sorted-clause-others g c =
    let copied : c.in_ok-sorted.sorted.items ≡ c.args.numbers.now = c.in_ok-sorted.ensures.items_if_clones_equal
    (λ x y h. h) in
    let same : IsPermutation c.args.numbers.now c.deref.result.now
    = subst (λ (ys : List ℕ). IsPermutation c.args.numbers.now ys) (sym c.deref.ensures.value)
    (subst (λ (xs : List ℕ). IsPermutation xs c.sort_unstable.new.self.items) copied
    c.sort_unstable.ensures.permutation) in
    keep_permuted c.args.numbers.now c.deref.result.now c.args.lists.now c.reserve_sorted.new.lists same
    c.in_err-reserve_sorted.ensures.others

pub returns-clause-others : goal.returns-clause-others
returns-clause-others g c =
    let copied : c.in_ok-sorted.sorted.items ≡ c.args.numbers.now = c.in_ok-sorted.ensures.items_if_clones_equal
    (λ x y h. h) in
    let same : IsPermutation c.args.numbers.now c.deref.result.now
    = subst (λ (ys : List ℕ). IsPermutation c.args.numbers.now ys) (sym c.deref.ensures.value)
    (subst (λ (xs : List ℕ). IsPermutation xs c.sort_unstable.new.self.items) copied
    c.sort_unstable.ensures.permutation) in
    keep_permuted c.args.numbers.now c.deref.result.now c.args.lists.now c.reserve_sorted.new.lists same
    c.in_ok-reserve_sorted.ensures.others
