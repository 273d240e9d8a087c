use Rattle.std.proofs.Common.{◌≡◌, ◌≢◌, ◌+◌, ◌-◌, ◌*◌, ◌<◌, ◌≤◌, ℕ, zero, suc, inl, inr, Bool, cond, List, length, take, drop}
use Rattle.std.proofs.Common.{refl, sym, ap, ◌∙◌, subst, arith, append-nil, ◌++◌, []}
use Rattle.std.proofs.Math.Nat.{mul-le-mul_right}
use Rattle.std.specs.List.{All}
use Rattle.flip_walk.specs.Patterns.{times}
use Rattle.std.proofs.lemmas.Bool.{lt-ltb, le-ltb}
use Rattle.std.proofs.lemmas.List.Elements.{All-take, All-drop}
use Rattle.bcodes.specs.Value.{Row}
use Rattle.row_lists.specs.Put.{put_on}
use Rattle.row_lists.specs.Room.{HasRoomFor}
use Rattle.multi_hash.specs.Inside.{lists_in}
use Rattle.multi_hash.specs.Room.{lists_under, marks}
use Rattle.multi_hash.proofs.MapsLemmas.{tells}
use Rattle.multi_hash.proofs.StoreLemmas.{length-under}
use Rattle.multi_hash.proofs.PutLemmas.{put_own, put_other, places_put, length-put, room_behind}
use Rattle.multi_hash.proofs.put.put_all.Goals as goal

under_is : (lists : List ℕ) (n i k : ℕ) → k ≡ (i + 1) * n - i * n → take k (drop (i * n) lists) ≡ lists_under lists n i
under_is lists n i k e =
    let one : (i + 1) * n ≡ i * n + n = grind arith in
    let same : k ≡ n = omega (arith, one, e) in
    ap (λ (m : ℕ). take m (drop (i * n) lists)) same

pub put-requires-clause-known : goal.put-requires-clause-known
put-requires-clause-known g c =
    All-take (λ l. l < length c.loop-i.buckets.lists) ((c.loop-i.i + 1) * c.args.count - c.loop-i.i * c.args.count)
    (drop (c.loop-i.i * c.args.count) c.args.lists.now) (All-drop (λ l. l < length c.loop-i.buckets.lists)
    (c.loop-i.i * c.args.count) c.args.lists.now
    (subst (λ (n : ℕ). All (λ l. l < n) c.args.lists.now) (sym c.loop-i.invariant.lists) c.requires.known))

pub loop-i-preserved : goal.loop-i-preserved
loop-i-preserved g c =
    let i : ℕ = c.loop-i.i in
    let n : ℕ = c.args.count in
    let lists : List ℕ = c.args.lists.now in
    let here : i < c.args.nhash = omega arith in
    let inside : (i + 1) * n ≤ length lists = omega (arith, c.requires.whole, product i c.args.nhash n here) in
    let many : length (lists_under lists n i) ≡ n = length-under lists n i inside in
    let is : take ((i + 1) * n - i * n) (drop (i * n) lists) ≡ lists_under lists n i
    = under_is lists n i ((i + 1) * n - i * n) refl in
    let rows : (l : ℕ)
    → lists_in c.put.new.buckets l ≡ lists_in c.loop-i.buckets l ++ put_on l (lists_under lists n i)
    (marks c.args.first n) = λ l. c.put.ensures.rows l
    ∙ ap (λ (ns : List ℕ). lists_in c.loop-i.buckets l ++ put_on l ns (marks c.args.first (length ns))) is
    ∙ ap (λ (m : ℕ). lists_in c.loop-i.buckets l ++ put_on l (lists_under lists n i) (marks c.args.first m)) many in
    record {
      rows = λ k m low alone. elim (tells k i) [
        | inl e ↦ put_own m k i lists n c.args.first (lists_in c.args.buckets.now m) (lists_in c.loop-i.buckets m)
            (lists_in c.put.new.buckets m) (c.loop-i.invariant.rows k m low alone) (rows m) e
        | inr ne ↦ put_other m k i lists n c.args.first (lists_in c.args.buckets.now m) (lists_in c.loop-i.buckets m)
            (lists_in c.put.new.buckets m) (c.loop-i.invariant.rows k m low alone) (rows m) ne
            (alone i here (λ e. ne (sym e)))
      ];
      room = λ j least low. room_behind c.loop-i.buckets c.put.new.buckets lists c.args.nhash n i j here low
          (λ e. later i j least e) c.requires.apart
          (λ l none. c.put.ensures.spare l (ap (times l) is ∙ none)) (c.loop-i.invariant.room j (omega arith) low);
      places = λ p m most old. places_put p m c.args.first n (lists_under lists n i) (lists_in c.loop-i.buckets m)
          (lists_in c.put.new.buckets m) most (rows m) (c.loop-i.invariant.places p m most old);
      short = λ m. omega (
        arith,
        c.loop-i.invariant.short m,
        one i n,
        length-put m c.args.first n (lists_under lists n i) (lists_in c.loop-i.buckets m)
            (lists_in c.put.new.buckets m) (rows m),
      );
      lists = c.put.ensures.lists ∙ c.loop-i.invariant.lists;
      size = c.put.ensures.size;
    }
  where
    product : (i m n : ℕ) → i < m → (i + 1) * n ≤ m * n
    product i m n h = let up : i + 1 ≤ m = omega arith in mul-le-mul_right n up

    later : (i j : ℕ) → i + 1 ≤ j → j ≡ i → ⊥
    later i j h e = omega arith

    one : (i n : ℕ) → (i + 1) * n ≡ i * n + n
    one i n = grind arith

pub returns-clause-rows : goal.returns-clause-rows
returns-clause-rows g c = λ i l low alone.
    let ns : List ℕ = lists_under c.args.lists.now c.args.count i in
    let all : i < c.loop-i.i = omega arith in
    c.loop-i.invariant.rows i l low alone
    ∙ ap (λ (t : Bool). lists_in c.args.buckets.now l ++ cond t (put_on l ns (marks c.args.first c.args.count)) [])
    (lt-ltb i c.loop-i.i all)
