use Rattle.std.proofs.Common.{◌≡◌, ◌+◌, ◌-◌, ◌<◌, ℕ, suc, Bool, false, cond, Option, Some, find, length, nat_eq, ap, ◌∙◌, arith}
use Rattle.std.specs.List.{range_with_len}
use Rattle.std.proofs.lemmas.Bool.{ne_eqb}
use Rattle.multi_hash.specs.Inside.{map_at}
use Rattle.multi_hash.proofs.tables.first_of_one_key.Goals as goal

-- the first number does not pass
find_next : (p : ℕ → Bool) (i n : ℕ) → i < n → p i ≡ false
    → find p (range_with_len i (n - i)) ≡ find p (range_with_len (i + 1) (n - (i + 1)))
find_next p i n h e =
    let more : n - i ≡ suc (n - (i + 1)) = omega arith in
    ap (λ (m : ℕ). find p (range_with_len i m)) more
    ∙ ap (λ (t : Bool). cond t (Some i) (find p (range_with_len (i + 1) (n - (i + 1))))) e

pub loop-i-preserved : goal.loop-i-preserved
loop-i-preserved c =
    let maps = c.args.maps.now in
    let here : c.loop-i.i < length maps = omega arith in
    c.loop-i.invariant
    ∙ find_next (λ i. nat_eq (length (map_at maps i)) 1) c.loop-i.i (length maps) here
    (ne_eqb (length (map_at maps c.loop-i.i)) 1 (λ e. other c.len.result c.if-len-eq1.false
    (c.len.ensures.value ∙ ap length c.table.ensures ∙ e)))
  where
    other : (n : ℕ) → (n ≡ 1 → ⊥) → n ≡ 1 → ⊥
    other n h e = h e
