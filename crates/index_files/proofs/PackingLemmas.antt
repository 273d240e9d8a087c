-- Numbers that are packed one after the other.
use Rattle.std.proofs.Common.{◌≡◌, inl, inr, ℕ, zero, suc, ◌+◌, ◌-◌, ◌*◌, ◌/◌, ◌%◌, ◌^◌, ◌<◌, ◌≤◌, ℤ, pos}
use Rattle.std.proofs.Common.{List, [], ◌∷◌, ◌++◌, length, map, take, drop, refl, sym, ap, ◌∙◌, append_assoc, arith}
use Rattle.std.specs.Prelude.{nat_abs}
use Rattle.std.specs.List.{flat_map}
use Rattle.std.specs.Int.Count.{count_leading_zeros}
use Rattle.std.proofs.Math.Nat.{two-pow-succ, pow-le-pow_right}
use Rattle.std.proofs.lemmas.Bool.{cases_lt}
use Rattle.std.proofs.lemmas.Nat.{leading_length}
use Rattle.std.proofs.lemmas.List.{append-nil}
use Rattle.std.proofs.lemmas.List.Concat.{flat_map-append}
use Rattle.std.proofs.lemmas.List.Sums.{sum_by-cons}
use Rattle.bit_strings.specs.Packed.{Bits, low_bits, from_bits, spread, total_width}
use Rattle.bit_strings.specs.States.{Written}
use Rattle.bit_strings.proofs.PackedLemmas.{length-low, low-below, low-from, from-low}
use Rattle.index_files.specs.Canon.{bit_length}
use Rattle.index_files.specs.Writing.{Packs}
use Rattle.index_files.proofs.Width.{width-only}

pow_pos : (n : ℕ) → 0 < 2 ^ n
pow_pos zero = omega arith
pow_pos (suc n) = omega (arith, pow_pos n, two-pow-succ n)

pub cut_below : (n x low : ℕ) → low ≡ x % 2 ^ n → low < 2 ^ n
cut_below n x low is = omega (arith, is, pow_pos n)

-- only the lowest bits of a number count
pub low_cut : (n x : ℕ) → low_bits n (x % 2 ^ n) ≡ low_bits n x
low_cut n x =
    ap (low_bits n) (sym (from-low n x))
    ∙ ap (λ k. low_bits k (from_bits (low_bits n x))) (sym (length-low n x))
    ∙ low-from (low_bits n x) (low-below n x)

pub spread_append : (xs ys : List Bits) → spread (xs ++ ys) ≡ spread xs ++ spread ys
spread_append xs ys = flat_map-append (λ (x : Bits). low_bits x.width x.number) xs ys

pub width_append : (xs ys : List Bits) → total_width (xs ++ ys) ≡ total_width xs + total_width ys
width_append [] ys = omega arith
width_append (x ∷ xs) ys = omega (
  arith,
  sum_by-cons (λ (x : Bits). x.width) x (xs ++ ys),
  sum_by-cons (λ (x : Bits). x.width) x xs,
  width_append xs ys,
)

-- one number
pub packs_one : (x n low : ℕ) (old new : Written) → low_bits n low ≡ low_bits n x
    → new.bits ≡ old.bits ++ low_bits n low → new.room ≡ old.room - n → n ≤ old.room
    → Packs (record { number = x; width = n } ∷ []) old new
packs_one x n low old new same bits room fits = record {
  bits = bits ∙ ap (λ (b : List ℕ). old.bits ++ b) (same ∙ sym (append-nil (low_bits n x)));
  room = omega (arith, room, fits);
}

-- some numbers, and then others
pub packs_twice : (xs ys : List Bits) (old mid new : Written) → Packs xs old mid → Packs ys mid new
    → Packs (xs ++ ys) old new
packs_twice xs ys old mid new first second = record {
  bits = second.bits ∙ ap (λ (b : List ℕ). b ++ spread ys) first.bits
      ∙ append_assoc old.bits (spread xs) (spread ys)
      ∙ ap (λ (b : List ℕ). old.bits ++ b) (sym (spread_append xs ys));
  room = omega (arith, first.room, second.room, width_append xs ys);
}

-- all numbers are packed but the rest
pub record IsPacking (start : Written) (all rest : List Bits) (now : Written) : Type 0 where
  pub bits : now.bits ++ spread rest ≡ start.bits ++ spread all
  pub room : start.room + total_width rest ≡ now.room + total_width all

pub packing_goes_on : (start : Written) (all xs rest whole : List Bits) (now next : Written)
    → IsPacking start all whole now → whole ≡ xs ++ rest → Packs xs now next → IsPacking start all rest next
packing_goes_on start all xs rest whole now next h parts packs = record {
  bits = ap (λ (b : List ℕ). b ++ spread rest) packs.bits ∙ append_assoc now.bits (spread xs) (spread rest)
      ∙ ap (λ (b : List ℕ). now.bits ++ b) (sym (ap spread parts ∙ spread_append xs rest)) ∙ h.bits;
  room = omega (arith, h.room, packs.room, ap total_width parts, width_append xs rest);
}

pub packing_ends : (start : Written) (all rest : List Bits) (now : Written) → IsPacking start all rest now
    → rest ≡ [] → Packs all start now
packing_ends start all rest now h none = record {
  bits = sym (append-nil now.bits) ∙ ap (λ (r : List Bits). now.bits ++ spread r) (sym none) ∙ h.bits;
  room = omega (arith, h.room, ap total_width none);
}

-- there is room for what comes next
pub packing_room : (start : Written) (all xs rest whole : List Bits) (now : Written)
    → IsPacking start all whole now → whole ≡ xs ++ rest → total_width all ≤ start.room
    → total_width xs ≤ now.room
packing_room start all xs rest whole now h parts fits =
    omega (arith, h.room, fits, ap total_width parts, width_append xs rest)

-- ---- widths

pub one_width : (x n : ℕ) → total_width (record { number = x; width = n } ∷ []) ≡ n
one_width x n = sum_by-cons (λ (x : Bits). x.width) (record { number = x; width = n }) [] ∙ omega arith

pub two_width : (x n y m : ℕ)
    → total_width (record { number = x; width = n } ∷ record { number = y; width = m } ∷ []) ≡ n + m
two_width x n y m =
    sum_by-cons (λ (x : Bits). x.width) (record { number = x; width = n }) (record { number = y; width = m } ∷ [])
    ∙ ap (λ k. n + k) (one_width y m)

pub product_most : (k w m : ℕ) → w ≤ m → k * w ≤ k * m
product_most k w m le = grind arith
