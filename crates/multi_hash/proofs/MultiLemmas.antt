-- Lemmas on a MultiHash before and after an add.
use Rattle.std.proofs.Common.{◌≡◌, ◌≢◌, ℕ, zero, suc, ◌+◌, ◌-◌, ◌*◌, ◌/◌, ◌<◌, ◌≤◌, ◌^◌, ◌⊎◌, inl, inr, Bool, true, false}
use Rattle.std.proofs.Common.{cond, nat_eq, nat_lt, List, [], ◌∷◌, ◌++◌, length, take, map, get_or, max, Some, None, refl}
use Rattle.std.proofs.Common.{sym, ap, ◌∙◌, subst, arith, length-append, append-nil, ℤ, pos}
use Rattle.std.specs.List.{All}
use Rattle.std.proofs.Math.Nat.{mul-le-mul_right, mul-le-mul_left}
use Rattle.std.proofs.Common.{◌<ℤ◌}
use Rattle.std.proofs.lemmas.Int.{ints}
use Rattle.std.proofs.lemmas.Bool.{cases_lt}
use Rattle.std.proofs.lemmas.List.{get_or-map, length-map, get_or_default, get_or_past}
use Rattle.std.proofs.lemmas.List.Elements.{All-nil, All-weaker}
use Rattle.bcodes.specs.Ranges.{load_limit, IsDim}
use Rattle.bcodes.specs.Value.{Row, MultiValue, Multi, Bare, IsLegalMulti, IsCode, IndexValue, weight, load_of, numbered}
use Rattle.bcodes.specs.Value.{IsPlace}
use Rattle.bcodes.specs.Answers.{after_add, paired}
use Rattle.code_pool.specs.Lists.{PoolLists, list_at}
use Rattle.flip_walk.specs.Patterns.{times}
use Rattle.key_buckets.specs.Keys.{key_in, list_of}
use Rattle.row_lists.specs.Put.{put_on}
use Rattle.row_lists.proofs.PutLemmas.{put_on-none}
use Rattle.key_buckets.specs.Room.{lists_most}
use Rattle.multi_hash.specs.Inside.{map_at, lists_in, IsMap, AreMaps, IsShared, IsMulti, IsPosition}
use Rattle.multi_hash.specs.Room.{marks, lists_under, IsRoomy, AreUndoable, AreApart}
use Rattle.multi_hash.proofs.MapsLemmas.{parts_put, not_found, not_used, tells}
use Rattle.multi_hash.proofs.StoreLemmas.{times-found, length-under}
use Rattle.multi_hash.proofs.PutLemmas.{put_so_far}

-- ---- numbers within the load limit

least_weight : (d maps : ℕ) → 64 * maps + 16 ≤ d / 8 + 16 + 64 * maps
least_weight d maps = omega arith

-- so few keys and rows
pub light : (d maps n : ℕ) → weight d maps n 0 ≤ load_limit → (maps * n ≤ 16777216) × (n ≤ 67108864)
light d maps n h =
    let k : n * (64 * maps + 16) ≤ n * (d / 8 + 16 + 64 * maps) = mul-le-mul_left n (least_weight d maps) in
    let e : n * (64 * maps + 16) ≡ 64 * (maps * n) + 16 * n = grind arith in
    (omega (arith, k, e), omega (arith, k, e))

-- a MultiHash weighs more than the Flat of its codes
lighter : (d maps n : ℕ) → weight d 0 n 0 ≤ weight d maps n 0
lighter d maps n =
    let low : d / 8 + 16 + 64 * 0 ≤ d / 8 + 16 + 64 * maps = omega arith in
    let k : n * (d / 8 + 16 + 64 * 0) ≤ n * (d / 8 + 16 + 64 * maps) = mul-le-mul_left n low in
    omega (arith, k)

pub light_flat : (d maps n : ℕ) → weight d maps n 0 ≤ load_limit → weight d 0 n 0 ≤ load_limit
light_flat d maps n h = omega (arith, lighter d maps n)

pub more_codes : (m old new : ℕ) → m * (old + new) ≡ m * old + m * new
more_codes m old new = grind arith

-- ---- an index without codes

pub multi_none : (dim b used : ℕ) (maps : List (List (ℕ × ℕ))) (p : PoolLists) → used ≡ 0 → 1 ≤ length maps
    → length maps ≤ 1024 → 1 ≤ b → b ≤ 64 → length maps * b ≤ dim → ((i : ℕ) → map_at maps i ≡ [])
    → p ≡ record { code_size = 0; lists = []; free = 0 } → IsMulti dim b 0 used [] maps p
multi_none dim b used maps p e least most b_least b_most within none is = record {
  nhash_least = least;
  nhash_most = most;
  b_least = b_least;
  b_most = b_most;
  within = within;
  flips_most = omega arith;
  maps_are = record {
    each = λ i low. subst (λ (es : List (ℕ × ℕ)). IsMap i b [] [] es (lists_in p)) (sym (none i))
        (record { known = All-nil _; keys = refl; parts = λ k l f. absurd (nothing l f) });
    below = λ i k l f. absurd (nothing l (ap (λ (es : List (ℕ × ℕ)). list_of es k) (sym (none i)) ∙ f));
    apart = λ i j k m l f g. absurd (nothing l (ap (λ (es : List (ℕ × ℕ)). list_of es k) (sym (none i)) ∙ f));
    unused = λ l h. empty l;
    few = λ i. omega (arith, ap length (none i));
  };
  shared = record {
    size = ap (λ (x : PoolLists). x.code_size) is;
    used_most = omega (arith, e);
    lists_few = omega (arith, ap (λ (x : PoolLists). length x.lists) is);
  };
  places = λ l. subst (All (IsPosition 0)) (sym (empty l)) (All-nil (IsPosition 0));
  short = λ l. omega (arith, ap length (empty l));
  used_few = omega (arith, e);
  load = omega arith;
}
  where
    nothing : (l : ℕ) → None ≡ Some l → ⊥
    nothing l f = cc

    empty : (l : ℕ) → lists_in p l ≡ []
    empty l = ap (λ (x : PoolLists). lists_in x l) is

-- ---- the maps once all buckets show new codes

module _ (b used n nhash : ℕ) (old new : List (List ℕ)) (maps : List (List (ℕ × ℕ))) (p q : PoolLists)
    (lists : List ℕ) (count : n ≡ length new) (all : nhash ≡ length maps) (some : 1 ≤ nhash)
    (m : AreMaps b used (λ i. old ++ new) (λ i. old) maps (lists_in p))
    (roomy : (i : ℕ) → i < nhash → IsRoomy i b maps new (lists_under lists n i) p) where
  found_in : (i t : ℕ) → i < nhash → t < length new
      → list_of (map_at maps i) (key_in i b (get_or new t [])) ≡ Some (get_or (lists_under lists n i) t 0)
  found_in i t low h = (roomy i low).found t h

  alone : (i j k l : ℕ) → j < nhash → j ≢ i → list_of (map_at maps i) k ≡ Some l → times l (lists_under lists n j) ≡ 0
  alone i j k l low ne e = not_found b used (λ i. old ++ new) (λ i. old) maps (lists_in p) m j i k l new
      (lists_under lists n j) (roomy j low).count (λ t h. found_in j t low h) (λ f. ne (sym f)) e

  pub apart_lists : AreApart lists nhash n
  apart_lists i j l hi hj ne some_times =
      let f = times-found l (lists_under lists n i) some_times in
      alone i j _ l hj ne (found_in i f.0 hi (omega (arith, f.1, (roomy i hi).count)) ∙ ap Some f.2)

  module _ (rows : (i l : ℕ) → i < nhash
      → ((j : ℕ) → j < nhash → j ≢ i → times l (lists_under lists n j) ≡ 0)
      → lists_in q l ≡ lists_in p l ++ put_on l (lists_under lists n i) (marks (length old) n)) where
    put_rows : (i l : ℕ) → i < nhash
        → ((j : ℕ) → j < nhash → j ≢ i → times l (lists_under lists n j) ≡ 0)
        → lists_in q l ≡ lists_in p l ++ put_on l (lists_under lists n i) (marks (length old) (length new))
    put_rows i l low h = rows i l low h
        ∙ ap (λ (k : ℕ). lists_in p l ++ put_on l (lists_under lists n i) (marks (length old) k)) count

    put_map : (i : ℕ) → i < length maps → IsMap i b (old ++ new) (old ++ new) (map_at maps i) (lists_in q)
    put_map i h =
        let low : i < nhash = omega arith in
        record {
          known = (m.each i h).known;
          keys = (m.each i h).keys;
          parts = λ k l e. parts_put i b (map_at maps i) (λ j r s f g. (m.apart i i j r s f g).1) k l old new
              (lists_under lists n i) (lists_in p l) (lists_in q l) e (roomy i low).count
              (λ t h. found_in i t low h) ((m.each i h).parts k l e)
              (put_rows i l low (λ j lower ne. alone i j k l lower ne e));
        }

    unused_put : (l : ℕ) → used ≤ l → lists_in q l ≡ []
    unused_put l far =
        let none : (j : ℕ) → j < nhash → times l (lists_under lists n j) ≡ 0 = λ j low.
        not_used b used (λ i. old ++ new) (λ i. old) maps (lists_in p) m j l new (lists_under lists n j)
        (roomy j low).count (λ t h. found_in j t low h) far in
        put_rows 0 l (omega arith) (λ j low ne. none j low)
        ∙ ap (λ (rs : List Row). lists_in p l ++ rs)
        (put_on-none l (lists_under lists n 0) (marks (length old) (length new)) (none 0 (omega arith)))
        ∙ append-nil (lists_in p l) ∙ m.unused l far

    pub maps_placed : AreMaps b used (λ i. old ++ new) (λ i. old ++ new) maps (lists_in q)
    maps_placed = record {
      each = put_map;
      below = m.below;
      apart = m.apart;
      unused = unused_put;
      few = m.few;
    }

-- ---- an index after an add

-- what an add leaves of the numbers of a pool
pub record IsGrown (old new nhash : ℕ) (before p q : PoolLists) : Type 0 where
  pub rows : (l : ℕ) → lists_in p l ≡ lists_in before l
  pub places : (n l : ℕ) → old + new ≤ n → All (IsPosition n) (lists_in p l) → All (IsPosition n) (lists_in q l)
  pub short : (l : ℕ) → length (lists_in q l) ≤ length (lists_in p l) + nhash * new
  pub lists : length q.lists ≡ length p.lists
  pub size : q.code_size ≡ 0

pub multi_added : (dim b nflip used keys nhash : ℕ) (old new : List (List ℕ)) (before after : List (List (ℕ × ℕ)))
    (first p q : PoolLists) → IsMulti dim b nflip used old before first → nhash ≡ length before
    → length after ≡ length before → IsShared keys p → keys ≤ used + nhash * length new
    → IsGrown (length old) (length new) nhash first p q
    → AreMaps b keys (λ i. old ++ new) (λ i. old ++ new) after (lists_in q)
    → weight dim nhash (length old + length new) 0 ≤ load_limit → IsMulti dim b nflip keys (old ++ new) after q
multi_added dim b nflip used keys nhash old new before after first p q h all same shared few g maps load =
    let long : length (old ++ new) ≡ length old + length new = length-append old new in
    let maps_same : nhash ≡ length after = omega arith in
    let total : length after * length (old ++ new) ≡ nhash * length old + nhash * length new
    = ap (λ (n : ℕ). length after * n) long ∙ ap (λ (m : ℕ). m * (length old + length new)) (sym maps_same)
    ∙ more_codes nhash (length old) (length new) in
    let was : length before * length old ≡ nhash * length old = ap (λ (m : ℕ). m * length old) (sym all) in
    record {
      nhash_least = omega (arith, h.nhash_least, same);
      nhash_most = omega (arith, h.nhash_most, same);
      b_least = h.b_least;
      b_most = h.b_most;
      within = subst (λ (m : ℕ). m * b ≤ dim) (sym same) h.within;
      flips_most = h.flips_most;
      maps_are = maps;
      shared = record {
        size = g.size;
        used_most = omega (arith, g.lists, shared.used_most);
        lists_few = omega (arith, g.lists, shared.lists_few);
      };
      places = λ l. subst (λ (n : ℕ). All (IsPosition n) (lists_in q l)) (sym long)
          (g.places (length old + length new) l (omega arith) (subst (All (IsPosition (length old + length new)))
          (sym (g.rows l)) (All-weaker (IsPosition (length old)) (IsPosition (length old + length new))
          (λ row is. record { least = is.least; most = further row is.most }) (lists_in first l) (h.places l))));
      short = λ l. omega (arith, g.short l, ap length (g.rows l), h.short l, total, was);
      used_few = omega (arith, few, h.used_few, total, was);
      load = subst (λ (n : ℕ). weight dim (length after) n 0 ≤ load_limit) (sym long)
          (subst (λ (m : ℕ). weight dim m (length old + length new) 0 ≤ load_limit) maps_same load);
    }
  where
    further : (row : Row) → row.label <ℤ pos (length old) → row.label <ℤ pos (length old + length new)
    further row less = omega (arith, ints)

-- an index after an add that was given up
pub multi_undone : (dim b nflip used : ℕ) (codes : List (List ℕ)) (before mid after : List (List (ℕ × ℕ)))
    (p q : PoolLists) → IsMulti dim b nflip used codes before p → AreUndoable before mid p q
    → length after ≡ length mid
    → ((i : ℕ) → i < length mid → map_at after i ≡ take (length (map_at before i)) (map_at mid i))
    → IsMulti dim b nflip used codes after q
multi_undone dim b nflip used codes before mid after p q h u same back =
    let count : length after ≡ length before = omega (arith, same, u.count) in
    let maps_same : (i : ℕ) → map_at after i ≡ map_at before i = λ i. elim (cases_lt i (length mid)) [
      | inl low ↦ back i low ∙ u.prefix i
      | inr high ↦ get_or_past after i [] (omega arith) ∙ sym (get_or_past before i [] (omega (arith, u.count)))
    ] in
    let m = h.maps_are in
    let at : (i k l : ℕ) → list_of (map_at after i) k ≡ Some l → list_of (map_at before i) k ≡ Some l = λ i k l e.
    ap (λ (es : List (ℕ × ℕ)). list_of es k) (sym (maps_same i)) ∙ e in
    record {
      nhash_least = omega (arith, h.nhash_least, count);
      nhash_most = omega (arith, h.nhash_most, count);
      b_least = h.b_least;
      b_most = h.b_most;
      within = subst (λ (n : ℕ). n * b ≤ dim) (sym count) h.within;
      flips_most = h.flips_most;
      maps_are = record {
        each = λ i low. subst (λ (es : List (ℕ × ℕ)). IsMap i b codes codes es (lists_in q)) (sym (maps_same i))
            (record {
              known = (m.each i (omega (arith, count))).known;
              keys = (m.each i (omega (arith, count))).keys;
              parts = λ k l e. u.rows l ∙ (m.each i (omega (arith, count))).parts k l e;
            });
        below = λ i k l e. m.below i k l (at i k l e);
        apart = λ i j k n l e f. m.apart i j k n l (at i k l e) (at j n l f);
        unused = λ l far. u.rows l ∙ m.unused l far;
        few = λ i. omega (arith, ap length (maps_same i), m.few i);
      };
      shared = record {
        size = u.size ∙ h.shared.size;
        used_most = omega (arith, u.lists_least, h.shared.used_most);
        lists_few = omega (arith, u.lists_few, h.shared.lists_few);
      };
      places = λ l. subst (All (IsPosition (length codes))) (sym (u.rows l)) (h.places l);
      short = λ l. omega (
        arith,
        ap length (u.rows l),
        h.short l,
        ap (λ (n : ℕ). n * length codes) count,
      );
      used_few = omega (arith, h.used_few, ap (λ (n : ℕ). n * length codes) count);
      load = subst (λ (n : ℕ). weight dim n (length codes) 0 ≤ load_limit) (sym count) h.load;
    }

-- ---- legality

pub legal_multi : (dim b nflip used : ℕ) (codes : List (List ℕ)) (maps : List (List (ℕ × ℕ))) (p : PoolLists)
    → IsMulti dim b nflip used codes maps p → IsDim dim → All (IsCode dim) codes
    → IsLegalMulti (record { dim = dim; nhash = length maps; b = b; nflip = nflip; codes = codes })
legal_multi dim b nflip used codes maps p h range all = record {
  dim = range;
  nhash_least = h.nhash_least;
  nhash_most = h.nhash_most;
  b_least = h.b_least;
  b_most = h.b_most;
  within = h.within;
  nflip = h.flips_most;
  codes = all;
  load = h.load;
}

-- ---- the value after an add

codes_paired : (ls : List ℤ) (cs : List (List ℕ)) → length ls ≡ length cs
    → map (λ (row : Row). row.code) (paired ls cs) ≡ cs
codes_paired [] [] h = refl
codes_paired [] (c ∷ cs) h = absurd (omega arith)
codes_paired (l ∷ ls) [] h = refl
codes_paired (l ∷ ls) (c ∷ cs) h = ap (λ (xs : List (List ℕ)). c ∷ xs) (codes_paired ls cs (omega arith))

pub after_add_multi : (v : MultiValue) (ls : List ℤ) (cs : List (List ℕ)) → length ls ≡ length cs
    → after_add (Bare (Multi v)) ls cs ≡ Bare (Multi (record v { codes = v.codes ++ cs }))
unfolding after_add
after_add_multi v ls cs same =
    ap (λ (xs : List (List ℕ)). Bare (Multi (record v { codes = v.codes ++ xs }))) (codes_paired ls cs same)

pub load_added : (v : MultiValue) (ls : List ℤ) (cs : List (List ℕ)) → length ls ≡ length cs
    → load_of (after_add (Bare (Multi v)) ls cs) ≤ load_limit
    → weight v.dim v.nhash (length v.codes + length cs) 0 ≤ load_limit
load_added v ls cs same h =
    subst (λ (n : ℕ). weight v.dim v.nhash n 0 ≤ load_limit) (length-append v.codes cs)
    (subst (λ (w : IndexValue). load_of w ≤ load_limit) (after_add_multi v ls cs same) h)
