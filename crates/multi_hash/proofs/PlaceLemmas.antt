-- Lemmas on codes that are placed map by map.
use Rattle.std.proofs.Common.{◌≡◌, ℕ, zero, suc, ◌+◌, ◌*◌, ◌<◌, ◌≤◌, ◌^◌, List, [], ◌∷◌, ◌++◌, length, take}
use Rattle.std.proofs.Common.{drop, map, get_or, set, Some, refl, sym, ap, ◌∙◌, subst, arith, ℤ}
use Rattle.std.specs.List.{All}
use Rattle.std.specs.Map.{keys_of}
use Rattle.std.proofs.Math.Nat.{mul-le-mul_right}
use Rattle.std.proofs.lemmas.List.{length-map, length-set}
use Rattle.bcodes.specs.Ranges.{load_limit}
use Rattle.bcodes.specs.Value.{Row, numbered, weight}
use Rattle.bcodes.proofs.NumberedLemmas.{length-numbered}
use Rattle.code_pool.specs.Lists.{IsRun, PoolLists, rows_in}
use Rattle.key_buckets.specs.Keys.{firsts, key_in, list_of, IsNumbering}
use Rattle.key_buckets.specs.Room.{IsRoomed, IsUndoable, lists_most}
use Rattle.row_lists.specs.Put.{put_on}
use Rattle.multi_hash.specs.Inside.{map_at, lists_in, row_key, IsMap, AreMaps, IsMulti, IsPosition}
use Rattle.multi_hash.specs.Partly.{IsPartly}
use Rattle.multi_hash.specs.Room.{marks, up_to}
use Rattle.multi_hash.proofs.MapsLemmas.{maps_roomed, maps_put, found_new, map_same}
use Rattle.multi_hash.proofs.MetLemmas.{take-map}
use Rattle.multi_hash.proofs.MultiLemmas.{light}
use Rattle.multi_hash.proofs.PutLemmas.{places_put, length-put}
use Rattle.multi_hash.proofs.StoreLemmas.{up_to_none, up_to_here, up_to_done, up_to_other, numbering_of, one_more}

-- ---- the codes of a run

drop-map : (f : Row → List ℕ) (n : ℕ) (rows : List Row) → drop n (map f rows) ≡ map f (drop n rows)
drop-map f zero rows = refl
drop-map f (suc n) [] = refl
drop-map f (suc n) (row ∷ rows) = drop-map f n rows

codes_of : (a : ℕ) (cs : List (List ℕ)) → map (λ (row : Row). row.code) (numbered a cs) ≡ cs
codes_of a [] = refl
codes_of a (c ∷ cs) = ap (λ (xs : List (List ℕ)). c ∷ xs) (codes_of (a + 1) cs)

keys_by_code : (i b : ℕ) (rows : List Row) → map (row_key i b) rows ≡ map (key_in i b) (map (λ (row : Row). row.code) rows)
keys_by_code i b [] = refl
keys_by_code i b (row ∷ rows) = ap (λ (ks : List ℕ). row_key i b row ∷ ks) (keys_by_code i b rows)

pub run_keys_are : (i b from size : ℕ) (codes : List (List ℕ)) (ls : List ℤ) (bs : List ℕ)
    → IsRun (numbered 0 codes) from size ls bs
    → map (row_key i b) (rows_in size ls bs) ≡ map (key_in i b) (take (length ls) (drop from codes))
run_keys_are i b from size codes ls bs run =
    let code : Row → List ℕ = λ row. row.code in
    ap (map (row_key i b)) run.rows
    ∙ keys_by_code i b (take (length ls) (drop from (numbered 0 codes)))
    ∙ ap (map (key_in i b)) (sym (take-map code (length ls) (drop from (numbered 0 codes)))
    ∙ ap (take (length ls)) (sym (drop-map code from (numbered 0 codes)) ∙ ap (drop from) (codes_of 0 codes)))

pub run_within : (from size : ℕ) (codes : List (List ℕ)) (ls : List ℤ) (bs : List ℕ)
    → IsRun (numbered 0 codes) from size ls bs → from + length ls ≤ length codes
run_within from size codes ls bs run = omega (arith, run.within, length-numbered 0 codes)

-- ---- one map more

keys_none : (es : List (ℕ × ℕ)) → keys_of es ≡ [] → es ≡ []
keys_none [] e = refl
keys_none (x ∷ es) e = absurd cc

-- a map that is not made has no key
pub unmade : (b used i : ℕ) (codes : List (List ℕ)) (maps : List (List (ℕ × ℕ))) (lists : ℕ → List Row)
    → AreMaps b used (up_to i codes []) (up_to i codes []) maps lists → i < length maps → map_at maps i ≡ []
unmade b used i codes maps lists m here = keys_none (map_at maps i)
    ((m.each i here).keys ∙ ap (λ (cs : List (List ℕ)). firsts (map (key_in i b) cs)) (up_to_here i codes []))

module _ (dim b i used : ℕ) (codes : List (List ℕ)) (maps : List (List (ℕ × ℕ))) (p : PoolLists)
    (h : IsPartly dim b i used codes maps p) (here : i < length maps) where
  abbrev n : ℕ
  n = length codes

  pub none : map_at maps i ≡ []
  none = unmade b used i codes maps (lists_in p) h.maps_are here

  pub count : used + length (map_at maps i) ≡ used
  count = omega (arith, ap length none)

  -- the keys and rows of a map more are few
  pub next_few : (i + 1) * n ≤ lists_most
  next_few =
      let up : i + 1 ≤ length maps = omega arith in
      omega (arith, mul-le-mul_right n up, (light dim (length maps) n h.load).0)

  pub keys_few : used + length (map_at maps i) + n ≤ lists_most
  keys_few = omega (arith, count, h.used_few, one_more i n, next_few)

  pub rows_few : (l : ℕ) → length (lists_in p l) + n < 2 ^ 31
  rows_few l = omega (arith, h.short l, one_more i n, next_few)

  pub numbering : IsNumbering (used + length (map_at maps i)) (map_at maps i)
  numbering = numbering_of b used (up_to i codes []) (up_to i codes []) maps (lists_in p) i
      (used + length (map_at maps i)) count h.maps_are

  pub key_within : (i + 1) * b ≤ dim
  key_within =
      let up : i + 1 ≤ length maps = omega arith in
      omega (arith, mul-le-mul_right b up, h.within)

  module _ (r q : PoolLists) (es : List (ℕ × ℕ)) (ks own : List ℕ) (are : ks ≡ map (key_in i b) codes)
      (roomed : IsRoomed used (map_at maps i) es ks (length ks) own) (u : IsUndoable used (map_at maps i) es p r)
      (rows : (l : ℕ) → lists_in q l ≡ lists_in r l ++ put_on l own (marks 0 (length own)))
      (lists : length q.lists ≡ length r.lists) (size : q.code_size ≡ 0) where
    next_is : up_to (i + 1) codes [] i ≡ [] ++ codes
    next_is = up_to_done (i + 1) i codes [] (omega arith)

    pub many : length own ≡ n
    many = roomed.count ∙ ap length are ∙ length-map codes (key_in i b)

    placed_roomed : AreMaps b (used + length es) (up_to (i + 1) codes []) (up_to i codes []) (set maps i es) (lists_in r)
    placed_roomed = maps_roomed b used i (up_to i codes []) (up_to i codes []) (up_to (i + 1) codes []) maps (lists_in p)
        (lists_in r) es used [] codes ks own h.maps_are here (up_to_here i codes []) (up_to_here i codes []) count are
        roomed u.least u.rows next_is (λ j ne. up_to_other i j codes [] ne)

    found : (t : ℕ) → t < n → list_of (map_at (set maps i es) i) (key_in i b (get_or codes t [])) ≡ Some (get_or own t 0)
    found t low = ap (λ (fs : List (ℕ × ℕ)). list_of fs (key_in i b (get_or codes t []))) (map_same maps i es here)
        ∙ found_new b used i (up_to i codes []) (up_to i codes []) (up_to (i + 1) codes []) maps (lists_in p)
        (lists_in r) es used [] codes ks own h.maps_are here (up_to_here i codes []) (up_to_here i codes []) count are
        roomed u.least u.rows next_is (λ j ne. up_to_other i j codes [] ne) t low

    rows_n : (l : ℕ) → lists_in q l ≡ lists_in r l ++ put_on l own (marks 0 n)
    rows_n l = rows l ∙ ap (λ (k : ℕ). lists_in r l ++ put_on l own (marks 0 k)) many

    long : length (set maps i es) ≡ length maps
    long = length-set maps i es

    pub partly_more : IsPartly dim b (i + 1) (used + length es) codes (set maps i es) q
    partly_more = record {
      nhash_least = omega (arith, h.nhash_least, long);
      nhash_most = omega (arith, h.nhash_most, long);
      b_least = h.b_least;
      b_most = h.b_most;
      within = subst (λ (k : ℕ). k * b ≤ dim) (sym long) h.within;
      made_most = omega (arith, long);
      maps_are = maps_put b (used + length es) i (up_to (i + 1) codes []) (up_to i codes []) (up_to (i + 1) codes [])
          (set maps i es) (lists_in r) (lists_in q) [] codes own placed_roomed (omega (arith, here, long))
          (up_to_here i codes []) many found rows_n next_is (λ j ne. up_to_other i j codes [] ne);
      shared = record {
        size = size;
        used_most = omega (arith, u.keys_most, lists);
        lists_few = omega (arith, u.lists_few, lists, h.shared.lists_few);
      };
      places = λ l. places_put n l 0 n own (lists_in r l) (lists_in q l) (omega arith) (rows_n l)
          (subst (All (IsPosition n)) (sym (u.rows l)) (h.places l));
      short = λ l. omega (
        arith,
        length-put l 0 n own (lists_in r l) (lists_in q l) (rows_n l),
        ap length (u.rows l),
        h.short l,
        one_more i n,
      );
      used_few = omega (
        arith,
        roomed.most,
        ap length none,
        ap length are,
        length-map codes (key_in i b),
        one_more i n,
        h.used_few,
      );
      load = subst (λ (k : ℕ). weight dim k n 0 ≤ load_limit) (sym long) h.load;
    }

-- ---- all maps

both_same : (b used : ℕ) (held other : ℕ → List (List ℕ)) (maps : List (List (ℕ × ℕ))) (lists : ℕ → List Row)
    → ((i : ℕ) → i < length maps → other i ≡ held i) → AreMaps b used held held maps lists
    → AreMaps b used other other maps lists
both_same b used held other maps lists e m = record {
  each = λ i low. subst (λ (cs : List (List ℕ)). IsMap i b cs cs (map_at maps i) lists) (sym (e i low))
      (m.each i low);
  below = m.below;
  apart = m.apart;
  unused = m.unused;
  few = m.few;
}

-- no map is made
pub partly_none : (dim b : ℕ) (codes : List (List ℕ)) (maps : List (List (ℕ × ℕ))) (p : PoolLists)
    → IsMulti dim b 0 0 [] maps p → weight dim (length maps) (length codes) 0 ≤ load_limit
    → IsPartly dim b 0 0 codes maps p
partly_none dim b codes maps p h load = record {
  nhash_least = h.nhash_least;
  nhash_most = h.nhash_most;
  b_least = h.b_least;
  b_most = h.b_most;
  within = h.within;
  made_most = omega arith;
  maps_are = both_same b 0 (λ i. []) (up_to 0 codes []) maps (lists_in p) (λ i low. up_to_none codes [] i) h.maps_are;
  shared = h.shared;
  places = λ l k d low. absurd (omega (arith, low, h.short l));
  short = λ l. omega (arith, h.short l);
  used_few = omega arith;
  load = load;
}

-- all maps are made
pub partly_whole : (dim b n used : ℕ) (codes : List (List ℕ)) (maps : List (List (ℕ × ℕ))) (p : PoolLists)
    → IsPartly dim b n used codes maps p → length maps ≤ n → IsMulti dim b 0 used codes maps p
partly_whole dim b n used codes maps p h all =
    let same : n ≡ length maps = omega (arith, h.made_most) in
    record {
      nhash_least = h.nhash_least;
      nhash_most = h.nhash_most;
      b_least = h.b_least;
      b_most = h.b_most;
      within = h.within;
      flips_most = omega arith;
      maps_are = both_same b used (up_to n codes []) (λ i. codes) maps (lists_in p)
          (λ i low. sym (up_to_done n i codes [] (omega (arith, low, all)))) h.maps_are;
      shared = h.shared;
      places = h.places;
      short = λ l. subst (λ (k : ℕ). length (lists_in p l) ≤ k * length codes) same (h.short l);
      used_few = subst (λ (k : ℕ). used ≤ k * length codes) same h.used_few;
      load = h.load;
    }
