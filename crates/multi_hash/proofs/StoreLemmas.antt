-- Lemmas on room for codes under all maps.
use Rattle.std.proofs.Common.{◌≡◌, ◌≢◌, ℕ, zero, suc, ◌+◌, ◌-◌, ◌*◌, ◌<◌, ◌≤◌, ◌⊎◌, inl, inr, Bool, true, false, cond}
use Rattle.std.proofs.Common.{nat_eq, nat_lt, List, [], ◌∷◌, ◌++◌, length, take, drop, map, get_or, set, max, Some, refl}
use Rattle.std.proofs.Common.{sym, ap, ◌∙◌, subst, arith, length-append, append-nil, length-take}
use Rattle.std.specs.List.{All}
use Rattle.std.proofs.lemmas.List.{drop-append-le, take-append-le, length-set, length-drop, take_all, length-map}
use Rattle.std.proofs.Math.Seq.{drop-length}
use Rattle.std.proofs.lemmas.Bool.{ne_eqb, eq-eqb, lt-ltb, le-ltb, cases_lt}
use Rattle.std.proofs.lemmas.Bool.Decides.{eqb_tells}
use Rattle.bcodes.specs.Value.{Row}
use Rattle.code_pool.specs.Lists.{PoolLists, list_at}
use Rattle.flip_walk.specs.Patterns.{times}
use Rattle.key_buckets.specs.Keys.{key_in, list_of, IsNumbering}
use Rattle.key_buckets.specs.Room.{IsRoomed, IsUndoable, lists_most}
use Rattle.row_lists.specs.Room.{HasRoomFor}
use Rattle.multi_hash.specs.Inside.{map_at, lists_in, AreMaps, IsMap, IsShared}
use Rattle.multi_hash.specs.Room.{lists_under, up_to, IsRoomy, AreUndoable, AreApart}
use Rattle.multi_hash.proofs.MapsLemmas.{maps_roomed, found_new, map_same, map_other, not_found, tells}

-- ---- the lists of one map among those of all

pub one_more : (i n : ℕ) → (i + 1) * n ≡ i * n + n
one_more i n = grind arith

pub under_old : (xs ys : List ℕ) (n j : ℕ) → (j + 1) * n ≤ length xs → lists_under (xs ++ ys) n j ≡ lists_under xs n j
under_old xs ys n j h =
    let at : j * n + n ≤ length xs = omega (arith, one_more j n) in
    ap (take n) (drop-append-le (j * n) xs ys (omega arith))
    ∙ take-append-le n (drop (j * n) xs) ys (omega (arith, length-drop (j * n) xs))

pub under_new : (xs ys : List ℕ) (n i : ℕ) → length xs ≡ i * n → length ys ≡ n → lists_under (xs ++ ys) n i ≡ ys
under_new xs ys n i h k =
    ap (take n) (drop-append-le (i * n) xs ys (omega arith)
    ∙ ap (λ (zs : List ℕ). zs ++ ys) (ap (λ (m : ℕ). drop m xs) (sym h) ∙ drop-length xs))
    ∙ take_all n ys (omega arith)

pub length-under : (xs : List ℕ) (n j : ℕ) → (j + 1) * n ≤ length xs → length (lists_under xs n j) ≡ n
length-under xs n j h = omega (arith, one_more j n, length-take n (drop (j * n) xs), length-drop (j * n) xs)

-- a number that stands somewhere
pub times-found : (l : ℕ) (ns : List ℕ) → 0 < times l ns → (t : ℕ) × (t < length ns) × (get_or ns t 0 ≡ l)
times-found l [] h = absurd (omega arith)
times-found l (n ∷ ns) h =
    elim (eqb_tells n l) [
      | inl e ↦ (0, omega arith, e.1)
      | inr e ↦
          let f = times-found l ns (omega (arith, h, ap (λ (b : Bool). cond {A = ℕ} b 1 0 + times l ns) e.0)) in
          (suc f.0, omega (arith, f.1), f.2)
    ]

-- ---- the maps so far

pub up_to_none : (all old : List (List ℕ)) (j : ℕ) → up_to 0 all old j ≡ old
up_to_none all old j = ap (λ (t : Bool). cond t all old) (le-ltb j 0 (omega arith))

pub up_to_here : (i : ℕ) (all old : List (List ℕ)) → up_to i all old i ≡ old
up_to_here i all old = ap (λ (t : Bool). cond t all old) (le-ltb i i (omega arith))

pub up_to_done : (i j : ℕ) (all old : List (List ℕ)) → j < i → up_to i all old j ≡ all
up_to_done i j all old h = ap (λ (t : Bool). cond t all old) (lt-ltb j i h)

pub up_to_other : (i j : ℕ) (all old : List (List ℕ)) → j ≢ i → up_to (i + 1) all old j ≡ up_to i all old j
up_to_other i j all old ne =
    elim (cases_lt j i) [
      | inl low ↦ up_to_done (i + 1) j all old (omega arith) ∙ sym (up_to_done i j all old low)
      | inr high ↦ ap (λ (t : Bool). cond t all old) (le-ltb j (i + 1) (above i j high ne))
          ∙ sym (ap (λ (t : Bool). cond t all old) (le-ltb j i high))
    ]
  where
    above : (i j : ℕ) → i ≤ j → j ≢ i → i + 1 ≤ j
    above i j h ne = elim (cases_lt i j) [ inl l ↦ omega arith | inr l ↦ absurd (ne (omega arith)) ]

pub numbering_of : (b used : ℕ) (held placed : ℕ → List (List ℕ)) (maps : List (List (ℕ × ℕ))) (lists : ℕ → List Row)
    (i n : ℕ) → n ≡ used → AreMaps b used held placed maps lists → IsNumbering n (map_at maps i)
numbering_of b used held placed maps lists i n e m = record {
  below = λ k l f. omega (arith, e, m.below i k l f);
  apart = λ j k l f g. (m.apart i i j k l f g).1;
}

-- ---- keys that can be taken out again

pub undoable_none : (maps : List (List (ℕ × ℕ))) (p : PoolLists) → AreUndoable maps maps p p
undoable_none maps p = record {
  count = refl;
  prefix = λ i. take_all (length (map_at maps i)) (map_at maps i) (omega arith);
  size = refl;
  rows = λ l. refl;
  lists_least = omega arith;
  lists_few = omega arith;
}

take-shorter : (m n : ℕ) (xs : List (ℕ × ℕ)) → m ≤ n → take m (take n xs) ≡ take m xs
take-shorter zero n xs h = refl
take-shorter (suc m) zero xs h = absurd (omega arith)
take-shorter (suc m) (suc n) [] h = refl
take-shorter (suc m) (suc n) (x ∷ xs) h = ap (λ l. x ∷ l) (take-shorter m n xs (omega arith))

prefix_least : (old mid : List (ℕ × ℕ)) → take (length old) mid ≡ old → length old ≤ length mid
prefix_least old mid e = omega (arith, ap length e, length-take (length old) mid)

pub undoable_more : (old mid : List (List (ℕ × ℕ))) (p q r : PoolLists) (i others : ℕ) (es : List (ℕ × ℕ))
    → i < length mid → AreUndoable old mid p q → IsUndoable others (map_at mid i) es q r
    → AreUndoable old (set mid i es) p r
undoable_more old mid p q r i others es here u o = record {
  count = length-set mid i es ∙ u.count;
  prefix = λ j. elim (tells j i) [
    | inl e ↦ subst (λ (n : ℕ). take (length (map_at old n)) (map_at (set mid i es) n) ≡ map_at old n) (sym e)
        (ap (take (length (map_at old i))) (map_same mid i es here)
        ∙ sym (take-shorter (length (map_at old i)) (length (map_at mid i)) es
        (prefix_least (map_at old i) (map_at mid i) (u.prefix i)))
        ∙ ap (take (length (map_at old i))) o.prefix ∙ u.prefix i)
    | inr ne ↦ ap (take (length (map_at old j))) (map_other mid i es here j ne) ∙ u.prefix j
  ];
  size = o.size ∙ u.size;
  rows = λ l. o.rows l ∙ u.rows l;
  lists_least = omega (arith, u.lists_least, o.lists_least);
  lists_few = omega (arith, u.lists_few, o.lists_few);
}

-- ---- one more map

module _ (b used i others : ℕ) (old new : List (List ℕ)) (maps : List (List (ℕ × ℕ))) (p q : PoolLists)
    (es : List (ℕ × ℕ)) (ks own : List ℕ) (here : i < length maps)
    (m : AreMaps b used (up_to i (old ++ new) old) (λ j. old) maps (lists_in p))
    (count : others + length (map_at maps i) ≡ used) (are : ks ≡ map (key_in i b) new)
    (r : IsRoomed others (map_at maps i) es ks (length ks) own) (u : IsUndoable others (map_at maps i) es p q)
    (room : HasRoomFor own q)
    (spare : (l : ℕ) → times l own ≡ 0 → (list_at p l).spare ≤ (list_at q l).spare) where
  pub maps_more : AreMaps b (others + length es) (up_to (i + 1) (old ++ new) old) (λ j. old) (set maps i es) (lists_in q)
  maps_more = maps_roomed b used i (up_to i (old ++ new) old) (λ j. old) (up_to (i + 1) (old ++ new) old) maps
      (lists_in p) (lists_in q) es others old new ks own m here (up_to_here i (old ++ new) old) refl count are r u.least
      u.rows (up_to_done (i + 1) i (old ++ new) old (omega arith)) (λ j ne. up_to_other i j (old ++ new) old ne)

  found : (t : ℕ) → t < length new → list_of es (key_in i b (get_or new t [])) ≡ Some (get_or own t 0)
  found = found_new b used i (up_to i (old ++ new) old) (λ j. old) (up_to (i + 1) (old ++ new) old) maps
      (lists_in p) (lists_in q) es others old new ks own m here (up_to_here i (old ++ new) old) refl count are r u.least
      u.rows (up_to_done (i + 1) i (old ++ new) old (omega arith)) (λ j ne. up_to_other i j (old ++ new) old ne)

  found_own : (t : ℕ) → t < length new
      → list_of (map_at (set maps i es) i) (key_in i b (get_or new t [])) ≡ Some (get_or own t 0)
  found_own t low = ap (λ (fs : List (ℕ × ℕ)). list_of fs (key_in i b (get_or new t []))) (map_same maps i es here)
      ∙ found t low

  many : length own ≡ length new
  many = r.count ∙ ap length are ∙ length-map new (key_in i b)

  pub roomy_own : IsRoomy i b (set maps i es) new own q
  roomy_own = record { count = many; found = found_own; room = room }

  pub roomy_kept : (j : ℕ) (ns : List ℕ) → j ≢ i → IsRoomy j b maps new ns p → IsRoomy j b (set maps i es) new ns q
  roomy_kept j ns ne y =
      let found_there : (t : ℕ) → t < length new
      → list_of (map_at (set maps i es) j) (key_in j b (get_or new t [])) ≡ Some (get_or ns t 0) = λ t low.
      ap (λ (fs : List (ℕ × ℕ)). list_of fs (key_in j b (get_or new t []))) (map_other maps i es here j ne)
      ∙ y.found t low in
      record {
        count = y.count;
        found = found_there;
        room = λ l. elim (cases_lt 0 (times l ns)) [
          | inl some ↦
              let f = times-found l ns some in
              let none : times l own ≡ 0 = not_found b (others + length es) (up_to (i + 1) (old ++ new) old)
              (λ j. old) (set maps i es) (lists_in q) maps_more i j _ l new own many found_own ne
              (found_there f.0 (omega (arith, f.1, y.count)) ∙ ap Some f.2) in
              omega (arith, y.room l, spare l none)
          | inr none ↦ omega arith
        ];
      }

-- ---- before the first map, and after the last

held_same : (b used : ℕ) (held other placed : ℕ → List (List ℕ)) (maps : List (List (ℕ × ℕ))) (lists : ℕ → List Row)
    → ((i : ℕ) → i < length maps → other i ≡ held i) → AreMaps b used held placed maps lists
    → AreMaps b used other placed maps lists
held_same b used held other placed maps lists e m = record {
  each = λ i low. subst (λ (cs : List (List ℕ)). IsMap i b cs (placed i) (map_at maps i) lists) (sym (e i low))
      (m.each i low);
  below = m.below;
  apart = m.apart;
  unused = m.unused;
  few = m.few;
}

pub maps_first : (b used : ℕ) (all old : List (List ℕ)) (maps : List (List (ℕ × ℕ))) (lists : ℕ → List Row)
    → AreMaps b used (λ i. old) (λ i. old) maps lists → AreMaps b used (up_to 0 all old) (λ i. old) maps lists
maps_first b used all old maps lists m = held_same b used (λ i. old) (up_to 0 all old) (λ i. old) maps lists
    (λ i low. up_to_none all old i) m

pub maps_last : (b used n : ℕ) (all old : List (List ℕ)) (maps : List (List (ℕ × ℕ))) (lists : ℕ → List Row)
    → length maps ≤ n → AreMaps b used (up_to n all old) (λ i. old) maps lists
    → AreMaps b used (λ i. all) (λ i. old) maps lists
maps_last b used n all old maps lists h m = held_same b used (up_to n all old) (λ i. all) (λ i. old) maps lists
    (λ i low. sym (up_to_done n i all old (omega arith))) m

-- a vector whose items were written as a slice
pub written : {X : Type 0} (n : ℕ) (ys xs : List X) → length ys ≡ n → take n (ys ++ drop (length ys) xs) ≡ ys
written n ys xs e = take-append-le n ys (drop (length ys) xs) (omega arith) ∙ take_all n ys (omega arith)
