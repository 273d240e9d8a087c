-- Lemmas on maps before and after an add.
use Rattle.std.proofs.Common.{◌≡◌, ◌≢◌, ℕ, zero, suc, ◌+◌, ◌-◌, ◌*◌, ◌<◌, ◌≤◌, ◌⊎◌, inl, inr, Bool, true, false, cond}
use Rattle.std.proofs.Common.{nat_eq, nat_lt, pos, List, [], ◌∷◌, ◌++◌, length, take, drop, map, get_or, set, max, Option}
use Rattle.std.proofs.Common.{Some, None, refl, sym, ap, ◌∙◌, subst, arith, length-append, append-nil, add-zero, zero-add}
use Rattle.std.proofs.Common.{get_or-set_same, get_or-set_other}
use Rattle.std.specs.List.{filter, All}
use Rattle.std.specs.Map.{keys_of}
use Rattle.std.proofs.lemmas.List.{length-set, length-map, map-append, get_or-map, take_all}
use Rattle.std.proofs.lemmas.List.Elements.{All-head, All-tail, All-append, All-from_get_or, filter-append}
use Rattle.std.proofs.lemmas.Bool.{ne_eqb, eq-eqb}
use Rattle.std.proofs.lemmas.Bool.Decides.{eqb_tells}
use Rattle.bcodes.specs.Value.{Row, numbered}
use Rattle.bcodes.proofs.NumberedLemmas.{numbered-append}
use Rattle.flip_walk.specs.Patterns.{times, under}
use Rattle.key_buckets.specs.Keys.{firsts, key_in, list_of, IsNumbering}
use Rattle.row_lists.specs.Put.{put_on}
use Rattle.key_buckets.specs.Room.{IsRoomed}
use Rattle.row_lists.proofs.PutLemmas.{put_on-none}
use Rattle.multi_hash.specs.Inside.{mark_of, row_key, map_at, IsMap, AreMaps}
use Rattle.multi_hash.specs.Room.{marks}

-- ---- lists of keys

some_one : (o : Option ℕ) (l m : ℕ) → o ≡ Some l → o ≡ Some m → l ≡ m
some_one o l m e f = cc

absent_here : (o : Option ℕ) → ((l : ℕ) → o ≡ Some l → ⊥) → o ≡ None
absent_here None h = refl
absent_here (Some l) h = absurd (h l refl)

pub tells : (m n : ℕ) → (m ≡ n) ⊎ (m ≢ n)
tells m n = elim (eqb_tells m n) [ inl e ↦ inl e.1 | inr e ↦ inr e.1 ]

-- a number that stands nowhere
pub times-absent : (l : ℕ) (ns : List ℕ) → ((t : ℕ) → t < length ns → get_or ns t 0 ≢ l) → times l ns ≡ 0
times-absent l [] h = refl
times-absent l (n ∷ ns) h =
    let other : nat_eq n l ≡ false = ne_eqb n l (h 0 (omega arith)) in
    omega (
      arith,
      ap (λ (b : Bool). cond {A = ℕ} b 1 0 + times l ns) other,
      times-absent l ns (λ t low. h (suc t) (omega arith)),
    )

-- ---- the tables with another in place of one

module _ (maps : List (List (ℕ × ℕ))) (i : ℕ) (es : List (ℕ × ℕ)) (here : i < length maps) where
  pub map_same : map_at (set maps i es) i ≡ es
  map_same = get_or-set_same maps i es [] here

  pub map_other : (j : ℕ) → j ≢ i → map_at (set maps i es) j ≡ map_at maps j
  map_other j ne = get_or-set_other maps i j es [] ne

  map_cases : (j k l : ℕ) → list_of (map_at (set maps i es) j) k ≡ Some l
      → ((j ≡ i) × (list_of es k ≡ Some l)) ⊎ ((j ≢ i) × (list_of (map_at maps j) k ≡ Some l))
  map_cases j k l e =
      elim (tells j i) [
        | inl same ↦ inl (
          same,
          ap (λ (fs : List (ℕ × ℕ)). list_of fs k)
              (sym (ap (map_at (set maps i es)) same ∙ map_same)) ∙ e,
        )
        | inr ne ↦ inr (ne, ap (λ (fs : List (ℕ × ℕ)). list_of fs k) (sym (map_other j ne)) ∙ e)
      ]

-- ---- room for the codes of one map

-- the rows under a key that none of them has
under-none : (i b k : ℕ) (p : ℕ) (codes : List (List ℕ)) → All (λ code. key_in i b code ≢ k) codes
    → under (row_key i b) (numbered p codes) k ≡ []
under-none i b k p [] h = refl
under-none i b k p (code ∷ codes) h =
    let other : nat_eq k (key_in i b code) ≡ false = ne_eqb k (key_in i b code)
    (λ e. All-head (λ code. key_in i b code ≢ k) code codes h (sym e)) in
    ap (λ (t : Bool). cond t (record { label = pos p; code = code } ∷ under (row_key i b) (numbered (p + 1) codes) k)
    (under (row_key i b) (numbered (p + 1) codes) k)) other
    ∙ under-none i b k (p + 1) codes (All-tail (λ code. key_in i b code ≢ k) code codes h)

module _ (b used i : ℕ) (held placed new_held : ℕ → List (List ℕ)) (maps : List (List (ℕ × ℕ)))
    (lists after : ℕ → List Row) (es : List (ℕ × ℕ)) (others : ℕ) (old new : List (List ℕ)) (ks ns : List ℕ)
    (m : AreMaps b used held placed maps lists) (here : i < length maps)
    (old_held : held i ≡ old) (old_placed : placed i ≡ old) (count : others + length (map_at maps i) ≡ used)
    (are : ks ≡ map (key_in i b) new) (r : IsRoomed others (map_at maps i) es ks (length ks) ns)
    (wider : length (map_at maps i) ≤ length es) (same : (l : ℕ) → after l ≡ lists l)
    (at : new_held i ≡ old ++ new) (elsewhere : (j : ℕ) → j ≢ i → new_held j ≡ held j) where
  own : IsMap i b old old (map_at maps i) lists
  own = subst (λ (cs : List (List ℕ)). IsMap i b old cs (map_at maps i) lists) old_placed
      (subst (λ (cs : List (List ℕ)). IsMap i b cs (placed i) (map_at maps i) lists) old_held (m.each i here))

  -- a list of the map is the old one of its key, or further than all that were used
  fresh : (k l : ℕ) → list_of es k ≡ Some l → (list_of (map_at maps i) k ≡ Some l) ⊎ (used ≤ l)
  fresh k l e = elim (r.fresh k l e) [ inl f ↦ inl f | inr f ↦ inr (omega (arith, f, count)) ]

  key_of_new : (t : ℕ) → t < length new → get_or ks t 0 ≡ key_in i b (get_or new t [])
  key_of_new t low = ap (λ (xs : List ℕ). get_or xs t 0) are ∙ get_or-map (key_in i b) new t [] 0 low

  many : length ks ≡ length new
  many = ap length are ∙ length-map new (key_in i b)

  pub found_new : (t : ℕ) → t < length new → list_of es (key_in i b (get_or new t [])) ≡ Some (get_or ns t 0)
  found_new t low = ap (list_of es) (sym (key_of_new t low)) ∙ r.found t (omega (arith, many))

  no_old : (k l : ℕ) → list_of es k ≡ Some l → used ≤ l → All (λ code. key_in i b code ≢ k) old
  no_old k l e far j d low same_key =
      let known = own.known j d low in
      let kept : list_of es k ≡ Some known.0 = ap (list_of es) (sym same_key) ∙ r.kept _ known.0 known.1 in
      clash (m.below i _ known.0 known.1) (some_one (list_of es k) known.0 l kept e) far
    where
      clash : {x y z : ℕ} → x < z → x ≡ y → z ≤ y → ⊥
      clash f g h = omega arith

  parts : (k l : ℕ) → list_of es k ≡ Some l → after l ≡ map mark_of (under (row_key i b) (numbered 0 old) k)
  parts k l e =
      elim (fresh k l e) [
        | inl f ↦ same l ∙ own.parts k l f
        | inr far ↦ same l ∙ m.unused l far
            ∙ ap (map mark_of) (sym (under-none i b k 0 old (no_old k l e far)))
      ]

  known : All (λ code. (l : ℕ) × (list_of es (key_in i b code) ≡ Some l)) (old ++ new)
  known = All-append (λ code. (l : ℕ) × (list_of es (key_in i b code) ≡ Some l)) old new
      (λ j d low. let f = own.known j d low in (f.0, r.kept _ f.0 f.1))
      (All-from_get_or (λ code. (l : ℕ) × (list_of es (key_in i b code) ≡ Some l)) new []
      (λ t low. (get_or ns t 0, found_new t low)))

  keys : keys_of es ≡ firsts (map (key_in i b) (old ++ new))
  keys = r.firsts (map (key_in i b) old) own.keys
      ∙ ap (λ (js : List ℕ). firsts (map (key_in i b) old ++ js)) (take_all (length ks) ks (omega arith) ∙ are)
      ∙ ap firsts (sym (map-append (key_in i b) old new))

  roomed_map : IsMap i b (new_held i) (placed i) es after
  roomed_map = subst (λ (cs : List (List ℕ)). IsMap i b (new_held i) cs es after) (sym old_placed)
      (subst (λ (cs : List (List ℕ)). IsMap i b cs old es after) (sym at)
      (record { known = known; keys = keys; parts = parts }))

  other_map : (j : ℕ) → j < length maps → j ≢ i → IsMap j b (new_held j) (placed j) (map_at maps j) after
  other_map j low ne = subst (λ (cs : List (List ℕ)). IsMap j b cs (placed j) (map_at maps j) after)
      (sym (elsewhere j ne))
      (record {
        known = (m.each j low).known;
        keys = (m.each j low).keys;
        parts = λ k l e. same l ∙ (m.each j low).parts k l e;
      })

  each : (j : ℕ) → j < length maps → IsMap j b (new_held j) (placed j) (map_at (set maps i es) j) after
  each j low =
      elim (tells j i) [
        | inl e ↦ subst (λ (n : ℕ). IsMap n b (new_held n) (placed n) (map_at (set maps i es) n) after) (sym e)
            (subst (λ (fs : List (ℕ × ℕ)). IsMap i b (new_held i) (placed i) fs after)
            (sym (map_same maps i es here)) roomed_map)
        | inr ne ↦ subst (λ (fs : List (ℕ × ℕ)). IsMap j b (new_held j) (placed j) fs after)
            (sym (map_other maps i es here j ne)) (other_map j low ne)
      ]

  more : used ≤ others + length es
  more = omega (arith, count, wider)

  below : (j k l : ℕ) → list_of (map_at (set maps i es) j) k ≡ Some l → l < others + length es
  below j k l e =
      elim (map_cases maps i es here j k l e) [
        | inl c ↦ r.numbering.below k l c.1
        | inr c ↦ omega (arith, m.below j k l c.1, more)
      ]

  -- a list of the map that another map has too would be an old one
  crossed : (j k n l : ℕ) → j ≢ i → list_of es k ≡ Some l → list_of (map_at maps j) n ≡ Some l → ⊥
  crossed j k n l ne e f =
      elim (fresh k l e) [
        | inl o ↦ ne (m.apart j i n k l f o).0
        | inr far ↦ omega (arith, far, m.below j n l f)
      ]

  apart : (j h k n l : ℕ) → list_of (map_at (set maps i es) j) k ≡ Some l → list_of (map_at (set maps i es) h) n ≡ Some l
      → (j ≡ h) × (k ≡ n)
  apart j h k n l e f =
      elim (map_cases maps i es here j k l e) [
        | inl c ↦ elim (map_cases maps i es here h n l f) [
          | inl d ↦ (c.0 ∙ sym d.0, r.numbering.apart k n l c.1 d.1)
          | inr d ↦ absurd (crossed h k n l d.0 c.1 d.1)
        ]
        | inr c ↦ elim (map_cases maps i es here h n l f) [
          | inl d ↦ absurd (crossed j n k l c.0 d.1 c.1)
          | inr d ↦ m.apart j h k n l c.1 d.1
        ]
      ]

  few : (j : ℕ) → length (map_at (set maps i es) j) ≤ others + length es
  few j =
      elim (tells j i) [
        | inl e ↦ omega (arith, ap (λ (n : ℕ). length (map_at (set maps i es) n)) e, ap length (map_same maps i es here))
        | inr ne ↦ omega (arith, ap length (map_other maps i es here j ne), m.few j, more)
      ]

  -- the maps once a map has keys for new codes
  pub maps_roomed : AreMaps b (others + length es) new_held placed (set maps i es) after
  maps_roomed = record {
    each = λ j low. each j (omega (arith, low, length-set maps i es));
    below = below;
    apart = apart;
    unused = λ l far. same l ∙ m.unused l (omega (arith, far, more));
    few = few;
  }

-- ---- new codes in the buckets of one map

pub marks_are : (p : ℕ) (codes : List (List ℕ)) → map mark_of (numbered p codes) ≡ marks p (length codes)
marks_are p [] = refl
marks_are p (code ∷ codes) = ap (λ (rows : List Row). record { label = pos p; code = [] } ∷ rows)
    (marks_are (p + 1) codes)

module _ (i b : ℕ) (es : List (ℕ × ℕ)) (apart : (j k l : ℕ) → list_of es j ≡ Some l → list_of es k ≡ Some l → j ≡ k) where
  same_test : (k l : ℕ) (code : List ℕ) (n : ℕ) → list_of es k ≡ Some l → list_of es (key_in i b code) ≡ Some n
      → nat_eq l n ≡ nat_eq k (key_in i b code)
  same_test k l code n e f =
      elim (eqb_tells l n) [
        | inl t ↦ t.0 ∙ sym (eq-eqb k (key_in i b code) (apart k (key_in i b code) l e (f ∙ ap Some (sym t.1))))
        | inr t ↦ t.0 ∙ sym (ne_eqb k (key_in i b code)
            (λ same. t.1 (some_one (list_of es k) l n e (ap (list_of es) same ∙ f))))
      ]

  cond_map : (t : Bool) (row : Row) (rows : List Row)
      → cond t (mark_of row ∷ map mark_of rows) (map mark_of rows) ≡ map mark_of (cond t (row ∷ rows) rows)
  cond_map true row rows = refl
  cond_map false row rows = refl

  -- those of the new positions that are put on the list of a key
  put_on-keys : (k l p : ℕ) (codes : List (List ℕ)) (ns : List ℕ) → list_of es k ≡ Some l → length ns ≡ length codes
      → ((t : ℕ) → t < length codes → list_of es (key_in i b (get_or codes t [])) ≡ Some (get_or ns t 0))
      → put_on l ns (marks p (length codes)) ≡ map mark_of (under (row_key i b) (numbered p codes) k)
  put_on-keys k l p [] [] e count found = refl
  put_on-keys k l p [] (n ∷ ns) e count found = refl
  put_on-keys k l p (code ∷ codes) [] e count found = absurd (omega arith)
  put_on-keys k l p (code ∷ codes) (n ∷ ns) e count found =
      let row : Row = record { label = pos p; code = code } in
      let rest : List Row = under (row_key i b) (numbered (p + 1) codes) k in
      ap (λ (t : Bool). cond t (mark_of row ∷ put_on l ns (marks (p + 1) (length codes)))
      (put_on l ns (marks (p + 1) (length codes)))) (same_test k l code n e (found 0 (omega arith)))
      ∙ ap (λ (rows : List Row). cond (nat_eq k (key_in i b code)) (mark_of row ∷ rows) rows)
      (put_on-keys k l (p + 1) codes ns e (omega arith) (λ t low. found (suc t) (omega arith)))
      ∙ cond_map (nat_eq k (key_in i b code)) row rest

  -- the positions under a key, with the new ones
  pub parts_put : (k l : ℕ) (old new : List (List ℕ)) (ns : List ℕ) (before after : List Row) → list_of es k ≡ Some l
      → length ns ≡ length new
      → ((t : ℕ) → t < length new → list_of es (key_in i b (get_or new t [])) ≡ Some (get_or ns t 0))
      → before ≡ map mark_of (under (row_key i b) (numbered 0 old) k)
      → after ≡ before ++ put_on l ns (marks (length old) (length new))
      → after ≡ map mark_of (under (row_key i b) (numbered 0 (old ++ new)) k)
  parts_put k l old new ns before after e count found was is =
      let at : 0 + length old ≡ length old = omega arith in
      is
      ∙ ap (λ (rows : List Row). rows ++ put_on l ns (marks (length old) (length new))) was
      ∙ ap (λ (rows : List Row). map mark_of (under (row_key i b) (numbered 0 old) k) ++ rows)
      (put_on-keys k l (length old) new ns e count found)
      ∙ sym (map-append mark_of (under (row_key i b) (numbered 0 old) k)
      (under (row_key i b) (numbered (length old) new) k))
      ∙ ap (map mark_of) (sym (filter-append (λ (row : Row). nat_eq k (row_key i b row)) (numbered 0 old)
      (numbered (length old) new)))
      ∙ ap (λ (rows : List Row). map mark_of (under (row_key i b) rows k))
      (ap (λ (n : ℕ). numbered 0 old ++ numbered n new) (sym at) ∙ sym (numbered-append 0 old new))

-- lists of codes that are found are below `used`
module _ (b used : ℕ) (held placed : ℕ → List (List ℕ)) (maps : List (List (ℕ × ℕ))) (lists : ℕ → List Row)
    (m : AreMaps b used held placed maps lists) where
  -- a list that another key has is none of them
  pub not_found : (i h k l : ℕ) (codes : List (List ℕ)) (ns : List ℕ) → length ns ≡ length codes
      → ((t : ℕ) → t < length codes → list_of (map_at maps i) (key_in i b (get_or codes t [])) ≡ Some (get_or ns t 0))
      → h ≢ i → list_of (map_at maps h) k ≡ Some l → times l ns ≡ 0
  not_found i h k l codes ns count found ne e = times-absent l ns (λ t low same.
      ne (m.apart h i k _ l e (found t (omega (arith, count)) ∙ ap Some same)).0)

  pub not_used : (i l : ℕ) (codes : List (List ℕ)) (ns : List ℕ) → length ns ≡ length codes
      → ((t : ℕ) → t < length codes → list_of (map_at maps i) (key_in i b (get_or codes t [])) ≡ Some (get_or ns t 0))
      → used ≤ l → times l ns ≡ 0
  not_used i l codes ns count found far = times-absent l ns (λ t low same.
      above (m.below i _ _ (found t (omega (arith, count)))) same far)
    where
      above : {x y z : ℕ} → x < z → x ≡ y → z ≤ y → ⊥
      above f g h = omega arith

module _ (b used i : ℕ) (held placed new_placed : ℕ → List (List ℕ)) (maps : List (List (ℕ × ℕ)))
    (lists after : ℕ → List Row) (old new : List (List ℕ)) (ns : List ℕ)
    (m : AreMaps b used held placed maps lists) (here : i < length maps) (was : placed i ≡ old)
    (count : length ns ≡ length new)
    (found : (t : ℕ) → t < length new → list_of (map_at maps i) (key_in i b (get_or new t [])) ≡ Some (get_or ns t 0))
    (rows : (l : ℕ) → after l ≡ lists l ++ put_on l ns (marks (length old) (length new)))
    (at : new_placed i ≡ old ++ new) (elsewhere : (j : ℕ) → j ≢ i → new_placed j ≡ placed j) where
  unmoved : (l : ℕ) → times l ns ≡ 0 → after l ≡ lists l
  unmoved l none = rows l
      ∙ ap (λ (rs : List Row). lists l ++ rs) (put_on-none l ns (marks (length old) (length new)) none)
      ∙ append-nil (lists l)

  own_put : IsMap i b (held i) (new_placed i) (map_at maps i) after
  own_put = subst (λ (cs : List (List ℕ)). IsMap i b (held i) cs (map_at maps i) after) (sym at)
      (record {
        known = (m.each i here).known;
        keys = (m.each i here).keys;
        parts = λ k l e. parts_put i b (map_at maps i) (λ j n h f g. (m.apart i i j n h f g).1) k l old new ns (lists l)
            (after l) e count found
            (subst (λ (cs : List (List ℕ)). lists l ≡ map mark_of (under (row_key i b) (numbered 0 cs) k)) was
            ((m.each i here).parts k l e)) (rows l);
      })

  other_put : (j : ℕ) → j < length maps → j ≢ i → IsMap j b (held j) (new_placed j) (map_at maps j) after
  other_put j low ne = subst (λ (cs : List (List ℕ)). IsMap j b (held j) cs (map_at maps j) after)
      (sym (elsewhere j ne))
      (record {
        known = (m.each j low).known;
        keys = (m.each j low).keys;
        parts = λ k l e. unmoved l (not_found b used held placed maps lists m i j k l new ns count found ne e)
            ∙ (m.each j low).parts k l e;
      })

  -- the maps once the buckets of a map show new codes
  pub maps_put : AreMaps b used held new_placed maps after
  maps_put = record {
    each = λ j low. elim (tells j i) [
      | inl e ↦ subst (λ (n : ℕ). IsMap n b (held n) (new_placed n) (map_at maps n) after) (sym e) own_put
      | inr ne ↦ other_put j low ne
    ];
    below = m.below;
    apart = m.apart;
    unused = λ l far. unmoved l (not_used b used held placed maps lists m i l new ns count found far) ∙ m.unused l far;
    few = m.few;
  }
