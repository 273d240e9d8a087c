-- Lemmas on rows that are added.
use Rattle.std.proofs.Common.{◌≡◌, ℕ, suc, ◌*◌, ◌<◌}
use Rattle.std.proofs.Common.{nat_eq, ℤ, List, [], ◌∷◌, ◌++◌, length, map, get_or, Option, Some}
use Rattle.std.proofs.Common.{unwrap_or, refl, sym, ap, ◌∙◌, subst, arith, zero-add}
use Rattle.std.specs.List.{All}
use Rattle.std.proofs.lemmas.List.{map-append, take_all, length-map, get_or-map}
use Rattle.std.proofs.lemmas.List.Elements.{All-head, All-tail, All-append, filter-append, All-from_get_or}
use Rattle.bcodes.specs.Bits.{key}
use Rattle.bcodes.specs.Value.{Row}
use Rattle.bcodes.specs.Answers.{paired}
use Rattle.code_pool.specs.Lists.{no_row}
use Rattle.flip_walk.specs.Patterns.{under}
use Rattle.key_buckets.specs.Keys.{key_in, firsts, list_of, IsNumbering}
use Rattle.row_lists.specs.Put.{put_on}
use Rattle.key_buckets.specs.Room.{IsRoomed}
use Rattle.row_lists.proofs.PutLemmas.{put_on-under, length-paired}
use Rattle.hash_index.specs.Keys.{key_of}
use Rattle.hash_index.specs.Table.{number_of, IsTable}

-- the numbers of rows that are known do not change
pub number_is : (es : List (ℕ × ℕ)) (b m : ℕ) (row : Row) → list_of es (key_of b row) ≡ Some m → number_of es b row ≡ m
number_is es b m row e = ap (λ (o : Option ℕ). unwrap_or o 4294967296) e

abbrev pub Known : List (ℕ × ℕ) → ℕ → Row → Type 0
Known es b row = (l : ℕ) × (list_of es (key_of b row) ≡ Some l)

pub numbers_kept : (es fs : List (ℕ × ℕ)) (b : ℕ) (rows : List Row)
    → ((q m : ℕ) → list_of es q ≡ Some m → list_of fs q ≡ Some m) → All (Known es b) rows
    → map (number_of fs b) rows ≡ map (number_of es b) rows
numbers_kept es fs b [] kept known = refl
numbers_kept es fs b (row ∷ rows) kept known =
    let here = All-head (Known es b) row rows known in
    let same : number_of fs b row ≡ number_of es b row = number_is fs b here.0 row (kept (key_of b row) here.0 here.1)
    ∙ sym (number_is es b here.0 row here.1) in
    ap (λ (n : ℕ). n ∷ map (number_of fs b) rows) same
    ∙ ap (λ (ns : List ℕ). number_of es b row ∷ ns)
    (numbers_kept es fs b rows kept (All-tail (Known es b) row rows known))

-- numbers that are found are those of the rows
pub numbers_are : (f : Row → ℕ) (ns : List ℕ) (rows : List Row) → length ns ≡ length rows
    → ((j : ℕ) → j < length rows → f (get_or rows j no_row) ≡ get_or ns j 0) → ns ≡ map f rows
numbers_are f [] [] h e = refl
numbers_are f [] (row ∷ rows) h e = absurd (omega arith)
numbers_are f (n ∷ ns) [] h e = absurd (omega arith)
numbers_are f (n ∷ ns) (row ∷ rows) h e =
    ap (λ (m : ℕ). m ∷ ns) (sym (e 0 (omega arith)))
    ∙ ap (λ (ms : List ℕ). f row ∷ ms) (numbers_are f ns rows (omega arith) (λ j l. e (suc j) (omega arith)))

All-from_no_row : (es : List (ℕ × ℕ)) (b : ℕ) (rows : List Row)
    → ((j : ℕ) → j < length rows → Known es b (get_or rows j no_row)) → All (Known es b) rows
All-from_no_row es b rows h = All-from_get_or (Known es b) rows no_row h

keys-paired : (b : ℕ) (ls : List ℤ) (cs : List (List ℕ)) → length ls ≡ length cs
    → map (key_in 0 b) cs ≡ map (key_of b) (paired ls cs)
keys-paired b [] [] h = refl
keys-paired b [] (c ∷ cs) h = absurd (omega arith)
keys-paired b (l ∷ ls) [] h = refl
keys-paired b (l ∷ ls) (c ∷ cs) h =
    let start : 0 * b ≡ 0 = omega arith in
    ap (λ (n : ℕ). key c n b ∷ map (key_in 0 b) cs) start
    ∙ ap (λ (ks : List ℕ). key c 0 b ∷ ks) (keys-paired b ls cs (omega arith))

-- ---- the table after an add

pub table_added : (b : ℕ) (es fs : List (ℕ × ℕ)) (order : List ℕ) (lists after : ℕ → List Row) (rows : List Row)
    (ls : List ℤ) (cs : List (List ℕ)) (ns : List ℕ)
    → IsTable b es order lists rows → length ls ≡ length cs
    → IsRoomed 0 es fs (map (key_in 0 b) cs) (length (map (key_in 0 b) cs)) ns
    → ((l : ℕ) → after l ≡ lists l ++ put_on l ns (paired ls cs))
    → IsTable b fs (order ++ ns) after (rows ++ paired ls cs)
table_added b es fs order lists after rows ls cs ns t same roomed at =
    let new = paired ls cs in
    let ks : List ℕ = map (key_in 0 b) cs in
    let long : length new ≡ length cs = length-paired ls cs same in
    let many : length ks ≡ length cs = length-map cs (key_in 0 b) in
    let key_is : (j : ℕ) → j < length cs → key_of b (get_or new j no_row) ≡ get_or ks j 0 = λ j h.
    sym (get_or-map (key_of b) new j no_row 0 (omega arith))
    ∙ sym (ap (λ (xs : List ℕ). get_or xs j 0) (keys-paired b ls cs same)) in
    let found : (j : ℕ) → j < length cs
    → list_of fs (key_of b (get_or new j no_row)) ≡ Some (get_or ns j 0) = λ j h. ap (list_of fs) (key_is j h)
    ∙ roomed.found j (omega (arith, many)) in
    let are : ns ≡ map (number_of fs b) new = numbers_are (number_of fs b) ns new (omega (arith, roomed.count, many))
    (λ j h. number_is fs b (get_or ns j 0) (get_or new j no_row) (found j (omega arith))) in
    let old_numbers : map (number_of fs b) rows ≡ map (number_of es b) rows =
    numbers_kept es fs b rows roomed.kept t.known in
    record {
      numbering = subst (λ (n : ℕ). IsNumbering n fs) (zero-add (length fs)) roomed.numbering;
      known = All-append (Known fs b) rows new (λ k d h. let here = t.known k d h in
          (here.0, roomed.kept (key_of b (get_or rows k d)) here.0 here.1))
          (All-from_no_row fs b new (λ j h. (get_or ns j 0, found j (omega arith))));
      numbers = ap (λ (os : List ℕ). os ++ ns) (t.numbers ∙ sym old_numbers)
          ∙ ap (λ (ms : List ℕ). map (number_of fs b) rows ++ ms) are ∙ sym (map-append (number_of fs b) rows new);
      parts = λ l. at l ∙ ap (λ (rs : List Row). rs ++ put_on l ns new) (t.parts l
          ∙ sym (put_on-under (number_of es b) l rows) ∙ ap (λ (ms : List ℕ). put_on l ms rows) (sym old_numbers)
          ∙ put_on-under (number_of fs b) l rows)
          ∙ ap (λ (rs : List Row). under (number_of fs b) rows l ++ rs) (ap (λ (ms : List ℕ). put_on l ms new) are
          ∙ put_on-under (number_of fs b) l new)
          ∙ sym (filter-append (λ (row : Row). nat_eq l (number_of fs b row)) rows new);
      keys = roomed.firsts (map (key_of b) rows) t.keys
          ∙ ap (λ (js : List ℕ). firsts (map (key_of b) rows ++ js)) (take_all (length ks) ks (omega arith)
          ∙ keys-paired b ls cs same)
          ∙ ap firsts (sym (map-append (key_of b) rows new));
    }
