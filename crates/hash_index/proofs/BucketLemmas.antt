-- Lemmas on rows that all have one key.
use Rattle.std.proofs.Common.{◌≡◌, ℕ, zero, suc, ◌+◌, ◌*◌, ◌≤◌, ◌||◌, Bool, true, false, cond, nat_eq, List, [], ◌∷◌, ◌++◌}
use Rattle.std.proofs.Common.{length, map, get_or, replicate, ℤ, Some, refl, sym, ap, ◌∙◌, subst, arith}
use Rattle.std.proofs.Common.{append_assoc, append-nil, zero-add}
use Rattle.std.specs.List.{list_any}
use Rattle.std.proofs.lemmas.Bool.{eq-eqb}
use Rattle.std.proofs.lemmas.List.{get_or-replicate, length-replicate, take_all}
use Rattle.std.proofs.lemmas.List.Elements.{All-head, All-tail}
use Rattle.std.proofs.lemmas.List.Folds.{list_any-append}
use Rattle.bcodes.specs.Bits.{key}
use Rattle.bcodes.specs.Ranges.{load_limit}
use Rattle.bcodes.specs.Value.{weight}
use Rattle.bcodes.specs.Answers.{paired}
use Rattle.code_pool.specs.Lists.{PoolLists}
use Rattle.key_buckets.specs.Keys.{firsts, key_in, list_of, IsNumbering}
use Rattle.key_buckets.specs.Room.{IsOpened, IsRoomed, IsUndoable}
use Rattle.key_buckets.proofs.FirstsLemmas.{firsts-push}
use Rattle.key_buckets.proofs.RoomLemmas.{roomed_more, roomed_none}
use Rattle.hash_index.specs.Keys.{HaveKey}
use Rattle.hash_index.specs.Inside.{rows_in_order, IsHash}
use Rattle.hash_index.proofs.HashLemmas.{IsAdded, hash_added, rows_added}

-- ---- one key many times

either_true : (t : Bool) → (t || true) ≡ true
either_true true = refl
either_true false = refl

last_any : (ks : List ℕ) (k : ℕ) → list_any (nat_eq k) (ks ++ k ∷ []) ≡ true
last_any ks k = list_any-append (nat_eq k) ks (k ∷ [])
    ∙ ap (λ (t : Bool). list_any (nat_eq k) ks || (t || false)) (eq-eqb k k refl)
    ∙ either_true (list_any (nat_eq k) ks)

-- a key that is there is no new one
firsts-again : (n k : ℕ) (ks : List ℕ) → list_any (nat_eq k) ks ≡ true → firsts (ks ++ replicate n k) ≡ firsts ks
firsts-again zero k ks there = ap firsts (append-nil ks)
firsts-again (suc n) k ks there =
    ap firsts (sym (append_assoc ks (k ∷ []) (replicate n k)))
    ∙ firsts-again n k (ks ++ k ∷ []) (last_any ks k)
    ∙ firsts-push ks k
    ∙ ap (λ (t : Bool). cond t (firsts ks) (firsts ks ++ k ∷ [])) there

pub firsts-replicate : (n k : ℕ) (ks : List ℕ) → 1 ≤ n → firsts (ks ++ replicate n k) ≡ firsts (ks ++ k ∷ [])
firsts-replicate zero k ks some = absurd (omega (arith, some))
firsts-replicate (suc n) k ks some =
    ap firsts (sym (append_assoc ks (k ∷ []) (replicate n k))) ∙ firsts-again n k (ks ++ k ∷ []) (last_any ks k)

-- room under a key for one row is room for n
pub roomed_under : (es fs : List (ℕ × ℕ)) (k n list : ℕ) (ns : List ℕ) → 1 ≤ n
    → IsRoomed 0 es fs (k ∷ []) 1 ns → get_or ns 0 0 ≡ list
    → IsRoomed 0 es fs (replicate n k) n (replicate n list)
roomed_under es fs k n list ns some r is = record {
  numbering = r.numbering;
  count = length-replicate n list;
  found = λ j h. ap (list_of fs) (get_or-replicate n j k 0 h) ∙ r.found 0 (omega arith) ∙ ap Some is
      ∙ sym (ap Some (get_or-replicate n j list 0 h));
  kept = r.kept;
  fresh = r.fresh;
  firsts = λ ks e. r.firsts ks e ∙ sym (firsts-replicate n k ks some)
      ∙ sym (ap (λ (js : List ℕ). firsts (ks ++ js))
      (take_all n (replicate n k) (omega (arith, length-replicate n k))));
  most = omega (arith, r.most, some);
}

-- the numbering, as it is where no other table shares the pool
pub numbering_alone : (es : List (ℕ × ℕ)) → IsNumbering (length es) es → IsNumbering (0 + length es) es
numbering_alone es n = subst (λ (m : ℕ). IsNumbering m es) (sym (zero-add (length es))) n

pub roomed_opened : (es fs : List (ℕ × ℕ)) (k n list : ℕ) → 1 ≤ n → IsNumbering (length es) es
    → IsOpened 0 es fs k list → IsRoomed 0 es fs (replicate n k) n (replicate n list)
roomed_opened es fs k n list some numbering o =
    roomed_under es fs k n list (list ∷ []) some
    (roomed_more 0 es es fs (k ∷ []) 0 [] k list (omega arith) (omega arith)
    (roomed_none 0 es (k ∷ []) (numbering_alone es numbering)) o refl) refl

-- the keys of codes that have one
pub keys_under : (b k : ℕ) (cs : List (List ℕ)) → HaveKey b k cs → replicate (length cs) k ≡ map (key_in 0 b) cs
keys_under b k [] h = refl
keys_under b k (c ∷ cs) h =
    let start : 0 * b ≡ 0 = omega arith in
    let here : key c 0 b ≡ k = All-head (λ code. key code 0 b ≡ k) c cs h in
    ap (λ (x : ℕ). x ∷ replicate (length cs) k) (sym here ∙ sym (ap (λ (at : ℕ). key c at b) start))
    ∙ ap (λ (xs : List ℕ). key_in 0 b c ∷ xs)
    (keys_under b k cs (All-tail (λ code. key code 0 b ≡ k) c cs h))

-- ---- the Hash after an add

module _ (dim b nflip k list : ℕ) (es fs : List (ℕ × ℕ)) (order buckets room_buckets new_order new_buckets : PoolLists)
    (ls : List ℤ) (cs : List (List ℕ)) (h : IsHash dim b nflip es order buckets) (same : length ls ≡ length cs)
    (keys : HaveKey b k cs)
    (roomed : IsRoomed 0 es fs (replicate (length ls) k) (length ls) (replicate (length ls) list))
    (undo : IsUndoable 0 es fs buckets room_buckets)
    (added : IsAdded order buckets room_buckets new_order new_buckets (replicate (length ls) list)
    (paired ls cs)) where
  are : replicate (length ls) k ≡ map (key_in 0 b) cs
  are = ap (λ (n : ℕ). replicate n k) same ∙ keys_under b k cs keys

  under : IsRoomed 0 es fs (replicate (length ls) k) (length (replicate (length ls) k)) (replicate (length ls) list)
  under = subst (λ (n : ℕ). IsRoomed 0 es fs (replicate (length ls) k) n (replicate (length ls) list))
      (sym (length-replicate (length ls) k)) roomed

  pub rows_gained : rows_in_order new_order new_buckets ≡ rows_in_order order buckets ++ paired ls cs
  rows_gained = rows_added dim b nflip es fs order buckets room_buckets new_order new_buckets
      (replicate (length ls) k) (replicate (length ls) list) ls cs h same are under undo added

  pub hash_gained : weight dim 1 (length (rows_in_order order buckets) + length ls) 0 ≤ load_limit
      → IsHash dim b nflip fs new_order new_buckets
  hash_gained load = hash_added dim b nflip es fs order buckets room_buckets new_order new_buckets
      (replicate (length ls) k) (replicate (length ls) list) ls cs h same are under undo added
      (subst (λ (n : ℕ). weight dim 1 (length (rows_in_order order buckets) + n) 0 ≤ load_limit) same load)
