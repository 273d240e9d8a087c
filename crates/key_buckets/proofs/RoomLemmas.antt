-- Lemmas on room for rows that are to be added.
use Rattle.std.proofs.Common.{◌≡◌, ℕ, zero, suc, ◌+◌, ◌<◌, ◌≤◌, ◌⊎◌, inl, inr, Bool, cond}
use Rattle.std.proofs.Common.{nat_eq, List, [], ◌∷◌, ◌++◌, length, take, get_or, set, replicate, max, Option, Some, None}
use Rattle.std.proofs.Common.{refl, sym, ap, ◌∙◌, arith, length-append}
use Rattle.std.proofs.Common.{append_assoc, append-nil, get_or-set_same, get_or-set_other}
use Rattle.std.specs.List.{All, list_any}
use Rattle.std.proofs.lemmas.List.Elements.{All-from_get_or}
use Rattle.std.specs.Map.{keys_of}
use Rattle.std.proofs.lemmas.List.{get_or_append_left, get_or-append-add, take_all, get_or-replicate, get_or_past, length-replicate}
use Rattle.std.proofs.lemmas.List.{take_more}
use Rattle.std.proofs.lemmas.Bool.{cases_lt}
use Rattle.std.proofs.lemmas.Bool.Decides.{eqb_tells}
use Rattle.code_pool.specs.Lists.{PoolLists, PoolList, list_at}
use Rattle.key_buckets.specs.Keys.{firsts, list_of, IsNumbering}
use Rattle.key_buckets.specs.Room.{AreOpened, IsOpened, IsRoomed, IsUndoable, lists_most}
use Rattle.key_buckets.proofs.FirstsLemmas.{any-firsts, firsts-push}

take-shorter : {A : Type 0} (m n : ℕ) (xs : List A) → m ≤ n → take m (take n xs) ≡ take m xs
take-shorter zero n xs h = refl
take-shorter (suc m) zero xs h = absurd (omega arith)
take-shorter (suc m) (suc n) [] h = refl
take-shorter (suc m) (suc n) (x ∷ xs) h = ap (λ l. x ∷ l) (take-shorter m n xs (omega arith))

-- ---- the keys so far

pub roomed_none : (others : ℕ) (es : List (ℕ × ℕ)) (keys : List ℕ) → IsNumbering (others + length es) es
    → IsRoomed others es es keys 0 []
roomed_none others es keys ok = record {
  numbering = ok;
  count = refl;
  found = λ j h. absurd (omega arith);
  kept = λ q m e. e;
  fresh = λ q m e. inl e;
  firsts = λ ks e. e ∙ ap firsts (sym (append-nil ks));
  most = omega arith;
}

found_more : (others : ℕ) (mid new : List (ℕ × ℕ)) (keys : List ℕ) (i : ℕ) (numbers : List ℕ) (k l : ℕ)
    → length numbers ≡ i → IsOpened others mid new k l → k ≡ get_or keys i 0
    → ((j : ℕ) → j < i → list_of mid (get_or keys j 0) ≡ Some (get_or numbers j 0))
    → (j : ℕ) → j < i + 1 → list_of new (get_or keys j 0) ≡ Some (get_or (numbers ++ l ∷ []) j 0)
found_more others mid new keys i numbers k l count o at found j h =
    elim (cases_lt j i) [
      | inl low ↦ o.kept (get_or keys j 0) (get_or numbers j 0) (found j low)
          ∙ ap Some (sym (get_or_append_left numbers (l ∷ []) 0 j (omega arith)))
      | inr high ↦
          let e : j ≡ i = omega arith in
          let f : j ≡ length numbers + 0 = omega arith in
          ap (λ (m : ℕ). list_of new (get_or keys m 0)) e ∙ ap (list_of new) (sym at) ∙ o.found
          ∙ ap Some (sym (ap (λ (m : ℕ). get_or (numbers ++ l ∷ []) m 0) f ∙ get_or-append-add numbers (l ∷ []) 0 0))
    ]

keys_more : (others : ℕ) (mid new : List (ℕ × ℕ)) (keys : List ℕ) (i k l : ℕ) (ks : List ℕ) → i < length keys
    → IsOpened others mid new k l → k ≡ get_or keys i 0 → keys_of mid ≡ firsts (ks ++ take i keys)
    → keys_of new ≡ firsts (ks ++ take (i + 1) keys)
keys_more others mid new keys i k l ks here o at before =
    let ms : List ℕ = ks ++ take i keys in
    o.keys
    ∙ ap (λ (js : List ℕ). cond (list_any (nat_eq k) js) js (js ++ k ∷ [])) before
    ∙ ap (λ (t : Bool). cond t (firsts ms) (firsts ms ++ k ∷ [])) (any-firsts k ms)
    ∙ sym (firsts-push ms k)
    ∙ ap firsts (append_assoc ks (take i keys) (k ∷ [])
    ∙ ap (λ (n : ℕ). ks ++ (take i keys ++ n ∷ [])) at
    ∙ ap (λ (js : List ℕ). ks ++ js) (sym (take_more keys i 0 here)))

fresh_cases : (old : List (ℕ × ℕ)) (q m n r : ℕ) → n ≤ r → (list_of old q ≡ Some m) ⊎ (r ≤ m)
    → (list_of old q ≡ Some m) ⊎ (n ≤ m)
fresh_cases old q m n r h (inl e) = inl e
fresh_cases old q m n r h (inr e) = inr (omega arith)

fresh_step : (others : ℕ) (old mid : List (ℕ × ℕ)) (q m : ℕ) → length old ≤ length mid
    → ((p n : ℕ) → list_of mid p ≡ Some n → (list_of old p ≡ Some n) ⊎ (others + length old ≤ n))
    → (list_of mid q ≡ Some m) ⊎ (others + length mid ≤ m) → (list_of old q ≡ Some m) ⊎ (others + length old ≤ m)
fresh_step others old mid q m less before (inl e) = before q m e
fresh_step others old mid q m less before (inr e) = inr (omega arith)

pub roomed_more : (others : ℕ) (old mid new : List (ℕ × ℕ)) (keys : List ℕ) (i : ℕ) (numbers : List ℕ) (k l : ℕ)
    → i < length keys → length old ≤ length mid → IsRoomed others old mid keys i numbers
    → IsOpened others mid new k l → k ≡ get_or keys i 0 → IsRoomed others old new keys (i + 1) (numbers ++ l ∷ [])
roomed_more others old mid new keys i numbers k l here less so o at = record {
  numbering = o.numbering;
  count = omega (arith, length-append numbers (l ∷ []), so.count);
  found = λ j h. found_more others mid new keys i numbers k l so.count o at so.found j h;
  kept = λ q m e. o.kept q m (so.kept q m e);
  fresh = λ q m e. fresh_step others old mid q m less so.fresh (o.fresh q m e);
  firsts = λ ks e. keys_more others mid new keys i k l ks here o at (so.firsts ks e);
  most = omega (arith, so.most, o.most);
}

-- ---- the buckets so far

pub undo_none : (others : ℕ) (es : List (ℕ × ℕ)) (p : PoolLists) → others + length es ≤ length p.lists
    → IsUndoable others es es p p
undo_none others es p h = record {
  prefix = take_all (length es) es (omega arith);
  least = omega arith;
  size = refl;
  rows = λ l. refl;
  keys_most = h;
  lists_least = omega arith;
  lists_few = omega arith;
}

-- what opening a bucket leaves of a pool
pub record IsWider (p q : PoolLists) (keys new_keys : ℕ) : Type 0 where
  pub same : (l : ℕ) → list_at q l ≡ list_at p l
  pub size : q.code_size ≡ p.code_size
  pub keys_most : new_keys ≤ length q.lists
  pub least : length p.lists ≤ length q.lists
  pub most : length q.lists ≤ max (length p.lists) (keys + 1)

pub undo_opened : (others : ℕ) (old mid new : List (ℕ × ℕ)) (p q r : PoolLists) (k l : ℕ)
    → IsUndoable others old mid p q → IsOpened others mid new k l
    → IsWider q r (others + length mid) (others + length new) → others + length mid + 1 ≤ lists_most
    → IsUndoable others old new p r
undo_opened others old mid new p q r k l u o w few = record {
  prefix = sym (take-shorter (length old) (length mid) new u.least) ∙ ap (take (length old)) o.prefix ∙ u.prefix;
  least = omega (arith, u.least, o.least);
  size = w.size ∙ u.size;
  rows = λ m. ap (λ (x : PoolList). x.rows) (w.same m) ∙ u.rows m;
  keys_most = w.keys_most;
  lists_least = omega (arith, u.lists_least, w.least);
  lists_few = omega (arith, u.lists_few, w.most);
}

-- the same where no key was added
pub undo_closed : (others : ℕ) (old mid new : List (ℕ × ℕ)) (p q r : PoolLists) → IsUndoable others old mid p q
    → new ≡ mid → IsWider q r (others + length mid) (others + length new) → others + length mid + 1 ≤ lists_most
    → IsUndoable others old new p r
undo_closed others old mid new p q r u same w few = record {
  prefix = ap (take (length old)) same ∙ u.prefix;
  least = omega (arith, u.least, ap length same);
  size = w.size ∙ u.size;
  rows = λ m. ap (λ (x : PoolList). x.rows) (w.same m) ∙ u.rows m;
  keys_most = w.keys_most;
  lists_least = omega (arith, u.lists_least, w.least);
  lists_few = omega (arith, u.lists_few, w.most);
}

-- lists that are there
pub numbers_in : (others : ℕ) (es fs : List (ℕ × ℕ)) (keys ns : List ℕ) (n : ℕ)
    → IsRoomed others es fs keys (length keys) ns → others + length fs ≤ n → All (λ l. l < n) ns
numbers_in others es fs keys ns n r most = All-from_get_or (λ l. l < n) ns 0
    (λ k h. omega (arith, r.numbering.below _ (get_or ns k 0) (r.found k (omega (arith, r.count))), most))

-- ---- keys that are known by their numbers

none_at : (n k : ℕ) → (k < n) ⊎ (n ≤ k) → get_or {A = Option ℕ} (replicate n None) k None ≡ None
none_at n k (inl low) = get_or-replicate {A = Option ℕ} n k None None low
none_at n k (inr high) =
    get_or_past {X = Option ℕ} (replicate n None) k None (omega (arith, length-replicate {A = Option ℕ} n None))

none_some : (o : Option ℕ) (m : ℕ) → o ≡ None → o ≡ Some m → ⊥
none_some o m f g = cc

pub none_opened : (keys : List ℕ) (n : ℕ) (es : List (ℕ × ℕ)) → AreOpened keys (replicate n None) es
none_opened keys n es k l e = absurd (none_some (get_or (replicate n None) k None) l (none_at n k (cases_lt k n)) e)

-- one more place has a list
pub opened_more : (others : ℕ) (keys : List ℕ) (opened : List (Option ℕ)) (old new : List (ℕ × ℕ)) (at l : ℕ)
    → at < length opened → AreOpened keys opened old → IsOpened others old new (get_or keys at 0) l
    → AreOpened keys (set opened at (Some l)) new
opened_more others keys opened old new at l here so o n m e =
    elim (eqb_tells n at) [
      | inl t ↦
          let is : Some l ≡ Some m = sym (get_or-set_same opened at (Some l) None here)
          ∙ ap (λ (k : ℕ). get_or (set opened at (Some l)) k None) (sym t.1) ∙ e in
          ap (λ (k : ℕ). list_of new (get_or keys k 0)) t.1 ∙ o.found ∙ is
      | inr t ↦ o.kept (get_or keys n 0) m (so n m (sym (get_or-set_other opened at n (Some l) None t.1) ∙ e))
    ]
