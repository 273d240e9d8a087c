-- Lemmas on the entries of rows that are added.
use Rattle.std.proofs.Common.{◌≡◌, ℕ, ◌+◌, ◌≤◌, inl, inr, List, [], ◌∷◌, ◌++◌, length, take, get_or, refl, sym}
use Rattle.std.proofs.Common.{ap, ◌∙◌, arith, length-append, append_assoc, append-nil}
use Rattle.std.specs.declared.option.Option.{Option}
use Rattle.std.specs.declared.option.Option.TheVariants.{None, Some}
use Rattle.std.proofs.lemmas.List.{get_or_append_left, get_or-append-add}
use Rattle.std.proofs.lemmas.Bool.{cases_lt}
use Rattle.code_pool.specs.Lists.{PoolLists, list_at}
use Rattle.flip_walk.specs.Patterns.{times}
use Rattle.row_lists.specs.Room.{SameRows}
use Rattle.ivf_index.specs.Direct.{entry, extended, PlaceList, HasRoomOf}
use Rattle.ivf_index.specs.Entries.{ArePlaces, IsMapped}

-- ---- the places so far

pub places_none : (p : PoolLists) (numbers : List ℕ) → ArePlaces p numbers 0 []
places_none p numbers = record { count = refl; each = λ i h. absurd (omega arith) }

pub places_more : (p : PoolLists) (numbers places : List ℕ) (i e : ℕ) → ArePlaces p numbers i places
    → e ≡ entry (get_or numbers i 0)
    (length (list_at p (get_or numbers i 0)).rows + times (get_or numbers i 0) (take i numbers))
    → ArePlaces p numbers (i + 1) (places ++ e ∷ [])
places_more p numbers places i e so is = record {
  count = omega (arith, length-append places (e ∷ []), so.count);
  each = λ j h. elim (cases_lt j i) [
    | inl low ↦ get_or_append_left places (e ∷ []) 0 j (omega (arith, so.count)) ∙ so.each j low
    | inr high ↦
        let same : j ≡ i = omega arith in
        let last : j ≡ length places + 0 = omega (arith, so.count) in
        ap (λ (m : ℕ). get_or (places ++ e ∷ []) m 0) last ∙ get_or-append-add places (e ∷ []) 0 0 ∙ is
        ∙ ap (λ (m : ℕ). entry (get_or numbers m 0)
        (length (list_at p (get_or numbers m 0)).rows + times (get_or numbers m 0) (take m numbers))) (sym same)
  ];
}

-- the same, seen from before room was made
pub places_kept : (p q : PoolLists) (numbers : List ℕ) (n : ℕ) (places : List ℕ) → SameRows p q
    → ArePlaces q numbers n places → ArePlaces p numbers n places
places_kept p q numbers n places same at = record {
  count = at.count;
  each = λ i h. at.each i h
      ∙ ap (λ (m : ℕ). entry (get_or numbers i 0) (m + times (get_or numbers i 0) (take i numbers)))
      (ap length (same.rows (get_or numbers i 0)));
}

-- ---- the map so far

extended_none : (o : Option (List ℕ)) → o ≡ extended o []
extended_none None = refl
extended_none (Some entries) = ap (λ (es : List ℕ). Some es) (sym (append-nil entries))

extended_more : (o : Option (List ℕ)) (xs ys : List ℕ) → extended (extended o xs) ys ≡ extended o (xs ++ ys)
extended_more None xs ys = refl
extended_more (Some entries) xs ys = ap (λ (es : List ℕ). Some es) (append_assoc entries xs ys)

pub mapped_none : (p : PoolLists) (ns : List ℕ) (o : Option (List ℕ)) → IsMapped p ns 0 o o
mapped_none p ns o = record { places = []; are = places_none p ns; entries = extended_none o }

pub mapped_more : (p : PoolLists) (ns : List ℕ) (i e : ℕ) (first before after : Option (List ℕ))
    → IsMapped p ns i first before
    → e ≡ entry (get_or ns i 0) (length (list_at p (get_or ns i 0)).rows + times (get_or ns i 0) (take i ns))
    → after ≡ extended before (e ∷ []) → IsMapped p ns (i + 1) first after
mapped_more p ns i e first before after m is h = record {
  places = m.places ++ e ∷ [];
  are = places_more p ns m.places i e m.are is;
  entries = h ∙ ap (λ (o : Option (List ℕ)). extended o (e ∷ [])) m.entries ∙ extended_more first m.places (e ∷ []);
}

pub room_fewer : (m n : ℕ) (o : Option PlaceList) → m ≤ n → HasRoomOf n o → HasRoomOf m o
room_fewer m n None h room = tt
room_fewer m n (Some map) h room = omega (arith, room)
