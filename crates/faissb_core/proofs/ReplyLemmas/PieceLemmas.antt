-- Text on its way out.
use Rattle.std.proofs.Common.{◌≡◌, ℕ, ◌+◌, ◌%◌, ◌≤◌, length-append, length-take, length-drop, Option, List, [], ◌∷◌}
use Rattle.std.proofs.Common.{◌++◌, length, take, drop, get_or, ◌<◌, ◌-◌, refl, sym, ◌∙◌, ap, subst, inl, inr}
use Rattle.std.proofs.Common.{arith}
use Rattle.std.proofs.Math.Seq.{take-append-add}
use Rattle.std.proofs.lemmas.Bool.{cases_lt}
use Rattle.std.proofs.lemmas.List.{append_assoc, append-nil, take_at, take_all, take-append-le, take-append-drop}
use Rattle.std.proofs.lemmas.List.{drop-drop, take_more}
use Rattle.std.specs.List.{flat_map}
use Rattle.std.proofs.lemmas.List.Concat.{flat_map-append}
use Rattle.bcodes.specs.declared.hit.Hit.{Hit}
use Rattle.faissb_core.specs.Reply.Text.{hit_text}
use Rattle.std.specs.Io.KnownBytes.{Appends}
use Rattle.faissb_core.specs.Reply.Sent.{AppendsFront, SendsPieces, piece_len}
use Rattle.faissb_core.proofs.ReplyLemmas.SentLemmas.{Appends-none, Appends-more}

front_of_append : (xs ys : List ℕ) (n : ℕ) → (k : ℕ) × (take k (xs ++ ys) ≡ take n xs)
front_of_append xs ys n = elim (cases_lt n (length xs)) [
  | inl low ↦ (n, take-append-le n xs ys (omega arith))
  | inr high ↦ (length xs, take_at xs ys (length xs) refl ∙ sym (take_all n xs high))
]

-- nothing is sent yet
pub sends_start : (a : Option (List ℕ)) (all : List ℕ) → SendsPieces a a all all
sends_start a all = record { sent = []; grown = Appends-none a; pieces = refl; whole = refl }

two_multiples : (m n : ℕ) → m % piece_len ≡ 0 → n % piece_len ≡ 0 → (m + n) % piece_len ≡ 0
two_multiples m n p q = omega arith

pieces_append : (xs ys : List ℕ) → length xs % piece_len ≡ 0 → length ys % piece_len ≡ 0
    → length (xs ++ ys) % piece_len ≡ 0
pieces_append xs ys p q = rw (length-append xs ys) (two_multiples (length xs) (length ys) p q)

-- one piece more
pub sends_more : (a b c : Option (List ℕ)) (xs left old_left all : List ℕ) → SendsPieces a b old_left all
    → Appends b c xs → length xs % piece_len ≡ 0 → xs ++ left ≡ old_left → SendsPieces a c left all
sends_more a b c xs left old_left all p q piece is = record {
  sent = p.sent ++ xs;
  grown = Appends-more a b c p.sent xs p.grown q;
  pieces = pieces_append p.sent xs p.pieces piece;
  whole = append_assoc p.sent xs left ∙ ap (λ (l : List ℕ). p.sent ++ l) is ∙ p.whole;
}

-- two texts, one after the other
pub sends_then : (a b c : Option (List ℕ)) (left text new_left all : List ℕ) → SendsPieces a b left all
    → SendsPieces b c new_left (left ++ text) → SendsPieces a c new_left (all ++ text)
sends_then a b c left text new_left all p q = record {
  sent = p.sent ++ q.sent;
  grown = Appends-more a b c p.sent q.sent p.grown q.grown;
  pieces = pieces_append p.sent q.sent p.pieces q.pieces;
  whole = append_assoc p.sent q.sent new_left ∙ ap (λ (l : List ℕ). p.sent ++ l) q.whole
      ∙ sym (append_assoc p.sent left text) ∙ ap (λ (l : List ℕ). l ++ text) p.whole;
}

-- a front of what is left makes a front of all
pub sends_front : (a b c : Option (List ℕ)) (xs left old_left all : List ℕ) → SendsPieces a b old_left all
    → AppendsFront b c xs → xs ++ left ≡ old_left → AppendsFront a c all
sends_front a b c xs left old_left all p q is =
    let part = front_of_append xs left q.len in
    let inner : take part.0 old_left ≡ take q.len xs = subst (λ l. take part.0 l ≡ take q.len xs) is part.1 in
    let whole : take (length p.sent + part.0) all ≡ p.sent ++ take q.len xs =
    sym (ap (λ (l : List ℕ). take (length p.sent + part.0) l) p.whole) ∙ take-append-add p.sent old_left part.0
    ∙ ap (λ (l : List ℕ). p.sent ++ l) inner in
    record {
      len = length p.sent + part.0;
      grown = subst (λ l. Appends a c l) (sym whole)
          (Appends-more a b c _ _ p.grown q.grown);
    }

pub sends_so_far : (a b : Option (List ℕ)) (left all : List ℕ) → SendsPieces a b left all → AppendsFront a b all
sends_so_far a b left all p = record {
  len = length p.sent;
  grown = subst (λ l. Appends a b l)
      (sym (take_at p.sent left (length p.sent) refl) ∙ ap (λ (l : List ℕ). take (length p.sent) l) p.whole) p.grown;
}

pub front_longer : (a b : Option (List ℕ)) (xs ys : List ℕ) → AppendsFront a b xs → AppendsFront a b (xs ++ ys)
front_longer a b xs ys p = sends_front a a b xs ys (xs ++ ys) (xs ++ ys) (sends_start a (xs ++ ys)) p refl

-- a piece, and what is behind it
pub piece_is : (xs ys : List ℕ) (at n : ℕ) → ys ≡ xs
    → take ((at + n) - at) (drop at ys) ++ drop (at + n) xs ≡ drop at xs
piece_is xs ys at n is =
    let len : (at + n) - at ≡ n = omega arith in
    (λ i. take (len i) (drop at (is i)) ++ drop (at + n) xs)
    ∙ ap (λ (l : List ℕ). take n (drop at xs) ++ l) (sym (drop-drop n at xs))
    ∙ take-append-drop n (drop at xs)

-- one hit more
pub hits-more : (first : List ℕ) (hits : List Hit) (i : ℕ) (d : Hit) → i < length hits
    → first ++ flat_map hit_text (take (i + 1) hits) ≡ (first ++ flat_map hit_text (take i hits)) ++ hit_text
    (get_or hits i d)
hits-more first hits i d within =
    ap (λ (hs : List Hit). first ++ flat_map hit_text hs) (take_more hits i d within)
    ∙ ap (λ (l : List ℕ). first ++ l) (flat_map-append hit_text (take i hits) (get_or hits i d ∷ []))
    ∙ ap (λ (l : List ℕ). first ++ (flat_map hit_text (take i hits) ++ l)) (append-nil (hit_text (get_or hits i d)))
    ∙ sym (append_assoc first (flat_map hit_text (take i hits)) (hit_text (get_or hits i d)))

-- the hits so far are a front of all
pub hits-front : (a b : Option (List ℕ)) (first : List ℕ) (hits : List Hit) (i : ℕ)
    → AppendsFront a b (first ++ flat_map hit_text (take i hits))
    → AppendsFront a b (first ++ flat_map hit_text hits)
hits-front a b first hits i p =
    subst (λ l. AppendsFront a b l)
    (append_assoc first (flat_map hit_text (take i hits)) (flat_map hit_text (drop i hits))
    ∙ ap (λ (l : List ℕ). first ++ l) (sym (flat_map-append hit_text (take i hits) (drop i hits))
    ∙ ap (λ (hs : List Hit). flat_map hit_text hs) (take-append-drop i hits)))
    (front_longer a b (first ++ flat_map hit_text (take i hits)) (flat_map hit_text (drop i hits)) p)

-- a front of what was held and of more
pub front_then : (a b c : Option (List ℕ)) (left text all : List ℕ) → SendsPieces a b left all
    → AppendsFront b c (left ++ text) → AppendsFront a c (all ++ text)
front_then a b c left text all p q =
    let so_far : SendsPieces a b (left ++ text) (all ++ text) = record {
      sent = p.sent;
      grown = p.grown;
      pieces = p.pieces;
      whole = sym (append_assoc p.sent left text) ∙ ap (λ (l : List ℕ). l ++ text) p.whole;
    } in
    sends_front a b c (left ++ text) [] (left ++ text) (all ++ text) so_far q (append-nil (left ++ text))

-- what was held is sent
pub sends_whole : (a b c : Option (List ℕ)) (left all : List ℕ) → SendsPieces a b left all → Appends b c left
    → Appends a c all
sends_whole a b c left all p q = subst (λ l. Appends a c l) p.whole (Appends-more a b c p.sent left p.grown q)

-- a piece that lies within
pub piece-len : (xs : List ℕ) (at : ℕ) → 8192 ≤ length xs - at
    → length (take ((at + 8192) - at) (drop at xs)) % piece_len ≡ 0
piece-len xs at room =
    let is : length (take ((at + 8192) - at) (drop at xs))
    ≡ 8192 = omega (arith, length-take ((at + 8192) - at) (drop at xs), length-drop at xs) in
    rw is refl
