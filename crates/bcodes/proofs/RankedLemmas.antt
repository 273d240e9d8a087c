-- Where the labels of hits come from: what holds of each row holds of each hit.
use Rattle.std.proofs.Common.{◌≡◌, ℕ, ℤ, List, [], ◌∷◌, map, nat_lt}
use Rattle.std.proofs.Common.{false, true≢false, inl, inr}
use Rattle.std.specs.List.{All, filter}
use Rattle.std.proofs.lemmas.List.Elements.{All-nil, All-cons, All-head, All-tail, All-filter, All-map, All-take}
use Rattle.bcodes.specs.declared.hit.Hit.{Hit}
use Rattle.bcodes.specs.Hits.{in_order, insert_hit, is_above}
use Rattle.bcodes.specs.Settings.{needs_ids}
use Rattle.bcodes.specs.Value.{Row, ListRow, Inner, Flat, Ivf, Hash, Multi, IndexValue, Bare, IdMap}
use Rattle.bcodes.specs.Value.{numbered, row_of, rows_of, rows_of_inner}
use Rattle.bcodes.specs.Answers.{best, within, hits, hit_of, ranked_rows, probed_rows_inner}
use Rattle.bcodes.specs.Answers.{is_probed_ivf, is_probed_hash, is_probed_multi}
use Rattle.bcodes.proofs.OrderLemmas.{either}

All-insert : (P : Hit → Type 0) (h : Hit) (hs : List Hit) → P h → All P hs → All P (insert_hit h hs)
All-insert P h [] p a = All-cons P h [] p a
All-insert P h (g ∷ gs) p a =
    elim (either (is_above h g)) [
      | inl e ↦ rw e (All-cons P g (insert_hit h gs) (All-head P g gs a) (All-insert P h gs p (All-tail P g gs a)))
      | inr e ↦ rw e (All-cons P h (g ∷ gs) p a)
    ]

pub All-in_order : (P : Hit → Type 0) (hs : List Hit) → All P hs → All P (in_order hs)
All-in_order P [] a = All-nil P
All-in_order P (h ∷ hs) a = All-insert P h (in_order hs) (All-head P h hs a) (All-in_order P hs (All-tail P h hs a))

unmapped : (P : Row → Type 0) (rows : List ListRow) → All P (map row_of rows) → All (λ r. P (row_of r)) rows
unmapped P [] a = All-nil (λ r. P (row_of r))
unmapped P (r ∷ rows) a = All-cons (λ s. P (row_of s)) r rows (All-head P (row_of r) (map row_of rows) a)
    (unmapped P rows (All-tail P (row_of r) (map row_of rows) a))

-- what holds of each row holds of each probed row
pub All-probed : (P : Row → Type 0) (v : Inner) (q : List ℕ) → All P (rows_of_inner v)
    → All P (probed_rows_inner v q)
All-probed P (Flat v) q a = a
All-probed P (Ivf v) q a =
    All-map P row_of (filter (is_probed_ivf v q) v.rows)
    (All-filter (is_probed_ivf v q) (λ r. P (row_of r)) v.rows (unmapped P v.rows a))
All-probed P (Hash v) q a = All-filter (is_probed_hash v q) P v.rows a
All-probed P (Multi v) q a = All-filter (is_probed_multi v q) P (numbered 0 v.codes) a

pub All-ranked : (P : ℤ → Type 0) (q : List ℕ) (rows : List Row) → All (λ row. P row.label) rows
    → All (λ h. P h.label) (ranked_rows q rows)
All-ranked P q rows a = All-in_order (λ (h : Hit). P h.label) (map (hit_of q) rows)
    (All-map (λ (h : Hit). P h.label) (hit_of q) rows a)

-- what holds of the label of each row holds of the label of each hit
pub All-best : (P : ℤ → Type 0) (v : IndexValue) (q : List ℕ) (k : ℕ) → needs_ids v ≡ false
    → All (λ row. P row.label) (rows_of v) → All (λ h. P h.label) (best v q k)
unfolding best hits
All-best P (Bare v) q k bare a = All-take (λ (h : Hit). P h.label) k (ranked_rows q (probed_rows_inner v q))
    (All-ranked P q (probed_rows_inner v q) (All-probed (λ row. P row.label) v q a))
All-best P (IdMap name v ids) q k bare a = absurd (true≢false bare)

pub All-within : (P : ℤ → Type 0) (v : IndexValue) (q : List ℕ) (radius : ℕ) → needs_ids v ≡ false
    → All (λ row. P row.label) (rows_of v) → All (λ h. P h.label) (within v q radius)
unfolding within hits
All-within P (Bare v) q radius bare a =
    All-filter (λ (h : Hit). nat_lt h.distance radius) (λ (h : Hit). P h.label)
    (ranked_rows q (probed_rows_inner v q))
    (All-ranked P q (probed_rows_inner v q) (All-probed (λ row. P row.label) v q a))
All-within P (IdMap name v ids) q radius bare a = absurd (true≢false bare)
