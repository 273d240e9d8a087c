-- Lemmas on the slots of the kept hits and their chains.
use Rattle.std.proofs.Common.{◌≡◌, ℕ, suc, ◌+◌, ◌-◌, ◌<◌, ◌≤◌, ◌≢◌, ◌⊎◌, inl, inr, ℤ, Bool, false, cond, eqb, List}
use Rattle.std.proofs.Common.{[], ◌∷◌, ◌++◌, length, get_or, set, refl, sym, ap, ◌∙◌, arith, get_or-set_same}
use Rattle.std.proofs.Common.{get_or-set_other, length-set, sum, ◌≤ℤ◌, ◌<ℤ◌}
use Rattle.std.specs.declared.cmp.Ordering.{Ordering}
use Rattle.std.specs.declared.cmp.Ordering.TheVariants.{Less, Equal, Greater}
use Rattle.std.specs.Ordering.{nat_cmp, int_cmp, is_gt, is_lt, ordering_then, MatchOrdering}
use Rattle.std.specs.Cmp.{int_ranks, ranks}
use Rattle.std.proofs.lemmas.Int.{ints}
use Rattle.std.proofs.lemmas.List.{get_or_append_left, length_push}
use Rattle.std.specs.List.{All}
use Rattle.std.specs.List.Sorted.{IsPermutation}
use Rattle.std.proofs.lemmas.Bool.{cases_eq, eq-eqb, ne_eqb}
use Rattle.std.proofs.lemmas.List.Elements.{All-nil, All-cons, All-head, All-tail, All-weaker}
use Rattle.std.proofs.lemmas.List.Sorted.{All-permutation, sum_by_pushed, sum_by_popped}
use Rattle.std.proofs.lemmas.List.Sums.{count_by-le-length, sum_by-cons, sum_by-set, get_or-le-sum_by}
use Rattle.bcodes.specs.declared.hit.Hit.{Hit}
use Rattle.bcodes.specs.Hits.{no_hit, is_above}
use Rattle.hit_lists.specs.declared.seat.Seat.{Seat}
use Rattle.hit_lists.specs.Chains.{seat_cmp, distance_at, seats_of, IsSeat, IsRung, IsChained}

-- ---- lists

at-set : (xs : List ℕ) (i v : ℕ) → i < length xs → (j : ℕ) → ((j ≡ i) × (get_or (set xs i v) j 0 ≡ v)) ⊎
    ((j ≢ i) × (get_or (set xs i v) j 0 ≡ get_or xs j 0))
at-set xs i v h j =
    elim (cases_eq j i) [
      | inl e ↦ inl (e, ap (λ (k : ℕ). get_or (set xs i v) k 0) e ∙ get_or-set_same xs i v 0 h)
      | inr n ↦ inr (n, get_or-set_other xs i j v 0 n)
    ]

pub hit_of : (a : Hit) (d : ℕ) (l : ℤ) → a.distance ≡ d → a.label ≡ l → a ≡ record { distance = d; label = l }
hit_of a d l p q =
    ap (λ (n : ℕ). record { distance = n; label = a.label }) p
    ∙ ap (λ (z : ℤ). record { distance = d; label = z }) q

-- ---- how many seats name a slot

seats_past : (s : ℕ) (top : List Seat) → length top ≡ 0 → 0 < seats_of s top → ⊥
seats_past s top e h = let k : seats_of s top ≤ length top = count_by-le-length (λ e. eqb e.slot s) top in omega arith

abbrev weight : ℕ → Seat → ℕ
weight s e = cond (eqb e.slot s) 1 0

is-same : (e : Seat) (s : ℕ) → e.slot ≡ s → weight s e ≡ 1
is-same e s h = ap (λ (b : Bool). cond b 1 0) (eq-eqb e.slot s h)

is-other : (e : Seat) (s : ℕ) → e.slot ≢ s → weight s e ≡ 0
is-other e s h = ap (λ (b : Bool). cond b 1 0) (ne_eqb e.slot s h)

-- one more seat, or one less
pub seats_pushed : (e : Seat) (xs ys : List Seat) → IsPermutation (e ∷ xs) ys → (s : ℕ)
    → ((e.slot ≡ s) × (seats_of s ys ≡ 1 + seats_of s xs)) ⊎ ((e.slot ≢ s) × (seats_of s ys ≡ seats_of s xs))
seats_pushed e xs ys p s =
    let more : seats_of s ys ≡ cond (eqb e.slot s) 1 0 + seats_of s xs = sum_by_pushed
    (λ (e : Seat). cond (eqb e.slot s) 1 0) e xs ys p in
    elim (cases_eq e.slot s) [
      | inl h ↦ inl (h, more ∙ ap (λ (n : ℕ). n + seats_of s xs) (is-same e s h))
      | inr h ↦ inr (h, let none = is-other e s h in omega arith)
    ]

pub seats_popped : (e : Seat) (xs ys : List Seat) → IsPermutation xs (e ∷ ys) → (s : ℕ)
    → ((e.slot ≡ s) × (seats_of s xs ≡ 1 + seats_of s ys)) ⊎ ((e.slot ≢ s) × (seats_of s xs ≡ seats_of s ys))
seats_popped e xs ys p s =
    let less : seats_of s ys + cond (eqb e.slot s) 1 0 ≡ seats_of s xs = sum_by_popped
    (λ (e : Seat). cond (eqb e.slot s) 1 0) e xs ys p in
    elim (cases_eq e.slot s) [
      | inl h ↦ inl (h, let one = is-same e s h in omega arith)
      | inr h ↦ inr (h, let none = is-other e s h in omega arith)
    ]

-- a slot with a seat has it somewhere
seat_in : (P : Seat → Type 0) (s : ℕ) (top : List Seat) → All P top → 0 < seats_of s top
    → (e : Seat) × (P e × (e.slot ≡ s))
seat_in P s [] all some = absurd (omega arith)
seat_in P s (e ∷ es) all some =
    elim (cases_eq e.slot s) [
      | inl h ↦ (e, (All-head P e es all, h))
      | inr h ↦ seat_in P s es (All-tail P e es all) (let more = sum_by-cons (λ (e : Seat). cond (eqb e.slot s) 1 0) e
          es in let none = is-other e s h in omega arith)
    ]

-- no seat names a slot that nothing at the seats can name
seats_none : (P : Seat → Type 0) (s : ℕ) (top : List Seat) → All P top → ((e : Seat) → P e → e.slot ≢ s)
    → seats_of s top ≡ 0
seats_none P s [] all none = refl
seats_none P s (e ∷ es) all none =
    sum_by-cons (λ (e : Seat). cond (eqb e.slot s) 1 0) e es ∙ let head = is-other e s (none e (All-head P e es all)) in
    let rest = seats_none P s es (All-tail P e es all) none in omega arith

-- and where none names it, each seat is another's
others : (P : Seat → Type 0) (s : ℕ) (top : List Seat) → All P top → seats_of s top ≡ 0
    → All (λ e. P e × (e.slot ≢ s)) top
others P s [] all none = All-nil (λ (e : Seat). P e × (e.slot ≢ s))
others P s (e ∷ es) all none =
    let more = sum_by-cons (λ (e : Seat). cond (eqb e.slot s) 1 0) e es in
    All-cons (λ (e : Seat). P e × (e.slot ≢ s)) e es
    (All-head P e es all, λ h. let one = is-same e s h in omega arith)
    (others P s es (All-tail P e es all) (omega arith))

none_seated : (P : Seat → Type 0) (top : List Seat) → length top ≡ 0 → All P top
none_seated P [] e = All-nil P
none_seated P (x ∷ xs) e = absurd (omega arith)

-- ---- a slot goes on the chain of its distance

-- where the chains have all slots of a distance, each is on its chain
here : (out : ℕ) (hits : List Hit) (next heads counts : List ℕ) (top : List Seat) (limit d : ℕ)
    (ch : IsChained out hits next heads counts top limit) → (d < limit) ⊎ (length top ≡ 0)
    → (t : ℕ) → t < length hits → t ≢ out → distance_at hits t ≡ d → ch.rank t < get_or counts (distance_at hits t) 0
here out hits next heads counts top limit d ch free t low not-out at =
    elim (ch.placed t low not-out) [
      | inl p ↦ p
      | inr p ↦ elim free [
        | inl f ↦ absurd (omega arith)
        | inr f ↦ absurd (seats_past t top f p.1)
      ]
    ]

pub linked_up : (out : ℕ) (hits : List Hit) (next heads counts : List ℕ) (top : List Seat) (limit d : ℕ)
    → IsChained out hits next heads counts top limit
    → out < length hits → distance_at hits out ≡ d → d ≤ limit → (d < limit) ⊎ (length top ≡ 0)
    → IsChained (length hits) hits (set next out (get_or heads d 0)) (set heads d out)
    (set counts d (get_or counts d 0 + 1)) top limit
linked_up out hits next heads counts top limit d ch in_hits at_d low free =
    let c = get_or counts d 0 in
    let rank : ℕ → ℕ = λ t. cond (eqb t out) c (ch.rank t) in
    let in_next : out < length next = omega (arith, ch.links) in
    let in_counts : d < length counts = omega (arith, ch.low) in
    let in_heads : d < length heads = omega (arith, ch.lists, in_counts) in
    let ranks : (t : ℕ) → ((t ≡ out) × (rank t ≡ c)) ⊎ ((t ≢ out) × (rank t ≡ ch.rank t)) = λ t. elim (cases_eq t out) [
      | inl e ↦ inl (e, ap (λ (b : Bool). cond b c (ch.rank t)) (eq-eqb t out e))
      | inr n ↦ inr (n, ap (λ (b : Bool). cond b c (ch.rank t)) (ne_eqb t out n))
    ] in
    let on : (t : ℕ) → t < length hits → t ≢ out → rank t < get_or (set counts d (c + 1)) (distance_at hits t) 0
    → ch.rank t < get_or counts (distance_at hits t) 0 = λ t lo no r.
    elim (at-set counts d (c + 1) in_counts (distance_at hits t)) [
      | inl p ↦ here out hits next heads counts top limit d ch free t lo no p.0
      | inr p ↦ elim (ranks t) [ inl q ↦ absurd (no q.0) | inr q ↦ omega arith ]
    ] in
    let rung : (e below s : ℕ) → IsRung out hits ch.rank e below s → IsRung (length hits) hits rank e below s = λ e
    below s g.
    record {
      within = g.within;
      other = omega (arith, g.within);
      distance = g.distance;
      depth = elim (ranks s) [ inl q ↦ absurd (g.other q.0) | inr q ↦ omega (arith, g.depth) ];
    } in
    record {
      rank = rank;
      links = length-set next out (get_or heads d 0) ∙ ch.links;
      lists = length-set heads d out ∙ ch.lists ∙ sym (length-set counts d (c + 1));
      low = let e = length-set counts d (c + 1) in omega (arith, ch.low);
      under = λ t lo no. elim (cases_eq t out) [
        | inl e ↦ let h : distance_at hits t ≡ d = ap (distance_at hits) e ∙ at_d in omega arith
        | inr n ↦ ch.under t lo n
      ];
      placed = λ t lo no. elim (ranks t) [
        | inl q ↦ let h : distance_at hits t ≡ d = ap (distance_at hits) (q.0) ∙ at_d in
            elim (at-set counts d (c + 1) in_counts (distance_at hits t)) [
              | inl p ↦ inl (omega arith)
              | inr p ↦ absurd (p.0 h)
            ]
        | inr q ↦ elim (ch.placed t lo q.0) [
          | inl r ↦ elim (at-set counts d (c + 1) in_counts (distance_at hits t)) [
            | inl p ↦ let same : get_or counts (distance_at hits t) 0 ≡ c = ap (λ (k : ℕ). get_or counts k 0) (p.0) in
                inl (omega arith)
            | inr p ↦ inl (omega arith)
          ]
          | inr r ↦ inr r
        ]
      ];
      apart = λ s t ls lt ns nt same level r. elim (ranks s) [
        | inl q ↦ elim (ranks t) [
          | inl p ↦ q.0 ∙ sym (p.0)
          | inr p ↦ let h : distance_at hits t ≡ d = sym same ∙ ap (distance_at hits) (q.0) ∙ at_d in
              let on_t = here out hits next heads counts top limit d ch free t lt p.0 h in
              let c_is : get_or counts (distance_at hits t) 0 ≡ c = ap (λ (k : ℕ). get_or counts k 0) h in
              absurd (omega arith)
        ]
        | inr q ↦ elim (ranks t) [
          | inl p ↦ let h : distance_at hits s ≡ d = same ∙ ap (distance_at hits) (p.0) ∙ at_d in
              let on_s = here out hits next heads counts top limit d ch free s ls q.0 h in
              let c_is : get_or counts (distance_at hits s) 0 ≡ c = ap (λ (k : ℕ). get_or counts k 0) h in
              absurd (omega arith)
          | inr p ↦ ch.apart s t ls lt q.0 p.0 same (sym (q.1) ∙ level ∙ p.1) (on s ls q.0 r)
        ]
      ];
      linked = λ t lt nt r some. elim (ranks t) [
        | inl q ↦ let h : distance_at hits t ≡ d = ap (distance_at hits) (q.0) ∙ at_d in
            let is : get_or (set next out (get_or heads d 0)) t 0 ≡ get_or heads d 0 = ap
            (λ (k : ℕ). get_or (set next out (get_or heads d 0)) k 0) (q.0) ∙ get_or-set_same next out
            (get_or heads d 0) 0 in_next in
            let g : IsRung out hits ch.rank d c (get_or heads d 0) = ch.headed d (omega arith) in
            rw (is, h, q.1) (rung d c (get_or heads d 0) g)
        | inr q ↦ let is : get_or (set next out (get_or heads d 0)) t 0 ≡ get_or next t 0 = get_or-set_other next out t
            (get_or heads d 0) 0 (q.0) in
            rw (is, q.1) (rung (distance_at hits t) (ch.rank t) (get_or next t 0)
            (ch.linked t lt q.0 (on t lt q.0 r) (omega arith)))
      ];
      headed = λ e some. elim (at-set counts d (c + 1) in_counts e) [
        | inl p ↦ elim (at-set heads d out in_heads e) [
          | inl q ↦ let own : rank out ≡ c = ap (λ (b : Bool). cond b c (ch.rank out)) (eq-eqb out out refl) in
              rw (p.1, q.1) (record {
                within = in_hits;
                other = omega arith;
                distance = at_d ∙ sym (p.0);
                depth = ap
                    (λ (n : ℕ). n + 1) own;
              })
          | inr q ↦ absurd (q.0 p.0)
        ]
        | inr p ↦ elim (at-set heads d out in_heads e) [
          | inl q ↦ absurd (p.0 q.0)
          | inr q ↦ rw (p.1, q.1) (rung e (get_or counts e 0) (get_or heads e 0) (ch.headed e (omega arith)))
        ]
      ];
      seated = elim free [
        | inl f ↦ let same : get_or (set counts d (c + 1)) limit 0 ≡ get_or counts limit 0 = get_or-set_other counts d
            limit (c + 1) 0 (omega arith) in
            All-weaker (IsSeat out hits counts limit ch.rank)
            (IsSeat (length hits) hits (set counts d (c + 1)) limit rank)
            (λ e g. record {
              within = g.within;
              other = omega (arith, g.within);
              hit = g.hit;
              off = elim (ranks e.slot) [ inl q ↦ absurd (g.other q.0) | inr q ↦ omega (arith, g.off) ];
            }) top ch.seated
        | inr f ↦ none_seated (IsSeat (length hits) hits (set counts d (c + 1)) limit rank) top f
      ];
      single = ch.single;
    }

-- ---- the uppermost slot of the chain at the limit gets a seat

pub lifted : (hits : List Hit) (next heads counts : List ℕ) (top top' : List Seat) (limit s : ℕ) (e : Seat)
    → IsChained (length hits) hits next heads counts top limit
    → 0 < get_or counts limit 0 → s ≡ get_or heads limit 0 → e.slot ≡ s → e.label ≡ (get_or hits s no_hit).label
    → IsPermutation (e ∷ top) top'
    → IsChained (length hits) hits next (set heads limit (get_or next s 0))
    (set counts limit (get_or counts limit 0 - 1)) top' limit
lifted hits next heads counts top top' limit s e ch some is names same p =
    let c = get_or counts limit 0 in
    let head : IsRung (length hits) hits ch.rank limit c s = rw is (ch.headed limit some) in
    let deep : ch.rank s + 1 ≡ c = head.depth in
    let in_counts : limit < length counts = ch.low in
    let in_heads : limit < length heads = omega (arith, ch.lists) in
    let counted : (d : ℕ) → ((d ≡ limit) × (get_or (set counts limit (c - 1)) d 0 ≡ c - 1)) ⊎
    ((d ≢ limit) × (get_or (set counts limit (c - 1)) d 0 ≡ get_or counts d 0)) = at-set counts limit
    (c - 1) in_counts in
    let now : get_or (set counts limit (c - 1)) limit 0 ≡ c - 1 = get_or-set_same counts limit (c - 1) 0 in_counts in
    let at_limit : (d : ℕ) → d ≡ limit → get_or counts d 0 ≡ c = λ d h. ap (λ (k : ℕ). get_or counts k 0) h in
    let on : (t : ℕ) → ch.rank t < get_or (set counts limit (c - 1)) (distance_at hits t) 0 → ch.rank t < get_or counts
    (distance_at hits t) 0 = λ t r.
    elim (counted (distance_at hits t)) [
      | inl q ↦ let k = at_limit (distance_at hits t) (q.0) in omega arith
      | inr q ↦ omega arith
    ] in
    let seats : (t : ℕ) → ((e.slot ≡ t) × (seats_of t top' ≡ 1 + seats_of t top)) ⊎
    ((e.slot ≢ t) × (seats_of t top' ≡ seats_of t top)) = seats_pushed e top top' p in
    let unseated : seats_of s top ≡ 0 = seats_none (IsSeat (length hits) hits counts limit ch.rank) s top ch.seated
    (λ f g h. let same_rank : ch.rank f.slot ≡ ch.rank s = ap ch.rank h in omega (arith, g.off)) in
    record {
      rank = ch.rank;
      links = ch.links;
      lists = length-set heads limit (get_or next s 0) ∙ ch.lists ∙ sym (length-set counts limit (c - 1));
      low = let k = length-set counts limit (c - 1) in omega (arith, ch.low);
      under = ch.under;
      placed = λ t lo no. elim (seats t) [
        | inl n ↦ inr (ap (distance_at hits) (sym (n.0) ∙ names) ∙ head.distance, omega arith)
        | inr n ↦ elim (ch.placed t lo no) [
          | inl r ↦ elim (counted (distance_at hits t)) [
            | inl q ↦ let k = at_limit (distance_at hits t) (q.0) in
                elim (cases_eq (ch.rank t) (ch.rank s)) [
                  | inl l ↦ absurd
                      (n.0 (names ∙ sym (ch.apart t s lo head.within no head.other (q.0 ∙ sym head.distance) l r)))
                  | inr l ↦ inl (omega arith)
                ]
            | inr q ↦ inl (omega arith)
          ]
          | inr r ↦ inr (r.0, omega arith)
        ]
      ];
      apart = λ t u lt lu nt nu same level r. ch.apart t u lt lu nt nu same level (on t r);
      linked = λ t lt nt r below. ch.linked t lt nt (on t r) below;
      headed = λ d more. elim (counted d) [
        | inl q ↦ let is_head : get_or (set heads limit (get_or next s 0)) d 0 ≡ get_or next s 0 = ap
            (λ (k : ℕ). get_or (set heads limit (get_or next s 0)) k 0) (q.0) ∙ get_or-set_same heads limit
            (get_or next s 0) 0 in_heads in
            let level : get_or counts (distance_at hits s) 0 ≡ c = at_limit (distance_at hits s) head.distance in
            let under : IsRung (length hits) hits ch.rank (distance_at hits s) (ch.rank s) (get_or next s 0) = ch.linked
            s head.within head.other (omega arith) (omega arith) in
            rw (is_head, q.1) (record {
              within = under.within;
              other = under.other;
              distance = under.distance
                  ∙ head.distance ∙ sym (q.0);
              depth = omega (arith, under.depth);
            })
        | inr q ↦ rw (q.1, get_or-set_other heads limit d (get_or next s 0) 0 (q.0)) (ch.headed d (omega arith))
      ];
      seated = All-permutation (IsSeat (length hits) hits (set counts limit (c - 1)) limit ch.rank) (e ∷ top) top' p
          (All-cons (IsSeat (length hits) hits (set counts limit (c - 1)) limit ch.rank) e top
          (record {
            within = omega (arith, head.within);
            other = omega (arith, head.other, head.within);
            hit = ap (λ (k : ℕ). get_or hits k no_hit) names ∙ hit_of (get_or hits s no_hit) limit e.label head.distance
                (sym same);
            off = let k : ch.rank e.slot ≡ ch.rank s = ap ch.rank names in omega arith;
          })
          (All-weaker (IsSeat (length hits) hits counts limit ch.rank)
          (IsSeat (length hits) hits (set counts limit (c - 1)) limit ch.rank)
          (λ f g. record { within = g.within; other = g.other; hit = g.hit; off = omega (arith, g.off) }) top
          ch.seated));
      single = λ t. elim (seats t) [
        | inl n ↦ let k : seats_of t top ≡ 0 = ap (λ (t : ℕ). seats_of t top) (sym (n.0) ∙ names) ∙ unseated in
            omega arith
        | inr n ↦ let k = ch.single t in omega arith
      ];
    }

-- ---- the limit goes down where nothing is left at it

pub fallen : (hits : List Hit) (next heads counts : List ℕ) (top : List Seat) (limit : ℕ)
    → IsChained (length hits) hits next heads counts top limit
    → 0 < length hits → get_or counts limit 0 ≡ 0 → length top ≡ 0 → (0 < limit) × IsChained (length hits) hits next
    heads counts top (limit - 1)
fallen hits next heads counts top limit ch some none empty =
    let below : (t : ℕ) → t < length hits → distance_at hits t < limit = λ t lo.
    let no : t ≢ length hits = omega arith in
    let far : distance_at hits t ≢ limit = λ h. elim (ch.placed t lo no) [
      | inl r ↦ let k : get_or counts (distance_at hits t) 0 ≡ get_or counts limit 0 = ap (λ (k : ℕ). get_or counts k 0)
          h in omega arith
      | inr r ↦ seats_past t top empty r.1
    ] in
    let u : distance_at hits t ≤ limit = ch.under t lo no in
    omega arith in
    let positive : 0 < limit = let k = below 0 some in omega arith in (
      positive,
      record {
        rank = ch.rank;
        links = ch.links;
        lists = ch.lists;
        low = omega (arith, ch.low);
        under = λ t lo no. let k = below t lo in omega arith;
        placed = λ t lo no. elim (ch.placed t lo no) [
          | inl r ↦ inl r
          | inr r ↦ absurd (seats_past t top empty r.1)
        ];
        apart = ch.apart;
        linked = ch.linked;
        headed = ch.headed;
        seated = none_seated (IsSeat (length hits) hits counts (limit - 1) ch.rank) top empty;
        single = ch.single;
      },
    )

-- ---- a slot gives up its seat

pub unseated : (hits : List Hit) (next heads counts : List ℕ) (top rest : List Seat) (limit : ℕ) (e : Seat)
    → IsChained (length hits) hits next heads counts top limit
    → get_or counts limit 0 ≡ 0 → IsPermutation top (e ∷ rest)
    → (e.slot < length hits) × (get_or hits e.slot no_hit ≡ record { distance = limit; label = e.label }) × IsChained
    e.slot hits next heads counts rest limit
unseated hits next heads counts top rest limit e ch done p =
    let Own = IsSeat (length hits) hits counts limit ch.rank in
    let all : All Own (e ∷ rest) = All-permutation Own top (e ∷ rest) p ch.seated in
    let own : Own e = All-head Own e rest all in
    let at : distance_at hits e.slot ≡ limit = ap (λ (h : Hit). h.distance) own.hit in
    let seats : (t : ℕ) → ((e.slot ≡ t) × (seats_of t top ≡ 1 + seats_of t rest)) ⊎
    ((e.slot ≢ t) × (seats_of t top ≡ seats_of t rest)) = seats_popped e top rest p in
    let alone : seats_of e.slot rest ≡ 0 = elim (seats e.slot) [
      | inl n ↦ let k = ch.single e.slot in omega arith
      | inr n ↦ absurd (n.0 refl)
    ] in
    let off : (d : ℕ) → distance_at hits e.slot ≡ d → get_or counts d 0 ≡ 0 = λ d h. ap (λ (k : ℕ). get_or counts k 0)
    (sym h ∙ at) ∙ done in
    let rung : (d below t : ℕ) → IsRung (length hits) hits ch.rank d below t → below ≤ get_or counts d 0
    → IsRung e.slot hits ch.rank d below t = λ d below t g few.
    record {
      within = g.within;
      other = λ h. let k = off d (ap (distance_at hits) (sym h) ∙ g.distance) in omega (arith, g.depth);
      distance = g.distance;
      depth = g.depth;
    } in (
      own.within,
      own.hit,
      record {
        rank = ch.rank;
        links = ch.links;
        lists = ch.lists;
        low = ch.low;
        under = λ t lo no. ch.under t lo (omega arith);
        placed = λ t lo no. elim (ch.placed t lo (omega arith)) [
          | inl r ↦ inl r
          | inr r ↦ elim (seats t) [
            | inl n ↦ absurd (no (sym (n.0)))
            | inr n ↦ inr (r.0, omega arith)
          ]
        ];
        apart = λ t u lt lu nt nu. ch.apart t u lt lu (omega arith) (omega arith);
        linked = λ t lt nt r below. rung (distance_at hits t) (ch.rank t) (get_or next t 0)
            (ch.linked t lt (omega arith) r below) (omega arith);
        headed = λ d more. rung d (get_or counts d 0) (get_or heads d 0) (ch.headed d more) (omega arith);
        seated = All-weaker (λ (f : Seat). Own f × (f.slot ≢ e.slot)) (IsSeat e.slot hits counts limit ch.rank)
            (λ f g. record { within = g.0.within; other = g.1; hit = g.0.hit; off = g.0.off }) rest
            (others Own e.slot rest (All-tail Own e rest all) alone);
        single = λ t. elim (seats t) [
          | inl n ↦ let k = ch.single t in omega arith
          | inr n ↦ let k = ch.single t in omega arith
        ];
      },
    )

-- ---- a slot that stands nowhere takes another hit

pub written : (out : ℕ) (hits : List Hit) (next heads counts : List ℕ) (top : List Seat) (limit : ℕ) (h : Hit)
    → IsChained out hits next heads counts top limit → IsChained out (set hits out h) next heads counts top limit
written out hits next heads counts top limit h ch =
    let long : length (set hits out h) ≡ length hits = length-set hits out h in
    let same : (t : ℕ) → t ≢ out → get_or (set hits out h) t no_hit ≡ get_or hits t no_hit = λ t no. get_or-set_other
    hits out t h no_hit no in
    let at : (t : ℕ) → t ≢ out → distance_at (set hits out h) t ≡ distance_at hits t = λ t no. ap
    (λ (h : Hit). h.distance) (same t no) in
    let rung : (d below t : ℕ) → IsRung out hits ch.rank d below t → IsRung out (set hits out h) ch.rank d below t = λ d
    below t g.
    record { within = omega (arith, g.within); other = g.other; distance = at t g.other ∙ g.distance; depth = g.depth }
    in
    record {
      rank = ch.rank;
      links = ch.links ∙ sym long;
      lists = ch.lists;
      low = ch.low;
      under = λ t lo no. let k = at t no in let u = ch.under t (omega arith) no in omega arith;
      placed = λ t lo no. rw (at t no) (ch.placed t (omega arith) no);
      apart = λ t u lt lu nt nu same level r. ch.apart t u (omega arith) (omega arith) nt nu (sym (at t nt) ∙ same
          ∙ at u nu) level (rw (at t nt) at r);
      linked = λ t lt nt r below. rw (at t nt) (rung (distance_at hits t) (ch.rank t) (get_or next t 0)
          (ch.linked t (omega arith) nt (rw (at t nt) at r) below));
      headed = λ d more. rung d (get_or counts d 0) (get_or heads d 0) (ch.headed d more);
      seated = All-weaker (IsSeat out hits counts limit ch.rank) (IsSeat out (set hits out h) counts limit ch.rank)
          (λ e g. record {
            within = omega (arith, g.within);
            other = g.other;
            hit = same e.slot g.other
                ∙ g.hit;
            off = g.off;
          }) top ch.seated;
      single = ch.single;
    }

-- ---- one more slot, that stands nowhere

pub widened : (hits : List Hit) (next heads counts : List ℕ) (top : List Seat) (limit : ℕ) (h : Hit) (x : ℕ)
    → IsChained (length hits) hits next heads counts top limit
    → IsChained (length hits) (hits ++ h ∷ []) (next ++ x ∷ []) heads counts top limit
widened hits next heads counts top limit h x ch =
    let wider : length (hits ++ h ∷ []) ≡ length hits + 1 = length_push hits h in
    let low : (t : ℕ) → t < length (hits ++ h ∷ []) → t ≢ length hits → t < length hits = λ t lo no. omega arith in
    let same : (t : ℕ) → t < length hits → get_or (hits ++ h ∷ []) t no_hit ≡ get_or hits t no_hit = λ t lo.
    get_or_append_left hits (h ∷ []) no_hit t lo in
    let at : (t : ℕ) → t < length hits → distance_at (hits ++ h ∷ []) t ≡ distance_at hits t = λ t lo. ap
    (λ (h : Hit). h.distance) (same t lo) in
    let rung : (d below t : ℕ) → IsRung (length hits) hits ch.rank d below t → IsRung (length hits)
    (hits ++ h ∷ []) ch.rank d below t = λ d below t g.
    record { within = omega (arith, g.within); other = g.other; distance = at t g.within ∙ g.distance; depth = g.depth }
    in
    record {
      rank = ch.rank;
      links = length_push next x ∙ ap (λ (n : ℕ). n + 1) ch.links ∙ sym wider;
      lists = ch.lists;
      low = ch.low;
      under = λ t lo no. let k = at t (low t lo no) in let u = ch.under t (low t lo no) no in omega arith;
      placed = λ t lo no. rw (at t (low t lo no)) (ch.placed t (low t lo no) no);
      apart = λ t u lt lu nt nu same level r. ch.apart t u (low t lt nt) (low u lu nu) nt nu (sym (at t (low t lt nt))
          ∙ same ∙ at u (low u lu nu)) level (rw (at t (low t lt nt)) at r);
      linked = λ t lt nt r below.
          let below_next : t < length next = omega (arith, low t lt nt, ch.links) in
          rw (at t (low t lt nt), get_or_append_left next (x ∷ []) 0 t below_next)
          (rung (distance_at hits t) (ch.rank t) (get_or next t 0)
          (ch.linked t (low t lt nt) nt (rw (at t (low t lt nt)) at r) below));
      headed = λ d more. rung d (get_or counts d 0) (get_or heads d 0) (ch.headed d more);
      seated = All-weaker (IsSeat (length hits) hits counts limit ch.rank)
          (IsSeat (length hits) (hits ++ h ∷ []) counts limit ch.rank)
          (λ e g. record {
            within = omega (arith, g.within);
            other = g.other;
            hit = same e.slot g.within
                ∙ g.hit;
            off = g.off;
          }) top ch.seated;
      single = ch.single;
    }

-- ---- a slot that stands nowhere gets a seat

pub reseated : (out : ℕ) (hits : List Hit) (next heads counts : List ℕ) (rest top : List Seat) (limit : ℕ) (e : Seat)
    → IsChained out hits next heads counts rest limit
    → out < length hits → e.slot ≡ out → get_or hits out no_hit ≡ record { distance = limit; label = e.label }
    → get_or counts limit 0 ≡ 0 → IsPermutation (e ∷ rest) top
    → IsChained (length hits) hits next heads counts top limit
reseated out hits next heads counts rest top limit e ch in_hits names is done p =
    let seats : (t : ℕ) → ((e.slot ≡ t) × (seats_of t top ≡ 1 + seats_of t rest)) ⊎
    ((e.slot ≢ t) × (seats_of t top ≡ seats_of t rest)) = seats_pushed e rest top p in
    let at : distance_at hits out ≡ limit = ap (λ (h : Hit). h.distance) is in
    let off : get_or counts (distance_at hits out) 0 ≡ 0 = ap (λ (k : ℕ). get_or counts k 0) at ∙ done in
    let off_chain : (t : ℕ) → ch.rank t < get_or counts (distance_at hits t) 0
    → t ≢ out = λ t r h. let k : get_or counts (distance_at hits t) 0 ≡ 0 = ap
    (λ (k : ℕ). get_or counts (distance_at hits k) 0) h ∙ off in omega arith in
    let rung : (d below t : ℕ) → IsRung out hits ch.rank d below t → IsRung (length hits) hits ch.rank d below t = λ d
    below t g.
    record { within = g.within; other = omega (arith, g.within); distance = g.distance; depth = g.depth } in
    let free : seats_of out rest ≡ 0 = seats_none (IsSeat out hits counts limit ch.rank) out rest ch.seated
    (λ f g. g.other) in
    record {
      rank = ch.rank;
      links = ch.links;
      lists = ch.lists;
      low = ch.low;
      under = λ t lo no. elim (cases_eq t out) [
        | inl h ↦ let k : distance_at hits t ≡ limit = ap (distance_at hits) h ∙ at in omega arith
        | inr n ↦ ch.under t lo n
      ];
      placed = λ t lo no. elim (seats t) [
        | inl n ↦ inr (ap (distance_at hits) (sym (n.0) ∙ names) ∙ at, omega arith)
        | inr n ↦ elim (ch.placed t lo (λ h. n.0 (names ∙ sym h))) [
          | inl r ↦ inl r
          | inr r ↦ inr (r.0, omega arith)
        ]
      ];
      apart = λ t u lt lu nt nu same level r.
          let on_u : ch.rank u < get_or counts (distance_at hits u) 0 = rw (← same, ← level) r in
          ch.apart t u lt lu (off_chain t r) (off_chain u on_u) same level r;
      linked = λ t lt nt r below. rung (distance_at hits t) (ch.rank t) (get_or next t 0)
          (ch.linked t lt (off_chain t r) r below);
      headed = λ d more. rung d (get_or counts d 0) (get_or heads d 0) (ch.headed d more);
      seated = All-permutation (IsSeat (length hits) hits counts limit ch.rank) (e ∷ rest) top p
          (All-cons (IsSeat (length hits) hits counts limit ch.rank) e rest
          (record {
            within = omega arith;
            other = omega arith;
            hit = ap (λ (k : ℕ). get_or hits k no_hit) names
                ∙ is;
            off = omega arith;
          })
          (All-weaker (IsSeat out hits counts limit ch.rank) (IsSeat (length hits) hits counts limit ch.rank)
          (λ f g. record { within = g.within; other = omega (arith, g.within); hit = g.hit; off = g.off }) rest
          ch.seated));
      single = λ t. elim (seats t) [
        | inl n ↦ let k : seats_of t rest ≡ 0 = ap (λ (t : ℕ). seats_of t rest) (sym (n.0) ∙ names) ∙ free in
            omega arith
        | inr n ↦ let k = ch.single t in omega arith
      ];
    }

-- ---- the last hit in order has the topmost seat

not_gt : (a b : Hit) (o p : Ordering) → MatchOrdering o (a.distance < b.distance) (a.distance ≡ b.distance)
    (b.distance < a.distance) → MatchOrdering p (a.label <ℤ b.label) (a.label ≡ b.label) (b.label <ℤ a.label)
    → (a.distance < b.distance) ⊎ ((a.distance ≡ b.distance) × (a.label ≤ℤ b.label)) → is_gt (ordering_then o p) ≡ false
not_gt a b Less p m n h = refl
not_gt a b Equal Less m n h = refl
not_gt a b Equal Equal m n h = refl
not_gt a b Equal Greater m n (inl h) = absurd (omega arith)
not_gt a b Equal Greater m n (inr h) = absurd (omega (arith, ints, h.1))
not_gt a b Greater p m n (inl h) = absurd (omega arith)
not_gt a b Greater p m n (inr h) = absurd (omega (arith, h.0))

pub not_above : (a b : Hit) → (a.distance < b.distance) ⊎ ((a.distance ≡ b.distance) × (a.label ≤ℤ b.label))
    → is_above a b ≡ false
unfolding is_above
not_above a b h = not_gt a b (nat_cmp a.distance b.distance) (int_cmp a.label b.label) (ranks a.distance b.distance)
    (int_ranks a.label b.label) h

at_most : (x y : ℤ) (o r : Ordering) → MatchOrdering o (x <ℤ y) (x ≡ y) (y <ℤ x) → is_lt (ordering_then o r) ≡ false
    → y ≤ℤ x
at_most x y Less r m h = cc
at_most x y Equal r m h = omega (arith, ints)
at_most x y Greater r m h = omega (arith, ints)

pub topmost : (hits : List Hit) (next heads counts : List ℕ) (top : List Seat) (limit : ℕ) (e : Seat)
    → IsChained (length hits) hits next heads counts top limit
    → get_or counts limit 0 ≡ 0 → get_or hits e.slot no_hit ≡ record { distance = limit; label = e.label }
    → All (λ f. is_lt (seat_cmp e f) ≡ false) top
    → (t : ℕ) → t < length hits → is_above (get_or hits t no_hit) (get_or hits e.slot no_hit) ≡ false
topmost hits next heads counts top limit e ch done is greatest t lo =
    let no : t ≢ length hits = omega arith in
    let at : distance_at hits e.slot ≡ limit = ap (λ (h : Hit). h.distance) is in
    let label_at : (get_or hits e.slot no_hit).label ≡ e.label = ap (λ (h : Hit). h.label) is in
    let u : distance_at hits t ≤ limit = ch.under t lo no in
    elim (ch.placed t lo no) [
      | inl r ↦ not_above (get_or hits t no_hit) (get_or hits e.slot no_hit)
          (inl (let far : distance_at hits t ≢ limit = λ h.
          (let k : get_or counts (distance_at hits t) 0 ≡ get_or counts limit 0 = ap (λ (k : ℕ). get_or counts k 0)
          h in omega arith) in omega arith))
      | inr r ↦
          let (f, g) = seat_in (λ (f : Seat). IsSeat (length hits) hits counts limit ch.rank f ×
          (is_lt (seat_cmp e f) ≡ false)) t top (λ k d h. (ch.seated k d h, greatest k d h)) r.1 in
          let is_f : get_or hits t no_hit ≡ record { distance = limit; label = f.label } = ap
          (λ (k : ℕ). get_or hits k no_hit) (sym (g.1)) ∙ g.0.0.hit in
          let label_f : (get_or hits t no_hit).label ≡ f.label = ap (λ (h : Hit). h.label) is_f in
          let below : f.label ≤ℤ e.label = at_most e.label f.label (int_cmp e.label f.label) (nat_cmp e.slot f.slot)
          (int_ranks e.label f.label) (g.0.1) in
          not_above (get_or hits t no_hit) (get_or hits e.slot no_hit)
          (inr (r.0 ∙ sym at, rw (label_f, label_at) below))
    ]

-- ---- how many slots there are

pub one_more : (counts : List ℕ) (d x m n : ℕ) → d < length counts → x ≡ get_or counts d 0 → sum counts + m + 1 ≡ n
    → sum (set counts d (x + 1)) + m ≡ n
one_more counts d x m n low is total = let k : sum (set counts d (x + 1)) + get_or counts d 0 ≡ sum counts +
    (x + 1) = sum_by-set (λ (n : ℕ). n) counts d (x + 1) 0 low in omega arith

pub one_less : (counts : List ℕ) (d x m m' n : ℕ) → d < length counts → x ≡ get_or counts d 0 → 0 < x → m' ≡ suc m
    → sum counts + m ≡ n → sum (set counts d (x - 1)) + m' ≡ n
one_less counts d x m m' n low is some more total = let k : sum (set counts d (x - 1)) + get_or counts d 0 ≡ sum
    counts + (x - 1) = sum_by-set (λ (n : ℕ). n) counts d (x - 1) 0 low in omega arith

pub one_of : (counts : List ℕ) (d : ℕ) → d < length counts → get_or counts d 0 ≤ sum counts
one_of counts d low = get_or-le-sum_by (λ (n : ℕ). n) counts d 0 low

pub none_chained : (heads counts : List ℕ) (limit : ℕ) → length heads ≡ length counts → limit < length counts
    → ((d : ℕ) → get_or counts d 0 ≡ 0) → IsChained 0 [] [] heads counts [] limit
none_chained heads counts limit lists low none = record {
  rank = λ _. 0;
  links = refl;
  lists = lists;
  low = low;
  under = λ t lo no. absurd (omega arith);
  placed = λ t lo no. absurd (omega arith);
  apart = λ t u lo. absurd (omega arith);
  linked = λ t lo. absurd (omega arith);
  headed = λ d some. let k = none d in absurd (omega arith);
  seated = All-nil (IsSeat 0 [] counts limit (λ _. 0));
  single = λ t. omega arith;
}

-- ---- the slot of the topmost seat takes another hit

pub popped : (hits : List Hit) (next heads counts : List ℕ) (top rest : List Seat) (limit : ℕ) (e : Seat) (h : Hit)
    → IsChained (length hits) hits next heads counts top limit
    → get_or counts limit 0 ≡ 0 → IsPermutation top (e ∷ rest) → IsChained e.slot (set hits e.slot h) next heads counts
    rest limit
popped hits next heads counts top rest limit e h ch done p = written e.slot hits next heads counts rest limit h
    (unseated hits next heads counts top rest limit e ch done p).2
