-- What an index weighs where codes or centroids are added.
use Rattle.std.proofs.Common.{◌≡◌, ℕ, ◌+◌, ◌<◌, ◌≤◌, ◌^◌, ℤ, Bool, true, false, nat_le, Some, Ok, Err, List}
use Rattle.std.proofs.Common.{length, map, refl, sym, ap, ◌∙◌, subst, arith, length-append, Fits, w64}
use Rattle.std.proofs.lemmas.Bool.{leb-true, le-leb}
use Rattle.std.proofs.lemmas.List.{length-map}
use Rattle.bcodes.specs.Ranges.{load_limit}
use Rattle.bcodes.specs.Value.{ListRow, IvfValue, Inner, Flat, Ivf, Hash, Multi, IndexValue, Bare, IdMap}
use Rattle.bcodes.specs.Value.{count_of, is_trained, load_of}
use Rattle.bcodes.specs.Value.{IsLegal, IsNumbering, code_size, labels_from, takes_ids}
use Rattle.std.proofs.Common.{is_some}
use Rattle.bcodes.specs.Value.{inner_of}
use Rattle.bcodes.specs.Settings.{ivf_in, ivf_in_inner, with_ivf, needs_ids, is_numbering}
use Rattle.factory_text.specs.declared.kind.Kind.TheVariants as kind
use Rattle.bcodes.specs.Answers.{after_add, after_centroids, given_inner}
use Rattle.bcodes.proofs.LegalLemmas.{count-le}
use Rattle.any_index.specs.Specs.{spec_of, held_of, held_inner}
use Rattle.faissb_core.specs.declared.reply.refusal.Refusal.TheVariants.{Load}
use Rattle.faissb_core.specs.Language.Words.{Word, IdWord}
use Rattle.faissb_core.specs.Reply.Answer.{Added, Held, Done}
use Rattle.faissb_core.specs.Machine.State.{changed, codes_of}
use Rattle.faissb_core.specs.Machine.Settings.{set_direct}
use Rattle.faissb_core.specs.Machine.Adding.{add, add_ids, append, give_centroids}
use Rattle.bcodes.specs.declared.direct_error.DirectError.{DirectError}
use Rattle.bcodes.specs.declared.direct_error.DirectError.TheVariants as direct
use Rattle.faissb_core.specs.Session.Results.{Refuses, halt_of_direct}
use Rattle.faissb_core.specs.Session.Room.{load_with, HasRoom}
use Rattle.faissb_core.proofs.SessionLemmas.ChangeLemmas.{same_ivf}
use Rattle.any_index.proofs.LoadLemmas.{load_after_add, load_after_centroids}
use Rattle.any_index.proofs.KindLemmas.{spec_ivf}
use Rattle.faissb_core.proofs.SessionLemmas.NumberingLemmas.{not_numbering, numbering_passes}
use Rattle.faissb_core.proofs.SessionLemmas.LegalLemmas.{length-codes_of}

-- ---- room for codes

pub count_fits : (v : IndexValue) (more : ℕ) → IsLegal v → more < 2 ^ 63 → Fits w64 (count_of v + more)
count_fits v more legal small = omega (arith, count-le v legal)

pub lacks_room : (v : IndexValue) (more : ℕ) (labels : List ℤ) (added : List (List ℕ)) → is_trained v ≡ true
    → nat_le (load_with v (count_of v + more) (held_of v)) load_limit ≡ false
    → length labels ≡ length added → length added ≡ more → append labels added v ≡ Err Load
lacks_room v more labels added trained heavy same long =
    let test : nat_le (load_of (after_add v labels added)) load_limit ≡ false =
    ap (λ (n : ℕ). nat_le n load_limit) (load_after_add v labels added same
    ∙ ap (λ (n : ℕ). load_with v (count_of v + n) (held_of v)) long) ∙ heavy in
    rw (trained, test) refl

pub has_room : (v : IndexValue) (more : ℕ) → is_trained v ≡ true
    → nat_le (load_with v (count_of v + more) (held_of v)) load_limit ≡ true → HasRoom v more
has_room v more trained light = record {
  trained = trained;
  light = λ labels added same long.
      subst (λ (n : ℕ). n ≤ load_limit) (sym (load_after_add v labels added same
      ∙ ap (λ (n : ℕ). load_with v (count_of v + n) (held_of v)) long)) (leb-true _ load_limit light);
}

-- ---- the kind of an index

pub ivf_is : (v : IndexValue) (nlist : ℕ) → (spec_of v).kind ≡ kind.Ivf nlist
    → (ivf : IvfValue) × (ivf_in v ≡ Some ivf) × (ivf.nlist ≡ nlist)
ivf_is v nlist is =
    let found = spec_ivf v (spec_of v) nlist refl is in
    (found.value, found.is, found.nlist)

held_inner_is : (v : Inner) (ivf : IvfValue) → ivf_in_inner v ≡ Some ivf → held_inner v ≡ length ivf.centroids
held_inner_is (Flat v) ivf is = absurd cc
held_inner_is (Ivf v) ivf is = ap (λ (u : IvfValue). length u.centroids) (same_ivf v ivf is)
held_inner_is (Hash v) ivf is = absurd cc
held_inner_is (Multi v) ivf is = absurd cc

pub held_is : (v : IndexValue) (ivf : IvfValue) → ivf_in v ≡ Some ivf → held_of v ≡ length ivf.centroids
held_is v ivf is = held_inner_is (inner_of v) ivf is

held_given : (v : Inner) (ivf : IvfValue) (more : List (List ℕ)) → ivf_in_inner v ≡ Some ivf
    → held_inner (given_inner v more) ≡ held_inner v + length more
held_given (Flat v) ivf more is = absurd cc
held_given (Ivf v) ivf more is = length-append v.centroids more
held_given (Hash v) ivf more is = absurd cc
held_given (Multi v) ivf more is = absurd cc

pub held_after : (v : IndexValue) (ivf : IvfValue) (more : List (List ℕ)) → ivf_in v ≡ Some ivf
    → held_of (after_centroids v more) ≡ held_of v + length more
unfolding after_centroids
held_after (Bare v) ivf more is = held_given v ivf more is
held_after (IdMap name v ids) ivf more is = held_given v ivf more is

-- ---- adds

pub appended : (v : IndexValue) (labels : List ℤ) (added : List (List ℕ)) → HasRoom v (length added)
    → length labels ≡ length added
    → append labels added v ≡ changed (after_add v labels added) (Added (length added) (count_of (after_add v labels added)))
appended v labels added room same =
    let light : nat_le (load_of (after_add v labels added)) load_limit ≡ true =
    le-leb (load_of (after_add v labels added)) load_limit (room.light labels added same refl) in
    rw (room.trained, light) refl

pub add_is : (v : IndexValue) (words : List Word) (added : List (List ℕ)) → codes_of (code_size v) words ≡ Ok added
    → needs_ids v ≡ false → add words v ≡ append (labels_from (count_of v) (length added)) added v
add_is v words added read plain = rw (read, plain) refl

pub add_ids_is : (v : IndexValue) (pairs : List IdWord) (added : List (List ℕ))
    → codes_of (code_size v) (map (λ (p : IdWord). p.word) pairs) ≡ Ok added
    → takes_ids v ≡ true → add_ids pairs v ≡ append (map (λ (p : IdWord). p.id) pairs) added v
add_ids_is v pairs added read takes = rw (read, takes) refl

-- as many ids as codes
pub same_count : (size : ℕ) (pairs : List IdWord) (added : List (List ℕ))
    → codes_of size (map (λ (p : IdWord). p.word) pairs) ≡ Ok added
    → length (map (λ (p : IdWord). p.id) pairs) ≡ length added
same_count size pairs added read =
    length-map pairs (λ (p : IdWord). p.id) ∙ sym (length-map pairs (λ (p : IdWord). p.word))
    ∙ sym (length-codes_of size (map (λ (p : IdWord). p.word) pairs) added read)

-- ---- centroids

pub light_after : (v : IndexValue) (ivf : IvfValue) (more : List (List ℕ)) → ivf_in v ≡ Some ivf
    → nat_le (load_with v (count_of v) (held_of v + length more)) load_limit ≡ true
    → load_of (after_centroids v more) ≤ load_limit
light_after v ivf more is light =
    subst (λ (n : ℕ). n ≤ load_limit) (sym (load_after_centroids v more (ap is_some is))) (leb-true _ load_limit light)

pub centroids_heavy : (v : IndexValue) (words : List Word) (more : List (List ℕ)) (ivf : IvfValue)
    → codes_of (code_size v) words ≡ Ok more → ivf_in v ≡ Some ivf
    → length ivf.centroids + length more ≤ ivf.nlist
    → nat_le (load_with v (count_of v) (held_of v + length more)) load_limit ≡ false
    → give_centroids words v ≡ Err Load
centroids_heavy v words more ivf read is few heavy =
    let test : nat_le (load_of (after_centroids v more)) load_limit ≡ false =
    ap (λ (n : ℕ). nat_le n load_limit) (load_after_centroids v more (ap is_some is)) ∙ heavy in
    rw (read, is, le-leb (length ivf.centroids + length more) ivf.nlist few, test) refl

pub centroids_given : (v : IndexValue) (words : List Word) (more : List (List ℕ)) (ivf : IvfValue)
    → codes_of (code_size v) words ≡ Ok more → ivf_in v ≡ Some ivf
    → length ivf.centroids + length more ≤ ivf.nlist
    → nat_le (load_with v (count_of v) (held_of v + length more)) load_limit ≡ true
    → give_centroids words v
    ≡ changed (after_centroids v more) (Held (length ivf.centroids + length more) ivf.nlist)
centroids_given v words more ivf read is few light =
    let test : nat_le (load_of (after_centroids v more)) load_limit ≡ true =
    ap (λ (n : ℕ). nat_le n load_limit) (load_after_centroids v more (ap is_some is)) ∙ light in
    rw (read, is, le-leb (length ivf.centroids + length more) ivf.nlist few, test) refl

-- ---- a direct map

pub direct_fails : (v : IndexValue) (ivf : IvfValue) (on : Bool) (error : DirectError) → ivf_in v ≡ Some ivf
    → (error ≡ direct.NotSequential → (on ≡ true) × ¬ IsNumbering (map (λ (row : ListRow). row.label) ivf.rows))
    → Refuses (set_direct on v) (halt_of_direct error)
direct_fails v ivf on direct.NotSequential is numbers =
    let why = numbers refl in
    let test : is_numbering (map (λ (row : ListRow). row.label) ivf.rows) ≡ false =
    not_numbering (map (λ (row : ListRow). row.label) ivf.rows) why.1 in
    rw (is, why.0, test) refl
direct_fails v ivf on direct.Memory is numbers = tt

pub direct_set : (v : IndexValue) (ivf : IvfValue) (on : Bool) → ivf_in v ≡ Some ivf
    → (on ≡ true → IsNumbering (map (λ (row : ListRow). row.label) ivf.rows))
    → set_direct on v ≡ changed (with_ivf (record ivf { direct = on }) v) Done
direct_set v ivf true is numbers =
    rw (is, numbering_passes (map (λ (row : ListRow). row.label) ivf.rows) (numbers refl)) refl
direct_set v ivf false is numbers = rw is refl
