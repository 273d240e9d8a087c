-- The fields of a MultiHash and of a map, one after the other.
use Rattle.std.proofs.Common.{◌≡◌, ℕ, ◌+◌, ◌*◌, ◌/◌, ◌≤◌, Bool, List, length, Option, Result, Ok, refl, sym}
use Rattle.std.proofs.Common.{ap, subst, ◌∙◌, arith}
use Rattle.std.specs.Result.{IsErrOf}
use Rattle.std.specs.List.{range_with_len}
use Rattle.std.proofs.lemmas.Bool.{eqb-true}
use Rattle.bcodes.specs.Ranges.{load_limit}
use Rattle.bcodes.specs.Value.{MultiValue, Multi, weight}
use Rattle.outside.specs.Causes.{Rose}
use Rattle.outside.specs.Contents.{Contents}
use Rattle.file_parts.specs.declared.feed.Feed.{Feed}
use Rattle.file_parts.specs.declared.head.Head.{Head}
use Rattle.file_parts.specs.declared.part_error.PartError.{PartError}
use Rattle.file_parts.specs.declared.reason.Reason.TheVariants as reason
use Rattle.file_parts.specs.declared.role.Role.{Role}
use Rattle.file_parts.specs.declared.role.Role.TheVariants.{Outermost, Within, Quantizer}
use Rattle.file_parts.specs.Feeding.{GivesError, StaysOver, shelf_of}
use Rattle.file_parts.specs.Fields.{HeadValue, at_most, each, header, must_be, number}
use Rattle.file_parts.specs.Format.{Format, Place, done, run, ◌>>=◌}
use Rattle.file_parts.specs.Heads.{IsHead}
use Rattle.index_files.specs.Canon.{position_width}
use Rattle.index_files.specs.FlatFormat.{flat_inside}
use Rattle.index_files.specs.HashFormat.{bucket_count_checks}
use Rattle.index_files.specs.Laws.{FitsRole, IsBodyRole}
use Rattle.index_files.specs.MapReading.{map_bits, run_field}
use Rattle.index_files.specs.MultiFormat.{map_fields, multi_b_checks, multi_body, nhash_checks}
use Rattle.index_files.proofs.FlatLaw.{places}
use Rattle.index_files.proofs.LoadLemmas.{keeps_then}
use Rattle.index_files.proofs.MultiReading.{step_fails, step_read, same_error}

-- ---- steps

-- a place from where a format goes on
pub then_read : {A C : Type 0} (m : Format C) (f : Format A) (k : A → Format C) (p q r : Place) (x : A)
    → run m p ≡ run (f >>= k) q → run f q ≡ Ok (x, r) → run m p ≡ run (k x) r
then_read m f k p q r x so_far h = so_far ∙ step_read f k q r x h

pub then_fails : {A C : Type 0} (e : PartError) (m : Format C) (f : Format A) (k : A → Format C) (p q : Place)
    → run m p ≡ run (f >>= k) q → GivesError e (run f q) → GivesError e (run m p)
then_fails e m f k p q so_far h = same_error e (run (f >>= k) q) (run m p) so_far (step_fails e f k q h)

-- ---- what follows each field of a MultiHash

-- a MultiHash of these numbers
abbrev pub made : ℕ → ℕ → ℕ → ℕ → List (List ℕ) → MultiValue
made dim nhash b nflip codes = record { dim = dim; nhash = nhash; b = b; nflip = nflip; codes = codes }

abbrev pub from_maps : ℕ → ℕ → ℕ → ℕ → List (List ℕ) → Format MultiValue
from_maps dim nhash b nflip codes = do
  maps ← each (range_with_len 0 nhash) (map_fields codes b)
  done (made dim nhash b nflip codes)

abbrev pub from_nflip : ℕ → ℕ → ℕ → List (List ℕ) → Format MultiValue
from_nflip dim nhash b codes = do
  nflip ← number 4 (at_most b reason.Number)
  from_maps dim nhash b nflip codes

abbrev pub from_nhash : HeadValue → ℕ → List (List ℕ) → Format MultiValue
from_nhash head b codes = do
  nhash ← number 4 (nhash_checks head b)
  from_nflip head.dim nhash b codes

abbrev pub from_b : HeadValue → List (List ℕ) → Format MultiValue
from_b head codes = do
  b ← number 4 (multi_b_checks head)
  from_nhash head b codes

abbrev pub from_storage : HeadValue → Format MultiValue
from_storage head = do
  storage ← flat_inside (Within head.dim head.count)
  from_b head storage.codes

pub multi_is : (role : Role) (p : Place) → run (multi_body role) p ≡ run (header role >>= from_storage) p
unfolding multi_body
multi_is role p = refl

-- ---- what follows each field of a map over n codes

abbrev pub from_size : List (List ℕ) → ℕ → ℕ → ℕ → ℕ → ℕ → Format (Unit {0})
from_size codes b i n width buckets = do
  size ← number 8 (must_be ((map_bits n b width buckets + 7) / 8) reason.VectorSize)
  run_field codes i b width buckets size

abbrev pub from_count : List (List ℕ) → ℕ → ℕ → ℕ → ℕ → Format (Unit {0})
from_count codes b i n width = do
  buckets ← number 8 (bucket_count_checks n)
  from_size codes b i n width buckets

abbrev pub from_width : List (List ℕ) → ℕ → ℕ → ℕ → Format (Unit {0})
from_width codes b i n = do
  width ← number 4 (must_be (position_width n) reason.Bits)
  from_count codes b i n width

map_whole : (codes : List (List ℕ)) (b i : ℕ) (p : Place)
    → run (map_fields codes b i) p ≡ run (from_width codes b i (length codes)) p
unfolding map_fields
map_whole codes b i p = refl

pub map_is : (codes : List (List ℕ)) (b i n : ℕ) (p : Place) → n ≡ length codes
    → run (map_fields codes b i) p ≡ run (from_width codes b i n) p
map_is codes b i n p e = map_whole codes b i p ∙ ap (λ (k : ℕ). run (from_width codes b i k) p) (sym e)

-- ---- feeds that go on over one shelf

-- no error comes with a value
pub no_error : {T E : Type 0} (x : T) (e : E) → (let r : Result T E = Ok x in IsErrOf r e) → ⊥
no_error x e h = cc

module _ {H : Type 0} (contents : H → Option Contents) (is_reading : H → Bool) (faults : H → ℕ) where
  abbrev Stays : Feed H → Feed H → Type 0 → Type 0
  Stays a b failed = StaysOver contents is_reading faults a b failed

  -- a call that did not fail, and then another
  pub stays_then : (a b c : Feed H) (F G : Type 0) → (F → ⊥) → Stays a b F → Stays b c G → Stays a c G
  stays_then a b c F G calm h k =
      let same : faults (shelf_of b) ≡ faults (shelf_of a) = h.cause.kept calm in
      record {
        same_shelf = k.same_shelf ∙ h.same_shelf;
        files =
            keeps_then (contents (shelf_of a)) (contents (shelf_of b)) (contents (shelf_of c)) h.files k.files;
        reading =
            k.reading ∙ h.reading;
        cause = record {
          later = omega (arith, h.cause.later, k.cause.later);
          cause =
              λ f. subst (λ (n : ℕ). Rose n (faults (shelf_of c))) same (k.cause.cause f);
          kept =
              λ none. k.cause.kept none ∙ same;
        };
      }

  -- a call that did not fail, whatever its failure is
  pub stays_calm : (a b : Feed H) (F G : Type 0) → (F → ⊥) → (G → ⊥) → Stays a b F → Stays a b G
  stays_calm a b F G calm none h = record {
    same_shelf = h.same_shelf;
    files = h.files;
    reading = h.reading;
    cause = record { later = h.cause.later; cause = λ g. absurd (none g); kept = λ x. h.cause.kept calm };
  }

-- ---- what the numbers say

-- an index of these codes fits the role of its header
pub fits_multi : (role : Role) (head : Head) (v : MultiValue) → IsBodyRole role → IsHead role head
    → v.dim ≡ head.dim → length v.codes ≡ head.count → FitsRole role (Multi v)
fits_multi Outermost head v r h dim count = tt
fits_multi (Within d n) head v r h dim count =
    let k : length v.codes ≡ n = count ∙ eqb-true head.count n h.takes_count in
    record { same_dim = dim ∙ eqb-true head.dim d h.takes_dim; same_count = k; labels = places v.codes n k }
fits_multi (Quantizer d nlist rows flag) head v r h dim count = absurd r

-- the codes weigh what the header was tried by
pub load_is : (d k dim count m : ℕ) → d ≡ dim → k ≡ count → count * (dim / 8 + 16 + 64 * m) ≤ load_limit
    → weight d m k 0 ≤ load_limit
load_is d k dim count m same_dim same_count le =
    let e : k * (d / 8 + 16 + 64 * m) ≡ count * (dim / 8 + 16 + 64 * m) =
    ap (λ (x : ℕ). x * (d / 8 + 16 + 64 * m)) same_count
    ∙ ap (λ (x : ℕ). count * (x / 8 + 16 + 64 * m)) same_dim in
    omega (arith, le, e)

-- a load within the limit is one of few codes
pub few_codes : (k count dim m : ℕ) → k ≡ count → count * (dim / 8 + 16 + 64 * m) ≤ load_limit → k ≤ 67108864
few_codes k count dim m e le =
    let alone : count * 16 ≤ count * (dim / 8 + 16 + 64 * m) = grind arith in
    omega (arith, e, le, alone)
