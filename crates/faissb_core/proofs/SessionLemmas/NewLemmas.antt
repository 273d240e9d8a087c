-- What a new index is.
use Rattle.std.proofs.Common.{◌≡◌, ℕ, ◌*◌, ◌%◌, true, ◌&&◌, nat_le, eqb, Ok, List, refl, sym}
use Rattle.std.proofs.Common.{arith, subst, FitsSigned, w64, All}
use Rattle.std.specs.Result.{IfOk}
use Rattle.std.proofs.lemmas.Bool.{and_parts, leb-true}
use Rattle.std.proofs.lemmas.Bool.Decides.{nat_tests}
use Rattle.std.proofs.lemmas.List.Elements.{All-nil}
use Rattle.bcodes.specs.Ranges.{IsDim, is_dim}
use Rattle.bcodes.specs.Value.{Row, IsCode, IsRow, IsListRow, IsLegal}
use Rattle.bcodes.specs.Value.{IsLegalInner, IsPlace, count_of_inner, rows_of_inner}
use Rattle.factory_text.specs.declared.prefix.Prefix.{Prefix}
use Rattle.factory_text.specs.declared.prefix.Prefix.TheVariants as prefix
use Rattle.factory_text.specs.declared.kind.Kind.{Kind}
use Rattle.factory_text.specs.declared.kind.Kind.TheVariants as kind
use Rattle.factory_text.specs.declared.spec.Spec.{Spec}
use Rattle.factory_text.specs.Kinds.{HasLegalNumbers}
use Rattle.factory_text.specs.Printing.{fits, fits_kind}
use Rattle.factory_text.specs.Reading.{read_spec}
use Rattle.any_index.specs.Specs.{empty, empty_inner, empty_under}
use Rattle.factory_text.specs.Printing.{spec_text}
use Rattle.factory_text.proofs.SpecLemmas.{spec_read}

pub dim_is : (bits : ℕ) → is_dim bits ≡ true → IsDim bits
dim_is bits test =
    let outer = and_parts (eqb (bits % 8) 0) (nat_le 8 bits && nat_le bits 65536) test in
    let inner = and_parts (nat_le 8 bits) (nat_le bits 65536) outer.1 in
    record {
      whole_bytes = search (arith, nat_tests);
      at_least = search (arith, nat_tests);
      at_most = search (arith, nat_tests);
    }

-- the numbers that a factory text writes are in their ranges
pub numbers_read : (text : List ℕ) (spec : Spec) → read_spec text ≡ Ok spec → HasLegalNumbers spec.kind
numbers_read text spec is =
    (subst (λ r. IfOk r (λ spec. (text ≡ spec_text spec) × HasLegalNumbers spec.kind)) is (spec_read text)).1

legal_empty_inner : (k : Kind) (d : ℕ) → IsDim d → HasLegalNumbers k → fits_kind k d ≡ true
    → IsLegalInner (empty_inner k d)
legal_empty_inner kind.Flat d dim range fit = record { dim = dim; codes = All-nil (IsCode d); load = omega arith }
legal_empty_inner (kind.Ivf nlist) d dim range fit = record {
  dim = dim;
  nlist_least = range.0;
  nlist_most = range.1;
  nprobe_least = omega arith;
  nprobe_most = omega arith;
  max_codes = omega arith;
  centroids = All-nil (IsCode d);
  held = omega arith;
  rows = All-nil (IsListRow d nlist);
  filled = λ some. absurd (omega arith);
  direct = λ on. absurd cc;
  load = omega arith;
}
legal_empty_inner (kind.Hash b) d dim range fit = record {
  dim = dim;
  b_least = range.0;
  b_most = range.1;
  b_within = leb-true b d fit;
  nflip = omega arith;
  rows = All-nil (IsRow d);
  load = omega arith;
}
legal_empty_inner (kind.Multi nhash b) d dim range fit = record {
  dim = dim;
  nhash_least = range.0.0;
  nhash_most = range.0.1;
  b_least = range.1.0;
  b_most = range.1.1;
  within = leb-true (nhash * b) d fit;
  nflip = omega arith;
  codes = All-nil (IsCode d);
  load = omega arith;
}

none_held : (k : Kind) (d : ℕ) → count_of_inner (empty_inner k d) ≡ 0
none_held kind.Flat d = refl
none_held (kind.Ivf nlist) d = refl
none_held (kind.Hash b) d = refl
none_held (kind.Multi nhash b) d = refl

no_labels : (k : Kind) (d : ℕ)
    → All (λ (row : Row). IsPlace (count_of_inner (empty_inner k d)) row.label) (rows_of_inner (empty_inner k d))
no_labels kind.Flat d = All-nil (λ (row : Row). IsPlace 0 row.label)
no_labels (kind.Ivf nlist) d = All-nil (λ (row : Row). IsPlace 0 row.label)
no_labels (kind.Hash b) d = All-nil (λ (row : Row). IsPlace 0 row.label)
no_labels (kind.Multi nhash b) d = All-nil (λ (row : Row). IsPlace 0 row.label)

legal_empty_under : (p : Prefix) (k : Kind) (d : ℕ) → IsLegalInner (empty_inner k d)
    → IsLegal (empty_under p (empty_inner k d))
legal_empty_under prefix.Plain k d legal = legal
legal_empty_under prefix.Map k d legal = record {
  inner = legal;
  ids = All-nil (FitsSigned w64);
  count = sym (none_held k d);
  labels = no_labels k d;
}
legal_empty_under prefix.Map2 k d legal = record {
  inner = legal;
  ids = All-nil (FitsSigned w64);
  count = sym (none_held k d);
  labels = no_labels k d;
}

pub legal_empty : (spec : Spec) (d : ℕ) → IsDim d → HasLegalNumbers spec.kind → fits spec d ≡ true
    → IsLegal (empty spec d)
legal_empty spec d dim range fit = legal_empty_under spec.prefix spec.kind d (legal_empty_inner spec.kind d dim range fit)
