-- What a read takes from the front of the bytes that are left.
use Rattle.std.proofs.Common.{◌≡◌, ℕ, ◌-◌, ◌<◌, ◌∙◌, List, [], ◌++◌, length, take, drop}
use Rattle.std.proofs.Common.{Some, Ok, sym, ap, arith, length-drop}
use Rattle.std.proofs.lemmas.List.{take-append-drop, nil_from_length}
use Rattle.std.specs.Io.KnownBytes.{ReadConsumes}
use Rattle.outside.specs.States.{read_len}

-- a read that gives nothing though there is room leaves nothing
none_left : (old : List ℕ) (n room most : ℕ) → n ≡ read_len old room most → 0 < most → n ≡ 0 → 0 < room
    → drop n old ≡ []
none_left old n room most count some none is_room =
    nil_from_length (drop n old) (let rest : length (drop n old) ≡ length old - n = length-drop n old in omega arith)

-- the first n bytes were given, and the others are left
pub consumes : (E : Type 0) (old new buf : List ℕ) (n room most : ℕ) → n ≡ read_len old room most
    → take n buf ≡ take n old → new ≡ drop n old → 0 < most → room ≡ length buf
    → ReadConsumes {E = E} (Some old) (Some new) (Ok n) buf
consumes E old new buf n room most count front left some is_room = (
  sym (take-append-drop n old)
      ∙ (ap (λ given. given ++ drop n old) (sym front) ∙ ap (λ rest. take n buf ++ rest) (sym left)),
  λ none has_room. left ∙ none_left old n room most count some none (omega (arith, is_room)),
)
