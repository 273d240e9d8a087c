use Rattle.std.proofs.Common.{rules, ◌≡◌, ◌/◌, ℕ, ℤ, List, [], ◌∷◌, ◌++◌, ap, subst, sym, ◌∙◌}
use Rattle.std.specs.Prelude.{FitsSigned}
use Rattle.std.specs.Int.{w64, cast_signed, cast_unsigned}
use Rattle.std.proofs.lemmas.Int.{to_z-of_z}
use Rattle.bcodes.specs.Bits.{key as key_of}
use Rattle.bcodes.specs.Value.{Row}
use Rattle.index_files.specs.HashReading.{GatheredRows}
use Rattle.index_files.proofs.GatheredLemmas.{codes_whole, keys_gathered, rows_gathered}
use Rattle.index_files.proofs.reading.hash.gathered.Gathered.push.Goals as goal

pub invariant_of-self-2 : goal.invariant_of-self-2
invariant_of-self-2 c =
    let now = c.self.inside in
    let id : ℤ = c.args.id in
    let fits : FitsSigned w64 id = search rules in
    let whole : cast_signed w64 (cast_unsigned w64 id) ≡ id = to_z-of_z w64 id fits in
    let ids : c.push_reserved.new.self.items ≡ now.ids.items ++ id ∷ [] = c.push_reserved.ensures.items
    ∙ ap (λ (z : ℤ). c.reserve.new.self.items ++ z ∷ []) whole
    ∙ ap (λ (zs : List ℤ). zs ++ id ∷ []) c.in_ok-reserve.ensures.items in
    let codes : c.extend_from_slice.new.self.items ≡ now.codes.items ++ now.code.items
    = c.in_ok-extend_from_slice.ensures.items
    ∙ ap (λ (bytes : List ℕ). now.codes.items ++ bytes) c.deref.ensures.value in
    let here : key_of now.code.items 0 now.b ≡ now.key
    = subst (λ (v : GatheredRows). key_of v.code 0 v.b ≡ v.key) (sym c.self.view_is) c.requires in
    rw (ids, codes) (
      codes_whole (now.dim.bits / 8) now.ids.items now.codes.items now.code.items id c.self.invariant.0
          c.self.invariant.1,
      c.self.invariant.1,
      keys_gathered (now.dim.bits / 8) now.ids.items now.codes.items now.code.items id c.self.invariant.0
          c.self.invariant.1 now.b now.key c.self.invariant.2 here,
    )

pub returns : goal.returns
returns c =
    let now = c.self.inside in
    let id : ℤ = c.args.id in
    let fits : FitsSigned w64 id = search rules in
    let whole : cast_signed w64 (cast_unsigned w64 id) ≡ id = to_z-of_z w64 id fits in
    let ids : c.push_reserved.new.self.items ≡ now.ids.items ++ id ∷ [] = c.push_reserved.ensures.items
    ∙ ap (λ (z : ℤ). c.reserve.new.self.items ++ z ∷ []) whole
    ∙ ap (λ (zs : List ℤ). zs ++ id ∷ []) c.in_ok-reserve.ensures.items in
    let codes : c.extend_from_slice.new.self.items ≡ now.codes.items ++ now.code.items
    = c.in_ok-extend_from_slice.ensures.items
    ∙ ap (λ (bytes : List ℕ). now.codes.items ++ bytes) c.deref.ensures.value in
    rw (← c.self.view_is, ids, codes) (ap
    (λ (rows : List Row). record {
      dim = now.dim.bits;
      b = now.b;
      key = now.key;
      code = now.code.items;
      rows = rows;
    })
    (rows_gathered (now.dim.bits / 8) now.ids.items now.codes.items now.code.items id c.self.invariant.0
    c.self.invariant.1))
