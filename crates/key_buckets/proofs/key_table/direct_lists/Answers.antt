use Rattle.std.proofs.Common.{◌≡◌, ◌<◌, ◌+◌, ◌∷◌, ◌++◌, [], ℕ, List, None, length, nat_eq, take, get_or, ap, sym, ◌∙◌, arith}
use Rattle.std.specs.List.{IsDistinct}
use Rattle.std.specs.Map.{keys_of}
use Rattle.std.proofs.lemmas.List.{take_more}
use Rattle.key_buckets.specs.Keys.{list_of}
use Rattle.key_buckets.proofs.DirectLemmas.{fresh_at}
use Rattle.key_buckets.proofs.key_table.direct_lists.Goals as goal

pub loop-i-preserved : goal.loop-i-preserved
loop-i-preserved c =
    let es : List (ℕ × ℕ) = c.args.map.now.entries in
    let i : ℕ = c.loop-i.i in
    let count : c.len-i-end.result ≡ length es = c.len-i-end.ensures.len in
    let low : i < length es = omega (arith, count, c.loop-i-test.true) in
    let distinct : IsDistinct nat_eq (keys_of es) = c.len-i-end.ensures.unique in
    let none : list_of (take i es) c.entry-key.result.0 ≡ None =
    ap (λ (e : ℕ × ℕ). list_of (take i es) e.0) c.entry-key.ensures ∙ fresh_at es i distinct low in
    let more : take i es ++ c.entry-key.result ∷ [] ≡ take (i + 1) es =
    ap (λ (e : ℕ × ℕ). take i es ++ e ∷ []) c.entry-key.ensures ∙ sym (take_more es i (0, 0) low) in
    λ k h. c.note.ensures (take i es) none c.loop-i.invariant k h ∙ ap (λ (fs : List (ℕ × ℕ)). list_of fs k) more
