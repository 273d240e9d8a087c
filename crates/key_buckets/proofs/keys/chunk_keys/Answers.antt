use Rattle.std.proofs.Common.{◌<◌, ◌∷◌, ◌++◌, [], ℕ, List, length, map, take, sym, ap, ◌∙◌, arith}
use Rattle.std.proofs.lemmas.List.{map_more, take_all}
use Rattle.key_buckets.specs.Keys.{key_in}
use Rattle.key_buckets.proofs.keys.chunk_keys.Goals as goal

pub loop-at-preserved : goal.loop-at-preserved
loop-at-preserved c =
    let f : List ℕ → ℕ = key_in c.args.i c.args.b in
    let here : c.loop-at.at < length c.args.codes.now.codes = omega arith in
    c.in_ok-push.ensures.items
    ∙ ap (λ (ks : List ℕ). ks ++ c.chunk.result ∷ []) c.loop-at.invariant
    ∙ ap (λ (k : ℕ). map f (take c.loop-at.at c.args.codes.now.codes) ++ k ∷ []) (c.chunk.ensures ∙ ap f c.get.ensures.value)
    ∙ sym (map_more f c.args.codes.now.codes c.loop-at.at [] here)

pub returns : goal.returns
returns c = c.loop-at.invariant ∙ ap (map (key_in c.args.i c.args.b)) (take_all c.loop-at.at c.args.codes.now.codes (omega arith))
