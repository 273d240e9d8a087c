use Rattle.std.proofs.Common.{◌≡◌, ◌/◌, ◌++◌, ℕ, ℤ, List, length, map, take, drop, sym, ap, subst, ◌∙◌, arith}
use Rattle.std.proofs.lemmas.List.{map-append}
use Rattle.std.proofs.Math.Seq.{take-add}
use Rattle.bcodes.specs.Value.{numbered}
use Rattle.code_pool.specs.Lists.{IsRun, rows_in}
use Rattle.key_buckets.specs.Keys.{key_in}
use Rattle.multi_hash.specs.Inside.{row_key}
use Rattle.multi_hash.proofs.PlaceLemmas.{run_keys_are, run_within}
use Rattle.multi_hash.proofs.keys.keys_under.Goals as goal

pub loop-from-preserved : goal.loop-from-preserved
loop-from-preserved g c =
    let i : ℕ = c.args.i in
    let b : ℕ = c.args.b in
    let from : ℕ = c.loop-from.from in
    let codes : List (List ℕ) = c.args.storage.now.codes in
    let labels : List ℤ = c.lend-run.result.labels.now in
    let bytes : List ℕ = c.lend-run.result.codes.now in
    let n : ℕ = length labels in
    let eighth : ℕ = c.args.storage.now.dim / 8 in
    let run : IsRun (numbered 0 codes) from eighth labels bytes = c.lend-run.ensures.run in
    let size : c.bytes-size.result ≡ eighth
    = omega (arith, c.bytes-size.ensures.value, c.bytes-size.ensures.eighth, c.dim.ensures.value) in
    let sized : IsRun (numbered 0 codes) from c.bytes-size.result labels bytes =
    subst (λ (k : ℕ). IsRun (numbered 0 codes) from k labels bytes) (sym size) run in
    record {
      within = run_within from eighth codes labels bytes run;
      keys =
          c.in_ok-push_keys.ensures
          ∙ ap (λ (ks : List ℕ). ks ++ map (row_key i b) (rows_in c.bytes-size.result labels bytes))
          c.loop-from.invariant.keys
          ∙ ap (λ (ks : List ℕ). map (key_in i b) (take from codes) ++ ks)
          (run_keys_are i b from c.bytes-size.result codes labels bytes sized)
          ∙ sym (map-append (key_in i b) (take from codes) (take n (drop from codes)))
          ∙ ap (map (key_in i b)) (sym (take-add from n codes));
    }
