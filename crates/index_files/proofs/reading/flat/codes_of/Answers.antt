use Rattle.std.proofs.Common.{◌≡◌, ℕ, ◌*◌, ◌/◌, List, [], ◌∷◌, ◌++◌, take, drop, sym, ap}
use Rattle.std.proofs.Common.{◌∙◌}
use Rattle.bcodes.specs.Chunks.{chunks_of}
use Rattle.index_files.proofs.LoadLemmas.{chunks_more}
use Rattle.index_files.proofs.reading.flat.codes_of.Goals as goal

pub loop-i-init : goal.loop-i-init
unfolding chunks_of
loop-i-init c = record { dim = ap (λ v. v.dim) c.new-codes.ensures; so_far = ap (λ v. v.codes) c.new-codes.ensures }

pub loop-i-preserved : goal.loop-i-preserved
loop-i-preserved c =
    let size : ℕ = c.args.dim.bits / 8 in
    let bytes : List ℕ = c.args.bytes.now in
    let i : ℕ = c.loop-i.i in
    let code : c.code_at.result.now ≡ take size (drop (i * size) bytes) =
    c.code_at.ensures.value ∙ ap (λ (n : ℕ). take n (drop (i * n) bytes)) c.bytes.ensures.value in
    record {
      dim = ap (λ v. v.dim) c.in_ok-push.ensures.ok ∙ c.loop-i.invariant.dim;
      so_far =
          ap (λ v. v.codes) c.in_ok-push.ensures.ok
          ∙ ap (λ (cs : List (List ℕ)). cs ++ c.code_at.result.now ∷ []) c.loop-i.invariant.so_far
          ∙ ap (λ (b : List ℕ). chunks_of size i bytes ++ b ∷ []) code ∙ sym (chunks_more size i bytes);
    }
