use Rattle.std.proofs.Common.{rules, ◌≡◌, ℕ, ◌+◌, ◌-◌, ◌≤◌, ◌++◌, List, length, replicate, ap, ◌∙◌, arith}
use Rattle.std.proofs.Common.{append_assoc, length-append}
use Rattle.std.specs.Prelude.{vec_capacity}
use Rattle.std.proofs.lemmas.List.{length-replicate, replicate-append-replicate, take-replicate}
use Rattle.code_pool.proofs.rows.fill_bytes.Goals as goal

pub loop-bytes-preserved : goal.loop-bytes-preserved
loop-bytes-preserved c =
    let old : List ℕ = c.args.bytes.now.items in
    let now : List ℕ = c.loop-bytes.bytes.items in
    let new : List ℕ = c.extend_from_slice.new.self.items in
    let more : ℕ = c.min-more.result in
    let inv = c.loop-bytes.invariant in
    let few : more ≤ 4096 = search rules in
    let added : new ≡ now ++ replicate more 0 = c.in-Ok.ensures.items
    ∙ ap (λ (zs : List ℕ). now ++ zs) (take-replicate more 4096 0 few) in
    let len : length new ≡ length now + more = ap length added ∙ length-append now (replicate more 0)
    ∙ ap (λ (k : ℕ). length now + k) (length-replicate more 0) in
    let most : length new ≤ c.args.n = search rules in
    let room : c.args.n ≤ vec_capacity c.extend_from_slice.new.self = search rules in
    let count : (length now - length old) + more ≡ length new - length old = omega (arith, len, inv.least) in
    record {
      least = omega (arith, inv.least, len);
      most = most;
      room = room;
      items = added
          ∙ ap (λ (zs : List ℕ). zs ++ replicate more 0) inv.items
          ∙ append_assoc old (replicate (length now - length old) 0) (replicate more 0)
          ∙ ap (λ (zs : List ℕ). old ++ zs) (replicate-append-replicate (length now - length old) more 0
          ∙ ap (λ (k : ℕ). replicate k 0) count);
    }
