use Rattle.std.proofs.Common.{◌≡◌, ℕ, ◌+◌, ◌*◌, ◌∙◌, true, false, sym, ap, subst, arith, rules, List, max}
use Rattle.std.specs.Prelude.{is_some}
use Rattle.std.proofs.lemmas.Grind.{common_steps}
use Rattle.file_parts.specs.Format.{first_refusal}
use Rattle.key_buckets.specs.Keys.{list_of}
use Rattle.index_files.specs.HashFormat.{KeySize, end_checks}
use Rattle.index_files.proofs.HashRunReading.{SoFar, bucket_is, empty, next_at, size_few, so_far_all, so_far_next}
use Rattle.index_files.proofs.HashRunReading.{so_far_none, twice}
use Rattle.index_files.proofs.reading.hash.run.run_fault.Goals as goal

pub loop-i-init : goal.loop-i-init
loop-i-init c =
    let p = c.args.packing in
    let run = c.args.run.now in
    record {
      so_far = subst (SoFar run p.b p.width p.count p.total 0 0 0) (sym c.new-seen.ensures)
          (so_far_none run p.b p.width p.count p.total);
      bytes = ap (λ r. r.bytes) c.new-bits.ensures;
      at = ap (λ r. r.at) c.new-bits.ensures ∙ omega arith;
    }

pub returns-then-is_some : goal.returns-then-is_some
returns-then-is_some c =
    let p = c.args.packing in
    let run = c.args.run.now in
    let inv = c.loop-i.invariant in
    let k : ℕ = c.next_bucket-bucket.result.key in
    let bucket = bucket_is run p.b p.width c.loop-i.i k c.next_bucket-bucket.result.size c.loop-i.bits.bytes
    c.loop-i.bits.at inv.bytes inv.at c.next_bucket-bucket.ensures.key c.next_bucket-bucket.ensures.size in
    let seen : is_some (list_of c.loop-i.seen k) ≡ true = search rules in
    twice run p.b p.width p.count p.total c.loop-i.i c.loop-i.sum c.loop-i.largest k c.loop-i.seen c.loop-i-test.true
    (ap (λ (q : KeySize). q.key) bucket) seen inv.so_far

pub returns-then-bucket-eq0 : goal.returns-then-bucket-eq0
returns-then-bucket-eq0 c =
    let p = c.args.packing in
    let run = c.args.run.now in
    let inv = c.loop-i.invariant in
    let k : ℕ = c.next_bucket-bucket.result.key in
    let size : ℕ = c.next_bucket-bucket.result.size in
    let bucket = bucket_is run p.b p.width c.loop-i.i k size c.loop-i.bits.bytes
    c.loop-i.bits.at inv.bytes inv.at c.next_bucket-bucket.ensures.key c.next_bucket-bucket.ensures.size in
    let fresh : is_some (list_of c.loop-i.seen k) ≡ false = search rules in
    empty run p.b p.width p.count p.total c.loop-i.i c.loop-i.sum c.loop-i.largest k size c.loop-i.seen
    c.loop-i-test.true (ap (λ (q : KeySize). q.key) bucket) (ap (λ (q : KeySize). q.size) bucket) fresh
    c.if-bucket-eq0.true inv.so_far

pub overflow_add-sum : goal.overflow_add-sum
overflow_add-sum c =
    let p = c.args.packing in
    let small = size_few c.loop-i.bits.bytes (c.loop-i.bits.at + p.b) p.width c.requires.packing.width in
    omega (
      arith,
      c.loop-i.invariant.so_far.few,
      small,
      c.next_bucket-bucket.ensures.size,
      c.loop-i-test.true,
      c.requires.packing.count,
      c.requires.packing.total,
    )

pub loop-i-preserved : goal.loop-i-preserved
loop-i-preserved c =
    let p = c.args.packing in
    let run = c.args.run.now in
    let inv = c.loop-i.invariant in
    let i : ℕ = c.loop-i.i in
    let k : ℕ = c.next_bucket-bucket.result.key in
    let size : ℕ = c.next_bucket-bucket.result.size in
    let bucket = bucket_is run p.b p.width i k size c.loop-i.bits.bytes
    c.loop-i.bits.at inv.bytes inv.at c.next_bucket-bucket.ensures.key c.next_bucket-bucket.ensures.size in
    let fresh : is_some (list_of c.loop-i.seen k) ≡ false = search rules in
    let next = so_far_next run p.b p.width p.count p.total i c.loop-i.sum c.loop-i.largest k size _ c.loop-i.seen
    c.push.new.self c.loop-i-test.true c.requires.packing.width
    (ap (λ (q : KeySize). q.key) bucket) (ap (λ (q : KeySize). q.size) bucket) fresh c.if-bucket-eq0.false
    c.in_ok-push.ensures.lists inv.so_far in
    let moved = c.next_bucket-bucket.ensures.moved in
    let greatest : c.max-largest.result ≡ max c.loop-i.largest size =
    first_of (omega (arith, c.max-largest.ensures), search rules, grind (arith, common_steps, c.max-largest.ensures)) in
    record {
      so_far = subst (λ (n : ℕ). SoFar run p.b p.width p.count p.total (i + 1) (c.loop-i.sum + size) n
          c.push.new.self) (sym greatest) next;
      bytes = ap (λ r. r.bytes) moved ∙ inv.bytes;
      at = ap (λ r. r.at) moved ∙ ap (λ (n : ℕ). n + p.b + p.width) inv.at ∙ next_at p.b p.width i;
    }

pub returns : goal.returns
returns c =
    let p = c.args.packing in
    let run = c.args.run.now in
    let inv = c.loop-i.invariant in
    let all : c.loop-i.i ≡ p.count = omega (arith, c.loop-i-test.false, c.loop-i.auto.i-end) in
    let at : c.loop-i.bits.at ≡ p.count * (p.b + p.width) =
    inv.at ∙ ap (λ (n : ℕ). n * (p.b + p.width)) all in
    let checks : List ℕ → ℕ → _ = λ r n. first_refusal (end_checks p.width p.total c.loop-i.sum c.loop-i.largest r n) in
    sym (so_far_all run p.b p.width p.count p.total c.loop-i.i c.loop-i.sum c.loop-i.largest c.loop-i.seen
    c.loop-i-test.false inv.so_far)
    ∙ ap (λ (n : ℕ). checks run n) (sym at) ∙ ap (λ (r : List ℕ). checks r c.loop-i.bits.at) (sym inv.bytes)
    ∙ c.end_fault.ensures
