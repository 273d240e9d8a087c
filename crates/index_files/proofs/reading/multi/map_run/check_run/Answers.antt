use Rattle.std.proofs.Common.{◌≡◌, suc, ◌+◌, ◌-◌, ◌*◌, ◌≤◌, [], ℕ, List, Bool, true, false, not, length, replicate}
use Rattle.std.proofs.Common.{sym, ap, subst, ◌∙◌, arith}
use Rattle.std.proofs.lemmas.List.{length-replicate}
use Rattle.std.proofs.lemmas.Result.{err_from_is_err_and}
use Rattle.bit_strings.specs.States.{Reading}
use Rattle.file_parts.specs.declared.reason.Reason.TheVariants as reason
use Rattle.file_parts.specs.Format.{first_refusal}
use Rattle.index_files.specs.HashFormat.{has_padding}
use Rattle.index_files.specs.MapReading.{IsLeft, KeyedCodes}
use Rattle.index_files.specs.MultiFormat.{map_run_checks}
use Rattle.index_files.proofs.MultiReading.{bucket_left, first_left, is_padded, refuses_by, run_passes, some_left}
use Rattle.index_files.proofs.reading.multi.map_run.check_run.Goals as goal

-- the state before the first bucket, as the code has it
begins : (v : KeyedCodes) (width buckets many left : ℕ) (run : List ℕ) (r : Reading) (keys : List (ℕ × ℕ))
    (met : List Bool) → r ≡ record { bytes = run; at = 0 } → keys ≡ [] → met ≡ replicate (length v.codes) false
    → left ≡ length v.codes → many ≡ buckets
    → IsLeft v width r many left keys met
    (first_refusal (map_run_checks v.codes v.number v.b width run buckets 0 [] []))
begins v width buckets many left run r keys met r_is keys_are met_is left_is many_is =
    let answer = first_refusal (map_run_checks v.codes v.number v.b width run buckets 0 [] []) in
    let n : ℕ = length v.codes in
    subst (λ (x : ℕ). IsLeft v width r x left keys met answer) (sym many_is)
    (subst (λ (x : ℕ). IsLeft v width r buckets x keys met answer) (sym left_is)
    (subst (λ (x : List Bool). IsLeft v width r buckets n keys x answer) (sym met_is)
    (subst (λ (x : List (ℕ × ℕ)). IsLeft v width r buckets n x (replicate n false) answer) (sym keys_are)
    (subst (λ (x : Reading). IsLeft v width x buckets n [] (replicate n false) answer) (sym r_is)
    (first_left v width buckets run)))))

fits_whole : (buckets head n width left at most : ℕ) → at ≡ 0 → left ≡ n
    → head * buckets + n * width ≤ most → at + ((buckets - 0) * head + left * width) ≤ most
fits_whole buckets head n width left at most at_is left_is h =
    let all : (buckets - 0) * head ≡ buckets * head = ap (λ (x : ℕ). x * head) (omega arith) in
    let turned : buckets * head ≡ head * buckets = grind arith in
    omega (arith, at_is, all, turned, h, ap (λ (x : ℕ). x * width) left_is)

pub loop-init : goal.loop-init
loop-init c =
    let v = c.args.codes.now in
    let met_is : c.in_ok-met.met ≡ replicate (length v.codes) false =
    c.in_ok-met.ensures ∙ ap (λ (n : ℕ). replicate n false) c.len.ensures in
    let many : c.args.buckets - 0 ≡ c.args.buckets = omega arith in
    record {
      count = ap length met_is ∙ length-replicate (length v.codes) false;
      bytes = ap (λ (r : Reading). r.bytes) c.new-reader.ensures;
      room = fits_whole c.args.buckets (v.b + c.args.width) (length v.codes) c.args.width c.len-left.result
          c.new-reader.result.at (8 * length c.args.run.now) (ap (λ (r : Reading). r.at) c.new-reader.ensures)
          c.len-left.ensures c.requires.whole;
      so_far = begins v c.args.width c.args.buckets (c.args.buckets - 0) c.len-left.result c.args.run.now
          c.new-reader.result c.new-keys.result c.in_ok-met.met c.new-reader.ensures c.new-keys.ensures met_is
          c.len-left.ensures many;
    }

pub returns-in_err-left : goal.returns-in_err-left
returns-in_err-left c =
    let v = c.args.codes.now in
    let answer = first_refusal
    (map_run_checks v.codes v.number v.b c.args.width c.args.run.now c.args.buckets 0 [] []) in
    let m : ℕ = c.args.buckets - (c.loop.counter + 1) in
    let next : c.args.buckets - c.loop.counter ≡ suc m = omega arith in
    let e = err_from_is_err_and c.from_residual-in_err-left.result c.from_residual-in_err-left.ensures.1 in
    rw (e.1, e.2) (c.in_err-left.ensures.refused m answer
    (subst (λ (x : ℕ). IsLeft v c.args.width c.loop.reader x c.loop.left c.loop.keys c.loop.met answer) next
    c.loop.invariant.so_far))

pub loop-preserved : goal.loop-preserved
loop-preserved c =
    let v = c.args.codes.now in
    let inv = c.loop.invariant in
    let w : ℕ = c.args.width in
    let answer = first_refusal (map_run_checks v.codes v.number v.b w c.args.run.now c.args.buckets 0 [] []) in
    let m : ℕ = c.args.buckets - (c.loop.counter + 1) in
    let next : c.args.buckets - c.loop.counter ≡ suc m = omega arith in
    record {
      count = c.in_ok-left.ensures.count ∙ inv.count;
      bytes = c.in_ok-left.ensures.bytes ∙ inv.bytes;
      room = bucket_left c.loop.reader.at c.check_bucket.new.reader.at c.loop.left c.in_ok-left.left w m (v.b + w)
          (8 * length c.args.run.now)
          (subst (λ (x : ℕ). c.loop.reader.at + (x * (v.b + w) + c.loop.left * w) ≤ 8 * length c.args.run.now) next
          inv.room) c.in_ok-left.ensures.place;
      so_far = c.in_ok-left.ensures.next m answer
          (subst (λ (x : ℕ). IsLeft v w c.loop.reader x c.loop.left c.loop.keys c.loop.met answer) next inv.so_far);
    }

pub returns-then-left-gt0 : goal.returns-then-left-gt0
returns-then-left-gt0 c =
    let v = c.args.codes.now in
    let w : ℕ = c.args.width in
    let answer = first_refusal (map_run_checks v.codes v.number v.b w c.args.run.now c.args.buckets 0 [] []) in
    let none : c.args.buckets - c.loop.counter ≡ 0 = omega arith in
    refuses_by c.args.at answer reason.ListSizes c.bad.result c.bad.ensures
    (some_left v w c.loop.reader c.loop.left c.loop.keys c.loop.met answer
    (subst (λ (x : ℕ). IsLeft v w c.loop.reader x c.loop.left c.loop.keys c.loop.met answer) none
    c.loop.invariant.so_far) c.if-left-gt0.true)

pub returns-then-not-rest_is_zero : goal.returns-then-not-rest_is_zero
returns-then-not-rest_is_zero c =
    let v = c.args.codes.now in
    let w : ℕ = c.args.width in
    let answer = first_refusal (map_run_checks v.codes v.number v.b w c.args.run.now c.args.buckets 0 [] []) in
    let none : c.args.buckets - c.loop.counter ≡ 0 = omega arith in
    let padded : has_padding c.loop.reader.bytes c.loop.reader.at ≡ true =
    ap not (sym c.rest_is_zero.ensures ∙ c.if-not-rest_is_zero.true) in
    refuses_by c.args.at answer reason.Padding c.bad-then-not-rest_is_zero.result c.bad-then-not-rest_is_zero.ensures
    (is_padded v w c.loop.reader c.loop.left c.loop.keys c.loop.met answer
    (subst (λ (x : ℕ). IsLeft v w c.loop.reader x c.loop.left c.loop.keys c.loop.met answer) none
    c.loop.invariant.so_far) (omega (arith, c.if-left-gt0.false)) padded)

pub returns : goal.returns
returns c =
    let v = c.args.codes.now in
    let w : ℕ = c.args.width in
    let answer = first_refusal (map_run_checks v.codes v.number v.b w c.args.run.now c.args.buckets 0 [] []) in
    let none : c.args.buckets - c.loop.counter ≡ 0 = omega arith in
    let clean : has_padding c.loop.reader.bytes c.loop.reader.at ≡ false =
    ap not (sym c.rest_is_zero.ensures ∙ c.if-not-rest_is_zero.false) in
    run_passes v w c.loop.reader c.loop.left c.loop.keys c.loop.met answer
    (subst (λ (x : ℕ). IsLeft v w c.loop.reader x c.loop.left c.loop.keys c.loop.met answer) none
    c.loop.invariant.so_far) (omega (arith, c.if-left-gt0.false)) clean
