use Rattle.std.proofs.Common.{◌≡◌, suc, ◌+◌, ◌-◌, ◌*◌, ◌∷◌, ◌++◌, [], ℕ, List, Option, length, sym, ap, subst, ◌∙◌}
use Rattle.std.proofs.Common.{append_assoc, arith}
use Rattle.std.proofs.lemmas.Result.{err_from_is_err_and}
use Rattle.bcodes.specs.Bits.{key}
use Rattle.bit_strings.specs.States.{Reading}
use Rattle.file_parts.specs.Format.{Refusal, first_refusal}
use Rattle.multi_hash.specs.Seen.{IsSeen}
use Rattle.index_files.specs.MultiFormat.{numbers_in, position_checks}
use Rattle.index_files.proofs.MultiReading.{more_pass, more_refuses, numbers_more, numbers_split, refuses_same}
use Rattle.index_files.proofs.reading.multi.map_run.check_positions.Goals as goal

pub loop-preserved : goal.loop-preserved
loop-preserved c =
    let inv = c.loop.invariant in
    let v = c.args.codes.now in
    let t : ℕ = c.loop.counter in
    let w : ℕ = c.args.width in
    let run : List ℕ = c.args.reader.now.bytes in
    let at : ℕ = c.args.reader.now.at in
    let p : ℕ = c.next_number-position.result in
    let read : List ℕ = numbers_in run at w t in
    let p_is : p ≡ key run (at + t * w) w = c.next_number-position.ensures.number
    ∙ ap (λ (bs : List ℕ). key bs c.loop.reader.at w) inv.bytes ∙ ap (λ (a : ℕ). key run a w) inv.place in
    let more : numbers_in run at w (t + 1) ≡ read ++ p ∷ [] =
    numbers_more run at w t ∙ ap (λ (x : ℕ). read ++ x ∷ []) (sym p_is) in
    let next : (at + t * w) + w ≡ at + (t + 1) * w = grind arith in
    record {
      count = c.in_ok-check_position.ensures.count ∙ inv.count;
      bytes = ap (λ (r : Reading). r.bytes) c.next_number-position.ensures.reader ∙ inv.bytes;
      place =
          ap (λ (r : Reading). r.at) c.next_number-position.ensures.reader
          ∙ ap (λ (a : ℕ). a + w) inv.place ∙ next;
      seen = λ before h. (
          let all : (before ++ read) ++ p ∷ [] ≡ before ++ numbers_in run at w (t + 1) =
          append_assoc before read (p ∷ []) ∙ ap (λ (xs : List ℕ). before ++ xs) (sym more) in
          subst (λ (xs : List ℕ). IsSeen (length v.codes) xs c.check_position.new.met) all
          (c.in_ok-check_position.ensures.met (before ++ read) (inv.seen before h)));
      passed = λ before h.
          ap (λ (xs : List ℕ). first_refusal (position_checks v.codes v.number v.b c.args.wanted before xs)) more
          ∙ more_pass v.codes v.number v.b c.args.wanted before read p (inv.passed before h)
          (c.in_ok-check_position.ensures.checked (before ++ read) (inv.seen before h));
    }

pub returns-in_err-check_position-clause-checked : goal.returns-in_err-check_position-clause-checked
returns-in_err-check_position-clause-checked c = λ before h. (
    let inv = c.loop.invariant in
    let v = c.args.codes.now in
    let t : ℕ = c.loop.counter in
    let w : ℕ = c.args.width in
    let run : List ℕ = c.args.reader.now.bytes in
    let at : ℕ = c.args.reader.now.at in
    let p : ℕ = c.next_number-position.result in
    let read : List ℕ = numbers_in run at w t in
    let m : ℕ = c.args.size - (t + 1) in
    let rest : List ℕ = numbers_in run (at + (t + 1) * w) w m in
    let p_is : p ≡ key run (at + t * w) w = c.next_number-position.ensures.number
    ∙ ap (λ (bs : List ℕ). key bs c.loop.reader.at w) inv.bytes ∙ ap (λ (a : ℕ). key run a w) inv.place in
    let size : t + suc m ≡ c.args.size = omega arith in
    let all : read ++ p ∷ rest ≡ numbers_in run at w c.args.size =
    ap (λ (x : ℕ). read ++ x ∷ rest) p_is ∙ sym (numbers_split run at w t m)
    ∙ ap (numbers_in run at w) size in
    let tried : List ℕ → Option Refusal =
    λ xs. first_refusal (position_checks v.codes v.number v.b c.args.wanted before xs) in
    let r = err_from_is_err_and c.from_residual.result c.from_residual.ensures.1 in
    rw (r.1, r.2) (refuses_same c.args.at (tried (read ++ p ∷ rest)) (tried (numbers_in run at w c.args.size))
    c.in_err-check_position.field-0.0 (ap tried all)
    (more_refuses v.codes v.number v.b c.args.wanted c.args.at before read rest p
    c.in_err-check_position.field-0.0 (inv.passed before h)
    (c.in_err-check_position.ensures.checked (before ++ read) (inv.seen before h)))))

pub returns-clause-met : goal.returns-clause-met
returns-clause-met c = λ before h. (
    let all : c.loop.counter ≡ c.args.size = omega arith in
    subst (λ (k : ℕ). IsSeen (length c.args.codes.now.codes)
    (before ++ numbers_in c.args.reader.now.bytes c.args.reader.now.at c.args.width k) c.loop.met) all
    (c.loop.invariant.seen before h))
