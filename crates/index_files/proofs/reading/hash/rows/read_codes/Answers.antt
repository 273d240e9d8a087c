use Rattle.std.proofs.Common.{rules, ◌≡◌, ℕ, ◌+◌, ◌*◌, ◌/◌, ◌<◌, ◌++◌, [], ◌∷◌, length, drop, refl, sym, ap, subst}
use Rattle.std.proofs.Common.{◌≤◌, ◌∙◌, arith, length-append, List, ℤ, pos, FitsSigned, to_z, of_z, w64}
use Rattle.std.specs.Prelude.{slice_index_or}
use Rattle.std.proofs.lemmas.List.{drop_more}
use Rattle.bcodes.specs.Bits.{key as key_of}
use Rattle.std.proofs.lemmas.Int.{to_z-of_z}
use Rattle.std.proofs.lemmas.Result.{err_from_is_err_and}
use Rattle.file_parts.specs.Format.{run}
use Rattle.file_parts.specs.Fields.{repeated}
use Rattle.file_parts.specs.Feeding.{GivesError, place}
use Rattle.file_parts.proofs.Repeats.{ends, goes_on, is_done}
use Rattle.bcodes.specs.Ranges.{load_limit}
use Rattle.bcodes.specs.Value.{Row, weight}
use Rattle.index_files.specs.HashFormat.{bucket_code, hash_rows}
use Rattle.index_files.specs.HashReading.{joined, key_size}
use Rattle.index_files.proofs.HashReading.{code_joined, codes_fail, codes_few, codes_gained, codes_read}
use Rattle.index_files.proofs.HashReading.{keeps_same, none_read, row_joined, weigh_fewer, with_codes}
use Rattle.index_files.proofs.LoadLemmas.{keeps_then, told_kept}
use Rattle.index_files.proofs.reading.hash.rows.read_codes.Goals as goal

pub loop-i-init : goal.loop-i-init
loop-i-init g c =
    let old = c.args.hash.now in
    let begun = c.begin.new.self in
    record {
      within = omega arith;
      dim = ap (λ v. v.dim) c.begin.ensures ∙ c.requires.dim;
      b = ap (λ v. v.b) c.begin.ensures ∙ c.requires.b;
      key = ap (λ v. v.key) c.begin.ensures;
      codes = (
        [],
        refl,
        ap (λ (rows : List Row). record old { rows = old.rows ++ rows }) (ap (λ v. v.rows) c.begin.ensures),
        λ told. none_read (bucket_code (old.dim / 8) old.b c.args.bucket.key) (length c.args.ids.now)
            (place g.H.Shelf.contents c.args.feed.now),
      );
      same_shelf = refl;
      files = keeps_same _;
      reading = refl;
      count_stays = refl;
    }

pub put_if_full-requires-clause-load : goal.put_if_full-requires-clause-load
put_if_full-requires-clause-load g c =
    let inv = c.loop-i.invariant in
    let old = c.args.hash.now in
    let now = c.loop-i.hash in
    let few = codes_few old (joined c.loop-i.gathered now) inv.codes.0 c.args.ids.now inv.codes.2 in
    let same : old.dim ≡ now.dim = sym (ap (λ v. v.dim) inv.codes.2) in
    weigh_fewer now.dim (length now.rows + length c.loop-i.gathered.rows)
    (length old.rows + c.args.bucket.size)
    (omega (
      arith,
      few,
      length-append now.rows c.loop-i.gathered.rows,
      inv.codes.1,
      c.loop-i-test.true,
      c.requires.count,
    ))
    (subst (λ d. weight d 1 (length old.rows + c.args.bucket.size) 0 ≤ load_limit) same
    c.requires.load)

pub read_code-requires-clause-b_within : goal.read_code-requires-clause-b_within
read_code-requires-clause-b_within g c =
    let inv = c.loop-i.invariant in
    let d : ℕ = c.args.hash.now.dim in
    let b : ℕ = c.args.hash.now.b in
    let legal = c.dim-dim.ensures.legal in
    let rest = c.in_ok-put_if_full.ensures.rest in
    let then_dim : c.put_if_full.new.self.dim ≡ d = ap (λ v. v.dim) rest ∙ inv.dim ∙ ap (λ v. v.dim) inv.codes.2 in
    let then_b : c.put_if_full.new.self.b ≡ b = ap (λ v. v.b) rest ∙ inv.b ∙ ap (λ v. v.b) inv.codes.2 in
    let whole : 8 * (d / 8) ≡ d = omega (arith, legal.dim.whole_bytes) in
    let within : b ≤ 8 * (d / 8) = omega (arith, whole, legal.b_within) in
    subst (λ (n : ℕ). n ≤ 8 * (c.put_if_full.new.self.dim / 8)) (sym then_b)
    (subst (λ (d : ℕ). b ≤ 8 * (d / 8)) (sym then_dim) within)

pub read_code-requires-clause-b_least : goal.read_code-requires-clause-b_least
read_code-requires-clause-b_least g c =
    let inv = c.loop-i.invariant in
    let then_b : c.put_if_full.new.self.b ≡ c.args.hash.now.b =
    ap (λ v. v.b) c.in_ok-put_if_full.ensures.rest ∙ inv.b ∙ ap (λ v. v.b) inv.codes.2 in
    subst (λ (n : ℕ). 1 ≤ n) (sym then_b) c.dim-dim.ensures.legal.b_least

pub read_code-requires-clause-b_most : goal.read_code-requires-clause-b_most
read_code-requires-clause-b_most g c =
    let inv = c.loop-i.invariant in
    let then_b : c.put_if_full.new.self.b ≡ c.args.hash.now.b =
    ap (λ v. v.b) c.in_ok-put_if_full.ensures.rest ∙ inv.b ∙ ap (λ v. v.b) inv.codes.2 in
    subst (λ (n : ℕ). n ≤ 64) (sym then_b) c.dim-dim.ensures.legal.b_most

pub push-requires : goal.push-requires
push-requires g c =
    let rest = c.in_ok-read_code.ensures.rest in
    subst (λ (n : ℕ). key_of c.read_code.new.self.code 0 n ≡ c.read_code.new.self.key)
    (sym (ap (λ v. v.b) rest)) (c.in_ok-read_code.ensures.key ∙ sym (ap (λ v. v.key) rest))

pub loop-i-preserved : goal.loop-i-preserved
loop-i-preserved g c =
    let inv = c.loop-i.invariant in
    let old = c.args.hash.now in
    let hash = c.put_if_full.new.hash in
    let then = c.put_if_full.new.self in
    let new = c.push.new.self in
    let ids = c.args.ids.now in
    let cs = inv.codes.0 in
    let i : ℕ = c.loop-i.i in
    let z : ℤ = slice_index_or c.args.ids.now c.loop-i.i (pos 0) in
    let code : List ℕ = c.read_code.new.self.code in
    let row : Row = record { label = z; code = code } in
    let lt : i < length ids = c.loop-i-test.true in
    let f = bucket_code (old.dim / 8) old.b c.args.bucket.key in
    let whole = run (repeated (length ids) f) (place g.H.Shelf.contents c.args.feed.now) in
    let here : drop i ids ≡ z ∷ drop (i + 1) ids = drop_more ids i (pos 0) lt in
    let fits : FitsSigned w64 z = search rules in
    let kept : to_z w64 (of_z w64 z) ≡ z = to_z-of_z w64 z fits in
    let rows : new.rows ≡ then.rows ++ row ∷ [] = ap (λ v. v.rows) c.in_ok-push.ensures
    ∙ ap (λ (y : ℤ). c.read_code.new.self.rows ++ record { label = y; code = code } ∷ []) kept
    ∙ ap (λ (rows : List Row). rows ++ row ∷ []) (ap (λ v. v.rows) c.in_ok-read_code.ensures.rest) in
    let same : joined then hash ≡ with_codes old cs ids = c.in_ok-put_if_full.ensures.same ∙ inv.codes.2 in
    let dim : hash.dim ≡ old.dim = ap (λ v. v.dim) same in
    let rest = c.in_ok-put_if_full.ensures.rest in
    let then_dim : then.dim ≡ old.dim = ap (λ v. v.dim) rest ∙ inv.dim ∙ ap (λ v. v.dim) inv.codes.2 in
    let then_b : then.b ≡ old.b = ap (λ v. v.b) rest ∙ inv.b ∙ ap (λ v. v.b) inv.codes.2 in
    let then_key : then.key ≡ c.args.bucket.key = ap (λ v. v.key) rest ∙ inv.key in
    let read = c.in_ok-read_code.ensures.rest in
    record {
      within = omega (arith, lt);
      dim = ap (λ v. v.dim) c.in_ok-push.ensures ∙ ap (λ v. v.dim) read ∙ then_dim ∙ sym dim;
      b = ap (λ v. v.b) c.in_ok-push.ensures ∙ ap (λ v. v.b) read ∙ then_b ∙ sym (ap (λ v. v.b) same);
      key = ap (λ v. v.key) c.in_ok-push.ensures ∙ ap (λ v. v.key) read ∙ then_key;
      codes = (
        cs ++ code ∷ [],
        length-append cs (code ∷ []) ∙ ap (λ (n : ℕ). n + 1) inv.codes.1,
        code_joined old (joined then hash) (joined new hash) cs code ids i z inv.codes.1 here same
            (row_joined hash then new row rows),
        λ told. goes_on f cs (length ids) i (place g.H.Shelf.contents c.loop-i.feed)
            (place g.H.Shelf.contents c.read_code.new.feed) code whole lt
            (rw (then_dim, then_b, then_key) at (c.in_ok-read_code.ensures.gives (told_kept _ _ inv.files told)))
            (inv.codes.3 told),
      );
      same_shelf = c.in_ok-read_code.ensures.shelf.same_shelf ∙ inv.same_shelf;
      files = keeps_then _ _ _ inv.files c.in_ok-read_code.ensures.shelf.files;
      reading = c.in_ok-read_code.ensures.shelf.reading ∙ inv.reading;
      count_stays = search rules;
    }

pub returns-in_err-read_code-clause-gives : goal.returns-in_err-read_code-clause-gives
returns-in_err-read_code-clause-gives g c = λ told. (
    let inv = c.loop-i.invariant in
    let old = c.args.hash.now in
    let ids = c.args.ids.now in
    let e = c.in_err-read_code.field-0.0 in
    let f = bucket_code (old.dim / 8) old.b c.args.bucket.key in
    let from = place g.H.Shelf.contents c.args.feed.now in
    let rest = c.in_ok-put_if_full.ensures.rest in
    let then_dim : c.put_if_full.new.self.dim ≡ old.dim =
    ap (λ v. v.dim) rest ∙ inv.dim ∙ ap (λ v. v.dim) inv.codes.2 in
    let then_b : c.put_if_full.new.self.b ≡ old.b = ap (λ v. v.b) rest ∙ inv.b ∙ ap (λ v. v.b) inv.codes.2 in
    let then_key : c.put_if_full.new.self.key ≡ c.args.bucket.key = ap (λ v. v.key) rest ∙ inv.key in
    let r = err_from_is_err_and c.from_residual-in_err-read_code.result c.from_residual-in_err-read_code.ensures.1 in
    let fails : GivesError e (run (repeated (length ids) f) from) =
    ends f e inv.codes.0 (length ids) c.loop-i.i (place g.H.Shelf.contents c.loop-i.feed)
    (run (repeated (length ids) f) from) c.loop-i-test.true
    (rw (then_dim, then_b, then_key) at (c.in_err-read_code.ensures.gives (told_kept _ _ inv.files told)))
    (inv.codes.3 told) in
    rw (r.1, r.2) (codes_fail e (old.dim / 8) old.b (key_size c.args.bucket) old.rows ids from
    (subst (λ (m : ℕ). GivesError e (run (repeated m f) from)) c.requires.count fails)))

pub returns-clause-gives : goal.returns-clause-gives
returns-clause-gives g c = λ told. (
    let inv = c.loop-i.invariant in
    let old = c.args.hash.now in
    let ids = c.args.ids.now in
    let f = bucket_code (old.dim / 8) old.b c.args.bucket.key in
    let from = place g.H.Shelf.contents c.args.feed.now in
    let end = place g.H.Shelf.contents c.loop-i.feed in
    let all = is_done f inv.codes.0 (length ids) c.loop-i.i end (run (repeated (length ids) f) from)
    c.loop-i-test.false (inv.codes.3 told) in
    let rows : c.put_into.new.hash.rows ≡ old.rows ++ hash_rows inv.codes.0 ids =
    ap (λ v. v.rows) (c.in_ok-put_into.ensures.hash ∙ inv.codes.2) in
    rw rows (codes_read (old.dim / 8) old.b (key_size c.args.bucket) old.rows inv.codes.0 ids from end
    (ap (λ (m : ℕ). run (repeated m f) from) (sym c.requires.count) ∙ all)))

pub returns-clause-gains : goal.returns-clause-gains
returns-clause-gains g c =
    let inv = c.loop-i.invariant in
    let all : length c.args.ids.now ≤ c.loop-i.i = c.loop-i-test.false in
    codes_gained c.args.hash.now c.put_into.new.hash inv.codes.0
    c.args.ids.now (c.in_ok-put_into.ensures.hash ∙ inv.codes.2) (omega (arith, inv.codes.1, all, c.loop-i.invariant.within))

-- the rows that are still gathered weigh no more than all
pub put_into-requires-clause-load : goal.put_into-requires-clause-load
put_into-requires-clause-load g c =
    let inv = c.loop-i.invariant in
    let old = c.args.hash.now in
    let now = c.loop-i.hash in
    let few = codes_few old (joined c.loop-i.gathered now) inv.codes.0 c.args.ids.now inv.codes.2 in
    let same : old.dim ≡ now.dim = sym (ap (λ v. v.dim) inv.codes.2) in
    weigh_fewer now.dim (length now.rows + length c.loop-i.gathered.rows) (length old.rows + c.args.bucket.size)
    (omega (
      arith,
      few,
      length-append now.rows c.loop-i.gathered.rows,
      inv.codes.1,
      inv.within,
      c.requires.count,
    ))
    (subst (λ d. weight d 1 (length old.rows + c.args.bucket.size) 0 ≤ load_limit) same c.requires.load)
