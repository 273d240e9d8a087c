use Rattle.std.proofs.Common.{◌≡◌, ◌+◌, ◌*◌, ℕ, true, false}
use Rattle.std.proofs.Common.{sym, ap, ◌∙◌}
use Rattle.std.specs.Prelude.{is_some}
use Rattle.std.proofs.lemmas.Result.{err_from_is_err_and}
use Rattle.bcodes.specs.Bits.{key}
use Rattle.bit_strings.specs.States.{Reading}
use Rattle.file_parts.specs.declared.reason.Reason.TheVariants as reason
use Rattle.key_buckets.specs.Keys.{list_of}
use Rattle.index_files.proofs.MultiReading.{place_left, read_duplicate, read_empty, read_long, read_next, read_refuses}
use Rattle.index_files.proofs.MultiReading.{refuses_by}
use Rattle.index_files.proofs.reading.multi.map_run.check_bucket.Goals as goal

-- what was read: the key, the size, and the place behind them
key_is : (r : Reading) (b n k : ℕ) → k ≡ key r.bytes r.at n → n ≡ b → k ≡ key r.bytes r.at b
key_is r b n k e same = e ∙ ap (key r.bytes r.at) same

reader_is : (r q : Reading) (b n : ℕ) → q ≡ record r { at = r.at + n } → n ≡ b → q ≡ record r { at = r.at + b }
reader_is r q b n e same = e ∙ ap (λ (x : ℕ). behind x) same
  where
    behind : ℕ → Reading
    behind x = record r { at = r.at + x }

size_is : (r q : Reading) (b width s : ℕ) → q ≡ record r { at = r.at + b } → s ≡ key q.bytes q.at width
    → s ≡ key r.bytes (r.at + b) width
size_is r q b width s is e = e ∙ ap (λ (x : Reading). key x.bytes x.at width) is

behind_is : (r q z : Reading) (b width : ℕ) → q ≡ record r { at = r.at + b } → z ≡ record q { at = q.at + width }
    → z ≡ record { bytes = r.bytes; at = r.at + b + width }
behind_is r q z b width is e = e ∙ ap further is
  where
    further : Reading → Reading
    further x = record x { at = x.at + width }

pub returns-then-is_some-clause-refused : goal.returns-then-is_some-clause-refused
returns-then-is_some-clause-refused c = λ m answer h. (
    let v = c.args.codes.now in
    let r = c.args.reader.now in
    let q = c.next_number-key.new.reader in
    let k_is = key_is r v.b c.b.result c.next_number-key.result c.next_number-key.ensures.number c.b.ensures in
    let q_is = reader_is r q v.b c.b.result c.next_number-key.ensures.reader c.b.ensures in
    let s_is = size_is r q v.b c.args.width c.next_number-size.result q_is c.next_number-size.ensures.number in
    let z_is = behind_is r q c.next_number-size.new.reader v.b c.args.width q_is c.next_number-size.ensures.reader in
    let old : is_some (list_of c.args.keys.now c.next_number-key.result) ≡ true =
    ap is_some (sym c.list.ensures) ∙ sym c.is_some.ensures ∙ c.if-is_some.true in
    refuses_by c.args.at answer reason.DuplicateKey c.bad.result c.bad.ensures
    (read_duplicate v c.args.width r m c.args.left c.args.keys.now c.args.met.now answer h c.next_number-key.result
    c.next_number-size.result c.next_number-size.new.reader k_is s_is z_is old))

pub returns-then-size-eq0-clause-refused : goal.returns-then-size-eq0-clause-refused
returns-then-size-eq0-clause-refused c = λ m answer h. (
    let v = c.args.codes.now in
    let r = c.args.reader.now in
    let q = c.next_number-key.new.reader in
    let k_is = key_is r v.b c.b.result c.next_number-key.result c.next_number-key.ensures.number c.b.ensures in
    let q_is = reader_is r q v.b c.b.result c.next_number-key.ensures.reader c.b.ensures in
    let s_is = size_is r q v.b c.args.width c.next_number-size.result q_is c.next_number-size.ensures.number in
    let z_is = behind_is r q c.next_number-size.new.reader v.b c.args.width q_is c.next_number-size.ensures.reader in
    let new : is_some (list_of c.args.keys.now c.next_number-key.result) ≡ false =
    ap is_some (sym c.list.ensures) ∙ sym c.is_some.ensures ∙ c.if-is_some.false in
    refuses_by c.args.at answer reason.EmptyBucket c.bad-then-size-eq0.result c.bad-then-size-eq0.ensures
    (read_empty v c.args.width r m c.args.left c.args.keys.now c.args.met.now answer h c.next_number-key.result
    c.next_number-size.result c.next_number-size.new.reader k_is s_is z_is new c.if-size-eq0.true))

pub returns-then-size-left-clause-refused : goal.returns-then-size-left-clause-refused
returns-then-size-left-clause-refused c = λ m answer h. (
    let v = c.args.codes.now in
    let r = c.args.reader.now in
    let q = c.next_number-key.new.reader in
    let k_is = key_is r v.b c.b.result c.next_number-key.result c.next_number-key.ensures.number c.b.ensures in
    let q_is = reader_is r q v.b c.b.result c.next_number-key.ensures.reader c.b.ensures in
    let s_is = size_is r q v.b c.args.width c.next_number-size.result q_is c.next_number-size.ensures.number in
    let z_is = behind_is r q c.next_number-size.new.reader v.b c.args.width q_is c.next_number-size.ensures.reader in
    let new : is_some (list_of c.args.keys.now c.next_number-key.result) ≡ false =
    ap is_some (sym c.list.ensures) ∙ sym c.is_some.ensures ∙ c.if-is_some.false in
    refuses_by c.args.at answer reason.ListSizes c.bad-then-size-left.result c.bad-then-size-left.ensures
    (read_long v c.args.width r m c.args.left c.args.keys.now c.args.met.now answer h c.next_number-key.result
    c.next_number-size.result c.next_number-size.new.reader k_is s_is z_is new c.if-size-eq0.false
    c.if-size-left.true))

pub returns-in_err-check_positions-clause-refused : goal.returns-in_err-check_positions-clause-refused
returns-in_err-check_positions-clause-refused c = λ m answer h. (
    let v = c.args.codes.now in
    let r = c.args.reader.now in
    let q = c.next_number-key.new.reader in
    let k_is = key_is r v.b c.b.result c.next_number-key.result c.next_number-key.ensures.number c.b.ensures in
    let q_is = reader_is r q v.b c.b.result c.next_number-key.ensures.reader c.b.ensures in
    let s_is = size_is r q v.b c.args.width c.next_number-size.result q_is c.next_number-size.ensures.number in
    let z_is = behind_is r q c.next_number-size.new.reader v.b c.args.width q_is c.next_number-size.ensures.reader in
    let new : is_some (list_of c.args.keys.now c.next_number-key.result) ≡ false =
    ap is_some (sym c.list.ensures) ∙ sym c.is_some.ensures ∙ c.if-is_some.false in
    let e = err_from_is_err_and c.from_residual.result c.from_residual.ensures.1 in
    rw (e.1, e.2) (read_refuses v c.args.width r m c.args.left c.args.keys.now c.args.met.now answer h
    c.next_number-key.result c.next_number-size.result c.next_number-size.new.reader k_is s_is z_is c.args.at
    c.in_err-check_positions.field-0.0 new c.if-size-eq0.false c.if-size-left.false
    (c.in_err-check_positions.ensures.checked h.met h.marked)))

pub returns-clause-next : goal.returns-clause-next
returns-clause-next c = λ m answer h. (
    let v = c.args.codes.now in
    let r = c.args.reader.now in
    let q = c.next_number-key.new.reader in
    let k_is = key_is r v.b c.b.result c.next_number-key.result c.next_number-key.ensures.number c.b.ensures in
    let q_is = reader_is r q v.b c.b.result c.next_number-key.ensures.reader c.b.ensures in
    let s_is = size_is r q v.b c.args.width c.next_number-size.result q_is c.next_number-size.ensures.number in
    let z_is = behind_is r q c.next_number-size.new.reader v.b c.args.width q_is c.next_number-size.ensures.reader in
    let new : is_some (list_of c.args.keys.now c.next_number-key.result) ≡ false =
    ap is_some (sym c.list.ensures) ∙ sym c.is_some.ensures ∙ c.if-is_some.false in
    read_next v c.args.width r m c.args.left c.args.keys.now c.args.met.now answer h c.next_number-key.result
    c.next_number-size.result c.next_number-size.new.reader k_is s_is z_is c.push.new.self 0 c.check_positions.new.met
    c.check_positions.new.reader new c.if-size-eq0.false c.if-size-left.false
    (c.in_ok-check_positions.ensures.checked h.met h.marked)
    (c.in_ok-check_positions.ensures.met h.met h.marked) c.in_ok-push.ensures.lists
    c.in_ok-check_positions.ensures.bytes c.in_ok-check_positions.ensures.place)

pub returns-clause-place : goal.returns-clause-place
returns-clause-place c =
    let v = c.args.codes.now in
    let r = c.args.reader.now in
    let q = c.next_number-key.new.reader in
    let q_is = reader_is r q v.b c.b.result c.next_number-key.ensures.reader c.b.ensures in
    let z_is = behind_is r q c.next_number-size.new.reader v.b c.args.width q_is c.next_number-size.ensures.reader in
    place_left r.at v.b c.args.width c.next_number-size.result c.args.left c.check_positions.new.reader.at
    (c.in_ok-check_positions.ensures.place
    ∙ ap (λ (x : Reading). x.at + c.next_number-size.result * c.args.width) z_is) c.if-size-left.false
