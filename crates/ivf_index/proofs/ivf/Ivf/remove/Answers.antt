use Rattle.std.proofs.Common.{◌≡◌, ◌++◌, ℕ, false, List, Some, length, take, drop, sym, ap, ◌∙◌, arith}
use Rattle.std.proofs.Common.{append-nil, get_or}
use Rattle.std.proofs.lemmas.List.{drop_all, take_all}
use Rattle.bcodes.specs.Value.{ListRow, IvfValue, Bare, Ivf}
use Rattle.code_pool.specs.Lists.{kept}
use Rattle.row_lists.specs.Rows.{lists_in, order_in}
use Rattle.id_select.specs.Removal.{removed}
use Rattle.id_select.proofs.RemovedLemmas.{removed_ivf}
use Rattle.ivf_index.specs.Direct.{entries_of, has_map}
use Rattle.ivf_index.specs.Flags.{AreListFlags, flags_to}
use Rattle.ivf_index.specs.Inside.{rows_in_order}
use Rattle.ivf_index.proofs.LeaveLemmas.{AreMarked, flagged, flags_within, is_removed, marked}
use Rattle.ivf_index.proofs.VisitLemmas.{count_is, value_in}
use Rattle.ivf_index.proofs.ivf.Ivf.remove.Goals as goal

-- a list that was written whole
whole : (n : ℕ) (old new : List ℕ) → length new ≡ length old → n ≡ length old
    → take n (new ++ drop (length new) old) ≡ new
whole n old new same all =
    ap (λ (xs : List ℕ). take n (new ++ xs)) (drop_all (length new) old (omega arith))
    ∙ ap (take n) (append-nil new) ∙ take_all n new (omega arith)

pub flag_order-requires-clause-within : goal.flag_order-requires-clause-within
flag_order-requires-clause-within g c =
    let i = c.self.inside in
    let s = c.args.sel.now in
    let starts : length c.deref_mut.result.now ≡ length i.lists.lists = ap length c.deref_mut.ensures.value
    ∙ c.in_ok-flags.ensures.starts in
    let are : AreListFlags s (lists_in i.lists) c.deref.result.now c.deref_mut.result.now =
    rw (c.deref.ensures.value, c.deref_mut.ensures.value) c.in_ok-flags.ensures.flags in
    let k = flagged i.dim.bits i.nlist i.nprobe i.max_codes (entries_of i.direct) i.quantizer i.order i.lists s
    c.deref.result.now c.deref_mut.result.now c.self.invariant starts are in
    flags_within s (order_in i.order) i.lists (rows_in_order i.order i.lists) c.deref.result.now c.deref_mut.result.now k

pub keep_lists-requires-clause-room : goal.keep_lists-requires-clause-room
keep_lists-requires-clause-room g c =
    let i = c.self.inside in
    let s = c.args.sel.now in
    let starts : length c.deref_mut.result.now ≡ length i.lists.lists = ap length c.deref_mut.ensures.value
    ∙ c.in_ok-flags.ensures.starts in
    let are : AreListFlags s (lists_in i.lists) c.deref.result.now c.deref_mut.result.now =
    rw (c.deref.ensures.value, c.deref_mut.ensures.value) c.in_ok-flags.ensures.flags in
    let m : AreMarked s i.order i.lists c.deref.result.now c.flag_order.new.next c.in_ok-order.order.items =
    marked i.dim.bits i.nlist i.nprobe i.max_codes (entries_of i.direct) i.quantizer i.order i.lists s
    c.deref.result.now c.deref_mut.result.now c.flag_order.new.next c.in_ok-order.order.items c.self.invariant starts are
    c.in_ok-order.ensures c.flag_order.auto.next in
    let ends : c.deref-3.result.now ≡ c.flag_order.new.next = c.deref-3.ensures.value ∙ whole
    c.in_ok-flags.field-0.starts.len c.in_ok-flags.field-0.starts.items c.flag_order.new.next
    (c.flag_order.auto.next ∙ ap length c.deref_mut.ensures.value) c.in_ok-flags.field-0.starts.ok.0 in
    let flags : c.deref-2.result.now ≡ c.deref.result.now = c.deref-2.ensures.value ∙ sym c.deref.ensures.value in
    rw ends m.room

pub keep_lists-requires-clause-within : goal.keep_lists-requires-clause-within
keep_lists-requires-clause-within g c =
    let i = c.self.inside in
    let s = c.args.sel.now in
    let starts : length c.deref_mut.result.now ≡ length i.lists.lists = ap length c.deref_mut.ensures.value
    ∙ c.in_ok-flags.ensures.starts in
    let are : AreListFlags s (lists_in i.lists) c.deref.result.now c.deref_mut.result.now =
    rw (c.deref.ensures.value, c.deref_mut.ensures.value) c.in_ok-flags.ensures.flags in
    let m : AreMarked s i.order i.lists c.deref.result.now c.flag_order.new.next c.in_ok-order.order.items =
    marked i.dim.bits i.nlist i.nprobe i.max_codes (entries_of i.direct) i.quantizer i.order i.lists s
    c.deref.result.now c.deref_mut.result.now c.flag_order.new.next c.in_ok-order.order.items c.self.invariant starts are
    c.in_ok-order.ensures c.flag_order.auto.next in
    let ends : c.deref-3.result.now ≡ c.flag_order.new.next = c.deref-3.ensures.value ∙ whole
    c.in_ok-flags.field-0.starts.len c.in_ok-flags.field-0.starts.items c.flag_order.new.next
    (c.flag_order.auto.next ∙ ap length c.deref_mut.ensures.value) c.in_ok-flags.field-0.starts.ok.0 in
    let flags : c.deref-2.result.now ≡ c.deref.result.now = c.deref-2.ensures.value ∙ sym c.deref.ensures.value in
    rw (ends, flags) m.within

pub overflow_sub-result : goal.overflow_sub-result
overflow_sub-result g c =
    let i = c.self.inside in
    let s = c.args.sel.now in
    let starts : length c.deref_mut.result.now ≡ length i.lists.lists = ap length c.deref_mut.ensures.value
    ∙ c.in_ok-flags.ensures.starts in
    let are : AreListFlags s (lists_in i.lists) c.deref.result.now c.deref_mut.result.now =
    rw (c.deref.ensures.value, c.deref_mut.ensures.value) c.in_ok-flags.ensures.flags in
    let m : AreMarked s i.order i.lists c.deref.result.now c.flag_order.new.next c.in_ok-order.order.items =
    marked i.dim.bits i.nlist i.nprobe i.max_codes (entries_of i.direct) i.quantizer i.order i.lists s
    c.deref.result.now c.deref_mut.result.now c.flag_order.new.next c.in_ok-order.order.items c.self.invariant starts are
    c.in_ok-order.ensures c.flag_order.auto.next in
    let ends : c.deref-3.result.now ≡ c.flag_order.new.next = c.deref-3.ensures.value ∙ whole
    c.in_ok-flags.field-0.starts.len c.in_ok-flags.field-0.starts.items c.flag_order.new.next
    (c.flag_order.auto.next ∙ ap length c.deref_mut.ensures.value) c.in_ok-flags.field-0.starts.ok.0 in
    let flags : c.deref-2.result.now ≡ c.deref.result.now = c.deref-2.ensures.value ∙ sym c.deref.ensures.value in
    let rows : (l : ℕ) → lists_in c.keep_lists.new.lists l
    ≡ kept (lists_in i.lists l) (flags_to c.deref.result.now (get_or c.flag_order.new.next l 0) (length (lists_in i.lists l))) =
    rw (ends, flags) at c.keep_lists.ensures.rows in
    let none : has_map (entries_of i.direct) ≡ false = ap (λ (v : IvfValue). v.direct) c.self.view_is
    ∙ c.requires.direct in
    let r = is_removed i.dim.bits i.nlist i.nprobe i.max_codes (entries_of i.direct) i.quantizer i.order i.lists
    c.keep_rows.new.self c.keep_lists.new.lists s c.deref.result.now c.flag_order.new.next c.in_ok-order.order.items
    c.self.invariant none m (rw c.deref-4.ensures.value at c.keep_rows.ensures.lists) c.keep_rows.ensures.code_size rows
    c.keep_lists.ensures.lists c.keep_lists.ensures.size in
    omega (
      arith,
      c.len.ensures.value,
      c.len-count.ensures.value,
      r.count,
      r.fewer,
      count_is i.dim.bits i.nlist i.nprobe i.max_codes (entries_of i.direct) i.quantizer i.order i.lists c.self.invariant,
    )

pub invariant_of-self : goal.invariant_of-self
invariant_of-self g c =
    let i = c.self.inside in
    let s = c.args.sel.now in
    let starts : length c.deref_mut.result.now ≡ length i.lists.lists = ap length c.deref_mut.ensures.value
    ∙ c.in_ok-flags.ensures.starts in
    let are : AreListFlags s (lists_in i.lists) c.deref.result.now c.deref_mut.result.now =
    rw (c.deref.ensures.value, c.deref_mut.ensures.value) c.in_ok-flags.ensures.flags in
    let m : AreMarked s i.order i.lists c.deref.result.now c.flag_order.new.next c.in_ok-order.order.items =
    marked i.dim.bits i.nlist i.nprobe i.max_codes (entries_of i.direct) i.quantizer i.order i.lists s
    c.deref.result.now c.deref_mut.result.now c.flag_order.new.next c.in_ok-order.order.items c.self.invariant starts are
    c.in_ok-order.ensures c.flag_order.auto.next in
    let ends : c.deref-3.result.now ≡ c.flag_order.new.next = c.deref-3.ensures.value ∙ whole
    c.in_ok-flags.field-0.starts.len c.in_ok-flags.field-0.starts.items c.flag_order.new.next
    (c.flag_order.auto.next ∙ ap length c.deref_mut.ensures.value) c.in_ok-flags.field-0.starts.ok.0 in
    let flags : c.deref-2.result.now ≡ c.deref.result.now = c.deref-2.ensures.value ∙ sym c.deref.ensures.value in
    let rows : (l : ℕ) → lists_in c.keep_lists.new.lists l
    ≡ kept (lists_in i.lists l) (flags_to c.deref.result.now (get_or c.flag_order.new.next l 0) (length (lists_in i.lists l))) =
    rw (ends, flags) at c.keep_lists.ensures.rows in
    let none : has_map (entries_of i.direct) ≡ false = ap (λ (v : IvfValue). v.direct) c.self.view_is
    ∙ c.requires.direct in
    let r = is_removed i.dim.bits i.nlist i.nprobe i.max_codes (entries_of i.direct) i.quantizer i.order i.lists
    c.keep_rows.new.self c.keep_lists.new.lists s c.deref.result.now c.flag_order.new.next c.in_ok-order.order.items
    c.self.invariant none m (rw c.deref-4.ensures.value at c.keep_rows.ensures.lists) c.keep_rows.ensures.code_size rows
    c.keep_lists.ensures.lists c.keep_lists.ensures.size in
    r.ivf

pub returns-clause-ok : goal.returns-clause-ok
returns-clause-ok g c =
    let i = c.self.inside in
    let s = c.args.sel.now in
    let starts : length c.deref_mut.result.now ≡ length i.lists.lists = ap length c.deref_mut.ensures.value
    ∙ c.in_ok-flags.ensures.starts in
    let are : AreListFlags s (lists_in i.lists) c.deref.result.now c.deref_mut.result.now =
    rw (c.deref.ensures.value, c.deref_mut.ensures.value) c.in_ok-flags.ensures.flags in
    let m : AreMarked s i.order i.lists c.deref.result.now c.flag_order.new.next c.in_ok-order.order.items =
    marked i.dim.bits i.nlist i.nprobe i.max_codes (entries_of i.direct) i.quantizer i.order i.lists s
    c.deref.result.now c.deref_mut.result.now c.flag_order.new.next c.in_ok-order.order.items c.self.invariant starts are
    c.in_ok-order.ensures c.flag_order.auto.next in
    let ends : c.deref-3.result.now ≡ c.flag_order.new.next = c.deref-3.ensures.value ∙ whole
    c.in_ok-flags.field-0.starts.len c.in_ok-flags.field-0.starts.items c.flag_order.new.next
    (c.flag_order.auto.next ∙ ap length c.deref_mut.ensures.value) c.in_ok-flags.field-0.starts.ok.0 in
    let flags : c.deref-2.result.now ≡ c.deref.result.now = c.deref-2.ensures.value ∙ sym c.deref.ensures.value in
    let rows : (l : ℕ) → lists_in c.keep_lists.new.lists l
    ≡ kept (lists_in i.lists l) (flags_to c.deref.result.now (get_or c.flag_order.new.next l 0) (length (lists_in i.lists l))) =
    rw (ends, flags) at c.keep_lists.ensures.rows in
    let none : has_map (entries_of i.direct) ≡ false = ap (λ (v : IvfValue). v.direct) c.self.view_is
    ∙ c.requires.direct in
    let r = is_removed i.dim.bits i.nlist i.nprobe i.max_codes (entries_of i.direct) i.quantizer i.order i.lists
    c.keep_rows.new.self c.keep_lists.new.lists s c.deref.result.now c.flag_order.new.next c.in_ok-order.order.items
    c.self.invariant none m (rw c.deref-4.ensures.value at c.keep_rows.ensures.lists) c.keep_rows.ensures.code_size rows
    c.keep_lists.ensures.lists c.keep_lists.ensures.size in
    let v : IvfValue = value_in i.dim.bits i.nlist i.nprobe i.max_codes (entries_of i.direct) i.quantizer i.order
    i.lists in
    ap (λ (w : IvfValue). removed s (Bare (Ivf w))) (sym c.self.view_is) ∙ removed_ivf s v none
    ∙ ap (λ (rows : List ListRow). Some (Bare (Ivf (record v { rows = rows })))) (sym r.rows)

pub returns-clause-count : goal.returns-clause-count
returns-clause-count g c =
    let i = c.self.inside in
    let s = c.args.sel.now in
    let starts : length c.deref_mut.result.now ≡ length i.lists.lists = ap length c.deref_mut.ensures.value
    ∙ c.in_ok-flags.ensures.starts in
    let are : AreListFlags s (lists_in i.lists) c.deref.result.now c.deref_mut.result.now =
    rw (c.deref.ensures.value, c.deref_mut.ensures.value) c.in_ok-flags.ensures.flags in
    let m : AreMarked s i.order i.lists c.deref.result.now c.flag_order.new.next c.in_ok-order.order.items =
    marked i.dim.bits i.nlist i.nprobe i.max_codes (entries_of i.direct) i.quantizer i.order i.lists s
    c.deref.result.now c.deref_mut.result.now c.flag_order.new.next c.in_ok-order.order.items c.self.invariant starts are
    c.in_ok-order.ensures c.flag_order.auto.next in
    let ends : c.deref-3.result.now ≡ c.flag_order.new.next = c.deref-3.ensures.value ∙ whole
    c.in_ok-flags.field-0.starts.len c.in_ok-flags.field-0.starts.items c.flag_order.new.next
    (c.flag_order.auto.next ∙ ap length c.deref_mut.ensures.value) c.in_ok-flags.field-0.starts.ok.0 in
    let flags : c.deref-2.result.now ≡ c.deref.result.now = c.deref-2.ensures.value ∙ sym c.deref.ensures.value in
    let rows : (l : ℕ) → lists_in c.keep_lists.new.lists l
    ≡ kept (lists_in i.lists l) (flags_to c.deref.result.now (get_or c.flag_order.new.next l 0) (length (lists_in i.lists l))) =
    rw (ends, flags) at c.keep_lists.ensures.rows in
    let none : has_map (entries_of i.direct) ≡ false = ap (λ (v : IvfValue). v.direct) c.self.view_is
    ∙ c.requires.direct in
    let r = is_removed i.dim.bits i.nlist i.nprobe i.max_codes (entries_of i.direct) i.quantizer i.order i.lists
    c.keep_rows.new.self c.keep_lists.new.lists s c.deref.result.now c.flag_order.new.next c.in_ok-order.order.items
    c.self.invariant none m (rw c.deref-4.ensures.value at c.keep_rows.ensures.lists) c.keep_rows.ensures.code_size rows
    c.keep_lists.ensures.lists c.keep_lists.ensures.size in
    omega (
      arith,
      c.len.ensures.value,
      c.len-count.ensures.value,
      r.count,
      r.fewer,
      count_is i.dim.bits i.nlist i.nprobe i.max_codes (entries_of i.direct) i.quantizer i.order i.lists c.self.invariant,
      ap (λ (v : IvfValue). length v.rows) c.self.view_is,
    )
