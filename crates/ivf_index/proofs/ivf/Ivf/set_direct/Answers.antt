use Rattle.std.proofs.Common.{rules, ◌≡◌, ◌<◌, ℕ, List, length, map, get_or, true, Some, Err, Result, sym, ap, ◌∙◌}
use Rattle.std.proofs.Common.{arith, subst}
use Rattle.bcodes.specs.Value.{ListRow, IvfValue, IsNumbering}
use Rattle.bcodes.specs.declared.direct_error.DirectError.{DirectError}
use Rattle.bcodes.specs.declared.direct_error.DirectError.TheVariants.{NotSequential}
use Rattle.ivf_index.specs.Direct.{entries_of, IsDirect, IsPlaced}
use Rattle.row_lists.specs.Rows.{order_in, lists_in}
use Rattle.ivf_index.specs.Inside.{rows_in_order}
use Rattle.ivf_index.proofs.VisitLemmas.{count_is}
use Rattle.ivf_index.proofs.AddLemmas.{lists_half, with_direct}
use Rattle.ivf_index.proofs.PlaceLemmas.{gap_no, direct_of}
use Rattle.ivf_index.proofs.ivf.Ivf.set_direct.Goals as goal

same_error : (a b : DirectError) → ◌≡◌ {A = Result (Unit {0}) DirectError} (Err a) (Err b) → a ≡ b
same_error a b e = cc

pub map_of-requires-clause-few : goal.map_of-requires-clause-few
map_of-requires-clause-few g c =
    let i = c.self.inside in
    lists_half i.dim.bits i.nlist i.nprobe i.max_codes (entries_of i.direct) i.quantizer i.order i.lists c.self.invariant

pub invariant_of-self-in-Ok : goal.invariant_of-self-in-Ok
invariant_of-self-in-Ok g c =
    let i = c.self.inside in
    let rows : List ListRow = rows_in_order i.order i.lists in
    let many : c.len-count.result ≡ length rows = c.len-count.ensures.value
    ∙ count_is i.dim.bits i.nlist i.nprobe i.max_codes
    (entries_of i.direct) i.quantizer i.order i.lists c.self.invariant in
    let placed : (p : ℕ) → p < length c.in-Ok.map.entries
    → IsPlaced (lists_in i.lists) i.nlist p (get_or c.in-Ok.map.entries p 0)
    = λ p h. subst (λ (n : ℕ). IsPlaced (lists_in i.lists) n p (get_or c.in-Ok.map.entries p 0))
    c.self.invariant.lists (c.in-Ok.ensures.placed p (omega (arith, h, c.in-Ok.ensures.count))) in
    let d : IsDirect c.in-Ok.map.entries i.nlist (lists_in i.lists) rows = direct_of (order_in i.order)
    (lists_in i.lists) rows i.nlist c.in-Ok.map.entries c.self.invariant.table (c.in-Ok.ensures.count
    ∙ many) placed in
    with_direct i.dim.bits i.nlist i.nprobe i.max_codes (entries_of i.direct)
    (Some c.in-Ok.map.entries) i.quantizer i.order i.lists c.self.invariant d

pub returns-in-Ok-clause-numbered : goal.returns-in-Ok-clause-numbered
returns-in-Ok-clause-numbered g c = λ _.
    let i = c.self.inside in
    let rows : List ListRow = rows_in_order i.order i.lists in
    let many : c.len-count.result ≡ length rows = c.len-count.ensures.value
    ∙ count_is i.dim.bits i.nlist i.nprobe i.max_codes
    (entries_of i.direct) i.quantizer i.order i.lists c.self.invariant in
    let placed : (p : ℕ) → p < length c.in-Ok.map.entries
    → IsPlaced (lists_in i.lists) i.nlist p (get_or c.in-Ok.map.entries p 0)
    = λ p h. subst (λ (n : ℕ). IsPlaced (lists_in i.lists) n p (get_or c.in-Ok.map.entries p 0))
    c.self.invariant.lists (c.in-Ok.ensures.placed p (omega (arith, h, c.in-Ok.ensures.count))) in
    let d : IsDirect c.in-Ok.map.entries i.nlist (lists_in i.lists) rows = direct_of (order_in i.order)
    (lists_in i.lists) rows i.nlist c.in-Ok.map.entries c.self.invariant.table (c.in-Ok.ensures.count
    ∙ many) placed in
    subst (λ (v : IvfValue). IsNumbering (map (λ (row : ListRow). row.label) v.rows)) c.self.view_is d.numbering

pub returns-in-Err-clause-only : goal.returns-in-Err-clause-only
returns-in-Err-clause-only g c = λ e.
    let i = c.self.inside in
    let rows : List ListRow = rows_in_order i.order i.lists in
    let many : c.len-count.result ≡ length rows = c.len-count.ensures.value
    ∙ count_is i.dim.bits i.nlist i.nprobe i.max_codes
    (entries_of i.direct) i.quantizer i.order i.lists c.self.invariant in
    let on : c.args.on ≡ true = search rules in (
      on,
      λ h. gap_no (order_in i.order) (lists_in i.lists) rows c.len-count.result c.self.invariant.table many
          (c.in-Err.ensures.gap (ap Err (same_error c.in-Err.error NotSequential e)))
          (subst (λ (v : IvfValue). IsNumbering (map (λ (row : ListRow). row.label) v.rows)) (sym c.self.view_is) h),
    )
