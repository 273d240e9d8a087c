use Rattle.std.proofs.Common.{◌≡◌, ◌∷◌, [], ◌++◌, ℕ, Bool, List, length, length-append, map, sym, ap, ◌∙◌, arith}
use Rattle.row_lists.specs.Rows.{lists_in}
use Rattle.ivf_index.specs.Flags.{row_stays}
use Rattle.ivf_index.proofs.FlagLemmas.{list_flags_more}
use Rattle.ivf_index.proofs.list_flags.flag_lists.Goals as goal

pub loop-list-preserved : goal.loop-list-preserved
loop-list-preserved g c =
    let s = c.args.sel.now in
    let rows = lists_in c.args.lists.now in
    let v = c.loop-list.invariant in
    let starts : c.push.new.self.items ≡ c.loop-list.starts.items ++ length c.loop-list.flags.items ∷ [] =
    c.in_ok-push.ensures.items
    ∙ ap (λ (n : ℕ). c.loop-list.starts.items ++ n ∷ []) (omega (arith, c.len.ensures, c.loop-list.flags.ok)) in
    let flags : c.flag_list.new.flags.items
    ≡ c.loop-list.flags.items ++ map (row_stays s) (rows (length c.loop-list.starts.items)) =
    c.flag_list.ensures
    ∙ ap (λ (bs : List Bool). bs ++ map (row_stays s) (rows c.loop-list.list)) c.in_ok-reserve.ensures.items
    ∙ ap (λ (n : ℕ). c.loop-list.flags.items ++ map (row_stays s) (rows n)) (sym v.starts) in
    record {
      starts = omega (
        arith,
        v.starts,
        ap length starts,
        length-append c.loop-list.starts.items (length c.loop-list.flags.items ∷ []),
      );
      flags = rw (starts, flags) (list_flags_more s rows c.loop-list.flags.items c.loop-list.starts.items v.flags);
    }
