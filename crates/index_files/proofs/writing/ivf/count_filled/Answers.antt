use Rattle.std.proofs.Common.{◌≡◌, ◌+◌, ◌≤◌, ◌⊎◌, ◌<◌, inl, inr, ℕ, length, ap, ◌∙◌, arith}
use Rattle.std.specs.Prelude.{nat_lt}
use Rattle.std.specs.List.{filter, range_with_len}
use Rattle.index_files.specs.Groups.{filled, on_list}
use Rattle.index_files.proofs.IvfWriting.{filled_more}
use Rattle.index_files.proofs.writing.ivf.count_filled.Goals.{then-list_len-gt0, else-list_len-gt0}
use Rattle.index_files.proofs.writing.ivf.count_filled.Goals as goal

pub loop-list-preserved : goal.loop-list-preserved
loop-list-preserved c =
    let len : ℕ = c.list_len.result in
    let count : ℕ = c.loop-list.count in
    let after : ℕ = c.if-list_len-gt0.count in
    let more : ((0 < len) × (after ≡ count + 1)) ⊎ ((len ≤ 0) × (after ≡ count)) =
    elim c.if-list_len-gt0.branch [
      | then-list_len-gt0 w ↦ inl (w.if-list_len-gt0.true, w.count-is)
      | else-list_len-gt0 w ↦ inr (w.if-list_len-gt0.false, w.count-is)
    ] in
    let few : after ≤ count + 1 = elim more [ inl (_, e) ↦ omega (arith, e) | inr (_, e) ↦ omega (arith, e) ] in
    record {
      value =
          filled_more c.args.ivf.now c.loop-list.list len count after c.list_len.ensures c.loop-list.invariant.value
          more;
      most = omega (arith, few, c.loop-list.invariant.most);
    }

pub returns-clause-value : goal.returns-clause-value
unfolding filled
returns-clause-value c =
    let v = c.args.ivf.now in
    let end : c.loop-list.list ≡ v.nlist = omega arith in
    c.loop-list.invariant.value
    ∙ ap (λ (n : ℕ). length (filter (λ list. nat_lt 0 (length (on_list v list))) (range_with_len 0 n))) end
