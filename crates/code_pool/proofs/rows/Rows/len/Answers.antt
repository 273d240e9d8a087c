use Rattle.std.proofs.Common.{◌≡◌, ◌*◌, ◌<◌, ◌^◌, ℕ, pos, FitsSigned, w64, get_or, length, sym, ◌∙◌, subst}
use Rattle.std.specs.List.{All}
use Rattle.code_pool.specs.Lists.{SizedRows, IsPoolRow}
use Rattle.code_pool.proofs.RowLemmas.{length-rows_in, IsPoolRow-rows_in}
use Rattle.code_pool.proofs.rows.Rows.len.Goals as goal

pub returns-clause-value : goal.returns-clause-value
returns-clause-value c = rw (← c.self.view_is) (c.len.ensures ∙ c.self.inside.labels.ok.0
    ∙ sym (length-rows_in c.self.inside.code_size c.self.inside.labels.items c.self.inside.codes.items))

pub returns-clause-rows : goal.returns-clause-rows
returns-clause-rows c =
    let whole : length c.self.inside.codes.items ≡ length c.self.inside.labels.items * c.self.inside.code_size =
    c.self.invariant.whole in
    let small : (i : ℕ) → get_or c.self.inside.codes.items i 0 < 2 ^ 8 =
    rw c.deref.ensures.value at c.are_bytes.ensures in
    let fits : (i : ℕ) → i < length c.self.inside.labels.items
    → FitsSigned w64 (get_or c.self.inside.labels.items i (pos 0)) = λ i h. c.self.invariant.fit i (pos 0) h in
    subst (λ (v : SizedRows). All (IsPoolRow v.code_size) v.rows) c.self.view_is
    (IsPoolRow-rows_in c.self.inside.code_size c.self.inside.labels.items c.self.inside.codes.items whole small
    fits)
