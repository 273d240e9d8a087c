use Rattle.std.proofs.Common.{◌≡◌, FitsSigned, length, take, w64}
use Rattle.std.specs.List.{All}
use Rattle.code_pool.proofs.RunLemmas.{put}
use Rattle.code_pool.proofs.rows.write_labels.Given as goal

abbrev pub invariant-loop-i : goal.invariant-loop-i
invariant-loop-i l = record {
  end : l.i-end ≡ length l.new;
  items : l.labels.items ≡ put l.initial.labels.items l.at (take l.i l.new);
  fit : All (FitsSigned w64) (take l.i l.new);
}
