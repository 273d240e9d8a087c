use Rattle.std.proofs.Common.{◌+◌, ◌≤◌, length, arith}
use Rattle.id_map.proofs.RowLemmas.{All-numbered}
use Rattle.index_tests.proofs.mapped.under_ids.Goals as goal

pub with-requires-clause-places : goal.with-requires-clause-places
with-requires-clause-places c = All-numbered 0 (length c.append.new.self.codes) c.append.new.self.codes (omega arith)
