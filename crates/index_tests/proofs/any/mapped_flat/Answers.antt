use Rattle.std.proofs.Common.{◌+◌, ◌≤◌, length, arith}
use Rattle.id_map.proofs.RowLemmas.{All-numbered}
use Rattle.index_tests.proofs.any.mapped_flat.Goals as goal

pub mapped-requires-clause-places : goal.mapped-requires-clause-places
mapped-requires-clause-places c = All-numbered 0 (length c.append.new.self.codes) c.append.new.self.codes (omega arith)
