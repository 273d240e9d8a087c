-- The query of the chosen kernel.
use Rattle.std.specs.Prelude.{ℕ, List}
use Rattle.kernel_table.specs.declared.prepared.Chosen.{Chosen}
use Rattle.kernel_table.specs.declared.prepared.Chosen.TheVariants.{Half, OneWord, TwoWords, Twenty, FourWords}
use Rattle.kernel_table.specs.declared.prepared.Chosen.TheVariants.{EightWords, General}

-- each kernel is seen as the bytes of its query
abbrev pub query_of : Chosen → List ℕ
query_of (Half q) = q
query_of (OneWord q) = q
query_of (TwoWords q) = q
query_of (Twenty q) = q
query_of (FourWords q) = q
query_of (EightWords q) = q
query_of (General q) = q
