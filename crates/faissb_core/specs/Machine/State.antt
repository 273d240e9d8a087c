-- The state of a session, and what commands leave.
use Rattle.std.specs.Prelude.{List, [], Option, None, Ok, ℕ}
use Rattle.std.specs.Result.{result_ok}
use Rattle.hex.specs.Hex.{decode_sized}
use Rattle.bcodes.specs.Value.{IndexValue}
use Rattle.outside.specs.Contents.{Files}
use Rattle.faissb_core.specs.declared.reply.refusal.Refusal.TheVariants.{NoIndex, Code}
use Rattle.faissb_core.specs.Language.Words.{Word}
use Rattle.faissb_core.specs.Reply.Answer.{Answer}
use Rattle.faissb_core.specs.Machine.Checked.{Checked, given◌else◌, each}

-- the index, if there is one, and the shards
pub record State : Type 0 where
  pub index : Option IndexValue
  pub shards : List IndexValue

-- neither an index nor shards
abbrev pub start : State
start = record { index = None; shards = [] }

-- what an accepted line leaves
pub record Outcome : Type 0 where
  pub state : State
  pub answer : Answer
  pub files : Files

abbrev pub leaves : State → Answer → Files → Checked Outcome
leaves state answer files = Ok (record { state = state; answer = answer; files = files })

-- what an accepted change makes of the index
pub record Changed : Type 0 where
  pub index : IndexValue
  pub answer : Answer

abbrev pub changed : IndexValue → Answer → Checked Changed
changed v answer = Ok (record { index = v; answer = answer })

abbrev pub index_of : State → Checked IndexValue
index_of s = given s.index else NoIndex

-- the code of `size` bytes that a word writes, two hexadecimal digits of either case a byte
abbrev pub code_of : ℕ → Word → Checked (List ℕ)
code_of size word = given result_ok (decode_sized word size) else Code

abbrev pub codes_of : ℕ → List Word → Checked (List (List ℕ))
codes_of size words = each (code_of size) words
