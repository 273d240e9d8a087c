-- nprobe, nflip, maxcodes and directmap: one setting is changed, under outer ids that of the index inside.
use Rattle.std.specs.Prelude.{ℕ, ◌-◌, ◌^◌, ◌||◌, not, Bool, nat_le, nat_lt, map}
use Rattle.bcodes.specs.Value.{IndexValue}
use Rattle.bcodes.specs.Settings.{ivf_in, with_ivf, key_bits, with_nflip, is_numbering}
use Rattle.faissb_core.specs.declared.reply.refusal.Refusal.TheVariants.{Kind, Value, Sequential}
use Rattle.faissb_core.specs.Reply.Answer.{Done}
use Rattle.faissb_core.specs.Machine.Checked.{Checked, demand◌else◌, given◌else◌, ◌>>=◌, ◌>>◌, is_within}
use Rattle.faissb_core.specs.Machine.State.{Changed, changed}

abbrev pub set_nprobe : ℕ → IndexValue → Checked Changed
set_nprobe n v = do
  ivf ← given ivf_in v else Kind
  demand is_within 1 (2 ^ 63 - 1) n else Value
  changed (with_ivf (record ivf { nprobe = n }) v) Done

abbrev pub set_nflip : ℕ → IndexValue → Checked Changed
set_nflip n v = do
  bits ← given key_bits v else Kind
  demand nat_le n bits else Value
  changed (with_nflip n v) Done

abbrev pub set_max_codes : ℕ → IndexValue → Checked Changed
set_max_codes n v = do
  ivf ← given ivf_in v else Kind
  demand nat_lt n (2 ^ 63) else Value
  changed (with_ivf (record ivf { max_codes = n }) v) Done

abbrev pub set_direct : Bool → IndexValue → Checked Changed
set_direct on v = do
  ivf ← given ivf_in v else Kind
  demand not on || is_numbering (map (λ row. row.label) ivf.rows) else Sequential
  changed (with_ivf (record ivf { direct = on }) v) Done
