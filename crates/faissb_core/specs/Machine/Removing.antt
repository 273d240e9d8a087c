-- remove, keep and removerange: rows are removed by their labels, or by their outer ids.
use Rattle.std.specs.Prelude.{◌-◌}
use Rattle.bcodes.specs.Value.{IndexValue, count_of}
use Rattle.id_select.specs.declared.selector.Selector.{Selector}
use Rattle.id_select.specs.Removal.{removed}
use Rattle.faissb_core.specs.declared.reply.refusal.Refusal.TheVariants.{Kind}
use Rattle.faissb_core.specs.Reply.Answer.{Removed}
use Rattle.faissb_core.specs.Machine.Checked.{Checked, given◌else◌, ◌>>=◌}
use Rattle.faissb_core.specs.Machine.State.{Changed, changed}

abbrev pub remove : Selector → IndexValue → Checked Changed
remove selector v = do
  w ← given removed selector v else Kind
  changed w (Removed (count_of v - count_of w) (count_of w))
