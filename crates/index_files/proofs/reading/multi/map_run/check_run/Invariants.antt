use Rattle.std.proofs.Common.{◌≡◌, ◌+◌, ◌-◌, ◌*◌, ◌≤◌, [], length}
use Rattle.file_parts.specs.Format.{first_refusal}
use Rattle.index_files.specs.MapReading.{IsLeft}
use Rattle.index_files.specs.MultiFormat.{map_run_checks}
use Rattle.index_files.proofs.reading.multi.map_run.check_run.Given as goal

abbrev pub invariant-loop : goal.invariant-loop
invariant-loop l = record {
  count : length l.met ≡ length l.codes.codes;
  bytes : l.reader.bytes ≡ l.run;
  room : l.reader.at + ((l.buckets - l.counter) * (l.codes.b + l.width) + l.left * l.width) ≤ 8 * length l.run;
  so_far : IsLeft l.codes l.width l.reader (l.buckets - l.counter) l.left l.keys l.met
      (first_refusal (map_run_checks l.codes.codes l.codes.number l.codes.b l.width l.run l.buckets 0 [] []));
}
