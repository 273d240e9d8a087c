use Rattle.std.proofs.Common.{◌≡◌, ◌+◌, ◌*◌, ◌++◌, ℕ, List, None, length}
use Rattle.file_parts.specs.Format.{first_refusal}
use Rattle.multi_hash.specs.Seen.{IsSeen}
use Rattle.index_files.specs.MultiFormat.{numbers_in, position_checks}
use Rattle.index_files.proofs.reading.multi.map_run.check_positions.Given as goal

abbrev pub invariant-loop : goal.invariant-loop
invariant-loop l =
    let n = length l.codes.codes in
    let read = numbers_in l.initial.reader.bytes l.initial.reader.at l.width l.counter in
    record {
      count : length l.met ≡ length l.initial.met;
      bytes : l.reader.bytes ≡ l.initial.reader.bytes;
      place : l.reader.at ≡ l.initial.reader.at + l.counter * l.width;
      seen : (before : List ℕ) → IsSeen n before l.initial.met → IsSeen n (before ++ read) l.met;
      passed : (before : List ℕ) → IsSeen n before l.initial.met
          → first_refusal (position_checks l.codes.codes l.codes.number l.codes.b l.wanted before read) ≡ None;
    }
