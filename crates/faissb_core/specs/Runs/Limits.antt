-- The limits of a run.
use Rattle.std.specs.Prelude.{ℕ}

-- the most bytes of a script: 2^30
abbrev pub script_limit : ℕ
script_limit = 1073741824

-- the most bytes of one read
abbrev pub read_limit : ℕ
read_limit = 65536

-- the most bytes that are kept of a line: one more than a line may have, so that a longer one is known as such
abbrev pub line_kept : ℕ
line_kept = 1048577
