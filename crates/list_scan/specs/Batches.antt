-- Runs that wait to be scanned together.
use Rattle.std.specs.Prelude.{◌≡◌, ℕ, ◌*◌, ◌≤◌, List, ◌++◌, length, min, take}
use Rattle.std.specs.List.{All, flat_map}
use Rattle.bcodes.specs.declared.hit.Hit.{Hit}
use Rattle.bcodes.specs.Value.{Row}
use Rattle.code_pool.specs.declared.run.Run.{Run}
use Rattle.code_pool.specs.Lists.{rows_in}
use Rattle.list_scan.specs.Visited.{first, scan_rows}

-- the rows of a run of codes of a size
abbrev pub rows_of_run : ℕ → Run → List Row
rows_of_run size run = rows_in size run.labels.now run.codes.now

-- the rows of runs, one run after the other
abbrev pub rows_of_runs : ℕ → List Run → List Row
rows_of_runs size runs = flat_map (rows_of_run size) runs

-- a run of whole codes, the distances of any part of which fit a room
pub record IsScannable (size room : ℕ) (run : Run) : Type 0 where
  pub whole : length run.codes.now ≡ length run.labels.now * size
  pub written : min (length run.labels.now) scan_rows ≤ room

-- the runs of a batch: the bytes of a code, the room for distances, how many runs, and their rows
pub record WaitingRows : Type 0 where
  pub size : ℕ
  pub room : ℕ
  pub count : ℕ
  pub rows : List Row

-- the first slots of a batch have its runs
pub record IsBatch (size room : ℕ) (runs : List Run) (count : ℕ) : Type 0 where
  pub slots : length runs ≡ 32
  pub most : count ≤ 32
  pub each : All (IsScannable size room) (take count runs)

-- the kept hits are the first k of some, and once the waiting ones are offered too, of all
pub record IsAwaiting (k : ℕ) (all kept waiting : List Hit) : Type 0 where
  pub own : kept ≡ first k kept
  pub total : first k (kept ++ waiting) ≡ first k all
