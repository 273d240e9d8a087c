-- Lists that stand where their keys number them.
use Rattle.std.specs.Prelude.{◌≡◌, ℕ, ◌<◌, List, length, cond, nat_eq, Option, None, Some, slice_index_or}
use Rattle.key_buckets.specs.Keys.{list_of}

-- the number that stands for no list
abbrev pub no_list : ℕ
no_list = 4294967295

-- the list that a number stands for
abbrev pub shown : ℕ → Option ℕ
shown n = cond (nat_eq n no_list) None (Some n)

-- each place has the list of its key
abbrev pub AreDirect : List (ℕ × ℕ) → List (Option ℕ) → Type 0
AreDirect es direct = (k : ℕ) → k < length direct → slice_index_or direct k None ≡ list_of es k
