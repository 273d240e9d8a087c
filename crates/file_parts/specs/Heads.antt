-- What the header of an index says.
use Rattle.std.specs.Prelude.{◌≡◌, ◌+◌, ◌*◌, ◌/◌, ◌^◌, ◌≤◌, ◌<◌, ℕ, pos, nat_abs}
use Rattle.std.specs.Prelude.{true, List, take, drop}
use Rattle.bcodes.specs.Ranges.{IsDim, load_limit}
use Rattle.file_parts.specs.declared.head.Head.{Head}
use Rattle.file_parts.specs.declared.header.Header.{Header}
use Rattle.file_parts.specs.declared.role.Role.{Role}
use Rattle.file_parts.specs.Fields.{HeadValue, number_of, rows_beside, takes_count, takes_dim}

abbrev pub view_head : Head → HeadValue
view_head head = record { dim = head.dim; count = head.count; flag = head.flag }

-- what passed the checks of its role, whether the bytes are told or not
pub record IsHead (role : Role) (head : Head) : Type 0 where
  pub dim : IsDim head.dim
  pub takes_dim : takes_dim role head.dim ≡ true
  pub takes_count : takes_count role head.count ≡ true
  pub small : head.count < 2 ^ 63
  pub load : (rows_beside role + head.count) * (head.dim / 8 + 16) ≤ load_limit

abbrev pub view_header : Header → HeadValue
view_header header = record { dim = nat_abs header.d; count = nat_abs header.ntotal; flag = header.trained }

-- the header of these values and this metric
abbrev pub header_of : HeadValue → ℕ → Header
header_of head metric = record {
  d = pos head.dim;
  code_size = pos (head.dim / 8);
  ntotal = pos head.count;
  trained = head.flag;
  metric = pos metric;
}

-- the metric that stands in a header, behind 17 bytes
abbrev pub metric_of : List ℕ → ℕ
metric_of bytes = number_of 4 (take 4 (drop 17 bytes))
