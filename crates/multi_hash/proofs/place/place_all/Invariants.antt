use Rattle.std.proofs.Common.{◌≡◌, length}
use Rattle.multi_hash.specs.Partly.{IsPartly}
use Rattle.multi_hash.proofs.place.place_all.Given as goal

abbrev pub invariant-loop-i : goal.invariant-loop-i
invariant-loop-i g l = record {
  partly : IsPartly l.storage.dim l.b l.i l.used l.storage.codes l.maps l.buckets;
  count : length l.maps ≡ length l.initial.maps;
}
