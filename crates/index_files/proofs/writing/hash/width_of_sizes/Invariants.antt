use Rattle.std.proofs.Common.{◌≡◌, map, drop, length, max}
use Rattle.std.specs.Prelude.{fold}
use Rattle.hash_index.specs.Keys.{bucket, hash_keys}
use Rattle.index_files.proofs.writing.hash.width_of_sizes.Given as goal

abbrev pub invariant-loop-i : goal.invariant-loop-i
invariant-loop-i l = fold max l.largest (map (λ k. length (bucket l.hash k)) (drop l.i (hash_keys l.hash)))
    ≡ fold max 0 (map (λ k. length (bucket l.hash k)) (hash_keys l.hash))
