use Rattle.std.proofs.Common.{◌+◌, ◌++◌, ◌∷◌, [], List, length, get_or, drop, refl, ap, ◌∙◌, arith}
use Rattle.std.proofs.Common.{length-append}
use Rattle.bcodes.specs.declared.hit.Hit.{Hit}
use Rattle.bcodes.specs.Hits.{in_order, no_hit}
use Rattle.shard_set.specs.Merged.{IsNext}
use Rattle.shard_set.proofs.MergeLemmas.{in_order-drop, next_left, next_right, next_within, rest_of}
use Rattle.shard_set.proofs.merging.merge.Goals as goal

pub is_left_next-requires-clause-left : goal.is_left_next-requires-clause-left
is_left_next-requires-clause-left c = rw (rest_of c.args.left.now c.loop-hits.l)
    (in_order-drop c.args.left.now c.loop-hits.l c.requires.left)

pub is_left_next-requires-clause-right : goal.is_left_next-requires-clause-right
is_left_next-requires-clause-right c = rw (rest_of c.args.right.now c.loop-hits.r)
    (in_order-drop c.args.right.now c.loop-hits.r c.requires.right)

pub loop-hits-preserved-then-is_left_next : goal.loop-hits-preserved-then-is_left_next
loop-hits-preserved-then-is_left_next c =
    let left = c.args.left.now in
    let right = c.args.right.now in
    let l = c.loop-hits.l in
    let r = c.loop-hits.r in
    let x = get_or left l no_hit in
    let next : IsNext (drop l left) (drop r right) = rw (rest_of left l, rest_of right r) at
    (c.if-is_left_next.ensures.left refl) in
    let more = length-append c.loop-hits.hits.items (x ∷ []) in
    let long = ap length c.push.ensures.items in
    let low = next_within left (drop r right) l next in
    record {
      items = ap (λ (hs : List Hit). hs ++ in_order (drop (l + 1) left ++ drop r right)) c.push.ensures.items
          ∙ next_left c.loop-hits.hits.items left right (in_order (left ++ right)) l r no_hit
          c.loop-hits.invariant.items next;
      taken = omega (arith, more, long, c.loop-hits.invariant.taken);
      left = omega (arith, low);
      right = c.loop-hits.invariant.right;
      few = omega (arith, more, long, c.loop-hits-test.true, c.len.ensures);
      room = omega (arith, more, long, c.push.ensures.spare, c.loop-hits.invariant.room);
    }

pub loop-hits-preserved : goal.loop-hits-preserved
loop-hits-preserved c =
    let left = c.args.left.now in
    let right = c.args.right.now in
    let l = c.loop-hits.l in
    let r = c.loop-hits.r in
    let y = get_or right r no_hit in
    let next : IsNext (drop r right) (drop l left) = rw (rest_of left l, rest_of right r) at
    (c.if-is_left_next.ensures.right refl) in
    let more = length-append c.loop-hits.hits.items (y ∷ []) in
    let long = ap length c.push-else-is_left_next.ensures.items in
    let low = next_within right (drop l left) r next in
    record {
      items = ap (λ (hs : List Hit). hs ++ in_order (drop l left ++ drop (r + 1) right))
          c.push-else-is_left_next.ensures.items
          ∙ next_right c.loop-hits.hits.items left right (in_order (left ++ right)) l r no_hit
          c.loop-hits.invariant.items next;
      taken = omega (arith, more, long, c.loop-hits.invariant.taken);
      left = c.loop-hits.invariant.left;
      right = omega (arith, low);
      few = omega (arith, more, long, c.loop-hits-test.true, c.len.ensures);
      room = omega (arith, more, long, c.push-else-is_left_next.ensures.spare, c.loop-hits.invariant.room);
    }
