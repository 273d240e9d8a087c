use Rattle.std.proofs.Common.{◌≡◌, ◌+◌, ◌<◌, ◌++◌, ◌∷◌, [], ℕ, ℤ, pos, List, length, map, take, drop, get_or, nat_abs, sym, ap}
use Rattle.std.proofs.Common.{◌∙◌, arith, rules, append_assoc, add-one, length-set, subst, FitsSigned, w64}
use Rattle.std.proofs.Math.Seq.{drop-cons}
use Rattle.std.proofs.lemmas.Int.{to_z-of_z}
use Rattle.std.proofs.lemmas.List.{map_more, take_all}
use Rattle.ivf_index.specs.Flags.{AreOrderFlags}
use Rattle.ivf_index.proofs.FlagLemmas.{order_flags_more, room_less}
use Rattle.ivf_index.proofs.order_flags.flag_run.Goals as goal

pub loop-number-preserved : goal.loop-number-preserved
loop-number-preserved c =
    let i = c.loop-number.number-index in
    let numbers = c.args.numbers.now in
    let next = c.loop-number.next in
    let v = c.loop-number.invariant in
    let low : i < length numbers = c.loop-number-test.true in
    let number : ℤ = get_or numbers i (pos 0) in
    let fits : FitsSigned w64 number = search rules in
    let list : c.unsigned_abs-list.result ≡ nat_abs number = rw (to_z-of_z w64 number fits) at c.unsigned_abs-list.ensures.value in
    let inside : c.unsigned_abs-list.result < length next = omega
    (arith, list, c.requires.known i (pos 0) low, c.loop-number.auto.next) in
    let cons : drop i numbers ≡ number ∷ drop (i + 1) numbers = rw add-one (drop-cons numbers i (pos 0) low) in
    let rest : map nat_abs (drop i numbers) ≡ c.unsigned_abs-list.result ∷ map nat_abs (drop (i + 1) numbers) =
    ap (map nat_abs) cons
    ∙ ap (λ (n : ℕ). n ∷ map nat_abs (drop (i + 1) numbers)) (sym list) in
    record {
      flags = λ starts before same h.
          let numbered : (before ++ map nat_abs (take i numbers)) ++ c.unsigned_abs-list.result ∷ []
          ≡ before ++ map nat_abs (take (i + 1) numbers) =
          append_assoc before (map nat_abs (take i numbers)) (c.unsigned_abs-list.result ∷ [])
          ∙ ap (λ (n : ℕ). before ++ (map nat_abs (take i numbers) ++ n ∷ [])) list
          ∙ ap (λ (ns : List ℕ). before ++ ns) (sym (map_more nat_abs numbers i (pos 0) low)) in
          rw (← numbered, c.push_reserved.ensures.items)
          (order_flags_more c.args.flags.now starts (before ++ map nat_abs (take i numbers)) next
          c.loop-number.found.items c.unsigned_abs-list.result (v.flags starts before same h)
          (omega (arith, inside, same, c.loop-number.auto.next)) (same ∙ sym c.loop-number.auto.next));
      within = λ k inside_k.
          let here : k < length next = omega (arith, inside_k, length-set next c.unsigned_abs-list.result (get_or next c.unsigned_abs-list.result 0 + 1)) in
          room_less k c.unsigned_abs-list.result (length c.args.flags.now) next (map nat_abs (drop (i + 1) numbers)) inside
          (rw rest at (v.within k here));
      capacity = c.push_reserved.ensures.capacity ∙ v.capacity;
      room = omega (arith, v.room, c.push_reserved.ensures.len, c.push_reserved.ensures.capacity);
    }

pub returns-clause-flags : goal.returns-clause-flags
returns-clause-flags c = λ starts before same h.
    let v = c.loop-number.invariant in
    subst (λ (ns : List ℤ). AreOrderFlags c.args.flags.now starts (before ++ map nat_abs ns) c.loop-number.next
    c.loop-number.found.items)
    (take_all c.loop-number.number-index c.args.numbers.now (omega (arith, c.loop-number-test.false)))
    (v.flags starts before same h)
