-- What is written is a file of the settled value, and is written again as the same bytes.
use Rattle.std.proofs.Common.{◌≡◌, ℕ, ◌+◌, ◌*◌, ◌/◌, ◌^◌, ◌<◌, ◌≤◌, List, ◌++◌}
use Rattle.std.proofs.Common.{length, None, refl, sym, ap, subst, ◌∙◌, append_assoc, arith}
use Rattle.bcodes.specs.Ranges.{load_limit}
use Rattle.bcodes.specs.Value.{Inner, Flat, Ivf, Hash, Multi, IndexValue, Bare, IdMap, dim_of_inner, count_of_inner}
use Rattle.bcodes.specs.Value.{is_trained_inner, IsLegalInner, IsLegal, weight}
use Rattle.index_files.specs.Parts.{Head}
use Rattle.index_files.specs.File.{map_letters, Body, settled_inner, settled, IsFile}
use Rattle.multi_hash.specs.Wide.{wide_of_inner, wide}
use Rattle.index_files.specs.Canon.{number, ids_bytes, head, inner_bytes, canon}
use Rattle.index_files.proofs.Spelled.{long-spelled, ids-spelled, head-spelled, flat-value-spelled, ivf-spelled}
use Rattle.index_files.proofs.HashSpelled.{hash-spelled}
use Rattle.index_files.proofs.MapSpelled.{multi-spelled}
use Rattle.index_files.proofs.Settled.{twice-inner, twice, legal-inner, count-inner, dim-inner, legal-settled}

spelled-inner : (v : Inner) → IsLegalInner v → wide_of_inner v ≡ None → Body v (inner_bytes v)
spelled-inner (Flat v) h e = flat-value-spelled v h
spelled-inner (Ivf v) h e = ivf-spelled v h
spelled-inner (Hash v) h e = hash-spelled v h
spelled-inner (Multi v) h e = multi-spelled v h e

wide-settled : (v : Inner) → wide_of_inner v ≡ None → wide_of_inner (settled_inner v) ≡ None
wide-settled (Flat v) e = e
wide-settled (Ivf v) e = refl
wide-settled (Hash v) e = refl
wide-settled (Multi v) e = e

dim-most : (v : Inner) → IsLegalInner v → dim_of_inner v ≤ 65536
dim-most (Flat v) h = h.dim.at_most
dim-most (Ivf v) h = h.dim.at_most
dim-most (Hash v) h = h.dim.at_most
dim-most (Multi v) h = h.dim.at_most

few : (d m rows others : ℕ) → weight d m rows others ≤ load_limit → rows < 2 ^ 64
few d m rows others le = (let e : rows * 16 ≤ rows * (d / 8 + 16 + 64 * m) = grind arith in omega (arith, e, le))

count-few : (v : Inner) → IsLegalInner v → count_of_inner v < 2 ^ 64
count-few (Flat v) h = few v.dim 0 (length v.codes) 0 h.load
count-few (Ivf v) h = few v.dim 0 (length v.rows) (length v.centroids) h.load
count-few (Hash v) h = few v.dim 1 (length v.rows) 0 h.load
count-few (Multi v) h = few v.dim v.nhash (length v.codes) 0 h.load

pieces : (a b c d e : List ℕ) → a ++ b ++ c ++ d ++ e ≡ a ++ (b ++ (c ++ (d ++ e)))
pieces a b c d e = simp append_assoc

-- the canonical spelling is a file of the settled value
pub written : (v : IndexValue) → IsLegal v → wide v ≡ None → IsFile (settled v) (canon v)
unfolding settled canon wide
written (Bare v) h e = record {
  legal = legal-settled (Bare v) h;
  settled = twice (Bare v);
  body =
      spelled-inner (settled_inner v) (legal-inner v h) (wide-settled v e);
}
written (IdMap name v ids) h e =
    let w = settled_inner v in
    let flag = is_trained_inner v in
    let bytes = inner_bytes w in
    let hd = head (dim_of_inner v) (count_of_inner v) flag in
    let count = count-few v h.inner in
    let spelled : Head (dim_of_inner w) (count_of_inner w) hd =
    subst (λ d. Head d (count_of_inner w) hd) (sym (dim-inner v))
    (subst (λ n. Head (dim_of_inner v) n hd) (sym (count-inner v h.inner))
    (head-spelled (Unit {0}) (dim_of_inner v) (count_of_inner v) flag (dim-most v h.inner) count (λ e. tt))) in
    record {
      legal = legal-settled (IdMap name v ids) h;
      settled = twice (IdMap name v ids);
      body = (
        map_letters name,
        hd ++ (bytes ++ (number (length ids) ++ ids_bytes ids)),
        pieces (map_letters name) hd bytes (number (length ids)) (ids_bytes ids),
        refl,
        (
          hd,
          bytes ++ (number (length ids) ++ ids_bytes ids),
          refl,
          spelled,
          (
            bytes,
            number (length ids) ++ ids_bytes ids,
            refl,
            spelled-inner w (legal-inner v h.inner) (wide-settled v e),
            (
              number (length ids),
              ids_bytes ids,
              refl,
              long-spelled (length ids) (omega (arith, h.count, count)),
              ids-spelled ids h.ids,
            ),
          ),
        ),
      );
    }

trained-settled : (v : Inner) → is_trained_inner (settled_inner v) ≡ is_trained_inner v
trained-settled (Flat v) = refl
trained-settled (Ivf v) = refl
trained-settled (Hash v) = refl
trained-settled (Multi v) = refl

-- and the settled value has the same one
pub written-again : (v : IndexValue) → IsLegal v → canon (settled v) ≡ canon v
unfolding settled canon
written-again (Bare v) h = ap inner_bytes (twice-inner v)
written-again (IdMap name v ids) h =
    ap (λ d. map_letters name ++ head d (count_of_inner (settled_inner v)) (is_trained_inner (settled_inner v))
    ++ inner_bytes (settled_inner (settled_inner v)) ++ number (length ids) ++ ids_bytes ids) (dim-inner v)
    ∙ ap (λ n. map_letters name ++ head (dim_of_inner v) n (is_trained_inner (settled_inner v))
    ++ inner_bytes (settled_inner (settled_inner v)) ++ number (length ids) ++ ids_bytes ids)
    (count-inner v h.inner)
    ∙ ap (λ t. map_letters name ++ head (dim_of_inner v) (count_of_inner v) t
    ++ inner_bytes (settled_inner (settled_inner v)) ++ number (length ids) ++ ids_bytes ids) (trained-settled v)
    ∙ ap (λ (w : Inner). map_letters name ++ head (dim_of_inner v) (count_of_inner v) (is_trained_inner v)
    ++ inner_bytes w ++ number (length ids) ++ ids_bytes ids) (twice-inner v)
