-- A new IVF.
use Rattle.std.proofs.Common.{◌≡◌, ℕ, zero, suc, ◌+◌, ◌/◌, ◌≤◌, ◌<◌, ◌++◌, [], ◌∷◌, get_or, replicate}
use Rattle.std.proofs.Common.{refl, ap, arith}
use Rattle.std.specs.declared.option.Option.TheVariants.{None}
use Rattle.std.proofs.lemmas.List.{length-replicate, replicate-append-replicate}
use Rattle.std.proofs.lemmas.List.Elements.{All-nil}
use Rattle.code_pool.specs.Lists.{PoolList, no_list}
use Rattle.ivf_index.specs.Inside.{IsIvf}

-- one more list that is just opened
pub replicate-push : (n : ℕ) (list : PoolList) → replicate n list ++ list ∷ [] ≡ replicate (n + 1) list
replicate-push n list = replicate-append-replicate n 1 list

get-replicate : (n l : ℕ) → get_or (replicate n no_list) l no_list ≡ no_list
get-replicate zero l = refl
get-replicate (suc n) zero = refl
get-replicate (suc n) (suc l) = get-replicate n l

pub new_ivf : (d n : ℕ) → 1 ≤ n → n ≤ 4194304
    → IsIvf d n 1 0 None (record { dim = d; codes = [] }) (record { code_size = 0; lists = no_list ∷ []; free = 0 })
    (record { code_size = d / 8; lists = replicate n no_list; free = 0 })
new_ivf d n least most = record {
  nlist_least = least;
  nlist_most = most;
  nprobe_least = omega arith;
  nprobe_most = omega arith;
  max_codes = omega arith;
  quantizer_dim = refl;
  held = omega arith;
  order_one = refl;
  order_size = refl;
  lists = length-replicate n no_list;
  size = refl;
  table = record { numbers = refl; parts = λ l. ap (λ (list : PoolList). list.rows) (get-replicate n l) };
  numbers = All-nil (λ m. m < n);
  filled = λ h. absurd (omega arith);
  direct = tt;
  load = omega arith;
}
