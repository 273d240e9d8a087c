-- Lemmas on runs that wait in a batch.
use Rattle.std.proofs.Common.{◌≡◌, ℕ, zero, suc, ◌+◌, ◌<◌, ◌≤◌, ℤ, List, [], ◌∷◌, ◌++◌, length, get_or, take, sym, ap}
use Rattle.std.proofs.Common.{◌∙◌, arith, length-append, append_assoc, append-nil}
use Rattle.std.specs.List.{flat_map}
use Rattle.std.proofs.lemmas.List.{map-append, take_more}
use Rattle.std.proofs.lemmas.List.Elements.{filter-append}
use Rattle.std.proofs.lemmas.Grind.{flat_map-append}
use Rattle.bcodes.specs.declared.hit.Hit.{Hit}
use Rattle.bcodes.specs.Value.{Row}
use Rattle.bcodes.specs.Answers.{hit_of}
use Rattle.bcodes.proofs.OrderLemmas.{best_append, best-best}
use Rattle.code_pool.specs.declared.run.Run.{Run}
use Rattle.code_pool.specs.Lists.{PoolLists, IsRun, list_at, rows_in}
use Rattle.list_scan.specs.Batches.{IsAwaiting, rows_of_run, rows_of_runs}
use Rattle.list_scan.specs.Visited.{below, first, hits_on, rows_at}
use Rattle.list_scan.proofs.ListLemmas.{best_list, best_more, rows_more}

-- kept hits that are the first k of some, with none waiting
pub await_none : (k : ℕ) (all kept : List Hit) → kept ≡ first k all → IsAwaiting k all kept []
await_none k all kept is = record {
  own = is ∙ sym (best-best k all) ∙ ap (first k) (sym is);
  total = ap (first k) (append-nil kept ∙ is) ∙ best-best k all;
}

-- more hits wait
pub await_more : (k : ℕ) (all kept waiting more : List Hit) → IsAwaiting k all kept waiting
    → IsAwaiting k (all ++ more) kept (waiting ++ more)
await_more k all kept waiting more a = record {
  own = a.own;
  total = ap (first k) (sym (append_assoc kept waiting more)) ∙ best_append k (kept ++ waiting) all more a.total;
}

-- the waiting hits are offered
pub await_offered : (k : ℕ) (all kept waiting after : List Hit) → IsAwaiting k all kept waiting
    → after ≡ first k (kept ++ waiting) → IsAwaiting k all after []
await_offered k all kept waiting after a is =
    let n = await_none k (kept ++ waiting) after is in
    record { own = n.own; total = n.total ∙ a.total }

-- hits on the rows of two lists
pub hits_both : (q : List ℕ) (rows more : List Row) → hits_on q (rows ++ more) ≡ hits_on q rows ++ hits_on q more
hits_both q rows more = map-append (hit_of q) rows more

pub below_both : (radius : ℕ) (q : List ℕ) (rows more : List Row)
    → below radius (hits_on q (rows ++ more)) ≡ below radius (hits_on q rows) ++ below radius (hits_on q more)
below_both radius q rows more = ap (below radius) (hits_both q rows more)
    ∙ filter-append _ (hits_on q rows) (hits_on q more)

-- more rows wait, of which the near ones are not found yet
pub below_more : (radius : ℕ) (q : List ℕ) (before found : List Hit) (waiting met more : List Row)
    → found ++ below radius (hits_on q waiting) ≡ before ++ below radius (hits_on q met)
    → found ++ below radius (hits_on q (waiting ++ more)) ≡ before ++ below radius (hits_on q (met ++ more))
below_more radius q before found waiting met more is =
    ap (λ (hs : List Hit). found ++ hs) (below_both radius q waiting more)
    ∙ sym (append_assoc found (below radius (hits_on q waiting)) (below radius (hits_on q more)))
    ∙ ap (λ (hs : List Hit). hs ++ below radius (hits_on q more)) is
    ∙ append_assoc before (below radius (hits_on q met)) (below radius (hits_on q more))
    ∙ ap (λ (hs : List Hit). before ++ hs) (sym (below_both radius q met more))

-- ---- a run of a list joins those that wait

pub await_start : (k : ℕ) (q : List ℕ) (hits kept : List Hit) (waiting : List Row) → waiting ≡ []
    → kept ≡ first k hits → IsAwaiting k (hits ++ hits_on q []) kept (hits_on q waiting)
await_start k q hits kept waiting none is = rw (none, append-nil hits) (await_none k hits kept is)

pub await_run : (k : ℕ) (q : List ℕ) (all kept : List Hit) (waiting after rows : List Row) (at next size : ℕ)
    (ls : List ℤ) (bs : List ℕ) → IsRun rows at size ls bs → next ≡ at + length ls
    → after ≡ waiting ++ rows_in size ls bs
    → IsAwaiting k (all ++ hits_on q (take at rows)) kept (hits_on q waiting)
    → IsAwaiting k (all ++ hits_on q (take next rows)) kept (hits_on q after)
await_run k q all kept waiting after rows at next size ls bs run is pushed a =
    let more = await_more k (all ++ hits_on q (take at rows)) kept (hits_on q waiting)
    (hits_on q (rows_in size ls bs)) a in
    record {
      own = more.own;
      total = ap (λ (hs : List Hit). first k (kept ++ hs))
          (ap (hits_on q) pushed ∙ hits_both q waiting (rows_in size ls bs))
          ∙ more.total ∙ best_more k q all rows at next size ls bs run is;
    }

pub await_list : (k : ℕ) (q : List ℕ) (p : PoolLists) (lists : List ℕ) (i : ℕ) (hits kept waiting : List Hit)
    → i < length lists
    → IsAwaiting k ((hits ++ hits_on q (rows_at p (take i lists))) ++ hits_on q (list_at p (get_or lists i 0)).rows)
    kept waiting
    → IsAwaiting k (hits ++ hits_on q (rows_at p (take (i + 1) lists))) kept waiting
await_list k q p lists i hits kept waiting h a =
    record { own = a.own; total = a.total ∙ best_list k q p lists i hits h }

pub below_run_more : (radius : ℕ) (q : List ℕ) (before found : List Hit) (waiting after met rows : List Row)
    (at next size : ℕ) (ls : List ℤ) (bs : List ℕ) → IsRun rows at size ls bs → next ≡ at + length ls
    → after ≡ waiting ++ rows_in size ls bs
    → found ++ below radius (hits_on q waiting) ≡ before ++ below radius (hits_on q (met ++ take at rows))
    → found ++ below radius (hits_on q after) ≡ before ++ below radius (hits_on q (met ++ take next rows))
below_run_more radius q before found waiting after met rows at next size ls bs run is pushed so_far =
    ap (λ (rs : List Row). found ++ below radius (hits_on q rs)) pushed
    ∙ below_more radius q before found waiting (met ++ take at rows) (rows_in size ls bs) so_far
    ∙ ap (λ (rs : List Row). before ++ below radius (hits_on q rs))
    (append_assoc met (take at rows) (rows_in size ls bs)
    ∙ ap (λ (rs : List Row). met ++ rs) (rows_more rows at size ls bs run)
    ∙ ap (λ (n : ℕ). met ++ take n rows) (sym is))

-- ---- one run after the other

-- what stands past the end of some runs
abbrev pub no_run : Run
no_run = record { labels = record { ref_ptr = (0, 0); now = [] }; codes = record { ref_ptr = (0, 0); now = [] } }

pub rows_of_runs-more : (size : ℕ) (runs : List Run) (i : ℕ) → i < length runs
    → rows_of_runs size (take (i + 1) runs) ≡ rows_of_runs size (take i runs) ++ rows_of_run size (get_or runs i no_run)
rows_of_runs-more size runs i h =
    ap (flat_map (rows_of_run size)) (take_more runs i no_run h)
    ∙ flat_map-append (rows_of_run size) (take i runs) (get_or runs i no_run ∷ [])
    ∙ ap (λ (rs : List Row). rows_of_runs size (take i runs) ++ rs)
    (append-nil (rows_of_run size (get_or runs i no_run)))

pub best_runs : (k : ℕ) (q : List ℕ) (hits : List Hit) (size : ℕ) (runs : List Run) (i : ℕ) → i < length runs
    → first k ((hits ++ hits_on q (rows_of_runs size (take i runs)))
    ++ hits_on q (rows_of_run size (get_or runs i no_run)))
    ≡ first k (hits ++ hits_on q (rows_of_runs size (take (i + 1) runs)))
best_runs k q hits size runs i h =
    let done : List Row = rows_of_runs size (take i runs) in
    let more : List Row = rows_of_run size (get_or runs i no_run) in
    ap (first k)
    (append_assoc hits (hits_on q done) (hits_on q more)
    ∙ ap (λ (hs : List Hit). hits ++ hs)
    (sym (hits_both q done more) ∙ ap (hits_on q) (sym (rows_of_runs-more size runs i h))))

pub length-rows_of_runs : (size : ℕ) (runs : List Run) (i : ℕ) → i < length runs
    → length (rows_of_runs size (take (i + 1) runs))
    ≡ length (rows_of_runs size (take i runs)) + length (rows_of_run size (get_or runs i no_run))
length-rows_of_runs size runs i h = ap length (rows_of_runs-more size runs i h)
    ∙ length-append (rows_of_runs size (take i runs)) (rows_of_run size (get_or runs i no_run))

pub rows_of_runs-le : (size : ℕ) (runs : List Run) (i : ℕ)
    → length (rows_of_runs size (take i runs)) ≤ length (rows_of_runs size runs)
rows_of_runs-le size [] zero = omega arith
rows_of_runs-le size [] (suc i) = omega arith
rows_of_runs-le size (r ∷ runs) zero = omega arith
rows_of_runs-le size (r ∷ runs) (suc i) =
    omega (
      arith,
      rows_of_runs-le size runs i,
      length-append (rows_of_run size r) (rows_of_runs size (take i runs)),
      length-append (rows_of_run size r) (rows_of_runs size runs),
    )
