use Rattle.std.proofs.Common.{rules, ◌≡◌, ℕ, ◌+◌, ◌-◌, ◌*◌, ◌/◌, ◌<◌, ◌≤◌, List, ◌∷◌, [], ◌++◌, length, map, take}
use Rattle.std.proofs.Common.{drop, Ok, ap, sym, subst, ◌∙◌, arith, All, refl, length-append, append_assoc}
use Rattle.std.proofs.Math.ListN.{drop_of_length-le}
use Rattle.std.proofs.lemmas.List.{take_all}
use Rattle.std.proofs.lemmas.Result.{err_from_is_err_and}
use Rattle.bcodes.specs.Ranges.{load_limit}
use Rattle.bcodes.specs.Value.{IsNumbering, IsPlace, IvfValue, ListRow, row_of, weight}
use Rattle.file_parts.specs.Format.{run}
use Rattle.file_parts.specs.Feeding.{GivesError, place}
use Rattle.file_parts.proofs.Repeats.{with_front}
use Rattle.index_files.specs.Groups.{concat}
use Rattle.index_files.specs.IvfFormat.{ListSize, list_rows, rows_in}
use Rattle.index_files.specs.IvfSteps.{AreListRows, row_lists}
use Rattle.index_files.proofs.Each.{Pairs}
use Rattle.index_files.proofs.IvfReading.{IsAt, as-pair, at-place, concat-push, few_rows, front-none, less_weight}
use Rattle.index_files.proofs.IvfReading.{pairs-push, read-count, read-numbering, read-places, rows-done, rows-kept}
use Rattle.index_files.proofs.IvfReading.{rows-more}
use Rattle.index_files.proofs.IvfReading.{rows-stop}
use Rattle.index_files.proofs.LoadLemmas.{keeps_then, told_kept}
use Rattle.index_files.proofs.reading.ivf.rows.read_rows.Goals as goal

pub loop-i-init : goal.loop-i-init
loop-i-init g c =
    let whole = run (row_lists c.args.checks.now (c.args.dim.bits / 8) c.args.sizes.now)
    (place g.H.Shelf.contents c.args.feed.now) in
    record {
      ivf = refl;
      read = ([], c.requires.none, tt);
      so_far = λ told. (
          subst (λ (rs : List ListRow). with_front rs whole ≡ whole) (sym c.requires.none) (front-none whole));
      same_shelf = refl;
      files = search rules;
      reading = refl;
      count_stays = refl;
    }

pub loop-i-preserved : goal.loop-i-preserved
loop-i-preserved g c =
    let inv = c.loop-i.invariant in
    let (rss, rows, pairs) = inv.read in
    let rules_now = c.args.checks.now in
    let size : ℕ = c.args.dim.bits / 8 in
    let sizes : List ListSize = c.args.sizes.now in
    let i : ℕ = c.loop-i.i in
    let p : ListSize = c.index-sizes-i.result in
    let ok = c.in_ok-read_list.ensures in
    let here = at-place c.args.ivf.now.nlist sizes i p c.requires.filled c.loop-i-test.true c.index-sizes-i.is in
    let pair = as-pair c.list.result c.size.result p c.list.ensures c.size.ensures in
    let one : List ListRow = drop (length c.loop-i.ivf.rows) c.read_list.new.ivf.rows in
    let start = place g.H.Shelf.contents c.loop-i.feed in
    let end = place g.H.Shelf.contents c.read_list.new.feed in
    let total = run (row_lists rules_now size sizes) (place g.H.Shelf.contents c.args.feed.now) in
    record {
      ivf = rows-kept c.args.ivf.now c.loop-i.ivf c.read_list.new.ivf c.read_list.new.ivf.rows inv.ivf ok.ivf;
      read = (
        rss ++ one ∷ [],
        ok.all ∙ ap (λ (rs : List ListRow). rs ++ one) rows ∙ sym (concat-push rss one),
        subst (λ (ps : List ListSize). Pairs (AreListRows rules_now size) ps (rss ++ one ∷ [])) (sym here.front)
            (pairs-push (AreListRows rules_now size) (take i sizes) rss p one pairs
            (subst (λ (q : ListSize). AreListRows rules_now size q one) pair ok.read)),
      );
      so_far = λ told. (
          let reads = subst (λ (q : ListSize). run (list_rows rules_now.role size rules_now.count rules_now.direct q)
          start ≡ Ok (one, end)) pair (ok.gives (told_kept _ _ inv.files told)) in
          subst (λ (rs : List ListRow). with_front rs (run (row_lists rules_now size (drop (i + 1) sizes)) end) ≡ total)
          (sym ok.all)
          (rows-more c.loop-i.ivf.rows one rules_now size p (drop (i + 1) sizes) start end total reads
          (subst (λ (ps : List ListSize). with_front c.loop-i.ivf.rows (run (row_lists rules_now size ps) start) ≡
          total)
          here.split (inv.so_far told))));
      same_shelf = ok.shelf.same_shelf ∙ inv.same_shelf;
      files = keeps_then _ _ _ inv.files ok.shelf.files;
      reading = ok.shelf.reading ∙ inv.reading;
      count_stays = search rules;
    }

pub returns-in_err-read_list-clause-gives : goal.returns-in_err-read_list-clause-gives
returns-in_err-read_list-clause-gives g c = λ told. (
    let inv = c.loop-i.invariant in
    let rules_now = c.args.checks.now in
    let size : ℕ = c.args.dim.bits / 8 in
    let sizes : List ListSize = c.args.sizes.now in
    let i : ℕ = c.loop-i.i in
    let p : ListSize = c.index-sizes-i.result in
    let here = at-place c.args.ivf.now.nlist sizes i p c.requires.filled c.loop-i-test.true c.index-sizes-i.is in
    let pair = as-pair c.list.result c.size.result p c.list.ensures c.size.ensures in
    let start = place g.H.Shelf.contents c.loop-i.feed in
    let total = run (row_lists rules_now size sizes) (place g.H.Shelf.contents c.args.feed.now) in
    let e = c.in_err-read_list.field-0.0 in
    let stop = subst (λ (q : ListSize). GivesError e (run (list_rows rules_now.role size rules_now.count
    rules_now.direct q) start)) pair (c.in_err-read_list.ensures.gives (told_kept _ _ inv.files told)) in
    let r = err_from_is_err_and c.from_residual.result c.from_residual.ensures.1 in
    rw (r.1, r.2) (rows-stop c.loop-i.ivf.rows rules_now size p (drop (i + 1) sizes) start e total stop
    (subst (λ (ps : List ListSize). with_front c.loop-i.ivf.rows (run (row_lists rules_now size ps) start) ≡ total)
    here.split (inv.so_far told))))

pub read_list-requires-clause-exists : goal.read_list-requires-clause-exists
read_list-requires-clause-exists g c =
    let inv = c.loop-i.invariant in
    let here = at-place c.args.ivf.now.nlist c.args.sizes.now c.loop-i.i c.index-sizes-i.result c.requires.filled
    c.loop-i-test.true c.index-sizes-i.is in
    let same : c.loop-i.ivf.nlist ≡ c.args.ivf.now.nlist = ap (λ (v : IvfValue). v.nlist) inv.ivf in
    let known : c.list.result < c.loop-i.ivf.nlist = omega (arith, here.below, c.list.ensures, same) in
    known

pub read_list-requires-clause-trained : goal.read_list-requires-clause-trained
read_list-requires-clause-trained g c =
    let inv = c.loop-i.invariant in
    let here = at-place c.args.ivf.now.nlist c.args.sizes.now c.loop-i.i c.index-sizes-i.result c.requires.filled
    c.loop-i-test.true c.index-sizes-i.is in
    let trained = c.requires.trained (omega (arith, here.within, here.some)) in
    let same : c.loop-i.ivf.nlist ≡ c.args.ivf.now.nlist = ap (λ (v : IvfValue). v.nlist) inv.ivf in
    let held : c.loop-i.ivf.centroids ≡ c.args.ivf.now.centroids = ap (λ (v : IvfValue). v.centroids) inv.ivf in
    let known : c.loop-i.ivf.nlist ≤ length c.loop-i.ivf.centroids = omega (arith, trained, same, ap length held) in
    known

pub read_list-requires-clause-load : goal.read_list-requires-clause-load
read_list-requires-clause-load g c =
    let inv = c.loop-i.invariant in
    let (rss, rows, pairs) = inv.read in
    let old = c.args.ivf.now in
    let sizes : List ListSize = c.args.sizes.now in
    let here = at-place old.nlist sizes c.loop-i.i c.index-sizes-i.result c.requires.filled c.loop-i-test.true
    c.index-sizes-i.is in
    let count : length c.loop-i.ivf.rows ≡ rows_in (take c.loop-i.i sizes) =
    ap length rows ∙ read-count c.args.checks.now (c.args.dim.bits / 8) (take c.loop-i.i sizes) rss pairs in
    let few : ℕ = length c.loop-i.ivf.rows + c.size.result in
    let less : few ≤ rows_in sizes = omega (arith, here.within, count, c.size.ensures) in
    let held : old.centroids ≡ c.loop-i.ivf.centroids = sym (ap (λ (v : IvfValue). v.centroids) inv.ivf) in
    let known : weight c.args.dim.bits 0 few (length c.loop-i.ivf.centroids) ≤ load_limit =
    subst (λ (cs : List (List ℕ)). weight c.args.dim.bits 0 few (length cs) ≤ load_limit) held
    (less_weight c.args.dim.bits few (rows_in sizes) (length old.centroids) load_limit less c.requires.load) in
    known

pub returns-clause-gives : goal.returns-clause-gives
returns-clause-gives g c = λ told.
    let inv = c.loop-i.invariant in
    let size : ℕ = c.args.dim.bits / 8 in
    let sizes : List ListSize = c.args.sizes.now in
    let none : drop c.loop-i.i sizes ≡ [] = drop_of_length-le sizes (omega (arith, c.loop-i-test.false)) in
    let total = run (row_lists c.args.checks.now size sizes) (place g.H.Shelf.contents c.args.feed.now) in
    rows-done c.loop-i.ivf.rows c.args.checks.now size (place g.H.Shelf.contents c.loop-i.feed) total
    (subst (λ (ps : List ListSize). with_front c.loop-i.ivf.rows (run (row_lists c.args.checks.now size ps)
    (place g.H.Shelf.contents c.loop-i.feed)) ≡ total) none (inv.so_far told))

pub returns-clause-count : goal.returns-clause-count
returns-clause-count g c =
    let inv = c.loop-i.invariant in
    let (rss, rows, pairs) = inv.read in
    let sizes : List ListSize = c.args.sizes.now in
    let all : take c.loop-i.i sizes ≡ sizes = take_all c.loop-i.i sizes (omega (arith, c.loop-i-test.false)) in
    ap length rows ∙ read-count c.args.checks.now (c.args.dim.bits / 8) (take c.loop-i.i sizes) rss pairs
    ∙ ap rows_in all

pub returns-clause-places : goal.returns-clause-places
returns-clause-places g c = λ bounded.
    let inv = c.loop-i.invariant in
    let (rss, rows, pairs) = inv.read in
    subst (λ (rs : List ListRow). All (λ row. IsPlace c.args.checks.now.count row.label) (map row_of rs)) (sym rows)
    (read-places c.args.checks.now (c.args.dim.bits / 8) (take c.loop-i.i c.args.sizes.now) rss pairs bounded)

pub returns-clause-numbered : goal.returns-clause-numbered
returns-clause-numbered g c = λ is same.
    let inv = c.loop-i.invariant in
    let (rss, rows, pairs) = inv.read in
    let sizes : List ListSize = c.args.sizes.now in
    let all : take c.loop-i.i sizes ≡ sizes = take_all c.loop-i.i sizes (omega (arith, c.loop-i-test.false)) in
    let few = few_rows c.args.dim.bits (rows_in sizes) (length c.args.ivf.now.centroids) c.requires.load in
    subst (λ (rs : List ListRow). IsNumbering (map (λ row. row.label) rs)) (sym rows)
    (read-numbering c.args.checks.now (c.args.dim.bits / 8) sizes rss
    (subst (λ (ps : List ListSize). Pairs (AreListRows c.args.checks.now (c.args.dim.bits / 8)) ps rss) all pairs)
    c.args.ivf.now.nlist c.requires.filled same (omega (arith, few, same)) is)
