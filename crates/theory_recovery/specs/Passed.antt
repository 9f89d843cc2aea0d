-- A CALL THAT PASSED keeps the invariant, ended or cut.
use Prim.Native.Nat.{ℕ, ◌≤◌}
use Rattle.std.specs.Prelude.{◌≡◌, refl, Bool, false, List, [], ◌∷◌, ◌++◌, take, drop, leb}
use Rattle.std.proofs.Math.Path.{sym, ap, subst}
use Rattle.std.proofs.Common.{◌∙◌, append_assoc, append-nil, take-append-drop, take_all}
use Rattle.std.proofs.Math.Option.{Option, none, some}
use Rattle.std.proofs.Math.Bool.{true}
use native.Mathlib.Omega.{arith}
use Rattle.std.proofs.Math.ListN.{length, length-append}
use Rattle.std.proofs.lemmas.List.{take-append-le}
use Rattle.def_base.specs.Tests.{any, clash, Case, yes!, no!, case, true_le, false_le}
use Rattle.def_layout.specs.declared.Desk.{Desk}
use Rattle.def_layout.specs.Records.{Rec}
use Rattle.def_model.specs.Update.{Run}
use Rattle.def_model.specs.Links.{relinked}
use Rattle.def_model.specs.Areas.{log_stores}
use Rattle.def_model.specs.Answers.{Outcome}
use Rattle.def_model.specs.Calls.{run_side}
use Rattle.def_model.specs.Fit.{found}
use Rattle.def_model.specs.OnBytes.{Call, request, commit, Lent, store_all_bytes, work_bytes, log_bytes}
use Rattle.def_recovery.specs.Book.{Book, book_call, book_cut, book_request, book_cut_by, commits, commits_request}
use Rattle.def_recovery.specs.Events.{World, Rubble}
use Rattle.def_recovery.specs.Demand3.{is_commit_of}
use Rattle.theory_history.specs.Origin.{Origin}
use Rattle.theory_history.specs.Start.{slides_after, pages_after}
use Rattle.theory_ranges.specs.Histories.{RangedHistory}
use Rattle.law_areas.specs.Lengths.{Lengths}
use Rattle.law_areas.specs.Pages.{HoldsPages}
use Rattle.law_areas.specs.Working.{HoldsWork, work_hold}
use Rattle.law_areas.specs.Logs.{HoldsLog, area_holds}
use Rattle.theory_calls.specs.Stories.{story}
use Rattle.theory_calls.specs.LiveAreas.{run_left}
use Rattle.theory_calls.specs.Passing.{book_of, is_commit, Fixed, Follows, quietly, by_commit}
use Rattle.theory_calls.specs.Ends.{Ends}
use Rattle.theory_recovery.specs.Invariant.{Sure, Live, Mode, live, lost, Inv}
use Rattle.theory_recovery.specs.Fixing.{fixed_none, fixed_all, fixed_append, fixed_tail, any_last}
use Rattle.theory_recovery.specs.Keeping.{Kept, walk_ranged, kept_log, count_log, parts_kept, sure_part}

-- The invariant later: its log is longer.
pub record Next (stable : List Rec) (w : World) : Type 0 where
  pub inv : Inv w
  pub more : List Rec
  pub longer : inv.log ≡ stable ++ more

-- Stable areas are sure wherever they stand.
pub sure_same : (origin : Origin) (n : ℕ) (l k : Lent) (log : List Rec) → l.stable_pages ≡ k.stable_pages → l.stable_log ≡ k.stable_log → Sure origin n l log → Sure origin n k log
sure_same origin n l k log p q s =
    record {
      least = s.least;
      most = s.most;
      pages = s.pages;
      count = s.count;
      stored = subst (λ b. HoldsPages b s.pages) p s.stored;
      logged = subst (λ b. HoldsLog b log) q s.logged;
      history = s.history;
      ranged = s.ranged;
      behind = s.behind;
    }

-- A cut leaves the book, but of a commit.
calm_cut : (c : Call) (b : Bool) (book : Book) → is_commit c ≡ false → book_cut c b book ≡ book
unfolding is_commit book_cut found book_cut_by
calm_cut c b book e = go (commits c) e
  where
    go : (o : Option ℕ) → found o ≡ false → book_cut_by o b book ≡ book
    go none e = refl
    go (some n) e = clash e

-- A commit does what it would have done, if its record was stored, and else nothing.
all_cut : (c : Call) (b : ℕ) (o : Outcome) (book : Book) → c ≡ request (commit b) → book_cut c true book ≡ book_of c o book
unfolding book_cut book_cut_by commits commits_request book_call book_request
all_cut c b o book e = subst (λ q. book_cut q true book ≡ book_of q o book) (sym e) refl

none_cut : (c : Call) (b : ℕ) (book : Book) → c ≡ request (commit b) → book_cut c false book ≡ book
unfolding book_cut book_cut_by commits commits_request
none_cut c b book e = subst (λ q. book_cut q false book ≡ book) (sym e) refl

module _ (origin : Origin) (n m : ℕ) (l : Lent) (z : Lengths l n m) (stable : List Rec) (s : Sure origin n l stable) (log rest : List Rec) (is : log ≡ stable ++ rest) (fixed : Fixed origin stable rest) (ranged : RangedHistory origin n log) (c : Call) (o : Outcome) (e : Ends origin n m stable log c o) (book : Book) (slides : book.slides ≡ slides_after origin stable) (tells : book_of c o book ≡ story origin e.run.log) where
  t : Run
  t = e.run

  pub ranged_run : RangedHistory origin n e.run.log
  ranged_run =
      let d = e.standing.core.due in
      let f = e.within in
      let g = z.most_slots in
      walk_ranged origin n s.most log e.walk e.begins (omega arith) (subst (RangedHistory origin n) (sym e.from) ranged)

  -- The working areas that it leaves.
  lives : (k : Lent) → k.work_pages ≡ work_bytes o.work.pages o.work.lefts → k.work_log ≡ log_bytes o.work.log → (part tail : List Rec) → e.run.log ≡ (stable ++ part) ++ tail → Fixed origin (stable ++ part) tail → Live origin n k (stable ++ part) e.run.log
  unfolding run_side
  lives k a b part tail q f =
      record {
        pages =
            subst (λ x. HoldsWork x (pages_after origin n e.run.log) (relinked (pages_after origin n e.run.log) []))
            (sym (a ∙ ap (λ y. work_bytes y.pages y.lefts) (e.work ∙ run_left origin n m s.most e.run e.standing.pages e.standing.history)))
            (work_hold (pages_after origin n e.run.log) (relinked (pages_after origin n e.run.log) []));
        logged = subst (λ x. HoldsLog x e.run.log) (sym (b ∙ ap (λ y. log_bytes y.log) e.work)) (area_holds m e.run.log);
        history = e.standing.history;
        ranged = ranged_run;
        rest = tail;
        longer = q;
        fixed = f;
      }

  -- What the world is after it: these working areas and desk, and the first j stores.
  abbrev pub after : (j : ℕ) (pages log : List ℕ) (d : Desk) (b : Book) (cut : Bool) → World
  after j pages log d b cut =
      record { lent = record { work_pages = pages; stable_pages = (store_all_bytes (take j o.stores) l).stable_pages; work_log = log; stable_log = (store_all_bytes (take j o.stores) l).stable_log }; desk = d; book = b; since_cut = cut }

  -- Of these stores a first part of the rest was kept.
  module _ (j : ℕ) (pages log' : List ℕ) (d : Desk) (b : Book) (cut : Bool) where
    surely : (k : Lent) (rest' : List Rec) → e.run.log ≡ stable ++ rest' → (part tail : List Rec) → rest' ≡ part ++ tail → Kept origin n k (stable ++ part) → k.stable_pages ≡ (after j pages log' d b cut).lent.stable_pages → k.stable_log ≡ (after j pages log' d b cut).lent.stable_log
        → Sure origin n (after j pages log' d b cut).lent (stable ++ part)
    surely k rest' q part tail w p u v = sure_same origin n k (after j pages log' d b cut).lent (stable ++ part) u v (sure_part origin n m l z stable s rest' e.run q e.standing e.within ranged_run k part tail w p)

    -- Quiet records: the slides stay.
    quiet : (more : List Rec) → e.run.log ≡ log ++ more → Fixed origin log more
        → (b.slides ≡ slides_after origin stable → (part tail : List Rec) → rest ++ more ≡ part ++ tail → Mode origin n (after j pages log' d b cut).lent (stable ++ part) b cut) → b.slides ≡ slides_after origin stable → Next stable (after j pages log' d b cut)
    quiet more q f mode sl =
        let r : e.run.log ≡ stable ++ (rest ++ more) = q ∙ ap (◌++ more) is ∙ append_assoc stable rest more in
        let g : Fixed origin stable (rest ++ more) = fixed_append origin stable rest more fixed (subst (λ y. Fixed origin y more) is f) in
        let p = parts_kept origin n m l z stable s (rest ++ more) e.run r e.standing e.within j o.stores e.stored in
        record {
          inv = record { origin = origin; n = n; log = stable ++ p.part; sure = surely _ (rest ++ more) r p.part p.tail p.whole p.kept refl refl; slides = sl ∙ sym (g p.part p.tail p.whole); mode = mode sl p.part p.tail p.whole };
          more = p.part;
          longer = refl;
        }

    -- A commit's record comes last: it is stored with all stores, and not before.
    committed : (r : Rec) → e.run.log ≡ log ++ r ∷ [] → o.stores ≡ log_stores (length stable) e.run.log → b.slides ≡ slides_after origin (stable ++ take j (rest ++ r ∷ []))
        → Mode origin n (after j pages log' d b cut).lent (stable ++ take j (rest ++ r ∷ [])) b cut → (x : Next stable (after j pages log' d b cut)) × (x.inv.log ≡ stable ++ take j (rest ++ r ∷ []))
    committed r q w sl mode =
        let rest' : List Rec = rest ++ r ∷ [] in
        let u : e.run.log ≡ stable ++ rest' = q ∙ ap (◌++ r ∷ []) is ∙ append_assoc stable rest (r ∷ []) in
        let p = kept_log origin n m l z stable s rest' e.run u e.standing e.within j in (
          record {
            inv = record {
              origin = origin;
              n = n;
              log = stable ++ take j rest';
              sure = surely (store_all_bytes (take j (log_stores (length stable) e.run.log)) l) rest' u (take j rest') (drop j rest') (sym (take-append-drop j rest')) p (ap (λ y. (store_all_bytes (take j y) l).stable_pages) (sym w)) (ap (λ y. (store_all_bytes (take j y) l).stable_log) (sym w));
              slides = sl;
              mode = mode;
            };
            more = take j rest';
            longer = refl;
          },
          refl,
        )

  -- How many stores a commit has.
  count : (r : Rec) → e.run.log ≡ log ++ r ∷ [] → o.stores ≡ log_stores (length stable) e.run.log → length o.stores ≡ length (rest ++ r ∷ [])
  count r q w =
      ap length w ∙ count_log origin n m l z stable s (rest ++ r ∷ []) e.run (q ∙ ap (◌++ r ∷ []) is ∙ append_assoc stable rest (r ∷ [])) e.standing e.within

  whole_log : (j : ℕ) (r : Rec) → e.run.log ≡ log ++ r ∷ [] → length (rest ++ r ∷ []) ≤ j → e.run.log ≡ stable ++ take j (rest ++ r ∷ [])
  whole_log j r q h = q ∙ ap (◌++ r ∷ []) is ∙ append_assoc stable rest (r ∷ []) ∙ ap (stable ++◌) (sym (take_all j (rest ++ r ∷ []) h))

  told_slides : (b : Book) → b ≡ story origin e.run.log → b.slides ≡ slides_after origin e.run.log
  unfolding story
  told_slides b q = ap (λ y. y.slides) q

  -- ---- ended

  pub record Told (w : World) : Type 0 where
    pub next : Next stable w
    pub told : (b : ℕ) → c ≡ request (commit b) → any (is_commit_of b) next.inv.log ≡ true

  abbrev pub ends_in : Desk → Bool → World
  ends_in d cut = after (length o.stores) (work_bytes o.work.pages o.work.lefts) (log_bytes o.work.log) d (book_of c o book) cut

  pub ended_next : (d : Desk) (cut : Bool) → Told (ends_in d cut)
  unfolding is_commit commits commits_request found
  ended_next d cut = go e.follows
    where
      j : ℕ
      j = length o.stores

      go : Follows origin stable c log e.run o.stores → Told (ends_in d cut)
      go (quietly more k q f) =
          let r : e.run.log ≡ stable ++ (rest ++ more) = q ∙ ap (◌++ more) is ∙ append_assoc stable rest more in
          let g : Fixed origin stable (rest ++ more) = fixed_append origin stable rest more fixed (subst (λ y. Fixed origin y more) is f) in
          record {
            next = quiet (length o.stores) (work_bytes o.work.pages o.work.lefts) (log_bytes o.work.log) d (book_of c o book) cut more q f
                (λ sl part tail w. live e.run.log (lives (ends_in d cut).lent refl refl part tail (r ∙ ap (stable ++◌) w ∙ sym (append_assoc stable part tail)) (fixed_tail origin stable (rest ++ more) part tail w g)) tells)
                (told_slides (book_of c o book) tells ∙ ap (slides_after origin) r ∙ fixed_all origin stable (rest ++ more) g);
            told = λ b x. clash (sym (ap is_commit x) ∙ k);
          }
      go (by_commit b r x ok q w) =
          let h : length (rest ++ r ∷ []) ≤ length o.stores = let y = count r q w in omega arith in
          let u = whole_log (length o.stores) r q h in
          let v : stable ++ take (length o.stores) (rest ++ r ∷ []) ≡ (stable ++ rest) ++ r ∷ [] = sym u ∙ q ∙ ap (◌++ r ∷ []) is in
          let (y, p) = committed (length o.stores) (work_bytes o.work.pages o.work.lefts) (log_bytes o.work.log) d (book_of c o book) cut r q w (told_slides (book_of c o book) tells ∙ ap (slides_after origin) u)
          (live e.run.log (lives (ends_in d cut).lent refl refl (take (length o.stores) (rest ++ r ∷ [])) [] (u ∙ sym (append-nil _)) (fixed_none origin (stable ++ take (length o.stores) (rest ++ r ∷ [])))) tells) in
          record { next = y; told = λ k f. subst (λ a. any (is_commit_of k) a ≡ true) (sym (p ∙ v)) (any_last (is_commit_of k) (stable ++ rest) r (subst (λ a. is_commit_of a r ≡ true) (same b k (sym x ∙ f)) ok)) }
        where
          same : (b k : ℕ) → request (commit b) ≡ request (commit k) → b ≡ k
          same b k f = cc

  -- ---- cut

  abbrev pub cut_in : ℕ → Rubble → World
  cut_in j left = after j left.work_pages left.work_log left.desk (book_cut c (leb (length o.stores) j) book) true

  pub cut_next : (j : ℕ) (left : Rubble) → Next stable (cut_in j left)
  unfolding is_commit
  cut_next j left = go e.follows
    where
      go : Follows origin stable c log e.run o.stores → Next stable (cut_in j left)
      go (quietly more k q f) =
          quiet j left.work_pages left.work_log left.desk (book_cut c (leb (length o.stores) j) book) true more q f (λ sl part tail w. lost refl) (ap (λ y. y.slides) (calm_cut c (leb (length o.stores) j) book k) ∙ slides)
      go (by_commit b r x ok q w) = by (case (leb (length o.stores) j))
        where
          by : Case (leb (length o.stores) j) → Next stable (cut_in j left)
          by (yes! y) =
              let h : length (rest ++ r ∷ []) ≤ j = let a = count r q w in let g = true_le (length o.stores) j y in omega arith in
              (committed j left.work_pages left.work_log left.desk (book_cut c (leb (length o.stores) j) book) true r q w
              (ap (λ a. (book_cut c a book).slides) y ∙ ap (λ a. a.slides) (all_cut c b o book x) ∙ told_slides (book_of c o book) tells ∙ ap (slides_after origin) (whole_log j r q h)) (lost refl)).0
          by (no! y) =
              let a = count r q w in
              let g = false_le (length o.stores) j y in
              let d = length-append rest (r ∷ []) in
              let h : j ≤ length rest = omega arith in
              (committed j left.work_pages left.work_log left.desk (book_cut c (leb (length o.stores) j) book) true r q w
              (ap (λ a. (book_cut c a book).slides) y ∙ ap (λ a. a.slides) (none_cut c b book x) ∙ slides ∙ sym (fixed (take j rest) (drop j rest) (sym (take-append-drop j rest))) ∙ ap (λ a. slides_after origin (stable ++ a)) (sym (take-append-le j rest (r ∷ []) h))) (lost refl)).0
