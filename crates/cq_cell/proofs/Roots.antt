-- The roots of several cells, as they give the passes of a session out and take them back.
use Rattle.std.proofs.Common.{◌≡◌, ℕ, List, [], ◌∷◌, ◌++◌, map, refl, sym, ap, ◌∙◌, subst}
use Rattle.std.specs.List.{AllZip, AllByRecursion}
use Rattle.atomic_table.specs.Seated.{TableId}
use Rattle.cq_cell.specs.declared.view.View.{View}
use Rattle.cq_cell.specs.declared.view.Key.{Key}
use Rattle.cq_cell.specs.declared.passes.Pass.{Pass}
use Rattle.cq_cell.specs.Cell.{opened, less, pass, both}
use Rattle.cq_cell.specs.Lists.{AllThree, EachOwn, StartsWith, own, numbers}
use Rattle.cq_cell.specs.Passes.{newcomer, IsOver}
use Rattle.cq_cell.specs.Many.{IsOpened, IsFirst, IsBack, AllBack, IsHistory, HaveClosed}
use Rattle.cq_cell.specs.Rows.{MayGive, Gives, MayTake, Takes, IsJoined, IsClosed}

cons_some : (n : ℕ) (ns l : List ℕ) → l ≡ n ∷ ns → l ≡ [] → ⊥
cons_some n ns l e d = let z : n ∷ ns ≡ [] = sym e ∙ d in absurd (cc)

module _ {N : Type 0} where
  numbers_more : (ps : List (ℕ × List N × List N)) (p : ℕ × List N × List N) → numbers (ps ++ p ∷ []) ≡ numbers ps ++ p.0 ∷ []
  numbers_more [] p = refl
  numbers_more (q ∷ ps) p = ap (λ ns. q.0 ∷ ns) (numbers_more ps p)

  each_less : (who : N → ℕ) (l : List N) (ps : List (ℕ × List N × List N)) (p : ℕ × List N × List N) → EachOwn who l (ps ++ p ∷ []) → EachOwn who l ps × (p.1 ≡ own who p.0 l) × StartsWith l p.2 × (p.1 ≡ own who p.0 p.2)
  each_less who l [] p h = (tt, h.0, h.1, h.2)
  each_less who l (q ∷ ps) p h = let t = each_less who l ps p h.3 in ((h.0, h.1, h.2, t.0), t.1, t.2, t.3)

module _ {X N : Type 0} where
  module _ (sessions : List ℕ) (n : ℕ) (left : List ℕ) where
    pub may_give : (cs : List (TableId × Key X)) (roots : List (Pass X N)) → AllZip (IsOpened sessions (n ∷ left)) cs roots → AllZip MayGive cs roots
    may_give [] [] h = tt
    may_give [] (r ∷ rs) h = absurd h
    may_give (c ∷ cs) [] h = absurd h
    may_give (c ∷ cs) (r ∷ rs) h = let m = h.0.me in (
      record {
        at = (h.0.table, h.0.cell);
        live = ap (λ v. v.0.live) m;
        is_root = ap (λ v. v.0.root) m;
        filled = ap (λ v. v.0.fresh) m;
        still = ap (λ v. v.0.turn) m;
        some = cons_some n left r.place.me.0.left (ap (λ v. v.0.left) m);
      },
      may_give cs rs h.1,
    )

    pub have_given : (cs : List (TableId × Key X)) (roots roots' ps : List (Pass X N)) → AllZip (IsOpened sessions (n ∷ left)) cs roots → AllThree (Gives n) roots roots' ps
        → AllZip (IsOpened sessions left) cs roots' × AllZip (IsFirst sessions n) cs ps
    have_given [] [] [] [] h k = (tt, tt)
    have_given [] [] [] (p ∷ ps) h k = absurd k
    have_given [] [] (r' ∷ rs') ps h k = absurd k
    have_given [] (r ∷ rs) rs' ps h k = absurd h
    have_given (c ∷ cs) [] rs' ps h k = absurd h
    have_given (c ∷ cs) (r ∷ rs) [] ps h k = absurd k
    have_given (c ∷ cs) (r ∷ rs) (r' ∷ rs') [] h k = absurd k
    have_given (c ∷ cs) (r ∷ rs) (r' ∷ rs') (p ∷ ps) h k = let m = h.0.me in let rest = have_given cs rs rs' ps h.1 k.1 in (
      (
        record {
          table = k.0.table ∙ h.0.table;
          cell = h.0.cell;
          sessions = h.0.sessions;
          me = k.0.me ∙ ap (λ v. (less v.0, v.1)) m;
        },
        rest.0,
      ),
      (
        record {
          numbered = k.0.numbered;
          at = (k.0.there ∙ h.0.table, h.0.cell);
          me = k.0.given ∙ ap (λ v. (pass v.0, [])) m;
        },
        rest.1,
      ),
    )

  -- roots that gave all passes out, and took none back
  pub none_back : (sessions : List ℕ) (cs : List (TableId × Key X)) (roots : List (Pass X N)) → AllZip (IsOpened sessions []) cs roots → AllZip (IsJoined sessions []) cs roots
  none_back sessions [] [] h = tt
  none_back sessions [] (r ∷ rs) h = absurd h
  none_back sessions (c ∷ cs) [] h = absurd h
  none_back sessions (c ∷ cs) (r ∷ rs) h = let m = h.0.me in (
    record {
      at = (h.0.table, h.0.cell);
      all = h.0.sessions;
      live = ap (λ v. v.0.live) m;
      is_root = ap (λ v. v.0.root) m;
      filled = ap (λ v. v.0.fresh) m;
      still = ap (λ v. v.0.turn) m;
      ended = ap (λ v. numbers v.0.ended) m;
    },
    none_back sessions cs rs h.1,
  )

  module _ (sessions back : List ℕ) (n : ℕ) where
    pub may_take : (cs : List (TableId × Key X)) (roots ps : List (Pass X N)) → AllZip (IsJoined sessions back) cs roots → AllZip (IsBack n) cs ps → AllThree MayTake cs roots ps
    may_take [] [] [] h k = tt
    may_take [] [] (p ∷ ps) h k = absurd k
    may_take [] (r ∷ rs) ps h k = absurd h
    may_take (c ∷ cs) [] ps h k = absurd h
    may_take (c ∷ cs) (r ∷ rs) [] h k = absurd k
    may_take (c ∷ cs) (r ∷ rs) (p ∷ ps) h k = (record { at = h.0.at; live = h.0.live; is_root = h.0.is_root; there = k.0.at; rests = k.0.rests }, may_take cs rs ps h.1 k.1)

    pub have_taken : (cs : List (TableId × Key X)) (roots roots' ps : List (Pass X N)) → AllZip (IsJoined sessions back) cs roots → AllZip (IsBack n) cs ps → AllThree Takes roots roots' ps → AllZip (IsJoined sessions (back ++ n ∷ [])) cs roots'
    have_taken [] [] [] ps h b k = tt
    have_taken [] [] (r' ∷ rs') ps h b k = absurd k
    have_taken [] (r ∷ rs) rs' ps h b k = absurd h
    have_taken (c ∷ cs) [] rs' ps h b k = absurd h
    have_taken (c ∷ cs) (r ∷ rs) [] ps h b k = absurd k
    have_taken (c ∷ cs) (r ∷ rs) (r' ∷ rs') [] h b k = absurd b
    have_taken (c ∷ cs) (r ∷ rs) (r' ∷ rs') (p ∷ ps) h b k = let m = k.0.me in let q = p.place.me.0 in (
      record {
        at = (k.0.table ∙ h.0.at.0, h.0.at.1);
        all = h.0.all;
        live = ap (λ v. v.0.live) m ∙ h.0.live;
        is_root = ap (λ v. v.0.root) m ∙ h.0.is_root;
        filled = ap (λ v. v.0.fresh) m ∙ h.0.filled;
        still = ap (λ v. v.0.turn) m ∙ h.0.still;
        ended = ap (λ v. numbers v.0.ended) m ∙ (numbers_more r.place.me.0.ended (q.number, q.mine, q.news) ∙ (λ i. h.0.ended i ++ b.0.own i ∷ []));
      },
      have_taken cs rs rs' ps h.1 b.1 k.1,
    )

  module _ (who : N → ℕ) where
    -- a history in which what came back to a root is so
    abbrev pub Ends : List N → Pass X N → Type 0
    Ends l r = EachOwn who l r.place.me.0.ended

    -- what is so of the passes that came back to the roots is so of those that came last, and of those before
    pub have_ended : (ls : List (List N)) (roots roots' ps : List (Pass X N)) → AllThree Takes roots roots' ps → AllZip Ends ls roots' → AllZip (IsOver who) ls ps × AllZip Ends ls roots
    have_ended [] [] [] [] k h = (tt, tt)
    have_ended [] [] [] (p ∷ ps) k h = absurd k
    have_ended [] [] (r' ∷ rs') ps k h = absurd k
    have_ended [] (r ∷ rs) [] ps k h = absurd k
    have_ended [] (r ∷ rs) (r' ∷ rs') ps k h = absurd h
    have_ended (l ∷ ls) [] [] ps k h = absurd h
    have_ended (l ∷ ls) [] (r' ∷ rs') ps k h = absurd k
    have_ended (l ∷ ls) (r ∷ rs) [] ps k h = absurd k
    have_ended (l ∷ ls) (r ∷ rs) (r' ∷ rs') [] k h = absurd k
    have_ended (l ∷ ls) (r ∷ rs) (r' ∷ rs') (p ∷ ps) k h = let q = p.place.me.0 in
        let t = each_less who l r.place.me.0.ended (q.number, q.mine, q.news) (subst (EachOwn who l) (ap (λ v. v.0.ended) k.0.me) h.0) in
        let rest = have_ended ls rs rs' ps k.1 h.1 in
        ((record { mine = t.1; seen = t.2; all = t.3 }, rest.0), (t.0, rest.1))

    -- closed cells have the histories of their roots
    pub have_closed : (stands : X → X → List N → Type 0) (cs : List (TableId × Key X)) (roots : List (Pass X N)) (values : List X) → AllThree (IsClosed who stands) cs roots values
        → AllThree (IsHistory who stands) cs values (map (λ (r : Pass X N). r.place.me.0.news) roots) × AllZip Ends (map (λ (r : Pass X N). r.place.me.0.news) roots) roots
    have_closed stands [] [] [] h = (tt, tt)
    have_closed stands [] [] (v ∷ vs) h = absurd h
    have_closed stands [] (r ∷ rs) vs h = absurd h
    have_closed stands (c ∷ cs) [] vs h = absurd h
    have_closed stands (c ∷ cs) (r ∷ rs) [] h = absurd h
    have_closed stands (c ∷ cs) (r ∷ rs) (v ∷ vs) h = let t = have_closed stands cs rs vs h.1 in ((h.0.history, t.0), (h.0.each, t.1))

  -- one session more
  pub rows_more : (P : List (Pass X N) → Type 0) (front : List (List (Pass X N))) (row : List (Pass X N)) → AllByRecursion P front → P row → AllByRecursion P (front ++ row ∷ [])
  rows_more P [] row h k = (k, tt)
  rows_more P (r ∷ front) row h k = (h.0, rows_more P front row h.1 k)

  module _ {Q : Type 0} (f : Q → List (Pass X N)) (cs : List (TableId × Key X)) where
    pub back_first : (left : List ℕ) (rows : List Q) (row : Q) (later : List Q) → rows ≡ row ∷ later → AllBack cs left (map f rows) → (n : ℕ) × (left' : List ℕ) × (left ≡ n ∷ left') × AllZip (IsBack n) cs (f row) × AllBack cs left' (map f later)
    back_first [] rows row later e h = absurd (subst (λ qs. AllBack cs [] (map f qs)) e h)
    back_first (n ∷ left) rows row later e h = let k = subst (λ qs. AllBack cs (n ∷ left) (map f qs)) e h in (n, left, refl, k.0, k.1)

    pub back_none : (left : List ℕ) (rows : List Q) → rows ≡ [] → AllBack cs left (map f rows) → left ≡ []
    back_none [] rows e h = refl
    back_none (n ∷ left) rows e h = absurd (subst (λ qs. AllBack cs (n ∷ left) (map f qs)) e h)
