-- A move that begins: the tables that come in get their stores.
use Rattle.std.proofs.Common.{◌≡◌, ◌∙◌, ◌+◌, ◌<◌, ◌≤◌, ℕ, zero, suc, List, [], ◌∷◌, ◌++◌, length, map, take, get_or, refl, sym, ap, subst, vec_capacity, Result, Ok, Err, OnOk, append-nil, length-append, add-one, arith}
use Rattle.std.proofs.Math.ListN.{set}
use Rattle.std.specs.List.{AllByRecursion, AllZip, flat_map}
use Rattle.std.proofs.lemmas.List.{append_assoc, take_more, length-map}
use Rattle.std.proofs.lemmas.List.Sums.{sum_by_push}
use Rattle.cq_value.specs.Tables.{Table, empty_table}
use Rattle.cq_value.specs.Changes.{applied, Fit}
use Rattle.cq_tree.specs.declared.journal.Entry.{Entry}
use Rattle.cq_journal.specs.Journals.{replay}
use Rattle.cq_journal.specs.Stations.{node_of}
use Rattle.cq_store.specs.Stores.{StoreState, Becomes, IsSpare}
use Rattle.cq_group.specs.declared.group.GroupTable.{GroupTable}
use Rattle.cq_group.specs.declared.group.GroupState.{GroupState}
use Rattle.cq_group.specs.declared.incoming.IncomingTable.{IncomingTable}
use Rattle.cq_group.specs.declared.group.GroupError.{GroupError}
use Rattle.cq_group.specs.declared.group.GroupError.TheVariants.{Worker, Memory}
use Rattle.cq_group.specs.Groups.{Outline, outline, outlines, entries_of, journal_of, stores_of, copies_of, IsTableKept, IsKept, IsTableQuiet}
use Rattle.cq_group.specs.Calls.{Rests, Lifted, Blames, IsSameBut, IsRestingTable, first_rows}
use Rattle.cq_group.specs.Resting.{IsResting}
use Rattle.cq_group.specs.Moves.{IsSameMove}
use Rattle.cq_group.proofs.MoveLaws.{same_move}
use Rattle.cq_group.proofs.GroupLaws.{kept_along, quiet_along}
use Rattle.cq_group.proofs.ReadLaws.{rested_kept}
use Rattle.cq_group.proofs.WriteLaws.{keeps_none}
use Rattle.cq_group.specs.Incoming.{IsArriving, IsIncomingTable, IsLeaving, IsFilled, AreFilled, AreSpareOn, Adopts, IsOutgoing, rows_in, CanStart, RefusesMove, why_told}

-- a list that isn't empty has a last element
unsnoc : {Y : Type 0} (n : ℕ) (ys : List Y) → length ys ≡ n + 1 → (front : List Y) × (y : Y) × (ys ≡ front ++ y ∷ []) × (length front ≡ n)
unsnoc n [] e = absurd (omega (arith, e))
unsnoc zero (y ∷ []) e = ([], y, refl, refl)
unsnoc zero (y ∷ (z ∷ ys)) e = absurd (omega (arith, e))
unsnoc (suc n) (y ∷ ys) e =
    let rest = unsnoc n ys (omega (arith, e)) in
    let long = rest.3 in
    (y ∷ rest.0, rest.1, ap (λ zs. y ∷ zs) rest.2, omega (arith, long))

set_there : {Y : Type 0} (front back : List Y) (y v : Y) (n : ℕ) → length front ≡ n → set (front ++ y ∷ back) n v ≡ front ++ v ∷ back
set_there [] back y v zero e = refl
set_there [] back y v (suc n) e = absurd (omega (arith, e))
set_there (x ∷ front) back y v zero e = absurd (omega (arith, e))
set_there (x ∷ front) back y v (suc n) e = ap (λ zs. x ∷ zs) (set_there front back y v n (omega (arith, e)))

get_there : {Y : Type 0} (front back : List Y) (y d : Y) (n : ℕ) → length front ≡ n → get_or (front ++ y ∷ back) n d ≡ y
get_there [] back y d zero e = refl
get_there [] back y d (suc n) e = absurd (omega (arith, e))
get_there (x ∷ front) back y d zero e = absurd (omega (arith, e))
get_there (x ∷ front) back y d (suc n) e = get_there front back y d n (omega (arith, e))

-- some of the tables have got their stores, the last ones first
pub record IsFilling {X : Type 0} (state : X → StoreState) (xs : List X) (ts : List (IncomingTable X)) (left : List X) (us : List (IncomingTable X)) : Type 0 where
  pub front : List (IncomingTable X)
  pub given : List X
  pub waited : List (IncomingTable X)
  pub filled : List (IncomingTable X)
  pub stores : xs ≡ left ++ given
  pub before : ts ≡ front ++ waited
  pub now : us ≡ front ++ filled
  pub long : length front ≡ length left
  pub each : AreFilled state given waited filled

pub outline_at : {X : Type 0} (ts : List (GroupTable X)) (n : ℕ) (t : GroupTable X) (d : Outline) → n < length ts → t ≡ get_or ts n t → get_or (map outline ts) n d ≡ outline t
outline_at [] n t d low is = absurd (omega (arith, low))
outline_at (u ∷ ts) zero t d low is = ap outline (sym is)
outline_at (u ∷ ts) (suc n) t d low is = outline_at ts n t d (omega (arith, low)) is

pub on_ok : {T E : Type 0} (r : Result T E) (P Q : Type 0) → (P → Q) → OnOk r P → OnOk r Q
on_ok (Ok x) P Q f h = f h
on_ok (Err e) P Q f h = tt

module _ {X : Type 0} (state : X → StoreState) where
  pub leaving : (es : List Entry) (t : GroupTable X) (u : IncomingTable X) → first_rows state t.stores.items ≡ replay t.table t.shape es → IsOutgoing state t u → IsLeaving es (outline t) u
  leaving es t u e h = record { table = h.table; shard = h.shard; fit = h.fit; gives = h.gives ∙ e; empty = h.empty; room = h.room }

  pub filling_none : (xs : List X) (ts : List (IncomingTable X)) → length xs ≡ length ts → IsFilling state xs ts xs ts
  filling_none xs ts e = record { front = ts; given = []; waited = []; filled = []; stores = sym (append-nil xs); before = sym (append-nil ts); now = sym (append-nil ts); long = sym e; each = tt }

  -- the next table to be filled
  pub record NextTable (xs : List X) (ts : List (IncomingTable X)) (left : List X) (x : X) (us : List (IncomingTable X)) : Type 0 where
    pub front : List (IncomingTable X)
    pub table : IncomingTable X
    pub waited : List (IncomingTable X)
    pub filled : List (IncomingTable X)
    pub given : List X
    pub stores : xs ≡ left ++ (x ∷ given)
    pub before : ts ≡ front ++ table ∷ waited
    pub now : us ≡ front ++ table ∷ filled
    pub long : length front ≡ length left
    pub each : AreFilled state given waited filled

  pub next_table : (xs : List X) (ts : List (IncomingTable X)) (all left : List X) (x : X) (us : List (IncomingTable X)) → IsFilling state xs ts all us → all ≡ left ++ x ∷ [] → NextTable xs ts left x us
  next_table xs ts all left x us h e =
      let long : length h.front ≡ length left + 1 = h.long ∙ ap length e ∙ snoc_length left in
      let last = unsnoc (length left) h.front long in
      record {
        front = last.0;
        table = last.1;
        waited = h.waited;
        filled = h.filled;
        given = h.given;
        stores = h.stores ∙ ap (λ ys. ys ++ h.given) e ∙ append_assoc left (x ∷ []) h.given;
        before = h.before ∙ ap (λ ys. ys ++ h.waited) last.2 ∙ append_assoc last.0 (last.1 ∷ []) h.waited;
        now = h.now ∙ ap (λ ys. ys ++ h.filled) last.2 ∙ append_assoc last.0 (last.1 ∷ []) h.filled;
        long = last.3;
        each = h.each;
      }
    where
      snoc_length : (ys : List X) → length (ys ++ x ∷ []) ≡ length ys + 1
      snoc_length [] = refl
      snoc_length (y ∷ ys) = let rest = snoc_length ys in omega (arith, rest)

  pub next_is : (xs : List X) (ts : List (IncomingTable X)) (left : List X) (x : X) (us : List (IncomingTable X)) (n : ℕ) (d : IncomingTable X) → (h : NextTable xs ts left x us) → n ≡ length left → get_or us n d ≡ h.table
  next_is xs ts left x us n d h e = ap (λ ys. get_or ys n d) h.now ∙ get_there h.front h.filled h.table d n (h.long ∙ sym e)

  pub next_within : (xs : List X) (ts : List (IncomingTable X)) (left : List X) (x : X) (us : List (IncomingTable X)) → NextTable xs ts left x us → length left < length us
  next_within xs ts left x us h = let all = ap length h.now ∙ length-append h.front (h.table ∷ h.filled) in let long = h.long in omega (arith, all, long)

  pub filling_more : (xs : List X) (ts : List (IncomingTable X)) (left : List X) (x : X) (us : List (IncomingTable X)) (n : ℕ) (v : IncomingTable X) → (h : NextTable xs ts left x us) → n ≡ length left →
      IsFilled state x h.table v → IsFilling state xs ts left (set us n v)
  filling_more xs ts left x us n v h e f = record {
    front = h.front;
    given = x ∷ h.given;
    waited = h.table ∷ h.waited;
    filled = v ∷ h.filled;
    stores = h.stores;
    before = h.before;
    now = ap (λ ys. set ys n v) h.now ∙ set_there h.front h.filled h.table v n (h.long ∙ sym e);
    long = h.long;
    each = (f, h.each);
  }

  pub filling_all : (xs : List X) (ts : List (IncomingTable X)) (us : List (IncomingTable X)) → IsFilling state xs ts [] us → AreFilled state xs ts us
  filling_all xs ts us h = done h.front h.long h.before h.now
    where
      done : (front : List (IncomingTable X)) → length front ≡ 0 → ts ≡ front ++ h.waited → us ≡ front ++ h.filled → AreFilled state xs ts us
      done [] e before now = subst (λ ys. AreFilled state ys ts us) (sym h.stores) (subst (λ ys. AreFilled state h.given ys us) (sym before) (subst (λ ys. AreFilled state h.given h.waited ys) (sym now) h.each))
      done (f ∷ front) e before now = absurd (omega (arith, e))

  all_middle : {Y : Type 0} (P : Y → Type 0) (front back : List Y) (y : Y) → AllByRecursion P (front ++ y ∷ back) → P y
  all_middle P [] back y h = h.0
  all_middle P (x ∷ front) back y h = all_middle P front back y h.1

  -- what is known of it, and of its store
  pub next_holds : (P : IncomingTable X → Type 0) (xs : List X) (ts : List (IncomingTable X)) (left : List X) (x : X) (us : List (IncomingTable X)) → (h : NextTable xs ts left x us) → AllByRecursion P ts → P h.table
  next_holds P xs ts left x us h all = all_middle P h.front h.waited h.table (subst (λ ys. AllByRecursion P ys) h.before all)

  pub next_store : (P : X → Type 0) (xs : List X) (ts : List (IncomingTable X)) (left : List X) (x : X) (us : List (IncomingTable X)) → NextTable xs ts left x us → AllByRecursion P xs → P x
  next_store P xs ts left x us h all = all_middle P left h.given x (subst (λ ys. AllByRecursion P ys) h.stores all)

  -- what was filled comes in
  filled_arrives : (node : ℕ) (es more : List Entry) (o : Outline) (x : X) (t u : IncomingTable X) → replay o.0 o.1 more ≡ replay o.0 o.1 es → 0 < o.2 → IsLeaving es o t → IsSpare (state x) × ((state x).node ≡ node) → IsFilled state x t u →
      IsIncomingTable state node more o u
  filled_arrives node es more o x t u e some l s f =
      let shard : (state f.store).shard ≡ o.2 = ap (λ (z : StoreState). z.shard) f.adopted.state ∙ l.shard in
      let rows : (state f.store).rows ≡ empty_table = ap (λ (z : StoreState). z.rows) f.adopted.state ∙ s.0.empty in
      record {
        table = f.table ∙ l.table;
        shard = f.shard ∙ l.shard;
        one = ap length f.stores;
        stores = subst (λ ys. AllByRecursion (λ (y : X). IsArriving node more o u.pending (state y)) ys) (sym f.stores)
            (subst (λ cs. AllByRecursion (λ (y : X). IsArriving node more o cs (state y)) (f.store ∷ [])) (sym f.pending) (
              record {
                of_node = ap (λ (z : StoreState). z.node) f.adopted.state ∙ s.1;
                of_shard = shard;
                adopted = subst (λ n. 0 < n) (sym shard) some;
                nothing = ap (λ (z : StoreState). z.staged) f.adopted.state ∙ s.0.nothing;
                fit = subst (λ (v : Table). Fit v t.pending) (sym rows) l.fit;
                gives = ap (λ (v : Table). applied v t.pending) rows ∙ l.gives ∙ sym e;
              },
              tt,
            ));
      }

  pub filled_incoming : (node : ℕ) (es more : List Entry) (os : List Outline) (xs : List X) (ts us : List (IncomingTable X)) → ((o : Outline) → replay o.0 o.1 more ≡ replay o.0 o.1 es) → AllByRecursion (λ (o : Outline). 0 < o.2) os →
      AllZip (IsLeaving es) os ts → AreSpareOn state node xs → AreFilled state xs ts us → AllZip (IsIncomingTable state node more) os us
  filled_incoming node es more [] [] [] [] e some l s f = tt
  filled_incoming node es more [] [] [] (u ∷ us) e some l s f = absurd f
  filled_incoming node es more [] (x ∷ xs) [] us e some l s f = absurd (no_more us f)
    where
      no_more : (us : List (IncomingTable X)) → AreFilled state (x ∷ xs) [] us → ⊥
      no_more [] f = f
      no_more (u ∷ us) f = f
  filled_incoming node es more [] xs (t ∷ ts) us e some l s f = absurd l
  filled_incoming node es more (o ∷ os) xs [] us e some l s f = absurd l
  filled_incoming node es more (o ∷ os) [] (t ∷ ts) us e some l s f = absurd (none us f)
    where
      none : (us : List (IncomingTable X)) → AreFilled state [] (t ∷ ts) us → ⊥
      none [] f = f
      none (u ∷ us) f = f
  filled_incoming node es more (o ∷ os) (x ∷ xs) (t ∷ ts) [] e some l s f = absurd f
  filled_incoming node es more (o ∷ os) (x ∷ xs) (t ∷ ts) (u ∷ us) e some l s f =
      (filled_arrives node es more o x t u (e o) some.0 l.0 s.0 f.0, filled_incoming node es more os xs ts us e some.1 l.1 s.1 f.1)

  pub filled_adopts : (xs : List X) (ts us : List (IncomingTable X)) → AreFilled state xs ts us → AllZip (Lifted state Adopts) xs (flat_map (λ (t : IncomingTable X). t.stores.items) us)
  filled_adopts [] [] [] f = tt
  filled_adopts [] [] (u ∷ us) f = absurd f
  filled_adopts [] (t ∷ ts) [] f = absurd f
  filled_adopts [] (t ∷ ts) (u ∷ us) f = absurd f
  filled_adopts (x ∷ xs) [] [] f = absurd f
  filled_adopts (x ∷ xs) [] (u ∷ us) f = absurd f
  filled_adopts (x ∷ xs) (t ∷ ts) [] f = absurd f
  filled_adopts (x ∷ xs) (t ∷ ts) (u ∷ us) f =
      subst (λ ys. AllZip (Lifted state Adopts) (x ∷ xs) (ys ++ flat_map (λ (v : IncomingTable X). v.stores.items) us)) (sym f.0.stores)
      (adopts (state x) (state f.0.store) t.shard f.0.adopted, filled_adopts xs ts us f.1)
    where
      adopts : (s r : StoreState) (n : ℕ) → Becomes s (record s { shard = n }) r → Adopts s r
      adopts s r n h = record {
        state = λ i. record {
          node = ap (λ (z : StoreState). z.node) h.state i;
          shard = r.shard;
          rows = ap (λ (z : StoreState). z.rows) h.state i;
          staged = ap (λ (z : StoreState). z.staged) h.state i;
          faults = r.faults;
          steady = ap (λ (z : StoreState). z.steady) h.state i;
        };
        counts = h.counts;
        steady = h.steady;
      }

  pub length_zipped : {Y Z : Type 0} (R : Y → Z → Type 0) (ys : List Y) (zs : List Z) → AllZip R ys zs → length zs ≡ length ys
  length_zipped R [] [] h = refl
  length_zipped R [] (z ∷ zs) h = absurd h
  length_zipped R (y ∷ ys) [] h = absurd h
  length_zipped R (y ∷ ys) (z ∷ zs) h = let rest = length_zipped R ys zs h.1 in omega (arith, rest)

  -- shards of kept tables have ids
  shards_some : (node copies : ℕ) (es : List Entry) (ts : List (GroupTable X)) → AllByRecursion (IsTableKept state node copies es) ts → AllByRecursion (λ (o : Outline). 0 < o.2) (map outline ts)
  shards_some node copies es [] h = tt
  shards_some node copies es (t ∷ ts) h = (h.0.some_shard, shards_some node copies es ts h.1)

  pub shards_kept : (g : GroupState X) → IsKept state g → AllByRecursion (λ (o : Outline). 0 < o.2) (outlines g)
  shards_kept g k = shards_some g.node (copies_of g) (entries_of g) g.tables.items k.tables

  -- tables that leave can be filled
  pub can_fill : (es : List Entry) (os : List Outline) (ts : List (IncomingTable X)) → AllByRecursion (λ (o : Outline). 0 < o.2) os → AllZip (IsLeaving es) os ts →
      AllByRecursion (λ (t : IncomingTable X). (t.stores.items ≡ []) × (0 < vec_capacity t.stores) × (0 < t.shard)) ts
  can_fill es os [] some h = tt
  can_fill es [] (t ∷ ts) some h = absurd h
  can_fill es (o ∷ os) (t ∷ ts) some h = ((h.0.empty, h.0.room, subst (λ n. 0 < n) (sym h.0.shard) some.0), can_fill es os ts some.1 h.1)

  pub all_spare : (node : ℕ) (xs : List X) → AreSpareOn state node xs → AllByRecursion (λ (x : X). IsSpare (state x)) xs
  all_spare node [] h = tt
  all_spare node (x ∷ xs) h = (h.0.0, all_spare node xs h.1)

  -- a group whose tables were read rests
  pub rested_resting : (g h : GroupState X) → IsResting state g → h.journal ≡ g.journal → IsSameBut (Lifted state Rests) g h → IsResting state h
  rested_resting g h r j s = record {
    kept = rested_kept state g h r.kept j s;
    quiet = quiet_along state g h r.quiet s;
    placed = (λ i. node_of (record { number = (j i).group; opening = (j i).opening; base = (journal_of h).base; entries = (j i).entries.list })) ∙ r.placed ∙ sym s.node;
  }

  -- and so does one whose journal got room
  pub reserved_resting : (g h : GroupState X) → IsResting state g → h.node ≡ g.node → h.nodes ≡ g.nodes → h.room ≡ g.room → h.moving ≡ g.moving → h.tables ≡ g.tables → entries_of h ≡ entries_of g →
      h.journal.opening ≡ g.journal.opening → g.journal.entries.room ≤ h.journal.entries.room → IsResting state h
  reserved_resting g h r node nodes room moving tables entries opening slot = record {
    kept = kept_along state g h r.kept (keeps_none state g h node nodes room (subst (λ m. IsSameMove g.moving m) (sym moving) (same_move g.moving)) tables) entries opening slot;
    quiet = subst (λ v. AllByRecursion (IsTableQuiet state) v.items) (sym tables) r.quiet;
    placed = (λ i. node_of (record { number = h.journal.group; opening = opening i; base = (journal_of h).base; entries = entries i })) ∙ r.placed ∙ sym node;
  }

  -- why a move didn't begin, where it could
  pub why_error : (e : GroupError) (g h : GroupState X) (to from : ℕ) → CanStart g to from → Blames state e (stores_of g) (stores_of h) → RefusesMove state g h to from (why_told e)
  why_error Memory g h to from can b = can
  why_error (Worker failure) g h to from can b = (can, b)

  pub rested_length : (g h : GroupState X) → IsSameBut (Lifted state Rests) g h → length h.tables.items ≡ length g.tables.items
  rested_length g h s = length_zipped (IsRestingTable (Lifted state Rests)) g.tables.items h.tables.items s.tables

pub outlines_length : {X : Type 0} (g : GroupState X) → length (outlines g) ≡ length g.tables.items
outlines_length g = length-map g.tables.items outline

-- one more table that leaves
leaving_suc : {X : Type 0} (es : List Entry) (os : List Outline) (ts : List (IncomingTable X)) (n : ℕ) (u : IncomingTable X) → n < length os → AllZip (IsLeaving es) (take n os) ts →
    ((d : Outline) → IsLeaving es (get_or os n d) u) → AllZip (IsLeaving es) (take (suc n) os) (ts ++ u ∷ [])
leaving_suc es [] ts n u low h l = absurd (omega (arith, low))
leaving_suc es (o ∷ os) [] zero u low h l = (l o, tt)
leaving_suc es (o ∷ os) (t ∷ ts) zero u low h l = absurd h
leaving_suc es (o ∷ os) [] (suc n) u low h l = absurd h
leaving_suc es (o ∷ os) (t ∷ ts) (suc n) u low h l = (h.0, leaving_suc es os ts n u (omega (arith, low)) h.1 l)

pub leaving_more : {X : Type 0} (es : List Entry) (os : List Outline) (ts : List (IncomingTable X)) (n : ℕ) (u : IncomingTable X) → n < length os → AllZip (IsLeaving es) (take n os) ts →
    ((d : Outline) → IsLeaving es (get_or os n d) u) → AllZip (IsLeaving es) (take (n + 1) os) (ts ++ u ∷ [])
leaving_more es os ts n u low h l = rw add-one (leaving_suc es os ts n u low h l)

pub due_more : (es : List Entry) (os : List Outline) (n old new : ℕ) → n < length os → old ≡ rows_in es (take n os) → ((d : Outline) → new ≡ old + length (replay (get_or os n d).0 (get_or os n d).1 es).pairs) → new ≡ rows_in es (take (n + 1) os)
due_more es [] n old new low h e = absurd (omega (arith, low))
due_more es (o ∷ os) n old new low h e =
    let more = take_more (o ∷ os) n o low in
    let sum = sum_by_push (λ (p : Outline). length (replay p.0 p.1 es).pairs) (take n (o ∷ os)) (get_or (o ∷ os) n o) in
    e o ∙ ap (λ k. k + length (replay (get_or (o ∷ os) n o).0 (get_or (o ∷ os) n o).1 es).pairs) h ∙ sym sum ∙ ap (λ ps. rows_in es ps) (sym more)
