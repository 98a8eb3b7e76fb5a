-- What the task in a group reads of a table are the table's rows that stand there.
use Rattle.std.proofs.Common.{suc, zero, zero-add, ◌≡◌, ◌+◌, ◌<◌, ◌≤◌, ◌⊎◌, inl, inr, ℕ, slice_get, true, List, [], ◌∷◌, ◌++◌, length, filter, refl, sym, ◌∙◌, ap, subst, arith, append-nil, eq-eqb}
use Rattle.std.specs.Prelude.{nat_eq, not, ◌||◌}
use Rattle.std.specs.List.{AllByRecursion}
use Rattle.std.proofs.lemmas.List.Elements.{filter-append}
use Rattle.std.proofs.lemmas.Bool.Decides.{eqb_tells}
use Rattle.cq_value.proofs.Lists.{all_weaker}
use Rattle.cq_value.proofs.Truths.{two_ways}
use Rattle.cq_value.specs.declared.value.Value.{Value}
use Rattle.cq_meaning.specs.Lists.{Has}
use Rattle.cq_meaning.specs.Values.{Row, column, table_rows}
use Rattle.cq_meaning.proofs.RowLaws.{filter_all, filter_none, has_either}
use Rattle.cq_task_laws.proofs.SafeMerge.{at_has}
use Rattle.cq_task_laws.proofs.CutLaws.{other}
use Rattle.cq_task_laws.specs.Cutting.{AreDistinct}
use Rattle.cq_catalog.specs.Contents.{Contents, colocation_of, first_group_in, count_in}
use Rattle.cq_catalog.specs.Placement.{place_at, IsDistributed, HasShard, group_of}
use Rattle.cq_catalog.specs.declared.info.Place.{Place}
use Rattle.cq_catalog.specs.declared.info.Place.TheVariants.{Local, Distributed, Reference}
use Rattle.cq_catalog.specs.declared.info.TableInfo.{TableInfo}
use Rattle.cq_planning.specs.Database.{Held, joined, whole_at, whole, IsOfGroup, IsRowOf, CanHold, shape_in}
use Rattle.cq_planning.specs.Reaching.{IsAscendingFrom}
use Rattle.cq_planning.specs.Relations.{distribution_at}
use Rattle.cq_planning.specs.Touched.{among}
use Rattle.cq_planning_laws.specs.Laid.{IsColumnOf}
use Rattle.cq_planning_laws.proofs.Listed.{listed, listed_at}
use Rattle.cq_planning_laws.proofs.Statements.{table_at, table_wide, wide_row}
use Rattle.cq_pushdown_laws.specs.Tables.{task_at, task_from, task_tables, HoldsOnly, home_in, side_by}

-- ---- groups

pub among_has : (g : ℕ) (gs : List ℕ) → among g gs ≡ true → Has gs g
among_has g [] h = cc
among_has g (k ∷ gs) h = elim (eqb_tells g k) [
  | inl y ↦ inl (sym y.1)
  | inr f ↦ inr (among_has g gs (rw f.0 at h))
]

pub has_among : (gs : List ℕ) (g : ℕ) → Has gs g → among g gs ≡ true
has_among [] g h = absurd h
has_among (k ∷ gs) g (inl e) = let own : nat_eq g k ≡ true = eq-eqb g k (sym e) in rw own refl
has_among (k ∷ gs) g (inr h) = elim (two_ways (nat_eq g k)) [ inl y ↦ rw y refl | inr n ↦ rw n (has_among gs g h) ]

not_below : (low g : ℕ) (gs : List ℕ) → IsAscendingFrom low gs → Has gs g → low ≤ g
not_below low g [] all h = absurd h
not_below low g (k ∷ gs) all (inl e) = let l = all.0 in omega (arith, l, e)
not_below low g (k ∷ gs) all (inr h) = let l = all.0 in let m = not_below (k + 1) g gs all.1 h in omega (arith, l, m)

pub ascending_distinct : (low : ℕ) (gs : List ℕ) → IsAscendingFrom low gs → AreDistinct gs
ascending_distinct low [] all = tt
ascending_distinct low (g ∷ gs) all = (λ h. (let l = not_below (g + 1) g gs all.1 h in absurd (omega (arith, l))), ascending_distinct (g + 1) gs all.1)

-- ---- the rows of groups, of which each has those of its own

module _ (held : Held) (table : ℕ) (home : Row → ℕ) where
  abbrev pub AreHomed : ℕ → ℕ → Type 0
  AreHomed g n = (h : ℕ) → g ≤ h → h < g + n → AllByRecursion (λ r. home r ≡ h) (held h table)

  later : (g n : ℕ) → AreHomed g (suc n) → AreHomed (g + 1) n
  later g n all h l m = all h (omega (arith, l)) (omega (arith, m))

  none_there : (i g n : ℕ) → (i < g) ⊎ (g + n ≤ i) → AreHomed g n → filter (λ r. nat_eq (home r) i) (joined held table g n) ≡ []
  none_there i g zero out all = refl
  none_there i g (suc n) out all =
      filter-append (λ r. nat_eq (home r) i) (held g table) (joined held table (g + 1) n)
      ∙ (λ k. first k ++ none_there i (g + 1) n (past out) (later g n all) k)
    where
      past : (i < g) ⊎ (g + suc n ≤ i) → (i < g + 1) ⊎ (g + 1 + n ≤ i)
      past (inl l) = inl (omega (arith, l))
      past (inr l) = inr (omega (arith, l))

      apart : (i < g) ⊎ (g + suc n ≤ i) → g ≡ i → ⊥
      apart (inl l) e = absurd (omega (arith, l, e))
      apart (inr l) e = absurd (omega (arith, l, e))

      first : filter (λ r. nat_eq (home r) i) (held g table) ≡ []
      first = filter_none (λ r. nat_eq (home r) i) (held g table) (λ r m. other (home r) i (λ e. apart out (sym (at_has (λ r. home r ≡ g) (held g table) (all g (omega arith) (omega arith)) r m) ∙ e)))

  own_there : (i g n : ℕ) → g ≤ i → i < g + n → AreHomed g n → filter (λ r. nat_eq (home r) i) (joined held table g n) ≡ held i table
  own_there i g zero l m all = absurd (omega (arith, l, m))
  own_there i g (suc n) l m all = filter-append (λ r. nat_eq (home r) i) (held g table) (joined held table (g + 1) n) ∙ elim (eqb_tells g i) [
    | inl y ↦ (
        let e = y.1 in
        (λ k. first e k ++ none_there i (g + 1) n (inl (omega (arith, e))) (later g n all) k) ∙ append-nil (held i table)
        )
    | inr f ↦ (
        let d = f.1 in
        (λ k. nothing d k ++ own_there i (g + 1) n (omega (arith, l, d)) (omega (arith, m)) (later g n all) k)
        )
  ]
    where
      there : (r : Row) → Has (held g table) r → home r ≡ g
      there r h = at_has (λ r. home r ≡ g) (held g table) (all g (omega arith) (omega arith)) r h

      first : g ≡ i → filter (λ r. nat_eq (home r) i) (held g table) ≡ held i table
      first e = filter_all (λ r. nat_eq (home r) i) (held g table) (λ r h. eq-eqb (home r) i (there r h ∙ e)) ∙ ap (λ h. held h table) e

      nothing : (g ≡ i → ⊥) → filter (λ r. nat_eq (home r) i) (held g table) ≡ []
      nothing d = filter_none (λ r. nat_eq (home r) i) (held g table) (λ r h. other (home r) i (λ e. d (sym (there r h) ∙ e)))

  -- the group that holds a row
  pub holder : (g n : ℕ) (r : Row) → Has (joined held table g n) r → (h : ℕ) × (g ≤ h) × (h < g + n) × Has (held h table) r
  holder g zero r m = absurd m
  holder g (suc n) r m = elim (has_either (held g table) (joined held table (g + 1) n) r m) [
    | inl a ↦ (g, omega arith, omega arith, a)
    | inr b ↦ (
        let u : (h : ℕ) × (g + 1 ≤ h) × (h < g + 1 + n) × Has (held h table) r = holder (g + 1) n r b in
        let l = u.1 in let k = u.2 in (u.0, omega (arith, l), omega (arith, k), u.3)
        )
  ]
  -- ---- a table

task_is : (c : Contents) (held : Held) (group k : ℕ) (ts : List TableInfo) → task_from c held group k ts ≡ listed (task_at c held group) k ts
task_is c held group k [] = refl
task_is c held group k (t ∷ ts) = ap (λ more. (k, task_at c held group k t.place) ∷ more) (task_is c held group (k + 1) ts)

pub task_table_at : (c : Contents) (held : Held) (group table : ℕ) → table_rows (task_tables c held group) table ≡ task_at c held group table (place_at c table)
task_table_at c held group table = ap (λ tables. table_rows tables table) (task_is c held group 0 c.tables) ∙ listed_at (task_at c held group) (λ t. refl) c.tables table

group_is : (c : Contents) (t at colocation first_shard : ℕ) → place_at c t ≡ Distributed at colocation first_shard → (v : Value) → home_in c colocation v ≡ group_of c t v
group_is c t at colocation first_shard e v = ap (λ (p : Place). home_in c (colocation_of p) v) (sym e)

module _ (c : Contents) (held : Held) (groups : List ℕ) (can : (g : ℕ) → CanHold c g (held g)) (only : HoldsOnly c held groups) (table : ℕ) where
  -- where a row stands by its distribution value, whose column is counted from 0 on
  home_at : (at colocation first_shard : ℕ) → place_at c table ≡ Distributed at colocation first_shard → (row : Row) → home_in c colocation (column row (0 + at)) ≡ group_of c table (column row at)
  home_at at colocation first_shard e row = (λ k. home_in c colocation (column row (zero-add at k))) ∙ group_is c table at colocation first_shard e (column row at)

  -- a row of the table is of the group that holds it
  homed : (at colocation first_shard : ℕ) → place_at c table ≡ Distributed at colocation first_shard →
      let g = slice_get c.colocations colocation in AreHomed held table (λ r. home_in c colocation (column r (0 + at))) (first_group_in g) (count_in g)
  homed at colocation first_shard e h l m =
      all_weaker (IsRowOf c h table) (λ r. home_in c colocation (column r (0 + at)) ≡ h) (λ r k. home_at at colocation first_shard e r ∙ subst (λ (p : Place). IsOfGroup c h table p r) e k.0) (held h table)
      (can h table (subst (λ (p : Place). HasShard (slice_get c.colocations (colocation_of p)) p h) (sym e) (l, m)))

  spread_at : (p : Place) → place_at c table ≡ p → (i : ℕ) → task_at c held i table p ≡ filter (λ x. not (side_by c (distribution_at 0 p)).cut || nat_eq ((side_by c (distribution_at 0 p)).home x) i) (whole_at c held table p)
  spread_at Local e i = refl
  spread_at (Reference own shard) e i = sym (filter_all (λ x. true) (held own table) (λ x h. refl))
  spread_at (Distributed at colocation first_shard) e i = elim (where_is i) [
    | inl y ↦ sym (own_there held table home i first count y.0 y.1 (homed at colocation first_shard e))
    | inr f ↦ only i table (subst IsDistributed (sym e) tt) (inr (λ h. outside f (subst (λ (p : Place). HasShard (slice_get c.colocations (colocation_of p)) p i) e h))) ∙ sym (none_there held table home i first count f (homed at colocation first_shard e))
  ]
    where
      home : Row → ℕ
      home r = home_in c colocation (column r (0 + at))

      first : ℕ
      first = first_group_in (slice_get c.colocations colocation)

      count : ℕ
      count = count_in (slice_get c.colocations colocation)

      where_is : (i : ℕ) → ((first ≤ i) × (i < first + count)) ⊎ ((i < first) ⊎ (first + count ≤ i))
      where_is i = grind arith

      outside : (i < first) ⊎ (first + count ≤ i) → (first ≤ i) × (i < first + count) → ⊥
      outside (inl l) h = let a = h.0 in absurd (omega (arith, l, a))
      outside (inr l) h = let a = h.1 in absurd (omega (arith, l, a))

  -- what the task in a group reads are the rows that stand there
  pub spread : (i : ℕ) → table_rows (task_tables c held i) table ≡ filter (λ x. not (side_by c (distribution_at 0 (place_at c table))).cut || nat_eq ((side_by c (distribution_at 0 (place_at c table))).home x) i) (table_rows (whole c held) table)
  spread i =
      task_table_at c held i table ∙ spread_at (place_at c table) refl i
      ∙ ap (filter (λ x. not (side_by c (distribution_at 0 (place_at c table))).cut || nat_eq ((side_by c (distribution_at 0 (place_at c table))).home x) i)) (sym (table_at c held table))

  -- each row has the columns of its table
  pub row_long : (n : ℕ) → length (shape_in c table).kinds ≡ n → IsColumnOf n (place_at c table) → (x : Row) → Has (table_rows (whole c held) table) x → length x ≡ n
  row_long n long there x h = at_has (wide_row c held can table) (table_rows (whole c held) table) (table_wide c held can table n there) x h ∙ long

  -- a row of a distributed table stands in one of the groups
  pub row_among : (at colocation first_shard : ℕ) → place_at c table ≡ Distributed at colocation first_shard → (x : Row) → Has (table_rows (whole c held) table) x → among (home_in c colocation (column x (0 + at))) groups ≡ true
  row_among at colocation first_shard e x h =
      let home : Row → ℕ = λ r. home_in c colocation (column r (0 + at)) in
      let g = slice_get c.colocations colocation in
      let all : AreHomed held table home (first_group_in g) (count_in g) = homed at colocation first_shard e in
      let m : Has (joined held table (first_group_in g) (count_in g)) x = subst (λ rows. Has rows x) (table_at c held table ∙ ap (whole_at c held table) e) h in
      let u : (k : ℕ) × (first_group_in g ≤ k) × (k < first_group_in g + count_in g) × Has (held k table) x = holder held table home (first_group_in g) (count_in g) x m in
      let here : home x ≡ u.0 = at_has (λ r. home r ≡ u.0) (held u.0 table) (all u.0 u.1 u.2) x u.3 in
      elim (two_ways (among u.0 groups)) [
        | inl y ↦ subst (λ k. among k groups ≡ true) (sym here) y
        | inr f ↦ absurd (subst (λ rows. Has rows x) (only u.0 table (subst IsDistributed (sym e) tt) (inl f)) u.3)
      ]
