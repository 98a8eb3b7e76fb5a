-- A SELECT is nested, where its parts are.
use Rattle.std.proofs.Common.{◌≡◌, ℕ, ◌+◌, ◌<◌, inr, Bool, true, false, List, [], ◌∷◌, ◌++◌, map, length, refl, sym, ap, ◌∙◌, subst, arith, Result, Ok, Err}
use Rattle.std.specs.Prelude.{⊤, nat_lt}
use Rattle.std.specs.List.{AllByRecursion}
use Rattle.cq_tree.specs.declared.expression.Expr.{Expr}
use Rattle.cq_tree.specs.declared.expression.Cond.{Cond}
use Rattle.cq_tree.specs.declared.query.FromTree.{FromTree}
use Rattle.cq_tree.specs.declared.query.FromTree.TheOpen.{Query-F}
use Rattle.cq_tree.specs.declared.query.Query.{Query, roll-Query}
use Rattle.cq_grammar.specs.declared.expr.Expr.TheOpen.{Select-F}
use Rattle.cq_meaning.specs.Results.{ins_in, ins_in_from}
use Rattle.cq_reading.specs.declared.bound.Found.{Found}
use Rattle.cq_reading.specs.declared.bound.Block.{Block}
use Rattle.cq_reading.specs.declared.bound.Shown.{Shown}
use Rattle.cq_reading.specs.declared.bound.Ordered.{Ordered}
use Rattle.cq_reading.specs.declared.bound.Relations.{Relations}
use Rattle.cq_reading.specs.declared.error.BindError.{BindError}
use Rattle.cq_reading.specs.declared.error.BindError.TheVariants as error
use Rattle.cq_reading.specs.declared.error.Limited.TheVariants as limited
use Rattle.cq_reading.specs.Steps.{Reading, give, follow, ◌then◌, provided}
use Rattle.cq_reading.specs.Scopes.{World, Context}
use Rattle.cq_reading.specs.Expressions.{Layer}
use Rattle.cq_reading.specs.Relations as r
use Rattle.cq_reading.specs.Selects as s
use Rattle.cq_reading.specs.Walk as walk
use Rattle.cq_reading_laws.proofs.CarryingParts.{IfPart}
use Rattle.cq_reading_laws.proofs.GrowthSelects.{select_body}
use Rattle.cq_reading_laws.proofs.StepRows.{ins_all, ins_query}
use Rattle.cq_plan_laws.specs.Scoping.{Names, CondNames}
use Rattle.cq_plan_laws.specs.Nested.{IsNested}
use Rattle.cq_bound_laws.proofs.NamedReadings.{Covers, AllNested, Adds, AddsIf, adds_none, adds_on, adds_anyway}
use Rattle.cq_bound_laws.proofs.NamedParts.{Outside, Seen, PartReads, BlockNested, BlockIf}
use Rattle.cq_bound_laws.proofs.NamedLists as list
use Rattle.cq_bound_laws.proofs.NamedLists.{ItemReads, IfGroup, IfHaving, OrderReads, ShownNames, OrderNames}
use Rattle.cq_bound_laws.proofs.NestedRows.{numbers_all, covers_all, nested_query}
use Rattle.cq_bound_laws.proofs.NestedFrom.{FromNested, FromIf, FromReads, from_reads, run}

-- the parts of a SELECT behind its FROM
pub record PartsRead (q : Layer Select-F) : Type 0 where
  pub items : AllByRecursion ItemReads q.items
  pub filter : IfPart PartReads q.filter
  pub groups : IfGroup q.groups
  pub having : IfHaving q.having
  pub order : AllByRecursion OrderReads q.order

module _ (w : World) (q : Layer Select-F) (parts : PartsRead q) (froms : AllByRecursion FromReads q.from) (found : Found) where
  abbrev start : Found
  start = record found { blocks = found.blocks + 1; subs = []; aggs = [] }

  abbrev after : Relations → List Expr → Bool → Context
  after r keys may = s.after_grouping w r (walk.groups q) keys may

  -- the walk behind the FROM
  abbrev behind : Relations → Reading Block
  behind r =
      s.filter_of (s.before_grouping w r true) q.filter then (λ filter.
      s.group_keys (s.before_grouping w r false) (s.targets r.columns q.items) r.joined q.groups then (λ keys.
      s.having_of (after r keys true) r.joined q.having then (λ having.
      s.at_most 512 limited.Outputs (s.read_target (after r keys false)) (s.targets r.columns q.items) then (λ outputs.
      s.order_keys (after r keys false) outputs q.distinct q.order (record { items = map s.item_of outputs; keys = [] }) then (λ order.
      s.look then (λ found. give (walk.block_of q r filter keys having outputs order found)))))))

  module _ (r : Relations) (first : Found) (from : FromNested w start r first) where
    abbrev query_of : Cond → List Expr → Cond → List Shown → Ordered → Found → Query-F FromTree Query
    query_of c keys h outs o last = record {
      ctes = [];
      subs = last.subs;
      from = r.tree;
      filter = c;
      grouped = walk.groups q;
      keys = keys;
      aggs = last.aggs;
      having = h;
      items = o.items;
      shown = length outs;
      distinct = q.distinct;
      order = o.keys;
      limit = s.limit_of q.limit;
      offset = s.offset_of q.offset;
      names = map (λ s. s.title) outs;
    }

    module _ (ns : List ℕ) where
      abbrev O : ℕ → Type 0
      O = Outside w

      abbrev P : ℕ → Type 0
      P = Seen w ns

      -- C is known by now
      abbrev So : Type 0 → Found → Type 0
      So C f = Adds O P true ⊤ (λ (u : ⊤). C) first tt f

      -- the whole behind the FROM
      pub record Ended (block : Block) (last : Found) : Type 0 where
        pub filter : Cond
        pub keys : List Expr
        pub having : Cond
        pub outputs : List Shown
        pub order : Ordered
        pub is : block.query ≡ roll-Query (query_of filter keys having outputs order last)
        pub adds : So (CondNames P filter × AllByRecursion (Names P) keys × CondNames P having × AllByRecursion (Names P) order.items) last

      abbrev pub EndedIf : Result (Block × Found) BindError → Type 0
      EndedIf (Ok p) = Ended p.0 p.1
      EndedIf (Err e) = ⊤

      so_then : {A : Type 0} (may : Bool) (C D : Type 0) (V : A → Type 0) (f : Found) (o : Result (A × Found) BindError) (next : A → Reading Block) → (C → D) → So C f → AddsIf O P may D V f o
          → ((a : A) (g : Found) → So (C × V a) g → EndedIf (next a g)) → EndedIf (follow o next)
      so_then may C D V f (Ok p) next d so h k = k p.0 p.1 (adds_on O P true ⊤ D (λ (u : ⊤). C) V (λ (u : ⊤). C × V p.0) first tt f p.0 p.1 tt so (adds_anyway O P may D V f p.0 p.1 h) (λ t c. d c) (λ t c v. (c, v)))
      so_then may C D V f (Err e) next d so h k = tt

      items_name : (outs : List Shown) → AllByRecursion (λ (x : Shown). ShownNames (after r [] true) ns x) outs → AllByRecursion (Names P) (map s.item_of outs)
      items_name [] h = tt
      items_name (x ∷ xs) h = (h.0.0, items_name xs h.1)

      -- what is known behind WHERE, GROUP BY, HAVING, the select list and ORDER BY
      abbrev Filtered : Cond → Type 0
      Filtered c = ⊤ × CondNames P c

      abbrev Keyed : Cond → List Expr → Type 0
      Keyed c keys = Filtered c × AllByRecursion (Names P) keys

      abbrev Kept : Cond → List Expr → Cond → Type 0
      Kept c keys h = Keyed c keys × CondNames P h

      abbrev Listed : Cond → List Expr → Cond → List Shown → Type 0
      Listed c keys h outs = Kept c keys h × AllByRecursion (ShownNames (after r keys false) ns) outs

      abbrev Sorted : Cond → List Expr → Cond → List Shown → Ordered → Type 0
      Sorted c keys h outs o = Listed c keys h outs × OrderNames (after r keys false) ns o

      -- nothing more is read
      so_far : (C : Type 0) (f : Found) → Adds O P true C (λ (u : ⊤). ⊤) f tt f
      so_far C f = adds_none O P true C (λ (u : ⊤). ⊤) f tt f refl refl refl (λ c aggs. (tt, aggs))

      ended : (c : Cond) (keys : List Expr) (h : Cond) (outs : List Shown) (o : Ordered) (last : Found) → So (Sorted c keys h outs o) last → Ended (walk.block_of q r c keys h outs o last) last
      ended c keys h outs o last so = record {
        filter = c;
        keys = keys;
        having = h;
        outputs = outs;
        order = o;
        is = refl;
        adds = adds_on O P true ⊤ ⊤ (λ (u : ⊤). Sorted c keys h outs o) (λ (u : ⊤). ⊤) (λ (u : ⊤). CondNames P c × AllByRecursion (Names P) keys × CondNames P h × AllByRecursion (Names P) o.items) first tt last tt last tt
            so (so_far ⊤ last) (λ t c. tt) (λ t c v. (c.0.0.0.0.1, c.0.0.0.1, c.0.0.1, c.1));
      }

      pub body_ends : EndedIf (behind r first)
      body_ends =
          let ts = s.targets r.columns q.items in
          let good = list.targets_read r.columns q.items parts.items in
          let by_filter = s.filter_of (s.before_grouping w r true) q.filter in
          let by_keys = s.group_keys (s.before_grouping w r false) ts r.joined q.groups in
          so_then true ⊤ ⊤ (CondNames P) first (by_filter first) _ (λ c. c) (so_far ⊤ first)
          (run w ns true ⊤ (CondNames P) by_filter first (list.filter_reads (s.before_grouping w r true) ns q.filter parts.filter)) (λ c f1 l1.
          so_then false (Filtered c) ⊤ (AllByRecursion (Names P)) f1 (by_keys f1) _ (λ c. tt) l1
          (run w ns false ⊤ (AllByRecursion (Names P)) by_keys f1 (list.group_keys_read (s.before_grouping w r false) ns ts r.joined q.groups good parts.groups)) (λ keys f2 l2.
          let by_having = s.having_of (after r keys true) r.joined q.having in
          let by_outputs = s.at_most 512 limited.Outputs (s.read_target (after r keys false)) ts in
          so_then true (Keyed c keys) ⊤ (CondNames P) f2 (by_having f2) _ (λ c. tt) l2
          (run w ns true ⊤ (CondNames P) by_having f2 (list.having_reads (after r keys true) ns r.joined q.having parts.having)) (λ h f3 l3.
          let V = AllByRecursion (ShownNames (after r keys false) ns) in
          so_then false (Kept c keys h) ⊤ V f3 (by_outputs f3) _ (λ c. tt) l3
          (run w ns false ⊤ V by_outputs f3 (list.outputs_read (after r keys false) ns ts good)) (λ outs f4 l4.
          let none : Ordered = record { items = map s.item_of outs; keys = [] } in
          let by_order = s.order_keys (after r keys false) outs q.distinct q.order none in
          let W = OrderNames (after r keys false) ns in
          so_then false (Listed c keys h outs) (⊤ × W none) W f4 (by_order f4) _ (λ c. (tt, items_name outs c.1)) l4
          (run w ns false (⊤ × W none) W by_order f4 (list.order_reads (after r keys false) ns outs q.distinct q.order none parts.order)) (λ o f5 l5. ended c keys h outs o f5 l5)))))

    -- the numbers of the IN subqueries are those that are seen
    pub ended_nested : (block : Block) (last : Found) → ((ns : List ℕ) → Ended ns block last) → found.blocks < 64 → BlockNested w found block (record last { subs = found.subs; aggs = found.aggs })
    ended_nested block last ends room =
        let base : ℕ = found.results + ins_in_from r.tree in
        let ns = numbers_all base last.subs in
        let end = ends ns in
        let x = query_of end.filter end.keys end.having end.outputs end.order last in
        let all : last.subs ≡ end.adds.more = end.adds.subs ∙ ap (λ qs. qs ++ end.adds.more) from.subs in
        let ins : ins_all last.subs ≡ ins_all end.adds.more = ap ins_all all in
        let covers : Covers (Seen w ns) first.results end.adds.more =
        subst (Covers (Seen w ns) first.results) all (subst (λ i. Covers (Seen w ns) i last.subs) (sym from.results) (covers_all (Seen w ns) base last.subs (λ i has. inr has))) in
        let nested : AllNested (Outside w) base last.subs = subst (AllNested (Outside w) base) (sym all) (subst (λ i. AllNested (Outside w) i end.adds.more) from.results end.adds.nested) in
        let start = from.holds ns tt in
        let named = end.adds.holds covers tt start.1 in
        let n = named.0 in
        let same : ins_in (roll-Query x) ≡ ins_in block.query = ap ins_in (sym end.is) in
        record {
          subs = refl;
          aggs = refl;
          results = omega (arith, from.results, end.adds.results, ins, ins_query x, same);
          room = room;
          blocks = omega (arith, from.blocks, end.adds.blocks);
          nested = subst (IsNested (Outside w) found.results) (sym end.is) (nested_query (Outside w) found.results x refl nested (start.0, n.0, n.1, named.1, n.2, n.3));
        }

  block_where : (t : Bool) (e : BindError) (x : Reading Block) → (t ≡ true → BlockIf w found (x found)) → BlockIf w found (provided t e x found)
  block_where true e x h = h refl
  block_where false e x h = tt

  small : (n : ℕ) → nat_lt n 64 ≡ true → n < 64
  small n h = grind (arith, h)

  of_body : (r : Relations) (first : Found) (from : FromNested w start r first) → found.blocks < 64 → (o : Result (Block × Found) BindError) → ((ns : List ℕ) → EndedIf r first from ns o) → BlockIf w found (s.in_block o found)
  of_body r first from room (Ok p) h = ended_nested r first from p.0 p.1 h room
  of_body r first from room (Err e) h = tt

  of_from : found.blocks < 64 → (o : Result (Relations × Found) BindError) → FromIf w start o → BlockIf w found (s.in_block (follow o behind) found)
  of_from room (Err e) h = tt
  of_from room (Ok p) h = of_body p.0 p.1 h room _ (λ ns. body_ends p.0 p.1 h ns)

  pub select_step_reads : BlockIf w found (walk.select_step q w found)
  select_step_reads = block_where (nat_lt found.blocks 64) (error.Limit limited.Blocks 64) (λ f. s.in_block (select_body q w (record f { blocks = f.blocks + 1; subs = []; aggs = [] })) f)
      (λ room. of_from (small found.blocks room) (r.from_of w q.from start) (from_reads w start q.from froms))
