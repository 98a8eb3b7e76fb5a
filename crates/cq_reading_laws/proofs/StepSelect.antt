-- The steps in a SELECT: those in its FROM, and behind them its own IN subqueries.
use Rattle.std.proofs.Common.{◌≡◌, ℕ, ◌+◌, ◌≤◌, ◌<◌, Bool, true, false, List, [], ◌++◌, map, length, refl, sym, ap, ◌∙◌, subst, arith, Result, Ok, Err}
use Rattle.std.specs.Prelude.{nat_lt, take}
use Rattle.std.specs.List.{AllByRecursion}
use Rattle.cq_value.proofs.Lists.{all_append}
use Rattle.cq_tree.specs.declared.expression.Expr.{Expr}
use Rattle.cq_tree.specs.declared.expression.Cond.{Cond}
use Rattle.cq_tree.specs.declared.query.FromTree.{FromTree}
use Rattle.cq_tree.specs.declared.query.FromTree.TheOpen.{Query-F}
use Rattle.cq_tree.specs.declared.query.Query.{Query, roll-Query}
use Rattle.cq_grammar.specs.declared.expr.Expr.TheOpen.{Select-F}
use Rattle.cq_meaning.specs.Results.{ins_in_from}
use Rattle.cq_meaning.specs.Widths.{bits, input_bits}
use Rattle.cq_meaning_laws.specs.WholeRules.{Step, steps_in, steps_in_from}
use Rattle.cq_reading.specs.declared.bound.Found.{Found}
use Rattle.cq_reading.specs.declared.bound.Block.{Block}
use Rattle.cq_reading.specs.declared.bound.Shown.{Shown}
use Rattle.cq_reading.specs.declared.bound.Ordered.{Ordered}
use Rattle.cq_reading.specs.declared.bound.Relations.{Relations}
use Rattle.cq_reading.specs.declared.error.BindError.{BindError}
use Rattle.cq_reading.specs.declared.error.BindError.TheVariants as error
use Rattle.cq_reading.specs.declared.error.Limited.TheVariants as limited
use Rattle.cq_reading.specs.Steps.{Reading, give, follow, ◌then◌, provided}
use Rattle.cq_reading.specs.Scopes.{World, Context}
use Rattle.cq_reading.specs.Expressions.{Layer}
use Rattle.cq_reading.specs.Relations as r
use Rattle.cq_reading.specs.Selects as s
use Rattle.cq_reading.specs.Walk as walk
use Rattle.cq_reading_laws.proofs.Carrying.{Carried}
use Rattle.cq_reading_laws.proofs.CarryingSelects as list
use Rattle.cq_reading_laws.proofs.CarryingWalk.{PartsCarry}
use Rattle.cq_reading_laws.proofs.GrowthSelects.{select_body}
use Rattle.cq_reading_laws.proofs.Standing.{no_truth}
use Rattle.cq_reading_laws.proofs.Trees.{output_bits_of}
use Rattle.cq_reading_laws.proofs.StepRows.{ins_all, steps_all, ins_query, steps_query}
use Rattle.cq_reading_laws.proofs.StepSubs.{Right, AreRight, right_later, Depends, Subs, no_more, subs_on, subs_law, law, same_law, BlockSteps, BlockIf}
use Rattle.cq_reading_laws.proofs.StepFrom.{DependsFrom, FromSteps, FromStepsIf, FromPartSteps, from_steps, carried}

-- the widths of a query's outputs hang on those of its FROM
query_depends : (n : ℕ) (x : Query-F FromTree Query) → DependsFrom n x.from → Depends n (roll-Query x)
query_depends n x h cs ds a =
    output_bits_of cs x ∙ (ap (λ ks. take x.shown (map (bits (input_bits ks x.grouped x.keys x.aggs)) x.items)) (h cs ds a) ∙ sym (output_bits_of ds x))

module _ (w : World) (q : Layer Select-F) (parts : PartsCarry law q) (froms : AllByRecursion FromPartSteps q.from) (found : Found) where
  abbrev start : Found
  start = record found { blocks = found.blocks + 1; subs = []; aggs = [] }

  abbrev after : Relations → List Expr → Bool → Context
  after r keys may = s.after_grouping w r (walk.groups q) keys may

  -- a block that ends here
  abbrev EndsIf : Result (Block × Found) BindError → Type 0
  EndsIf o = BlockIf w found (s.in_block o found)

  query_steps : (x : Query-F FromTree Query) (more : List Query) (m n : ℕ) → x.subs ≡ more → m ≤ n → AreRight w m (steps_in_from found.results x.from)
      → AreRight w n (steps_all (found.results + ins_in_from x.from) more) → AreRight w n (steps_in found.results (roll-Query x))
  query_steps x more m n is l h k = subst (AreRight w n) (sym (steps_query x found.results))
      (all_append (λ (s : Step). Right w n s.query) (steps_in_from found.results x.from) (steps_all (found.results + ins_in_from x.from) x.subs)
      (right_later w m n (steps_in_from found.results x.from) l h)
      (subst (λ qs. AreRight w n (steps_all (found.results + ins_in_from x.from) qs)) (sym is) k))

  block_steps : (r : Relations) (first last : Found) → FromSteps w start r first → Subs w true first last → found.blocks < 64 → (c h : Cond) (keys : List Expr) (outs : List Shown) (o : Ordered)
      → BlockSteps w found (walk.block_of q r c keys h outs o last) (record last { subs = found.subs; aggs = found.aggs })
  block_steps r first last j l room c h keys outs o =
      let x : Query-F FromTree Query = record {
        ctes = [];
        subs = last.subs;
        from = r.tree;
        filter = c;
        grouped = walk.groups q;
        keys = keys;
        aggs = last.aggs;
        having = h;
        items = o.items;
        shown = length outs;
        distinct = q.distinct;
        order = o.keys;
        limit = s.limit_of q.limit;
        offset = s.offset_of q.offset;
        names = map (λ s. s.title) outs;
      } in
      let is : last.subs ≡ l.more = l.subs ∙ ap (λ qs. qs ++ l.more) j.subs in
      let n : ins_all last.subs ≡ ins_all l.more = ap ins_all is in
      record {
        subs = refl;
        results = omega (arith, j.results, l.results, n, ins_query x);
        room = room;
        blocks = omega (arith, j.blocks, l.blocks);
        steps = query_steps x l.more first.results last.results is (omega (arith, l.results)) j.steps (subst (λ k. AreRight w last.results (steps_all k l.more)) j.results l.steps);
        same = query_depends (length w.commons) x j.same;
      }

  anyway : (may : Bool) (f g : Found) → Subs w may f g → Subs w true f g
  anyway may f g l = record { more = l.more; subs = l.subs; results = l.results; blocks = l.blocks; none = λ e. absurd (no_truth (sym e)); steps = l.steps }

  then_ends : {A : Type 0} (may : Bool) (first f : Found) (o : Result (A × Found) BindError) (next : A → Reading Block) → Subs w true first f → Carried (subs_law w may) f o
      → ((a : A) (g : Found) → Subs w true first g → EndsIf (next a g)) → EndsIf (follow o next)
  then_ends may first f (Ok p) next l h k = k p.0 p.1 (subs_on w true first f p.1 l (anyway may f p.1 h.0))
  then_ends may first f (Err e) next l h k = tt

  of_from : found.blocks < 64 → (o : Result (Relations × Found) BindError) → FromStepsIf w start o → EndsIf (follow o (λ r. s.filter_of (s.before_grouping w r true) q.filter then (λ filter.
      s.group_keys (s.before_grouping w r false) (s.targets r.columns q.items) r.joined q.groups then (λ keys.
      s.having_of (after r keys true) r.joined q.having then (λ having.
      s.at_most 512 limited.Outputs (s.read_target (after r keys false)) (s.targets r.columns q.items) then (λ outputs.
      s.order_keys (after r keys false) outputs q.distinct q.order (record { items = map s.item_of outputs; keys = [] }) then (λ order.
      s.look then (λ found. give (walk.block_of q r filter keys having outputs order found)))))))))
  of_from room (Err e) h = tt
  of_from room (Ok p) h =
      let r = p.0 in
      let first = p.1 in
      let ts = s.targets r.columns q.items in
      let good = list.targets_carry law same_law r.columns q.items parts.items in
      let by_filter = s.filter_of (s.before_grouping w r true) q.filter in
      let by_keys = s.group_keys (s.before_grouping w r false) ts r.joined q.groups in
      then_ends true first first (by_filter first) _ (no_more w true first first refl refl refl)
      (carried (subs_law w true) by_filter first (list.filter_carries law same_law (s.before_grouping w r true) q.filter parts.filter)) (λ c f1 l1.
      then_ends false first f1 (by_keys f1) _ l1 (carried (subs_law w false) by_keys f1 (list.group_keys_carry law same_law (s.before_grouping w r false) ts r.joined q.groups good parts.groups)) (λ keys f2 l2.
      let by_having = s.having_of (after r keys true) r.joined q.having in
      let by_outputs = s.at_most 512 limited.Outputs (s.read_target (after r keys false)) ts in
      then_ends true first f2 (by_having f2) _ l2 (carried (subs_law w true) by_having f2 (list.having_carries law same_law (after r keys true) r.joined q.having parts.having)) (λ having f3 l3.
      then_ends false first f3 (by_outputs f3) _ l3 (carried (subs_law w false) by_outputs f3 (list.outputs_carry law same_law (after r keys false) ts good)) (λ outs f4 l4.
      let none : Ordered = record { items = map s.item_of outs; keys = [] } in
      let by_order = s.order_keys (after r keys false) outs q.distinct q.order none in
      then_ends false first f4 (by_order f4) _ l4 (carried (subs_law w false) by_order f4 (list.order_keys_carry law same_law (after r keys false) outs q.distinct q.order none parts.order)) (λ o f5 l5.
      block_steps r first f5 h l5 room c having keys outs o)))))

  block_where : (t : Bool) (e : BindError) (x : Reading Block) → (t ≡ true → BlockIf w found (x found)) → BlockIf w found (provided t e x found)
  block_where true e x h = h refl
  block_where false e x h = tt

  small : (n : ℕ) → nat_lt n 64 ≡ true → n < 64
  small n h = grind (arith, h)

  pub select_step_steps : BlockIf w found (walk.select_step q w found)
  select_step_steps = block_where (nat_lt found.blocks 64) (error.Limit limited.Blocks 64) (λ f. s.in_block (select_body q w (record f { blocks = f.blocks + 1; subs = []; aggs = [] })) f)
      (λ room. of_from (small found.blocks room) (r.from_of w q.from start) (from_steps w start q.from froms))
