-- A SELECT that groups reads one relation.
use Rattle.std.proofs.Common.{◌≡◌, ◌+◌, if◌then◌else◌, Bool, true, false, ◌||◌, not, List, [], ◌∷◌, ◌++◌, map, length, refl, sym, ◌∙◌, ap, Option, None, Some, Result, Ok, Err}
use Rattle.std.specs.Prelude.{⊤, nat_lt}
use Rattle.std.specs.List.{AllByRecursion, list_any}
use Rattle.cq_grammar.specs.declared.expr.Expr.TheOpen.{Select-F}
use Rattle.cq_tree.specs.declared.expression.Expr.{Expr}
use Rattle.cq_tree.specs.declared.expression.Cond.{Cond}
use Rattle.cq_tree.specs.declared.query.FromTree.{FromTree}
use Rattle.cq_tree.specs.declared.query.FromTree.TheOpen.{Query-F}
use Rattle.cq_tree.specs.declared.query.Query.{Query, out-Query, out-roll-Query}
use Rattle.cq_reading.specs.declared.bound.Found.{Found}
use Rattle.cq_reading.specs.declared.bound.Source.{Source}
use Rattle.cq_reading.specs.declared.bound.Block.{Block}
use Rattle.cq_reading.specs.declared.bound.Shown.{Shown}
use Rattle.cq_reading.specs.declared.bound.Ordered.{Ordered}
use Rattle.cq_reading.specs.declared.bound.Relations.{Relations}
use Rattle.cq_reading.specs.declared.error.BindError.{BindError}
use Rattle.cq_reading.specs.declared.error.BindError.TheVariants as error
use Rattle.cq_reading.specs.declared.error.Limited.TheVariants as limited
use Rattle.cq_reading.specs.Steps.{Reading, give, follow, ◌then◌, provided, through}
use Rattle.cq_reading.specs.Scopes.{World, Context}
use Rattle.cq_reading.specs.Widths.{is_some}
use Rattle.cq_reading.specs.Titles as title
use Rattle.cq_reading.specs.Titles.{Form}
use Rattle.cq_reading.specs.Parts.{ItemPart, All, AllOf, One, GroupPart, HavingPart, OrderPart}
use Rattle.cq_reading.specs.Expressions.{Layer, reads}
use Rattle.cq_reading.specs.Relations as r
use Rattle.cq_reading.specs.Selects as s
use Rattle.cq_reading.specs.Walk as walk
use Rattle.cq_reading_laws.proofs.Standing.{no_truth}
use Rattle.cq_reading_laws.proofs.GrowthSelects.{select_body}
use Rattle.cq_reading_laws.proofs.Refusals.{IsRefused, Refuses, refuses_then, refuses_behind, refuses_provided, refuses_where, or_cases, through_refuses, FormPlain, PartRefuses, reads_refuse}

abbrev pub ItemRefuses : ItemPart → Type 0
ItemRefuses (All at) = ⊤
ItemRefuses (AllOf relation at) = ⊤
ItemRefuses (One p name) = PartRefuses p

abbrev pub OrderRefuses : OrderPart → Type 0
OrderRefuses o = PartRefuses o.key × FormPlain o.key.form o.key.aggregates

group_refuses : (cx : Context) (ts : List s.Target) (joined : Bool) (g : Option GroupPart) → joined ≡ true → is_some g ≡ true → Refuses (s.group_keys cx ts joined g)
group_refuses cx ts joined None j is = absurd (no_truth is)
group_refuses cx ts joined (Some g) j is = refuses_where (not joined) (error.GroupedJoin g.at) _ (ap not j)

having_refuses : (cx : Context) (joined : Bool) (h : Option HavingPart) → joined ≡ true → is_some h ≡ true → Refuses (s.having_of cx joined h)
having_refuses cx joined None j is = absurd (no_truth is)
having_refuses cx joined (Some h) j is = refuses_where (not joined) (error.GroupedJoin h.at) _ (ap not j)

module _ (cx : Context) (j : cx.joined ≡ true) where
  abbrev one : List Shown → s.Target → Reading (List Shown)
  one = s.with_one_more 512 limited.Outputs (s.read_target cx)

  -- behind other targets
  behind_targets : (xs ys : List s.Target) → ((t : List Shown) → Refuses (through one ys t)) → (t : List Shown) → Refuses (through one (xs ++ ys) t)
  behind_targets [] ys h t = h t
  behind_targets (x ∷ xs) ys h t = refuses_behind (one t x) (through one (xs ++ ys)) (λ u. behind_targets xs ys h u)

  target_refuses : (t : List Shown) (x : s.Target) → Refuses (x.reads cx) → Refuses (one t x)
  target_refuses t x h = refuses_provided (nat_lt (length t) 512) (error.Limit limited.Outputs 512) _ (refuses_then (s.read_target cx x) _ (refuses_then (s.value_of x.at (x.reads cx)) _ (refuses_then (x.reads cx) _ h)))

  targets_refuse : (cs : List Source) (items : List ItemPart) → AllByRecursion ItemRefuses items → list_any s.has_aggregate items ≡ true → (t : List Shown) → Refuses (through one (s.targets cs items) t)
  targets_refuse cs [] h is t = absurd (no_truth is)
  targets_refuse cs (All at ∷ more) h is t = behind_targets (s.targets_of cs (All at)) (s.targets cs more) (targets_refuse cs more h.1 is) t
  targets_refuse cs (AllOf relation at ∷ more) h is t = behind_targets (s.targets_of cs (AllOf relation at)) (s.targets cs more) (targets_refuse cs more h.1 is) t
  targets_refuse cs (One p name ∷ more) h is t = or_cases p.aggregates (list_any s.has_aggregate more) is
      (λ a. refuses_then (one t (record { at = p.at; title = s.title_by name p.title; reads = reads p })) (through one (s.targets cs more)) (target_refuses t (record { at = p.at; title = s.title_by name p.title; reads = reads p }) (reads_refuse p cx h.0 a j)))
      (λ a. behind_targets (s.targets_of cs (One p name)) (s.targets cs more) (targets_refuse cs more h.1 a) t)

  form_refuses : (outputs : List Shown) (distinct : Bool) (p : OrderPart) (o : Ordered) (form : Form) → PartRefuses p.key → FormPlain form p.key.aggregates → p.key.aggregates ≡ true → Refuses (s.order_by_form cx outputs distinct p o form)
  form_refuses outputs distinct p o (title.Number n) h plain is = absurd (no_truth (sym plain ∙ is))
  form_refuses outputs distinct p o (title.Name name) h plain is = absurd (no_truth (sym plain ∙ is))
  form_refuses outputs distinct p o (title.Signed sign n) h plain is = refuses_then (s.value_of p.key.at (reads p.key cx)) _ (refuses_then (reads p.key cx) _ (reads_refuse p.key cx h is j))
  form_refuses outputs distinct p o title.Other h plain is = refuses_then (s.value_of p.key.at (reads p.key cx)) _ (refuses_then (reads p.key cx) _ (reads_refuse p.key cx h is j))

  keys_refuse : (outputs : List Shown) (distinct : Bool) (ps : List OrderPart) → AllByRecursion OrderRefuses ps → AllByRecursion (λ p. p.key.aggregates ≡ true → (o : Ordered) → Refuses (s.with_order_key cx outputs distinct o p)) ps
  keys_refuse outputs distinct [] h = tt
  keys_refuse outputs distinct (p ∷ more) h = ((λ is o. refuses_provided (nat_lt (length o.keys) 16) (error.Limit limited.Keys 16) _ (form_refuses outputs distinct p o p.key.form h.0.0 h.0.1 is)), keys_refuse outputs distinct more h.1)

  order_refuses : (outputs : List Shown) (distinct : Bool) (ps : List OrderPart) (o : Ordered) → AllByRecursion OrderRefuses ps → list_any (λ o. o.key.aggregates) ps ≡ true → Refuses (s.order_keys cx outputs distinct ps o)
  order_refuses outputs distinct ps o h is = through_refuses (λ (p : OrderPart). p.key.aggregates) (s.with_order_key cx outputs distinct) ps o (keys_refuse outputs distinct ps h) is

-- ---- the whole

-- of a block that there is
abbrev pub IsAlone : Block → Type 0
IsAlone block = (out-Query block.query).grouped ≡ true → block.joined ≡ false

abbrev pub AloneIf : Result (Block × Found) BindError → Type 0
AloneIf (Ok p) = IsAlone p.0
AloneIf (Err e) = ⊤

refused_alone : (o : Result (Block × Found) BindError) → IsRefused o → AloneIf o
refused_alone (Ok p) h = absurd h
refused_alone (Err e) h = tt

alone_then : {A : Type 0} (o : Result (A × Found) BindError) (f : A → Reading Block) → ((a : A) (found : Found) → AloneIf (f a found)) → AloneIf (follow o f)
alone_then (Ok p) f h = h p.0 p.1
alone_then (Err e) f h = tt

module _ (q : Layer Select-F) (w : World) (items : AllByRecursion ItemRefuses q.items) (order : AllByRecursion OrderRefuses q.order) where
  abbrev after : Relations → List Expr → Bool → Context
  after r keys m = s.after_grouping w r (walk.groups q) keys m

  abbrev filter_by : Relations → Reading Cond
  filter_by r = s.filter_of (s.before_grouping w r true) q.filter

  abbrev keys_by : Relations → Reading (List Expr)
  keys_by r = s.group_keys (s.before_grouping w r false) (s.targets r.columns q.items) r.joined q.groups

  abbrev having_by : Relations → List Expr → Reading Cond
  having_by r keys = s.having_of (after r keys true) r.joined q.having

  abbrev outputs_by : Relations → List Expr → Reading (List Shown)
  outputs_by r keys = s.at_most 512 limited.Outputs (s.read_target (after r keys false)) (s.targets r.columns q.items)

  abbrev order_by : Relations → List Expr → List Shown → Reading Ordered
  order_by r keys outputs = s.order_keys (after r keys false) outputs q.distinct q.order (record { items = map s.item_of outputs; keys = [] })

  abbrev after_order : Relations → Cond → List Expr → Cond → List Shown → Ordered → Reading Block
  after_order r filter keys having outputs order = s.look then (λ found. give (walk.block_of q r filter keys having outputs order found))

  abbrev after_outputs : Relations → Cond → List Expr → Cond → List Shown → Reading Block
  after_outputs r filter keys having outputs = order_by r keys outputs then after_order r filter keys having outputs

  abbrev after_having : Relations → Cond → List Expr → Cond → Reading Block
  after_having r filter keys having = outputs_by r keys then after_outputs r filter keys having

  abbrev after_keys : Relations → Cond → List Expr → Reading Block
  after_keys r filter keys = having_by r keys then after_having r filter keys

  abbrev after_filter : Relations → Cond → Reading Block
  after_filter r filter = keys_by r then after_keys r filter

  abbrev rest : Relations → Reading Block
  rest r = filter_by r then after_filter r

  rest_refuses : (r : Relations) → r.joined ≡ true → walk.groups q ≡ true → Refuses (rest r)
  rest_refuses r j g = refuses_behind (filter_by r) (after_filter r) (λ c.
      or_cases (is_some q.groups || is_some q.having || list_any s.has_aggregate q.items) (list_any (λ (o : OrderPart). o.key.aggregates) q.order) g
      (λ g. or_cases (is_some q.groups || is_some q.having) (list_any s.has_aggregate q.items) g
      (λ g. or_cases (is_some q.groups) (is_some q.having) g
      (λ g. refuses_then (keys_by r) (after_keys r c) (group_refuses (s.before_grouping w r false) (s.targets r.columns q.items) r.joined q.groups j g))
      (λ g. refuses_behind (keys_by r) (after_keys r c) (λ keys. refuses_then (having_by r keys) (after_having r c keys) (having_refuses (after r keys true) r.joined q.having j g))))
      (λ g. refuses_behind (keys_by r) (after_keys r c) (λ keys. refuses_behind (having_by r keys) (after_having r c keys) (λ h. refuses_then (outputs_by r keys) (after_outputs r c keys h) (targets_refuse (after r keys false) j r.columns q.items items g [])))))
      (λ g. refuses_behind (keys_by r) (after_keys r c) (λ keys. refuses_behind (having_by r keys) (after_having r c keys) (λ h. refuses_behind (outputs_by r keys) (after_outputs r c keys h) (λ outs.
      refuses_then (order_by r keys outs) (after_order r c keys h outs) (order_refuses (after r keys false) j outs q.distinct q.order (record { items = map s.item_of outs; keys = [] }) order g))))))

  refused : (r : Reading Block) (f : Found) → Refuses r → IsRefused (r f)
  unfolding Refuses
  refused r f h = h f

  -- each block that there is has this
  ends : (r : Relations) (f : Found) → ((c h : Cond) (keys : List Expr) (outs : List Shown) (o : Ordered) (found : Found) → IsAlone (walk.block_of q r c keys h outs o found)) → AloneIf (rest r f)
  ends r f k =
      alone_then (filter_by r f) (after_filter r) (λ c f1.
      alone_then (keys_by r f1) (after_keys r c) (λ keys f2.
      alone_then (having_by r keys f2) (after_having r c keys) (λ h f3.
      alone_then (outputs_by r keys f3) (after_outputs r c keys h) (λ outs f4.
      alone_then (order_by r keys outs f4) (after_order r c keys h outs) (λ o f5. k c h keys outs o f5)))))

  grouped_is : (r : Relations) (c h : Cond) (keys : List Expr) (outs : List Shown) (o : Ordered) (found : Found) → (out-Query (walk.block_of q r c keys h outs o found).query).grouped ≡ walk.groups q
  grouped_is r c h keys outs o found = ap (λ (x : Query-F FromTree Query). x.grouped) (out-roll-Query _)

  rest_alone : (r : Relations) (f : Found) (j g : Bool) → r.joined ≡ j → walk.groups q ≡ g → AloneIf (rest r f)
  rest_alone r f true true j g = refused_alone (rest r f) (refused (rest r) f (rest_refuses r j g))
  rest_alone r f true false j g = ends r f (λ c h keys outs o found is. absurd (no_truth (sym g ∙ (sym (grouped_is r c h keys outs o found) ∙ is))))
  rest_alone r f false g j e = ends r f (λ c h keys outs o found is. j)

  in_block_alone : (o : Result (Block × Found) BindError) (f : Found) → AloneIf o → AloneIf (s.in_block o f)
  in_block_alone (Ok p) f h = h
  in_block_alone (Err e) f h = tt

  provided_alone : (t : Bool) (e : BindError) (r : Reading Block) (f : Found) → AloneIf (r f) → AloneIf (provided t e r f)
  provided_alone true e r f h = h
  provided_alone false e r f h = tt

  pub select_alone : (found : Found) → AloneIf (walk.select_step q w found)
  select_alone found = provided_alone (nat_lt found.blocks 64) (error.Limit limited.Blocks 64) (λ f. s.in_block (select_body q w (record f { blocks = f.blocks + 1; subs = []; aggs = [] })) f) found
      (in_block_alone (select_body q w (record found { blocks = found.blocks + 1; subs = []; aggs = [] })) found (alone_then (r.from_of w q.from (record found { blocks = found.blocks + 1; subs = []; aggs = [] })) rest (λ r f. rest_alone r f r.joined (walk.groups q) refl refl)))
