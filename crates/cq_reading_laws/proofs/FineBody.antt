-- A SELECT over relations that are joined is what the engine asks for, and its outputs keep within their widths.
use Rattle.std.proofs.Common.{◌≡◌, ℕ, ◌+◌, ◌≤◌, Bool, true, false, ◌||◌, not, List, [], ◌∷◌, ◌++◌, map, take, length, refl, sym, ap, ◌∙◌, subst, arith, Option, None, Some}
use Rattle.std.specs.Prelude.{⊤, slice_get}
use Rattle.std.specs.List.{AllByRecursion, list_any}
use Rattle.cq_value.proofs.Lists.{append_nil}
use Rattle.cq_value.proofs.Truths.{or_left, or_right}
use Rattle.cq_tree.specs.declared.expression.Expr.{Expr}
use Rattle.cq_tree.specs.declared.expression.Cond.{Cond, Always}
use Rattle.cq_tree.specs.declared.query.Agg.{Agg}
use Rattle.cq_grammar.specs.declared.expr.Expr.TheOpen.{Select-F}
use Rattle.cq_meaning.specs.declared.Columns.{Columns}
use Rattle.cq_meaning.specs.Widths.{bits, input_bits, from_bits, output_bits, IsBound, IsBoundCondition, IsBoundAggregate, AreBoundItems, IsBoundQuery}
use Rattle.cq_reading.specs.declared.bound.Found.{Found}
use Rattle.cq_reading.specs.declared.bound.Block.{Block}
use Rattle.cq_reading.specs.declared.bound.Shown.{Shown}
use Rattle.cq_reading.specs.declared.bound.Ordered.{Ordered}
use Rattle.cq_reading.specs.declared.bound.Relations.{Relations}
use Rattle.cq_reading.specs.declared.error.BindError.TheVariants as error
use Rattle.cq_reading.specs.declared.error.Limited.TheVariants as limited
use Rattle.cq_reading.specs.Steps.{Reading, give, ◌then◌}
use Rattle.cq_reading.specs.Widths.{is_some}
use Rattle.cq_reading.specs.Scopes.{World, Context}
use Rattle.cq_reading.specs.Parts.{Part, ItemPart, All, AllOf, One, GroupPart, HavingPart, OrderPart}
use Rattle.cq_reading.specs.Expressions.{Layer}
use Rattle.cq_reading.specs.Relations as r
use Rattle.cq_reading.specs.Selects as s
use Rattle.cq_reading.specs.Walk.{groups, block_of}
use Rattle.cq_reading_laws.specs.Bounds.{HasBits, HaveBits, MayStand, Onward, AggregatesStand}
use Rattle.cq_reading_laws.specs.Worlds.{OutputsFit}
use Rattle.cq_reading_laws.proofs.Onwards.{Kept, now, on, more_results, gives, where_fit, onwards}
use Rattle.cq_reading_laws.proofs.Standing.{no_truth}
use Rattle.cq_reading_laws.proofs.CarryingParts.{IfPart}
use Rattle.cq_reading_laws.proofs.FineParts.{PartStands}
use Rattle.cq_reading_laws.proofs.FineNames.{value_type}
use Rattle.cq_reading_laws.proofs.FineFrom.{Joined, sources_have}
use Rattle.cq_reading_laws.proofs.FineLists.{CondFine, ExprFine, ShownFine, ItemFine, IfGroup, condition_stands, targets_fine, outputs_fine, group_keys_fine}
use Rattle.cq_reading_laws.proofs.FineOrder.{OrderFine, order_fine}
use Rattle.cq_reading_laws.proofs.Trees.{output_bits_of, bound_query}

abbrev pub ItemStands : ItemPart → Type 0
ItemStands (All at) = ⊤
ItemStands (AllOf relation at) = ⊤
ItemStands (One p name) = PartStands p

abbrev pub IfHaving : Option HavingPart → Type 0
IfHaving None = ⊤
IfHaving (Some h) = PartStands h.condition

abbrev pub GroupStands : Option GroupPart → Type 0
GroupStands None = ⊤
GroupStands (Some g) = AllByRecursion PartStands g.keys

-- the parts of a SELECT but for its FROM
pub record PartsStand (q : Layer Select-F) : Type 0 where
  pub items : AllByRecursion ItemStands q.items
  pub filter : IfPart PartStands q.filter
  pub keys : GroupStands q.groups
  pub having : IfHaving q.having
  pub order : AllByRecursion (λ o. PartStands o.key) q.order

-- ---- where it groups

any_holds : {A : Type 0} (f : A → Bool) (xs : List A) (T : Bool) → (list_any f xs ≡ true → T ≡ true) → AllByRecursion (λ x. f x ≡ true → T ≡ true) xs
any_holds f [] T h = tt
any_holds f (x ∷ xs) T h = ((λ e. h (or_left (f x) (list_any f xs) e)), any_holds f xs T (λ e. h (or_right (f x) (list_any f xs) e)))

module _ (ks : List ℕ) (cx : Context) (have : HaveBits ks cx) where
  items_fine : (items : List ItemPart) → AllByRecursion ItemStands items → AllByRecursion (λ i. s.has_aggregate i ≡ true → cx.grouped ≡ true) items → AllByRecursion (ItemFine ks cx have) items
  items_fine [] h k = tt
  items_fine (All at ∷ more) h k = (tt, items_fine more h.1 k.1)
  items_fine (AllOf relation at ∷ more) h k = (tt, items_fine more h.1 k.1)
  items_fine (One p name ∷ more) h k = ((h.0, λ a m. k.0 a), items_fine more h.1 k.1)

  items_before : (items : List ItemPart) → AllByRecursion ItemStands items → cx.may_aggregate ≡ false → AllByRecursion (ItemFine ks cx have) items
  items_before [] h m = tt
  items_before (All at ∷ more) h m = (tt, items_before more h.1 m)
  items_before (AllOf relation at ∷ more) h m = (tt, items_before more h.1 m)
  items_before (One p name ∷ more) h m = ((h.0, λ a n. absurd (no_truth (sym m ∙ n))), items_before more h.1 m)

  order_stand : (ps : List OrderPart) → AllByRecursion (λ o. PartStands o.key) ps → AllByRecursion (λ o. o.key.aggregates ≡ true → cx.grouped ≡ true) ps → AllByRecursion (λ p. PartStands p.key × MayStand cx p.key.aggregates) ps
  order_stand [] h k = tt
  order_stand (p ∷ more) h k = ((h.0, λ a m. k.0 a), order_stand more h.1 k.1)

  filter_fine : (p : Option Part) (found : Found) → IfPart PartStands p → cx.may_aggregate ≡ false → Kept ks (CondFine ks cx have) found (s.filter_of cx p found)
  filter_fine None found h m = gives ks (CondFine ks cx have) found Always (λ later l. tt)
  filter_fine (Some p) found h m = condition_stands ks cx have p found h (λ a n. absurd (no_truth (sym m ∙ n)))

  having_fine : (joined : Bool) (h : Option HavingPart) (found : Found) → IfHaving h → (is_some h ≡ true → cx.grouped ≡ true) → Kept ks (CondFine ks cx have) found (s.having_of cx joined h found)
  having_fine joined None found h k = gives ks (CondFine ks cx have) found Always (λ later l. tt)
  having_fine joined (Some p) found h k = where_fit ks (CondFine ks cx have) found (not joined) (error.GroupedJoin p.at) (r.condition_of p.condition cx) (λ t. condition_stands ks cx have p.condition found h (λ a m. k refl))

-- ---- outputs

take_shown : (f : Expr → ℕ) (outs : List Shown) (more : List Expr) → take (length outs) (map f (map s.item_of outs ++ more)) ≡ map f (map s.item_of outs)
take_shown f [] more = refl
take_shown f (o ∷ outs) more = ap (λ xs. f (s.item_of o) ∷ xs) (take_shown f outs more)

shown_below : (outs : List Shown) (more : List Expr) → length outs ≤ length (map s.item_of outs ++ more)
shown_below [] more = omega arith
shown_below (o ∷ outs) more = omega (arith, shown_below outs more)

by_grouped : (ks : List ℕ) (n : ℕ) (c : Cond) (g : Bool) (keys : List Expr) (aggs : List Agg) (having : Cond) (items : List Expr) → IsBoundCondition ks n c → AllByRecursion (IsBound ks n) keys → AllByRecursion (IsBoundAggregate ks n) aggs
    → IsBoundCondition (input_bits ks g keys aggs) n having → AllByRecursion (IsBound (input_bits ks g keys aggs) n) items → AreBoundItems ks n c g keys aggs having items
by_grouped ks n c false keys aggs having items h k a v i = (h, i)
by_grouped ks n c true keys aggs having items h k a v i = (h, k, a, v, i)

-- ---- the whole

module _ (cs : Columns) (w : World) (q : Layer Select-F) (parts : PartsStand q) (r : Relations) (start first : Found) (joined : Joined cs [] start r first) where
  abbrev ks : List ℕ
  ks = from_bits cs r.tree

  abbrev before : Bool → Context
  before m = s.before_grouping w r m

  abbrev after : List Expr → Bool → Context
  after keys m = s.after_grouping w r (groups q) keys m

  bits_there : (i : ℕ) (c : _) → slice_get r.columns i ≡ Some c → HasBits ks (0 + i) c
  bits_there i c is = subst (λ js. HasBits js (0 + i) c) (append_nil ks) (sources_have [] ks [] r.columns joined.columns i c is)

  have_before : (m : Bool) → HaveBits ks (before m)
  have_before m i c is = bits_there i c is

  have_after : (keys : List Expr) (m : Bool) → HaveBits ks (after keys m)
  have_after keys m i c is = bits_there i c is

  -- a SELECT groups where one of these is
  groups_keys : (is_some q.groups ≡ true) → groups q ≡ true
  groups_keys e = or_left _ _ (or_left _ _ (or_left _ _ e))

  groups_having : (is_some q.having ≡ true) → groups q ≡ true
  groups_having e = or_left _ _ (or_left _ _ (or_right (is_some q.groups) _ e))

  groups_items : (list_any s.has_aggregate q.items ≡ true) → groups q ≡ true
  groups_items e = or_left _ _ (or_right (is_some q.groups || is_some q.having) _ e)

  groups_order : (list_any (λ o. o.key.aggregates) q.order ≡ true) → groups q ≡ true
  groups_order e = or_right (is_some q.groups || is_some q.having || list_any s.has_aggregate q.items) _ e

  abbrev pub BlockFine : Found → Block → Type 0
  BlockFine later block = OutputsFit (output_bits cs block.query) block.outputs × (later.results ≤ length cs.results → IsBoundQuery cs block.query)

  module _ (keys : List Expr) (outs : List Shown) (o : Ordered) (last : Found) where
    abbrev over : List ℕ
    over = input_bits ks (groups q) keys last.aggs

    shown_fit : (xs : List Shown) → AllByRecursion (ShownFine ks (after keys false) (have_after keys false) last) xs → OutputsFit (map (bits over) (map s.item_of xs)) (map s.output_of xs)
    shown_fit [] h = tt
    shown_fit (x ∷ xs) h = (record { within = h.0.0.within; fits = h.0.0.fits; some = λ e. h.0.0.some (value_type ks (after keys false) last x.bound h.0.1 e) }, shown_fit xs h.1)

    block_outputs : (c h : Cond) → (more : List Expr) × (o.items ≡ map s.item_of outs ++ more) → AllByRecursion (ShownFine ks (after keys false) (have_after keys false) last) outs
        → OutputsFit (output_bits cs (block_of q r c keys h outs o last).query) (map s.output_of outs)
    block_outputs c h p shown =
        let e : take (length outs) (map (bits over) o.items) ≡ map (bits over) (map s.item_of outs) = ap (λ xs. take (length outs) (map (bits over) xs)) p.1 ∙ take_shown (bits over) outs p.0 in
        subst (λ js. OutputsFit js (map s.output_of outs)) (sym (output_bits_of cs _ ∙ e)) (shown_fit outs shown)

    -- with all results that there are then
    abbrev full : Found
    full = record last { results = length cs.results }

    block_bound : (c h : Cond) → (first.results ≤ last.results) → AggregatesStand ks last → IsBoundCondition ks (length cs.results) c → AllByRecursion (IsBound ks (length cs.results)) keys
        → IsBoundCondition over (length cs.results) h → ((more : List Expr) × (o.items ≡ map s.item_of outs ++ more)) → AllByRecursion (IsBound over (length cs.results)) o.items
        → last.results ≤ length cs.results → IsBoundQuery cs (block_of q r c keys h outs o last).query
    block_bound c h l stand cond bound having p items m =
        bound_query cs _ (joined.bound (omega (arith, l, m)))
        (by_grouped ks (length cs.results) c (groups q) keys last.aggs h o.items cond bound (stand (length cs.results) m) having items)
        (subst (λ xs. length outs ≤ length xs) (sym p.1) (shown_below outs p.0))

  -- behind the FROM
  abbrev pub rest : Reading Block
  rest =
      s.filter_of (before true) q.filter then (λ filter.
      s.group_keys (before false) (s.targets r.columns q.items) r.joined q.groups then (λ keys.
      s.having_of (after keys true) r.joined q.having then (λ having.
      s.at_most 512 limited.Outputs (s.read_target (after keys false)) (s.targets r.columns q.items) then (λ outputs.
      s.order_keys (after keys false) outputs q.distinct q.order (record { items = map s.item_of outputs; keys = [] }) then (λ order.
      s.look then (λ found. give (block_of q r filter keys having outputs order found)))))))

  items_shown : (k : List ℕ) (n : ℕ) (xs : List Shown) → AllByRecursion (λ x. IsBound k n (s.item_of x)) xs → AllByRecursion (IsBound k n) (map s.item_of xs)
  items_shown k n [] h = tt
  items_shown k n (x ∷ xs) h = (h.0, items_shown k n xs h.1)

  exprs_shown : (keys : List Expr) (later : Found) (xs : List Shown) → AllByRecursion (ShownFine ks (after keys false) (have_after keys false) later) xs → AllByRecursion (ExprFine ks (after keys false) (have_after keys false) later) (map s.item_of xs)
  exprs_shown keys later [] h = tt
  exprs_shown keys later (x ∷ xs) h = (h.0.0.expression, exprs_shown keys later xs h.1)

  pub rest_fine : AggregatesStand ks first → Kept ks BlockFine first (rest first)
  rest_fine stand =
      onwards ks (CondFine ks (before true) (have_before true)) BlockFine first (s.filter_of (before true) q.filter first) _ (filter_fine ks (before true) (have_before true) q.filter first parts.filter refl) (λ c m1 l1 g1.
      onwards ks (λ later es. AllByRecursion (ExprFine ks (before false) (have_before false) later) es) BlockFine m1 (s.group_keys (before false) (s.targets r.columns q.items) r.joined q.groups m1) _
      (group_keys_fine ks (before false) (have_before false) (s.targets r.columns q.items) r.joined q.groups m1 (targets_fine ks (before false) (have_before false) r.columns q.items (items_before ks (before false) (have_before false) q.items parts.items refl)) (keys_stand q.groups parts.keys) refl) (λ keys m2 l2 g2.
      onwards ks (CondFine ks (after keys true) (have_after keys true)) BlockFine m2 (s.having_of (after keys true) r.joined q.having m2) _
      (having_fine ks (after keys true) (have_after keys true) r.joined q.having m2 parts.having groups_having) (λ h m3 l3 g3.
      onwards ks (λ later xs. AllByRecursion (ShownFine ks (after keys false) (have_after keys false) later) xs) BlockFine m3 (s.at_most 512 limited.Outputs (s.read_target (after keys false)) (s.targets r.columns q.items) m3) _
      (outputs_fine ks (after keys false) (have_after keys false) (s.targets r.columns q.items) m3 (targets_fine ks (after keys false) (have_after keys false) r.columns q.items
      (items_fine ks (after keys false) (have_after keys false) q.items parts.items (any_holds s.has_aggregate q.items (groups q) groups_items)))) (λ outs m4 l4 g4.
      onwards ks (OrderFine ks (after keys false) (have_after keys false) outs) BlockFine m4 (s.order_keys (after keys false) outs q.distinct q.order (record { items = map s.item_of outs; keys = [] }) m4) _
      (order_fine ks (after keys false) (have_after keys false) outs q.distinct q.order (record { items = map s.item_of outs; keys = [] }) m4
      (order_stand ks (after keys false) (have_after keys false) q.order parts.order (any_holds (λ (o : OrderPart). o.key.aggregates) q.order (groups q) groups_order))
      (λ later l. (([], sym (append_nil (map s.item_of outs))), exprs_shown keys later outs (g4 later l)))) (λ o m5 l5 g5.
      gives ks BlockFine m5 (block_of q r c keys h outs o m5) (λ later l.
      let a4 = l5 in let a3 = on ks m3 m4 m5 l4 l5 in let a2 = on ks m2 m3 m5 l3 a3 in let a1 = on ks m1 m2 m5 l2 a2 in let a0 = on ks first m1 m5 l1 a1 in
      let p = g5 m5 (now ks m5) in (
        block_outputs keys outs o m5 c h p.0 (g4 m5 a4),
        λ few.
            let m : m5.results ≤ length cs.results = omega (arith, l.results, few) in
            let all : Found = full keys outs o m5 in
            let e : Onward ks m5 all = more_results ks m5 all m refl in
            block_bound keys outs o m5 c h a0.results (a0.stand stand) (g1 all (on ks m1 m5 all a1 e)) (g2 all (on ks m2 m5 all a2 e)) (g3 all (on ks m3 m5 all a3 e)) p.0 (g5 all e).1 m,
      )))))))
    where
      keys_stand : (g : Option GroupPart) → GroupStands g → IfGroup ks (before false) (have_before false) g
      keys_stand None h = tt
      keys_stand (Some g) h = h
