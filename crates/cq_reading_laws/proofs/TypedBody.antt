-- A SELECT over relations that are joined is well typed, and so are its outputs.
use Rattle.std.proofs.Common.{◌≡◌, ℕ, ◌+◌, ◌≤◌, Bool, true, false, ◌||◌, not, List, [], ◌∷◌, ◌++◌, map, take, length, refl, sym, ap, ◌∙◌, subst, arith, Option, None, Some}
use Rattle.std.specs.Prelude.{⊤, slice_get}
use Rattle.std.specs.List.{AllByRecursion, list_any}
use Rattle.cq_value.proofs.Lists.{append_nil}
use Rattle.cq_value.proofs.Truths.{or_left, or_right}
use Rattle.cq_tree.specs.declared.expression.Expr.{Expr}
use Rattle.cq_tree.specs.declared.expression.Cond.{Cond, Always}
use Rattle.cq_tree.specs.declared.query.Agg.{Agg}
use Rattle.cq_grammar.specs.declared.expr.Expr.TheOpen.{Select-F}
use Rattle.cq_reading.specs.declared.bound.Found.{Found}
use Rattle.cq_reading.specs.declared.bound.Block.{Block}
use Rattle.cq_reading.specs.declared.bound.Shown.{Shown}
use Rattle.cq_reading.specs.declared.bound.Ordered.{Ordered}
use Rattle.cq_reading.specs.declared.bound.Relations.{Relations}
use Rattle.cq_reading.specs.declared.error.BindError.TheVariants as error
use Rattle.cq_reading.specs.declared.error.Limited.TheVariants as limited
use Rattle.cq_reading.specs.Steps.{Reading, give, ◌then◌}
use Rattle.cq_reading.specs.Widths.{ValueType, is_some}
use Rattle.cq_reading.specs.Scopes.{World, Context}
use Rattle.cq_reading.specs.Parts.{Part, ItemPart, All, AllOf, One, GroupPart, HavingPart, OrderPart}
use Rattle.cq_reading.specs.Expressions.{Layer}
use Rattle.cq_reading.specs.Relations as r
use Rattle.cq_reading.specs.Selects as s
use Rattle.cq_reading.specs.Walk.{groups, block_of}
use Rattle.cq_reading_laws.specs.Bounds.{MayStand}
use Rattle.cq_reading_laws.proofs.CarryingParts.{IfPart}
use Rattle.cq_reading_laws.specs.Typing.{AllFit, type_over, input_types, IsTyped, IsTypedCondition, IsTypedAggregate}
use Rattle.cq_reading_laws.specs.TypedQueries.{Types, from_types, output_types, results_in, results_in_from, results_of, AreTypedItems, IsTypedFrom, IsTypedQuery}
use Rattle.cq_reading_laws.specs.Reach.{HasKind, WorldTyped, kinds_of}
use Rattle.cq_reading_laws.proofs.Standing.{no_truth}
use Rattle.cq_reading_laws.proofs.TypedKeeping.{Steady, steady_all, Setting, Given, Good, Later, AllLater, Run, now, on, stay, gives, where_fit, onwards, weaken}
use Rattle.cq_reading_laws.proofs.TypedParts.{Reached, PartTyped}
use Rattle.cq_reading_laws.proofs.TypedFrom.{Joined, sources_at}
use Rattle.cq_reading_laws.proofs.TypedLists.{CondFine, ExprFine, ShownFine, ItemFine, IfGroup, condition_typed, targets_fine, outputs_fine, group_keys_fine}
use Rattle.cq_reading_laws.proofs.TypedOrder.{OrderFine, order_fine}
use Rattle.cq_reading_laws.proofs.TypedTrees.{output_types_of, results_in_of, typed_query}

abbrev pub ItemTyped : ItemPart → Type 0
ItemTyped (All at) = ⊤
ItemTyped (AllOf relation at) = ⊤
ItemTyped (One p name) = PartTyped p

abbrev pub IfHaving : Option HavingPart → Type 0
IfHaving None = ⊤
IfHaving (Some h) = PartTyped h.condition

abbrev pub GroupTyped : Option GroupPart → Type 0
GroupTyped None = ⊤
GroupTyped (Some g) = AllByRecursion PartTyped g.keys

-- the parts of a SELECT but for its FROM
pub record PartsTyped (q : Layer Select-F) : Type 0 where
  pub items : AllByRecursion ItemTyped q.items
  pub filter : IfPart PartTyped q.filter
  pub keys : GroupTyped q.groups
  pub having : IfHaving q.having
  pub order : AllByRecursion (λ o. PartTyped o.key) q.order

-- ---- where it groups

any_holds : {A : Type 0} (f : A → Bool) (xs : List A) (T : Bool) → (list_any f xs ≡ true → T ≡ true) → AllByRecursion (λ x. f x ≡ true → T ≡ true) xs
any_holds f [] T h = tt
any_holds f (x ∷ xs) T h = ((λ e. h (or_left (f x) (list_any f xs) e)), any_holds f xs T (λ e. h (or_right (f x) (list_any f xs) e)))

module _ (z : Setting) (cx : Context) (have : Reached z cx) where
  items_fine : (items : List ItemPart) → AllByRecursion ItemTyped items → AllByRecursion (λ i. s.has_aggregate i ≡ true → cx.grouped ≡ true) items → AllByRecursion (ItemFine z cx have) items
  items_fine [] h k = tt
  items_fine (All at ∷ more) h k = (tt, items_fine more h.1 k.1)
  items_fine (AllOf relation at ∷ more) h k = (tt, items_fine more h.1 k.1)
  items_fine (One p name ∷ more) h k = ((h.0, λ a m. k.0 a), items_fine more h.1 k.1)

  items_before : (items : List ItemPart) → AllByRecursion ItemTyped items → cx.may_aggregate ≡ false → AllByRecursion (ItemFine z cx have) items
  items_before [] h m = tt
  items_before (All at ∷ more) h m = (tt, items_before more h.1 m)
  items_before (AllOf relation at ∷ more) h m = (tt, items_before more h.1 m)
  items_before (One p name ∷ more) h m = ((h.0, λ a n. absurd (no_truth (sym m ∙ n))), items_before more h.1 m)

  order_typed : (ps : List OrderPart) → AllByRecursion (λ o. PartTyped o.key) ps → AllByRecursion (λ o. o.key.aggregates ≡ true → cx.grouped ≡ true) ps → AllByRecursion (λ p. PartTyped p.key × MayStand cx p.key.aggregates) ps
  order_typed [] h k = tt
  order_typed (p ∷ more) h k = ((h.0, λ a m. k.0 a), order_typed more h.1 k.1)

  filter_fine : (p : Option Part) (found : Found) → IfPart PartTyped p → cx.may_aggregate ≡ false → Run z cx (Later (CondFine z cx have)) found (s.filter_of cx p found)
  filter_fine None found h m = gives z cx (Later (CondFine z cx have)) found Always (λ later l g. tt)
  filter_fine (Some p) found h m = condition_typed z cx have p found h (λ a n. absurd (no_truth (sym m ∙ n)))

  having_fine : (joined : Bool) (h : Option HavingPart) (found : Found) → IfHaving h → (is_some h ≡ true → cx.grouped ≡ true) → Run z cx (Later (CondFine z cx have)) found (s.having_of cx joined h found)
  having_fine joined None found h k = gives z cx (Later (CondFine z cx have)) found Always (λ later l g. tt)
  having_fine joined (Some p) found h k = where_fit z cx (Later (CondFine z cx have)) found (not joined) (error.GroupedJoin p.at) (r.condition_of p.condition cx) (λ t. condition_typed z cx have p.condition found h (λ a m. k refl))

-- ---- outputs

take_shown : (f : Expr → ValueType) (outs : List Shown) (more : List Expr) → take (length outs) (map f (map s.item_of outs ++ more)) ≡ map f (map s.item_of outs)
take_shown f [] more = refl
take_shown f (o ∷ outs) more = ap (λ xs. f (s.item_of o) ∷ xs) (take_shown f outs more)

shown_below : (outs : List Shown) (more : List Expr) → length outs ≤ length (map s.item_of outs ++ more)
shown_below [] more = omega arith
shown_below (o ∷ outs) more = omega (arith, shown_below outs more)

by_grouped : (ts : List ValueType) (rs : List (List ValueType)) (c : Cond) (g : Bool) (keys : List Expr) (aggs : List Agg) (having : Cond) (items : List Expr) → IsTypedCondition ts rs c → AllByRecursion (IsTyped ts rs) keys
    → AllByRecursion (IsTypedAggregate ts rs) aggs
    → IsTypedCondition (input_types ts g keys aggs) rs having → AllByRecursion (IsTyped (input_types ts g keys aggs) rs) items → AreTypedItems ts rs c g keys aggs having items
by_grouped ts rs c false keys aggs having items h k a v i = (h, i)
by_grouped ts rs c true keys aggs having items h k a v i = (h, k, a, v, i)

given_all : {A : Type 0} (G : Type 0) (P : A → Type 0) (xs : List A) → AllByRecursion (λ x. G → P x) xs → G → AllByRecursion P xs
given_all G P [] h g = tt
given_all G P (x ∷ xs) h g = (h.0 g, given_all G P xs h.1 g)

-- ---- the whole

module _ (cs : Types) (w : World) (fit : WorldTyped cs w) (q : Layer Select-F) (parts : PartsTyped q) (r : Relations) (start first : Found) (joined : Joined cs (length w.commons) [] start r first) where
  abbrev ts : List ValueType
  ts = from_types cs r.tree

  abbrev pub z : Setting
  z = record { types = cs; base = first.results; columns = ts; reach = length w.commons; asked = true }

  abbrev before : Bool → Context
  before m = s.before_grouping w r m

  abbrev after : List Expr → Bool → Context
  after keys m = s.after_grouping w r (groups q) keys m

  -- all may stand in the whole
  abbrev pub anything : Context
  anything = after [] true

  kinds : (i : ℕ) (c : _) → slice_get r.columns i ≡ Some c → HasKind ts (0 + i) c
  kinds i c is = let e : 0 + i ≡ i = omega arith in subst (λ j. HasKind ts j c) (sym e) (sources_at ts r.columns joined.columns i c is)

  reach_before : (m : Bool) → Reached z (before m)
  reach_before m = record { world = fit; reach = refl; columns = λ i c is. kinds i c is }

  reach_after : (keys : List Expr) (m : Bool) → Reached z (after keys m)
  reach_after keys m = record { world = fit; reach = refl; columns = λ i c is. kinds i c is }

  -- a SELECT groups where one of these is
  groups_keys : (is_some q.groups ≡ true) → groups q ≡ true
  groups_keys e = or_left _ _ (or_left _ _ (or_left _ _ e))

  groups_having : (is_some q.having ≡ true) → groups q ≡ true
  groups_having e = or_left _ _ (or_left _ _ (or_right (is_some q.groups) _ e))

  groups_items : (list_any s.has_aggregate q.items ≡ true) → groups q ≡ true
  groups_items e = or_left _ _ (or_right (is_some q.groups || is_some q.having) _ e)

  groups_order : (list_any (λ o. o.key.aggregates) q.order ≡ true) → groups q ≡ true
  groups_order e = or_right (is_some q.groups || is_some q.having || list_any s.has_aggregate q.items) _ e

  -- over all that is found
  pub record BlockFine (new : Found) (block : Block) : Type 0 where
    pub outputs : AllFit (output_types cs block.query) (kinds_of block.outputs)
    pub results : results_in cs block.query ≡ results_in_from cs r.tree ++ results_of cs new.subs
    pub typed : IsTypedFrom cs [] r.tree → Given z new → IsTypedQuery cs block.query
    pub steady : Steady (length w.commons) cs block.query

  module _ (keys : List Expr) (outs : List Shown) (o : Ordered) (last : Found) where
    abbrev over : List ValueType
    over = input_types ts (groups q) keys last.aggs

    shown_fit : (xs : List Shown) → AllByRecursion (ShownFine z (after keys false) (reach_after keys false) last) xs → AllFit (map (type_over over) (map s.item_of xs)) (kinds_of (map s.output_of xs))
    shown_fit [] h = tt
    shown_fit (x ∷ xs) h = (h.0.of, shown_fit xs h.1)

    block_outputs : (c h : Cond) → (more : List Expr) × (o.items ≡ map s.item_of outs ++ more) → AllByRecursion (ShownFine z (after keys false) (reach_after keys false) last) outs
        → AllFit (output_types cs (block_of q r c keys h outs o last).query) (kinds_of (map s.output_of outs))
    block_outputs c h p shown =
        let e : take (length outs) (map (type_over over) o.items) ≡ map (type_over over) (map s.item_of outs) = ap (λ xs. take (length outs) (map (type_over over) xs)) p.1 ∙ take_shown (type_over over) outs p.0 in
        subst (λ us. AllFit us (kinds_of (map s.output_of outs))) (sym (output_types_of cs _ ∙ e)) (shown_fit outs shown)

    block_typed : (c h : Cond) → Good z last → Given z last → CondFine z (before true) (reach_before true) last c → AllByRecursion (ExprFine z (before false) (reach_before false) last) keys
        → CondFine z (after keys true) (reach_after keys true) last h → ((more : List Expr) × (o.items ≡ map s.item_of outs ++ more)) → AllByRecursion (ExprFine z (after keys false) (reach_after keys false) last) o.items
        → IsTypedFrom cs [] r.tree → IsTypedQuery cs (block_of q r c keys h outs o last).query
    block_typed c h good given cond bound having p items from =
        typed_query cs _ (
          from,
          by_grouped ts cs.results c (groups q) keys last.aggs h o.items (cond given) (given_all (Given z last) (IsTyped ts cs.results) keys bound given) (good.typed.aggs given) (having given)
              (given_all (Given z last) (IsTyped over cs.results) o.items items given),
          subst (λ xs. length outs ≤ length xs) (sym p.1) (shown_below outs p.0),
          good.typed.subs given,
        )

    block_steady : (c h : Cond) → Good z last → Steady (length w.commons) cs (block_of q r c keys h outs o last).query
    block_steady c h good ds s =
        let e = joined.steady ds s in (
          output_types_of cs _ ∙ (ap (λ us. take (length outs) (map (type_over (input_types us (groups q) keys last.aggs)) o.items)) e.0 ∙ sym (output_types_of ds _)),
          results_in_of cs _ ∙ (ap (λ rs. rs ++ results_of cs last.subs) e.1
              ∙ (ap (λ rs. results_in_from ds r.tree ++ rs) (steady_all (length w.commons) cs ds last.subs s (good.steady refl)) ∙ sym (results_in_of ds _))),
        )

  -- behind the FROM
  abbrev pub rest : Reading Block
  rest =
      s.filter_of (before true) q.filter then (λ filter.
      s.group_keys (before false) (s.targets r.columns q.items) r.joined q.groups then (λ keys.
      s.having_of (after keys true) r.joined q.having then (λ having.
      s.at_most 512 limited.Outputs (s.read_target (after keys false)) (s.targets r.columns q.items) then (λ outputs.
      s.order_keys (after keys false) outputs q.distinct q.order (record { items = map s.item_of outputs; keys = [] }) then (λ order.
      s.look then (λ found. give (block_of q r filter keys having outputs order found)))))))

  exprs_shown : (keys : List Expr) (later : Found) (xs : List Shown) → AllByRecursion (ShownFine z (after keys false) (reach_after keys false) later) xs → AllByRecursion
      (ExprFine z (after keys false) (reach_after keys false) later) (map s.item_of xs)
  exprs_shown keys later [] h = tt
  exprs_shown keys later (x ∷ xs) h = (h.0.expression, exprs_shown keys later xs h.1)

  abbrev C : Found → Cond → Type 0
  C found c = Later (CondFine z (before true) (reach_before true)) found c

  abbrev K : Found → List Expr → Type 0
  K found es = AllLater z (before false) (ExprFine z (before false) (reach_before false)) found es

  abbrev H : List Expr → Found → Cond → Type 0
  H keys found c = Later (CondFine z (after keys true) (reach_after keys true)) found c

  abbrev X : List Expr → Found → List Shown → Type 0
  X keys found xs = AllLater z (after keys false) (ShownFine z (after keys false) (reach_after keys false)) found xs

  abbrev O : List Expr → List Shown → Found → Ordered → Type 0
  O keys outs found o = Later (OrderFine z (after keys false) (reach_after keys false) outs) found o

  keys_typed : (g : Option GroupPart) → GroupTyped g → IfGroup z (before false) (reach_before false) g
  keys_typed None h = tt
  keys_typed (Some g) h = h

  -- with all of it read
  ended : (c : Cond) (keys : List Expr) (h : Cond) (outs : List Shown) (o : Ordered) (m : Found) → C m c → K m keys → H keys m h → X keys m outs → O keys outs m o
      → Run z anything BlockFine m ((s.look then (λ found. give (block_of q r c keys h outs o found))) m)
  ended c keys h outs o m gc gk gh gx go good =
      let p = go m (now m) in (
        good,
        stay anything m,
        record {
          outputs = block_outputs keys outs o m c h p.0 (gx m (now m));
          results = results_in_of cs _;
          typed = λ from given. block_typed keys outs o m c h good given (gc m (now m)) (gk m (now m)) (gh m (now m)) p.0 p.1 from;
          steady = block_steady keys outs o m c h good;
        },
      )

  ordered : (c : Cond) (keys : List Expr) (h : Cond) (outs : List Shown) (m : Found) → C m c → K m keys → H keys m h → X keys m outs
      → Run z anything BlockFine m ((s.order_keys (after keys false) outs q.distinct q.order (record {
        items =
            map s.item_of outs;
        keys = [];
      }) then (λ order. s.look then (λ found. give (block_of q r c keys h outs order found)))) m)
  ordered c keys h outs m gc gk gh gx =
      onwards z anything (O keys outs) BlockFine m (s.order_keys (after keys false) outs q.distinct q.order (record { items = map s.item_of outs; keys = [] }) m) _
      (weaken z anything (after keys false) (O keys outs) m (s.order_keys (after keys false) outs q.distinct q.order (record { items = map s.item_of outs; keys = [] }) m) (λ e. e) (λ e. absurd (no_truth (sym e)))
      (order_fine z (after keys false) (reach_after keys false) outs q.distinct q.order (record { items = map s.item_of outs; keys = [] }) m
      (order_typed z (after keys false) (reach_after keys false) q.order parts.order (any_holds (λ (o : OrderPart). o.key.aggregates) q.order (groups q) groups_order))
      (λ later l. (([], sym (append_nil (map s.item_of outs))), exprs_shown keys later outs (gx later l))))) (λ o n l go.
      ended c keys h outs o n (λ later k. gc later (on m n later l k)) (λ later k. gk later (on m n later l k)) (λ later k. gh later (on m n later l k)) (λ later k. gx later (on m n later l k)) go)

  listed : (c : Cond) (keys : List Expr) (h : Cond) (m : Found) → C m c → K m keys → H keys m h
      → Run z anything BlockFine m ((s.at_most 512 limited.Outputs (s.read_target (after keys false)) (s.targets r.columns q.items) then (λ outputs.
      s.order_keys (after keys false) outputs q.distinct q.order (record { items = map s.item_of outputs; keys = [] }) then (λ order. s.look then (λ found. give (block_of q r c keys h outputs order found))))) m)
  listed c keys h m gc gk gh =
      onwards z anything (X keys) BlockFine m (s.at_most 512 limited.Outputs (s.read_target (after keys false)) (s.targets r.columns q.items) m) _
      (weaken z anything (after keys false) (X keys) m (s.at_most 512 limited.Outputs (s.read_target (after keys false)) (s.targets r.columns q.items) m) (λ e. e) (λ e. absurd (no_truth (sym e)))
      (outputs_fine z (after keys false) (reach_after keys false) (s.targets r.columns q.items) m (targets_fine z (after keys false) (reach_after keys false) r.columns q.items
      (items_fine z (after keys false) (reach_after keys false) q.items parts.items (any_holds s.has_aggregate q.items (groups q) groups_items))))) (λ outs n l gx.
      ordered c keys h outs n (λ later k. gc later (on m n later l k)) (λ later k. gk later (on m n later l k)) (λ later k. gh later (on m n later l k)) gx)

  pub rest_fine : Run z anything BlockFine first (rest first)
  rest_fine =
      onwards z anything C BlockFine first (s.filter_of (before true) q.filter first) _
      (weaken z anything (before true) C first (s.filter_of (before true) q.filter first) (λ e. refl) (λ e. e) (filter_fine z (before true) (reach_before true) q.filter first parts.filter refl)) (λ c m1 l1 gc.
      onwards z anything K BlockFine m1 (s.group_keys (before false) (s.targets r.columns q.items) r.joined q.groups m1) _
      (weaken z anything (before false) K m1 (s.group_keys (before false) (s.targets r.columns q.items) r.joined q.groups m1) (λ e. refl) (λ e. refl)
      (group_keys_fine z (before false) (reach_before false) (s.targets r.columns q.items) r.joined q.groups m1
      (targets_fine z (before false) (reach_before false) r.columns q.items (items_before z (before false) (reach_before false) q.items parts.items refl)) (keys_typed q.groups parts.keys) refl)) (λ keys m2 l2 gk.
      onwards z anything (H keys) BlockFine m2 (s.having_of (after keys true) r.joined q.having m2) _
      (weaken z anything (after keys true) (H keys) m2 (s.having_of (after keys true) r.joined q.having m2) (λ e. e) (λ e. e)
      (having_fine z (after keys true) (reach_after keys true) r.joined q.having m2 parts.having groups_having)) (λ h m3 l3 gh.
      listed c keys h m3 (λ later k. gc later (on m1 m2 later l2 (on m2 m3 later l3 k))) (λ later k. gk later (on m2 m3 later l3 k)) gh)))
