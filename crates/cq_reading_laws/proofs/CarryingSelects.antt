-- What the walk over the lists of a SELECT carries on.
use Rattle.std.proofs.Common.{ℕ, zero, suc, ◌+◌, if◌then◌else◌, Bool, true, false, not, List, [], ◌∷◌, ◌++◌, Option, None, Some}
use Rattle.std.specs.Prelude.{⊤, slice_get, bytes_eq}
use Rattle.std.specs.List.{AllByRecursion}
use Rattle.cq_grammar.specs.declared.name.Name.{Name}
use Rattle.cq_tree.specs.declared.expression.Expr.{Expr}
use Rattle.cq_reading.specs.declared.bound.Bound.{Bound}
use Rattle.cq_reading.specs.declared.bound.Source.{Source}
use Rattle.cq_reading.specs.declared.bound.Shown.{Shown}
use Rattle.cq_reading.specs.declared.bound.Ordered.{Ordered}
use Rattle.cq_reading.specs.declared.error.Limited.{Limited}
use Rattle.cq_reading.specs.declared.error.Limited.TheVariants as limited
use Rattle.cq_reading.specs.Scopes.{plain, is_of, column_at}
use Rattle.cq_reading.specs.declared.error.BindError.TheVariants as error
use Rattle.cq_reading.specs.Steps.{Reading, give, ◌then◌, provided}
use Rattle.cq_reading.specs.Scopes.{Context, Place, Nowhere, Once, Repeated}
use Rattle.cq_reading.specs.Titles as title
use Rattle.cq_reading.specs.Titles.{Form}
use Rattle.cq_reading.specs.Parts.{Part, ItemPart, All, AllOf, One, GroupPart, HavingPart, OrderPart}
use Rattle.cq_reading.specs.Expressions.{named_in_group}
use Rattle.cq_reading.specs.Relations as r
use Rattle.cq_reading.specs.Selects as s
use Rattle.cq_reading_laws.proofs.Carrying.{Law, Carries, carrying, carries_give, carries_then, carries_provided, carries_refuse, carries_through, carries_each}
use Rattle.cq_reading_laws.proofs.CarryingParts as part
use Rattle.cq_reading_laws.proofs.CarryingParts.{IfPart, PartCarries}

unfoldable pub ItemCarries : (Context → Law) → ItemPart → Type 0
ItemCarries law (All at) = ⊤
ItemCarries law (AllOf relation at) = ⊤
ItemCarries law (One p name) = PartCarries law p

abbrev pub TargetCarries : (Context → Law) → s.Target → Type 0
TargetCarries law t = (cx : Context) → Carries (law cx) (t.reads cx)

abbrev pub TargetsCarry : (Context → Law) → List s.Target → Type 0
TargetsCarry law ts = AllByRecursion (TargetCarries law) ts

abbrev pub GroupCarries : (Context → Law) → GroupPart → Type 0
GroupCarries law g = AllByRecursion (PartCarries law) g.keys

abbrev pub IfGroup : (Context → Law) → Option GroupPart → Type 0
IfGroup law None = ⊤
IfGroup law (Some g) = GroupCarries law g

abbrev pub IfHaving : (Context → Law) → Option HavingPart → Type 0
IfHaving law None = ⊤
IfHaving law (Some h) = PartCarries law h.condition

module _ (law : Context → Law) (same : (cx : Context) (r : Reading Bound) → Carries (law (plain cx)) r → Carries (law cx) r) where
  -- a condition

  pub condition_of_carries : (p : Part) (cx : Context) → PartCarries law p → Carries (law cx) (r.condition_of p cx)
  condition_of_carries p cx h = carries_then _ _ _ (part.reads_carry law same p cx h) (λ b. search carrying)

  -- ---- the select list

  star_carries : (at i : ℕ) (c : Source) → TargetCarries law (s.star_column at i c)
  star_carries at i c cx =
      part.behind_carries law same false (λ d. named_in_group d (give (column_at d i)) at) cx (λ d.
      carries_then _ (give (column_at d i)) (λ b. provided (not d.grouped) (error.NotGrouped at) (give b)) (carries_give _ (column_at d i)) (λ b.
      carries_provided _ (not d.grouped) (error.NotGrouped at) (give b) (carries_give _ b)))

  kept_if : (t : Bool) (x : s.Target) (ts : List s.Target) → TargetCarries law x → TargetsCarry law ts → TargetsCarry law (if t then x ∷ ts else ts)
  kept_if true x ts h k = (h, k)
  kept_if false x ts h k = k

  stars_carry : (at : ℕ) (is : Source → Bool) (i : ℕ) (cs : List Source) → TargetsCarry law (s.star_columns at is i cs)
  stars_carry at is i [] = tt
  stars_carry at is i (c ∷ more) = kept_if (is c) (s.star_column at i c) (s.star_columns at is (i + 1) more) (star_carries at i c) (stars_carry at is (i + 1) more)

  targets_append : (ts us : List s.Target) → TargetsCarry law ts → TargetsCarry law us → TargetsCarry law (ts ++ us)
  targets_append [] us h k = k
  targets_append (t ∷ ts) us h k = (h.0, targets_append ts us h.1 k)

  stars_of_carry : (at : ℕ) (is : Source → Bool) (cs : List Source) (t : Bool) → TargetsCarry law (if t then s.star_columns at is 0 cs else s.no_relation at ∷ [])
  stars_of_carry at is cs true = stars_carry at is 0 cs
  stars_of_carry at is cs false = ((λ cx. carries_refuse _ _ _), tt)

  targets_of_carry : (cs : List Source) (i : ItemPart) → ItemCarries law i → TargetsCarry law (s.targets_of cs i)
  unfolding ItemCarries
  targets_of_carry cs (All at) h = stars_carry at (λ s. true) 0 cs
  targets_of_carry cs (AllOf relation at) h = stars_of_carry at (is_of relation) cs _
  targets_of_carry cs (One p name) h = ((λ cx. part.reads_carry law same p cx h), tt)

  pub targets_carry : (cs : List Source) (items : List ItemPart) → AllByRecursion (ItemCarries law) items → TargetsCarry law (s.targets cs items)
  targets_carry cs [] h = tt
  targets_carry cs (i ∷ more) h = targets_append _ _ (targets_of_carry cs i h.0) (targets_carry cs more h.1)

  value_carries : (l : Law) (at : ℕ) (r : Reading Bound) → Carries l r → Carries l (s.value_of at r)
  value_carries l at r h = carries_then _ _ _ h (λ b. search carrying)

  target_value : (cx : Context) (t : s.Target) → TargetCarries law t → Carries (law cx) (s.value_of t.at (t.reads cx))
  target_value cx t h = value_carries _ t.at (t.reads cx) (h cx)

  read_target_carries : (cx : Context) (t : s.Target) → TargetCarries law t → Carries (law cx) (s.read_target cx t)
  read_target_carries cx t h = carries_then _ _ _ (target_value cx t h) (λ b. carries_give _ _)

  at_most_steps : (l : Law) {A B : Type 0} (number : ℕ) (what : Limited) (r : A → Reading B) (items : List A) → AllByRecursion (λ a. Carries l (r a)) items
      → AllByRecursion (λ a. (t : List B) → Carries l (s.with_one_more number what r t a)) items
  at_most_steps l number what r [] h = tt
  at_most_steps l number what r (a ∷ more) h = ((λ t. carries_provided _ _ _ _ (carries_then _ _ _ h.0 (λ b. carries_give _ _))), at_most_steps _ number what r more h.1)

  at_most_carries : (l : Law) {A B : Type 0} (number : ℕ) (what : Limited) (r : A → Reading B) (items : List A) → AllByRecursion (λ a. Carries l (r a)) items → Carries l (s.at_most number what r items)
  at_most_carries l number what r items h = carries_through _ (s.with_one_more number what r) items [] (at_most_steps _ number what r items h)

  all_targets : (cx : Context) (ts : List s.Target) → TargetsCarry law ts → AllByRecursion (λ t. Carries (law cx) (s.read_target cx t)) ts
  all_targets cx [] h = tt
  all_targets cx (t ∷ more) h = (read_target_carries cx t h.0, all_targets cx more h.1)

  pub outputs_carry : (cx : Context) (ts : List s.Target) → TargetsCarry law ts → Carries (law cx) (s.at_most 512 limited.Outputs (s.read_target cx) ts)
  outputs_carry cx ts h = at_most_carries _ 512 limited.Outputs (s.read_target cx) ts (all_targets cx ts h)

  -- ---- GROUP BY

  one_of_carries : (l : Law) (at : ℕ) (bs : List Bound) → Carries l (s.one_of at bs)
  one_of_carries l at [] = search carrying
  one_of_carries l at (b ∷ more) = search carrying

  titled_carry : (name : List ℕ) (ts : List s.Target) → TargetsCarry law ts → TargetsCarry law (s.titled name ts)
  titled_carry name [] h = tt
  titled_carry name (t ∷ more) h = kept_if (bytes_eq t.title name) t (s.titled name more) h.0 (titled_carry name more h.1)

  all_values : (cx : Context) (ts : List s.Target) → TargetsCarry law ts → AllByRecursion (λ t. Carries (law cx) (s.value_of t.at (t.reads cx))) ts
  all_values cx [] h = tt
  all_values cx (t ∷ more) h = (target_value cx t h.0, all_values cx more h.1)

  by_title_carries : (cx : Context) (ts : List s.Target) (name : List ℕ) (at : ℕ) → TargetsCarry law ts → Carries (law cx) (s.key_by_title cx ts name at)
  by_title_carries cx ts name at h = carries_then _ _ _ (carries_each _ _ (s.titled name ts) (all_values cx _ (titled_carry name ts h))) (λ bs. one_of_carries _ at bs)

  by_place_carries : (cx : Context) (ts : List s.Target) (n at : ℕ) → TargetsCarry law ts → Carries (law cx) (s.key_by_place cx (s.nth n ts) at)
  by_place_carries cx ts zero at h = carries_refuse _ _ _
  by_place_carries cx [] (suc n) at h = carries_refuse _ _ _
  by_place_carries cx (t ∷ ts) (suc zero) at h = target_value cx t h.0
  by_place_carries cx (t ∷ ts) (suc (suc n)) at h = by_place_carries cx ts (suc n) at h.1

  by_name_carries : (cx : Context) (ts : List s.Target) (p : Part) (name : List ℕ) (place : Place) → TargetsCarry law ts → PartCarries law p → Carries (law cx) (s.key_by_name cx ts p name place)
  by_name_carries cx ts p name Nowhere h k = by_title_carries cx ts name p.at h
  by_name_carries cx ts p name (Once i) h k = part.reads_carry law same p cx k
  by_name_carries cx ts p name Repeated h k = part.reads_carry law same p cx k

  key_by_carries : (cx : Context) (ts : List s.Target) (p : Part) (form : Form) → TargetsCarry law ts → PartCarries law p → Carries (law cx) (s.group_key_by cx ts p form)
  key_by_carries cx ts p (title.Number n) h k = by_place_carries cx ts n p.at h
  key_by_carries cx ts p (title.Name name) h k = by_name_carries cx ts p name _ h k
  key_by_carries cx ts p (title.Signed sign n) h k = value_carries _ p.at _ (part.reads_carry law same p cx k)
  key_by_carries cx ts p title.Other h k = value_carries _ p.at _ (part.reads_carry law same p cx k)

  all_keys : (cx : Context) (ts : List s.Target) (ps : List Part) → TargetsCarry law ts → AllByRecursion (PartCarries law) ps → AllByRecursion (λ p. Carries (law cx) (s.group_key cx ts p)) ps
  all_keys cx ts [] h k = tt
  all_keys cx ts (p ∷ more) h k = (carries_then _ _ _ (key_by_carries cx ts p p.form h k.0) (λ b. carries_give _ _), all_keys cx ts more h k.1)

  pub group_keys_carry : (cx : Context) (ts : List s.Target) (joined : Bool) (g : Option GroupPart) → TargetsCarry law ts → IfGroup law g → Carries (law cx) (s.group_keys cx ts joined g)
  group_keys_carry cx ts joined None h k = carries_give _ _
  group_keys_carry cx ts joined (Some g) h k = carries_provided _ _ _ _ (at_most_carries _ 16 limited.Keys (s.group_key cx ts) g.keys (all_keys cx ts g.keys h k))

  pub having_carries : (cx : Context) (joined : Bool) (h : Option HavingPart) → IfHaving law h → Carries (law cx) (s.having_of cx joined h)
  having_carries cx joined None k = carries_give _ _
  having_carries cx joined (Some h) k = carries_provided _ _ _ _ (condition_of_carries h.condition cx k)

  pub filter_carries : (cx : Context) (p : Option Part) → IfPart (PartCarries law) p → Carries (law cx) (s.filter_of cx p)
  filter_carries cx None h = carries_give _ _
  filter_carries cx (Some p) h = condition_of_carries p cx h

  -- ---- ORDER BY

  key_at_carries : (l : Law) (shown : ℕ) (distinct descending : Bool) (at : ℕ) (o : Ordered) (e : Expr) (i : Option ℕ) → Carries l (s.key_at shown distinct descending at o e i)
  key_at_carries l shown distinct descending at o e None = search carrying
  key_at_carries l shown distinct descending at o e (Some i) = search carrying

  by_output_carries : (l : Law) (descending : Bool) (at : ℕ) (name : List ℕ) (outputs : List Shown) (o : Ordered) (i : ℕ) (x : Option Shown) → Carries l (s.key_by_output descending at name outputs o i x)
  by_output_carries l descending at name outputs o i None = search carrying
  by_output_carries l descending at name outputs o i (Some x) = search carrying

  by_expression_carries : (cx : Context) (outputs : List Shown) (distinct : Bool) (p : OrderPart) (o : Ordered) → PartCarries law p.key → Carries (law cx) (s.order_by_expression cx outputs distinct p o)
  by_expression_carries cx outputs distinct p o h = carries_then _ _ _ (value_carries _ p.key.at _ (part.reads_carry law same p.key cx h)) (λ b. search key_at_carries)

  order_by_name_carries : (cx : Context) (outputs : List Shown) (distinct : Bool) (p : OrderPart) (o : Ordered) (name : List ℕ) (i : Option ℕ) → PartCarries law p.key
      → Carries (law cx) (s.order_by_name cx outputs distinct p o name i)
  order_by_name_carries cx outputs distinct p o name None h = by_expression_carries cx outputs distinct p o h
  order_by_name_carries cx outputs distinct p o name (Some i) h = by_output_carries _ p.descending p.key.at name outputs o i (slice_get outputs i)

  by_form_carries : (cx : Context) (outputs : List Shown) (distinct : Bool) (p : OrderPart) (o : Ordered) (form : Form) → PartCarries law p.key → Carries (law cx) (s.order_by_form cx outputs distinct p o form)
  by_form_carries cx outputs distinct p o (title.Number n) h = search carrying
  by_form_carries cx outputs distinct p o (title.Name name) h = order_by_name_carries cx outputs distinct p o name _ h
  by_form_carries cx outputs distinct p o (title.Signed sign n) h = by_expression_carries cx outputs distinct p o h
  by_form_carries cx outputs distinct p o title.Other h = by_expression_carries cx outputs distinct p o h

  order_steps : (cx : Context) (outputs : List Shown) (distinct : Bool) (ps : List OrderPart) → AllByRecursion (λ p. PartCarries law p.key) ps
      → AllByRecursion (λ p. (o : Ordered) → Carries (law cx) (s.with_order_key cx outputs distinct o p)) ps
  order_steps cx outputs distinct [] h = tt
  order_steps cx outputs distinct (p ∷ more) h = ((λ o. carries_provided _ _ _ _ (by_form_carries cx outputs distinct p o p.key.form h.0)), order_steps cx outputs distinct more h.1)

  pub order_keys_carry : (cx : Context) (outputs : List Shown) (distinct : Bool) (ps : List OrderPart) (o : Ordered) → AllByRecursion (λ p. PartCarries law p.key) ps → Carries (law cx) (s.order_keys cx outputs distinct ps o)
  order_keys_carry cx outputs distinct ps o h = carries_through _ (s.with_order_key cx outputs distinct) ps o (order_steps cx outputs distinct ps h)

  pub value_item : ((at : ℕ) → ItemCarries law (All at)) × ((relation : Name) → ItemCarries law (AllOf relation.text relation.at)) × ((p : Part) (name : Option (List ℕ)) → PartCarries law p → ItemCarries law (One p name))
  unfolding ItemCarries
  value_item = ((λ at. tt), (λ relation. tt), (λ p name h. h))
