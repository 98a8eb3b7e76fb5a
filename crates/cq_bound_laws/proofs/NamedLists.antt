-- The lists of a SELECT over parts that name only the CTEs in reach and the results of their own IN subqueries.
use Rattle.std.proofs.Common.{ℕ, zero, suc, ◌+◌, ◌-◌, if◌then◌else◌, Bool, true, false, ◌&&◌, not, List, [], ◌∷◌, ◌++◌, length, Option, None, Some}
use Rattle.std.specs.Prelude.{⊤, slice_get, bytes_eq, nat_lt, position}
use Rattle.std.specs.List.{AllByRecursion, list_all}
use Rattle.cq_value.proofs.Lists.{all_more}
use Rattle.cq_tree.specs.declared.expression.Expr.{Expr}
use Rattle.cq_tree.specs.declared.expression.Cond.{Always}
use Rattle.cq_tree.specs.Equal.{equal_exprs}
use Rattle.cq_reading.specs.declared.bound.Bound.{Bound}
use Rattle.cq_reading.specs.declared.bound.Source.{Source}
use Rattle.cq_reading.specs.declared.bound.Shown.{Shown}
use Rattle.cq_reading.specs.declared.bound.Ordered.{Ordered}
use Rattle.cq_reading.specs.declared.error.Limited.{Limited}
use Rattle.cq_reading.specs.declared.error.Limited.TheVariants as limited
use Rattle.cq_reading.specs.declared.error.BindError.{BindError}
use Rattle.cq_reading.specs.declared.error.BindError.TheVariants as error
use Rattle.cq_reading.specs.Steps.{Reading, give, provided, ◌then◌, with_next, each}
use Rattle.cq_reading.specs.Widths.{is_value, is_truth, expr_of, cond_of}
use Rattle.cq_reading.specs.Scopes.{Context, Place, Nowhere, Once, Repeated, place_of, column_at, has_name, is_of}
use Rattle.cq_reading.specs.Titles as title
use Rattle.cq_reading.specs.Titles.{Form}
use Rattle.cq_reading.specs.Parts.{Part, ItemPart, All, AllOf, One, GroupPart, HavingPart, OrderPart}
use Rattle.cq_reading.specs.Expressions.{reads, named_in_group}
use Rattle.cq_reading.specs.Relations.{condition_of}
use Rattle.cq_reading.specs.Selects as s
use Rattle.cq_reading_laws.proofs.CarryingParts.{IfPart}
use Rattle.cq_plan_laws.specs.Scoping.{Names, CondNames}
use Rattle.cq_bound_laws.proofs.NamedForms.{BoundNames}
use Rattle.cq_bound_laws.proofs.NamedReadings.{reads_give, reads_refuse, reads_provided, reads_under, reads_through, reads_next, reads_each}
use Rattle.cq_bound_laws.proofs.NamedRules.{column_gives}
use Rattle.cq_bound_laws.proofs.NamedParts.{Outside, Seen, ReadsIn, GivesIn, PartReads, N, then_gives, behind_gives, part_gives, group_gives}

abbrev pub TargetReads : s.Target → Type 0
TargetReads t = (cx : Context) (ns : List ℕ) → GivesIn cx ns ⊤ (t.reads cx)

abbrev pub ItemReads : ItemPart → Type 0
ItemReads (All at) = ⊤
ItemReads (AllOf relation at) = ⊤
ItemReads (One p name) = PartReads p

abbrev pub GroupReads : GroupPart → Type 0
GroupReads g = AllByRecursion PartReads g.keys

abbrev pub IfGroup : Option GroupPart → Type 0
IfGroup None = ⊤
IfGroup (Some g) = GroupReads g

abbrev pub HavingReads : HavingPart → Type 0
HavingReads h = PartReads h.condition

abbrev pub IfHaving : Option HavingPart → Type 0
IfHaving None = ⊤
IfHaving (Some h) = HavingReads h

abbrev pub OrderReads : OrderPart → Type 0
OrderReads o = PartReads o.key

abbrev TargetsRead : List s.Target → Type 0
TargetsRead ts = AllByRecursion TargetReads ts

-- ---- the select list

star_reads : (at i : ℕ) (c : Source) → TargetReads (s.star_column at i c)
star_reads at i c cx ns =
    behind_gives cx ns false (λ d. named_in_group d (give (column_at d i)) at) ⊤ (group_gives cx ns (give (column_at cx i)) at (column_gives (Outside cx.world) (Seen cx.world ns) cx.may_select ⊤ cx i))

kept_if : (t : Bool) (x : s.Target) (ts : List s.Target) → TargetReads x → TargetsRead ts → TargetsRead (if t then x ∷ ts else ts)
kept_if true x ts h k = (h, k)
kept_if false x ts h k = k

stars_read : (at : ℕ) (is : Source → Bool) (i : ℕ) (cs : List Source) → TargetsRead (s.star_columns at is i cs)
stars_read at is i [] = tt
stars_read at is i (c ∷ more) = kept_if (is c) (s.star_column at i c) (s.star_columns at is (i + 1) more) (star_reads at i c) (stars_read at is (i + 1) more)

targets_append : (ts us : List s.Target) → TargetsRead ts → TargetsRead us → TargetsRead (ts ++ us)
targets_append [] us h k = k
targets_append (t ∷ ts) us h k = (h.0, targets_append ts us h.1 k)

stars_of_read : (at : ℕ) (is : Source → Bool) (cs : List Source) (t : Bool) → TargetsRead (if t then s.star_columns at is 0 cs else s.no_relation at ∷ [])
stars_of_read at is cs true = stars_read at is 0 cs
stars_of_read at is cs false = ((λ cx ns. reads_refuse (Outside cx.world) (Seen cx.world ns) cx.may_select Bound ⊤ (N cx ns) (error.Unknown at)), tt)

targets_of_read : (cs : List Source) (i : ItemPart) → ItemReads i → TargetsRead (s.targets_of cs i)
targets_of_read cs (All at) h = stars_read at (λ s. true) 0 cs
targets_of_read cs (AllOf relation at) h = stars_of_read at (is_of relation) cs _
targets_of_read cs (One p name) h = ((λ cx ns. part_gives cx ns ⊤ p h), tt)

pub targets_read : (cs : List Source) (items : List ItemPart) → AllByRecursion ItemReads items → TargetsRead (s.targets cs items)
targets_read cs [] h = tt
targets_read cs (i ∷ more) h = targets_append (s.targets_of cs i) (s.targets cs more) (targets_of_read cs i h.0) (targets_read cs more h.1)

titled_read : (name : List ℕ) (ts : List s.Target) → TargetsRead ts → TargetsRead (s.titled name ts)
titled_read name [] h = tt
titled_read name (t ∷ more) h = kept_if (bytes_eq t.title name) t (s.titled name more) h.0 (titled_read name more h.1)

module _ (cx : Context) (ns : List ℕ) where
  abbrev O : ℕ → Type 0
  O = Outside cx.world

  abbrev pub P : ℕ → Type 0
  P = Seen cx.world ns

  abbrev B : Bound → Type 0
  B = BoundNames P

  -- what is given where a test holds
  where_give : {A : Type 0} (C : Type 0) (V : A → Type 0) (t : Bool) (x : BindError) (a : A) → (C → V a) → ReadsIn cx ns C V (provided t x (give a))
  where_give C V t x a h = reads_provided O P cx.may_select C V t x (give a) (reads_give O P cx.may_select C V a h)

  pub condition_reads : (p : Part) → PartReads p → ReadsIn cx ns ⊤ (CondNames P) (condition_of p cx)
  condition_reads p h =
      then_gives cx ns ⊤ B (CondNames P) (reads p cx) (λ b. provided (is_truth b) (error.Type p.at) (give (cond_of b))) (part_gives cx ns ⊤ p h) (λ b.
      where_give (⊤ × B b) (CondNames P) (is_truth b) (error.Type p.at) (cond_of b) (λ c. c.1.1))

  value_gives : (C : Type 0) (at : ℕ) (r : Reading Bound) → GivesIn cx ns C r → GivesIn cx ns C (s.value_of at r)
  value_gives C at r h =
      then_gives cx ns C B B r (λ b. provided (is_value b) (error.Type at) (give b)) h (λ b. where_give (C × B b) B (is_value b) (error.Type at) b (λ c. c.1))

  -- each in turn, of which there are at most so many
  at_most_reads : {X Y : Type 0} (V : Y → Type 0) (number : ℕ) (what : Limited) (r : X → Reading Y) (items : List X) → AllByRecursion (λ a. ReadsIn cx ns ⊤ V (r a)) items → ReadsIn cx ns ⊤ (AllByRecursion V) (s.at_most number what r items)
  at_most_reads {X = X} {Y = Y} V number what r items h =
      reads_under O P cx.may_select (⊤ × AllByRecursion V []) ⊤ (AllByRecursion V) (s.at_most number what r items) (λ c. (tt, tt)) (reads_through O P cx.may_select ⊤ (AllByRecursion V) (s.with_one_more number what r) items [] (steps items h))
    where
      steps : (items : List X) → AllByRecursion (λ a. ReadsIn cx ns ⊤ V (r a)) items → AllByRecursion (λ a. (t : List Y) → ReadsIn cx ns (⊤ × AllByRecursion V t) (AllByRecursion V) (s.with_one_more number what r t a)) items
      steps [] h = tt
      steps (a ∷ more) h = (
        (λ t. reads_provided O P cx.may_select (⊤ × AllByRecursion V t) (AllByRecursion V) (nat_lt (length t) number) (error.Limit what number) (with_next r t a) (reads_next O P cx.may_select ⊤ V r t a h.0)),
        steps more h.1,
      )

  target_value : (t : s.Target) → TargetReads t → GivesIn cx ns ⊤ (s.value_of t.at (t.reads cx))
  target_value t h = value_gives ⊤ t.at (t.reads cx) (h cx ns)

  abbrev pub ShownNames : Shown → Type 0
  ShownNames x = BoundNames P x.bound

  shown_reads : (t : s.Target) → TargetReads t → ReadsIn cx ns ⊤ ShownNames (s.read_target cx t)
  shown_reads t h =
      then_gives cx ns ⊤ B ShownNames (s.value_of t.at (t.reads cx)) (λ b. give (record { title = t.title; bound = b })) (target_value t h) (λ b.
      reads_give O P cx.may_select (⊤ × B b) ShownNames (record { title = t.title; bound = b }) (λ c. c.1))

  all_shown : (ts : List s.Target) → TargetsRead ts → AllByRecursion (λ t. ReadsIn cx ns ⊤ ShownNames (s.read_target cx t)) ts
  all_shown [] h = tt
  all_shown (t ∷ more) h = (shown_reads t h.0, all_shown more h.1)

  pub outputs_read : (ts : List s.Target) → TargetsRead ts → ReadsIn cx ns ⊤ (AllByRecursion ShownNames) (s.at_most 512 limited.Outputs (s.read_target cx) ts)
  outputs_read ts h = at_most_reads ShownNames 512 limited.Outputs (s.read_target cx) ts (all_shown ts h)

  -- ---- GROUP BY

  one_of_gives : (C : Type 0) (at : ℕ) (bs : List Bound) → (C → AllByRecursion B bs) → GivesIn cx ns C (s.one_of at bs)
  one_of_gives C at [] h = reads_refuse O P cx.may_select Bound C B (error.Unknown at)
  one_of_gives C at (b ∷ more) h = where_give C B (list_all (s.same_as b) more) (error.Ambiguous at) b (λ c. (h c).0)

  all_values : (ts : List s.Target) → TargetsRead ts → AllByRecursion (λ t. GivesIn cx ns ⊤ (s.value_of t.at (t.reads cx))) ts
  all_values [] h = tt
  all_values (t ∷ more) h = (target_value t h.0, all_values more h.1)

  by_title_gives : (ts : List s.Target) (name : List ℕ) (at : ℕ) → TargetsRead ts → GivesIn cx ns ⊤ (s.key_by_title cx ts name at)
  by_title_gives ts name at h =
      let us = s.titled name ts in
      then_gives cx ns ⊤ (AllByRecursion B) B (each (λ t. s.value_of t.at (t.reads cx)) us) (s.one_of at) (reads_each O P cx.may_select ⊤ B (λ t. s.value_of t.at (t.reads cx)) us (all_values us (titled_read name ts h)))
      (λ bs. one_of_gives (⊤ × AllByRecursion B bs) at bs (λ c. c.1))

  by_place_gives : (ts : List s.Target) (n at : ℕ) → TargetsRead ts → GivesIn cx ns ⊤ (s.key_by_place cx (s.nth n ts) at)
  by_place_gives ts zero at h = reads_refuse O P cx.may_select Bound ⊤ B (error.Unknown at)
  by_place_gives [] (suc n) at h = reads_refuse O P cx.may_select Bound ⊤ B (error.Unknown at)
  by_place_gives (t ∷ ts) (suc zero) at h = target_value t h.0
  by_place_gives (t ∷ ts) (suc (suc n)) at h = by_place_gives ts (suc n) at h.1

  by_name_gives : (ts : List s.Target) (p : Part) (name : List ℕ) (place : Place) → TargetsRead ts → PartReads p → GivesIn cx ns ⊤ (s.key_by_name cx ts p name place)
  by_name_gives ts p name Nowhere h k = by_title_gives ts name p.at h
  by_name_gives ts p name (Once i) h k = part_gives cx ns ⊤ p k
  by_name_gives ts p name Repeated h k = part_gives cx ns ⊤ p k

  key_by_gives : (ts : List s.Target) (p : Part) (form : Form) → TargetsRead ts → PartReads p → GivesIn cx ns ⊤ (s.group_key_by cx ts p form)
  key_by_gives ts p (title.Number n) h k = by_place_gives ts n p.at h
  key_by_gives ts p (title.Name name) h k = by_name_gives ts p name (place_of (has_name name) cx.columns) h k
  key_by_gives ts p (title.Signed sign n) h k = value_gives ⊤ p.at (reads p cx) (part_gives cx ns ⊤ p k)
  key_by_gives ts p title.Other h k = value_gives ⊤ p.at (reads p cx) (part_gives cx ns ⊤ p k)

  all_keys : (ts : List s.Target) (ps : List Part) → TargetsRead ts → AllByRecursion PartReads ps → AllByRecursion (λ p. ReadsIn cx ns ⊤ (Names P) (s.group_key cx ts p)) ps
  all_keys ts [] h k = tt
  all_keys ts (p ∷ more) h k = (
    then_gives cx ns ⊤ B (Names P) (s.group_key_by cx ts p p.form) (λ b. give (expr_of b)) (key_by_gives ts p p.form h k.0) (λ b. reads_give O P cx.may_select (⊤ × B b) (Names P) (expr_of b) (λ c. c.1.0)),
    all_keys ts more h k.1,
  )

  pub group_keys_read : (ts : List s.Target) (joined : Bool) (g : Option GroupPart) → TargetsRead ts → IfGroup g → ReadsIn cx ns ⊤ (AllByRecursion (Names P)) (s.group_keys cx ts joined g)
  group_keys_read ts joined None h k = reads_give O P cx.may_select ⊤ (AllByRecursion (Names P)) [] (λ c. tt)
  group_keys_read ts joined (Some g) h k =
      reads_provided O P cx.may_select ⊤ (AllByRecursion (Names P)) (not joined) (error.GroupedJoin g.at) (s.at_most 16 limited.Keys (s.group_key cx ts) g.keys)
      (at_most_reads (Names P) 16 limited.Keys (s.group_key cx ts) g.keys (all_keys ts g.keys h k))

  pub having_reads : (joined : Bool) (h : Option HavingPart) → IfHaving h → ReadsIn cx ns ⊤ (CondNames P) (s.having_of cx joined h)
  having_reads joined None k = reads_give O P cx.may_select ⊤ (CondNames P) Always (λ c. tt)
  having_reads joined (Some h) k = reads_provided O P cx.may_select ⊤ (CondNames P) (not joined) (error.GroupedJoin h.at) (condition_of h.condition cx) (condition_reads h.condition k)

  pub filter_reads : (p : Option Part) → IfPart PartReads p → ReadsIn cx ns ⊤ (CondNames P) (s.filter_of cx p)
  filter_reads None h = reads_give O P cx.may_select ⊤ (CondNames P) Always (λ c. tt)
  filter_reads (Some p) h = condition_reads p h

  -- ---- ORDER BY

  -- all items, of which the first are the outputs
  abbrev pub OrderNames : Ordered → Type 0
  OrderNames o = AllByRecursion (Names P) o.items

  key_at_reads : (C : Type 0) (shown : ℕ) (distinct descending : Bool) (at : ℕ) (o : Ordered) (x : Expr) (i : Option ℕ) → (C → OrderNames o × Names P x) → ReadsIn cx ns C OrderNames (s.key_at shown distinct descending at o x i)
  key_at_reads C shown distinct descending at o x None h =
      where_give C OrderNames (not distinct) (error.NotGrouped at) (s.with_hidden o x descending) (λ c. let k = h c in all_more (Names P) o.items x k.0 k.1)
  key_at_reads C shown distinct descending at o x (Some i) h = reads_give O P cx.may_select C OrderNames (s.with_key o i descending) (λ c. (h c).0)

  by_output_reads : (C : Type 0) (descending : Bool) (at : ℕ) (name : List ℕ) (outputs : List Shown) (o : Ordered) (i : ℕ) (x : Option Shown) → (C → OrderNames o) → ReadsIn cx ns C OrderNames (s.key_by_output descending at name outputs o i x)
  by_output_reads C descending at name outputs o i None h = reads_refuse O P cx.may_select Ordered C OrderNames (error.Unknown at)
  by_output_reads C descending at name outputs o i (Some x) h = where_give C OrderNames (s.alike_named name outputs (s.item_of x)) (error.Ambiguous at) (s.with_key o i descending) h

  module _ (outputs : List Shown) (distinct : Bool) (p : OrderPart) (o : Ordered) (h : PartReads p.key) where
    by_expression_reads : ReadsIn cx ns (⊤ × OrderNames o) OrderNames (s.order_by_expression cx outputs distinct p o)
    by_expression_reads =
        then_gives cx ns (⊤ × OrderNames o) B OrderNames (s.value_of p.key.at (reads p.key cx)) (s.key_by_value (length outputs) distinct p.descending p.key.at o)
        (value_gives (⊤ × OrderNames o) p.key.at (reads p.key cx) (part_gives cx ns (⊤ × OrderNames o) p.key h)) (λ b.
        key_at_reads ((⊤ × OrderNames o) × B b) (length outputs) distinct p.descending p.key.at o (expr_of b) (position (equal_exprs (expr_of b)) o.items) (λ c. (c.0.1, c.1.0)))

    by_order_name_reads : (name : List ℕ) (i : Option ℕ) → ReadsIn cx ns (⊤ × OrderNames o) OrderNames (s.order_by_name cx outputs distinct p o name i)
    by_order_name_reads name None = by_expression_reads
    by_order_name_reads name (Some i) = by_output_reads (⊤ × OrderNames o) p.descending p.key.at name outputs o i (slice_get outputs i) (λ c. c.1)

    by_form_reads : (form : Form) → ReadsIn cx ns (⊤ × OrderNames o) OrderNames (s.order_by_form cx outputs distinct p o form)
    by_form_reads (title.Number n) = where_give (⊤ × OrderNames o) OrderNames (nat_lt 0 n && nat_lt n (length outputs + 1)) (error.Unknown p.key.at) (s.with_key o (n - 1) p.descending) (λ c. c.1)
    by_form_reads (title.Name name) = by_order_name_reads name (position (s.has_title name) outputs)
    by_form_reads (title.Signed sign n) = by_expression_reads
    by_form_reads title.Other = by_expression_reads

  order_steps : (outputs : List Shown) (distinct : Bool) (ps : List OrderPart) → AllByRecursion OrderReads ps → AllByRecursion (λ p. (o : Ordered) → ReadsIn cx ns (⊤ × OrderNames o) OrderNames (s.with_order_key cx outputs distinct o p)) ps
  order_steps outputs distinct [] h = tt
  order_steps outputs distinct (p ∷ more) h = (
    (λ o. reads_provided O P cx.may_select (⊤ × OrderNames o) OrderNames (nat_lt (length o.keys) 16) (error.Limit limited.Keys 16) (s.order_by_form cx outputs distinct p o p.key.form) (by_form_reads outputs distinct p o h.0 p.key.form)),
    order_steps outputs distinct more h.1,
  )

  pub order_reads : (outputs : List Shown) (distinct : Bool) (ps : List OrderPart) (o : Ordered) → AllByRecursion OrderReads ps → ReadsIn cx ns (⊤ × OrderNames o) OrderNames (s.order_keys cx outputs distinct ps o)
  order_reads outputs distinct ps o h = reads_through O P cx.may_select ⊤ OrderNames (s.with_order_key cx outputs distinct) ps o (order_steps outputs distinct ps h)
