-- The select list and the keys of GROUP BY stand.
use Rattle.std.proofs.Common.{◌≡◌, ℕ, zero, suc, ◌+◌, if◌then◌else◌, Bool, true, false, not, List, [], ◌∷◌, ◌++◌, length, sym, ◌∙◌, Option, None, Some, Result}
use Rattle.std.specs.Prelude.{⊤, bytes_eq, nat_lt}
use Rattle.std.specs.List.{AllByRecursion, list_all}
use Rattle.cq_tree.specs.declared.expression.Expr.{Expr}
use Rattle.cq_tree.specs.declared.expression.Cond.{Cond}
use Rattle.cq_meaning.specs.Widths.{IsBound, IsBoundCondition}
use Rattle.cq_reading.specs.declared.bound.Found.{Found}
use Rattle.cq_reading.specs.declared.bound.Source.{Source}
use Rattle.cq_reading.specs.declared.bound.Bound.{Bound}
use Rattle.cq_reading.specs.declared.bound.Shown.{Shown}
use Rattle.cq_reading.specs.declared.error.BindError.{BindError}
use Rattle.cq_reading.specs.declared.error.Limited.{Limited}
use Rattle.cq_reading.specs.declared.error.BindError.TheVariants as error
use Rattle.cq_reading.specs.declared.error.Limited.TheVariants as limited
use Rattle.cq_reading.specs.Steps.{Reading, give, provided, with_next, each}
use Rattle.cq_reading.specs.Widths.{is_value, is_truth, expr_of, cond_of}
use Rattle.cq_reading.specs.Scopes.{Context, Place, Nowhere, Once, Repeated, place_of, column_at, has_name, is_of}
use Rattle.cq_reading.specs.Titles as title
use Rattle.cq_reading.specs.Titles.{Form}
use Rattle.cq_reading.specs.Parts.{Part, ItemPart, All, AllOf, One, GroupPart}
use Rattle.cq_reading.specs.Expressions.{reads, named_in_group}
use Rattle.cq_reading.specs.Relations.{condition_of}
use Rattle.cq_reading.specs.Selects as s
use Rattle.cq_reading_laws.specs.Bounds.{HaveBits, MayStand, Onward, bits_in}
use Rattle.cq_reading_laws.proofs.Keeping as keep
use Rattle.cq_reading_laws.proofs.Onwards.{Later, Kept, Fine, now, on, gives, where_fit, onwards, through_all, next_one, each_one}
use Rattle.cq_reading_laws.proofs.Standing.{no_truth}
use Rattle.cq_reading_laws.proofs.FineNames.{Plain, column_at_stands, in_group_fine}
use Rattle.cq_reading_laws.proofs.FineParts.{PartStands, behind_stands}

-- each in turn, of which there are at most so many
at_most_fine : (ks : List ℕ) {A B : Type 0} (G : Found → B → Type 0) (number : ℕ) (what : Limited) (r : A → Reading B) (items : List A) (found : Found)
    → AllByRecursion (λ a. (f : Found) → Kept ks G f (r a f)) items → Kept ks (λ later bs. AllByRecursion (G later) bs) found (s.at_most number what r items found)
at_most_fine ks {A = A} {B = B} G number what r items found h = through_all ks (λ later bs. AllByRecursion (G later) bs) (s.with_one_more number what r) items [] found (steps items h) (λ later l. tt)
  where
    steps : (items : List A) → AllByRecursion (λ a. (f : Found) → Kept ks G f (r a f)) items
        → AllByRecursion (λ a. (t : List B) (f : Found) → Onward ks found f → Later ks (λ later bs. AllByRecursion (G later) bs) f t → Kept ks (λ later bs. AllByRecursion (G later) bs) f (s.with_one_more number what r t a f)) items
    steps [] h = tt
    steps (a ∷ more) h = ((λ t f l g. where_fit ks (λ later bs. AllByRecursion (G later) bs) f (nat_lt (length t) number) (error.Limit what number) (with_next r t a) (λ e. next_one ks G r t a f g (h.0 f))), steps more h.1)

module _ (ks : List ℕ) (cx : Context) (have : HaveBits ks cx) where
  abbrev pub CondFine : Found → Cond → Type 0
  CondFine later c = IsBoundCondition (bits_in ks cx later.aggs) later.results c

  abbrev pub ExprFine : Found → Expr → Type 0
  ExprFine later e = IsBound (bits_in ks cx later.aggs) later.results e

  pub condition_stands : (p : Part) (found : Found) → PartStands p → MayStand cx p.aggregates → Kept ks CondFine found (condition_of p cx found)
  condition_stands p found h may = onwards ks (Fine ks cx) CondFine found (reads p cx found) (λ b. provided (is_truth b) (error.Type p.at) (give (cond_of b))) (h ks cx have may found) (λ b mid l g.
      where_fit ks CondFine mid (is_truth b) (error.Type p.at) (give (cond_of b)) (λ t. gives ks CondFine mid (cond_of b) (λ later m. (g later m).condition)))

  -- ---- values

  abbrev pub ValueFine : Found → Bound → Type 0
  ValueFine later b = Fine ks cx later b × (is_value b ≡ true)

  pub value_fine : (at : ℕ) (r : Reading Bound) (found : Found) → Kept ks (Fine ks cx) found (r found) → Kept ks ValueFine found (s.value_of at r found)
  value_fine at r found h = onwards ks (Fine ks cx) ValueFine found (r found) (λ b. provided (is_value b) (error.Type at) (give b)) h (λ b mid l g.
      where_fit ks ValueFine mid (is_value b) (error.Type at) (give b) (λ t. gives ks ValueFine mid b (λ later m. (g later m, t))))

  pub only_fine : (found : Found) (o : Result (Bound × Found) BindError) → Kept ks ValueFine found o → Kept ks (Fine ks cx) found o
  only_fine found o h = keep.kept_as (Onward ks) (now ks) (on ks) ValueFine (Fine ks cx) found o (λ later b g. g.0) h

  -- ---- the select list

  abbrev pub TargetFine : s.Target → Type 0
  TargetFine t = (found : Found) → Kept ks (Fine ks cx) found (t.reads cx found)

  abbrev pub TargetsFine : List s.Target → Type 0
  TargetsFine ts = AllByRecursion TargetFine ts

  star_fine : (at i : ℕ) (c : Source) → TargetFine (s.star_column at i c)
  star_fine at i c = behind_stands false false (λ d. named_in_group d (give (column_at d i)) at)
      (λ js d has may f. in_group_fine js d has f (give (column_at d i)) at (gives js (Plain js) f (column_at d i) (λ later l. column_at_stands js d has later.results i))) ks cx have (λ e. absurd (no_truth e))

  kept_if : (t : Bool) (x : s.Target) (ts : List s.Target) → TargetFine x → TargetsFine ts → TargetsFine (if t then x ∷ ts else ts)
  kept_if true x ts h k = (h, k)
  kept_if false x ts h k = k

  stars_fine : (at : ℕ) (is : Source → Bool) (i : ℕ) (cs : List Source) → TargetsFine (s.star_columns at is i cs)
  stars_fine at is i [] = tt
  stars_fine at is i (c ∷ more) = kept_if (is c) (s.star_column at i c) (s.star_columns at is (i + 1) more) (star_fine at i c) (stars_fine at is (i + 1) more)

  stars_of_fine : (at : ℕ) (is : Source → Bool) (cs : List Source) (t : Bool) → TargetsFine (if t then s.star_columns at is 0 cs else s.no_relation at ∷ [])
  stars_of_fine at is cs true = stars_fine at is 0 cs
  stars_of_fine at is cs false = ((λ found. tt), tt)

  abbrev pub ItemFine : ItemPart → Type 0
  ItemFine (All at) = ⊤
  ItemFine (AllOf relation at) = ⊤
  ItemFine (One p name) = PartStands p × MayStand cx p.aggregates

  targets_append : (ts us : List s.Target) → TargetsFine ts → TargetsFine us → TargetsFine (ts ++ us)
  targets_append [] us h k = k
  targets_append (t ∷ ts) us h k = (h.0, targets_append ts us h.1 k)

  targets_of_fine : (cs : List Source) (i : ItemPart) → ItemFine i → TargetsFine (s.targets_of cs i)
  targets_of_fine cs (All at) h = stars_fine at (λ s. true) 0 cs
  targets_of_fine cs (AllOf relation at) h = stars_of_fine at (is_of relation) cs _
  targets_of_fine cs (One p name) h = ((λ found. h.0 ks cx have h.1 found), tt)

  pub targets_fine : (cs : List Source) (items : List ItemPart) → AllByRecursion ItemFine items → TargetsFine (s.targets cs items)
  targets_fine cs [] h = tt
  targets_fine cs (i ∷ more) h = targets_append (s.targets_of cs i) (s.targets cs more) (targets_of_fine cs i h.0) (targets_fine cs more h.1)

  abbrev pub ShownFine : Found → Shown → Type 0
  ShownFine later x = ValueFine later x.bound

  target_value : (t : s.Target) (found : Found) → TargetFine t → Kept ks ValueFine found (s.value_of t.at (t.reads cx) found)
  target_value t found h = value_fine t.at (t.reads cx) found (h found)

  shown_fine : (t : s.Target) (found : Found) → TargetFine t → Kept ks ShownFine found (s.read_target cx t found)
  shown_fine t found h = onwards ks ValueFine ShownFine found (s.value_of t.at (t.reads cx) found) (λ b. give (record { title = t.title; bound = b })) (target_value t found h) (λ b mid l g.
      gives ks ShownFine mid (record { title = t.title; bound = b }) (λ later m. g later m))

  all_shown : (ts : List s.Target) → TargetsFine ts → AllByRecursion (λ t. (f : Found) → Kept ks ShownFine f (s.read_target cx t f)) ts
  all_shown [] h = tt
  all_shown (t ∷ more) h = ((λ f. shown_fine t f h.0), all_shown more h.1)

  pub outputs_fine : (ts : List s.Target) (found : Found) → TargetsFine ts → Kept ks (λ later xs. AllByRecursion (ShownFine later) xs) found (s.at_most 512 limited.Outputs (s.read_target cx) ts found)
  outputs_fine ts found h = at_most_fine ks ShownFine 512 limited.Outputs (s.read_target cx) ts found (all_shown ts h)

  -- ---- GROUP BY

  one_of_fine : (at : ℕ) (bs : List Bound) (found : Found) → Later ks (λ later bs. AllByRecursion (ValueFine later) bs) found bs → Kept ks (Fine ks cx) found (s.one_of at bs found)
  one_of_fine at [] found h = tt
  one_of_fine at (b ∷ more) found h = where_fit ks (Fine ks cx) found (list_all (s.same_as b) more) (error.Ambiguous at) (give b) (λ t. gives ks (Fine ks cx) found b (λ later l. (h later l).0.0))

  titled_fine : (name : List ℕ) (ts : List s.Target) → TargetsFine ts → TargetsFine (s.titled name ts)
  titled_fine name [] h = tt
  titled_fine name (t ∷ more) h = kept_if (bytes_eq t.title name) t (s.titled name more) h.0 (titled_fine name more h.1)

  all_values : (ts : List s.Target) (found : Found) → TargetsFine ts → AllByRecursion (λ t. (f : Found) → Onward ks found f → Kept ks ValueFine f (s.value_of t.at (t.reads cx) f)) ts
  all_values [] found h = tt
  all_values (t ∷ more) found h = ((λ f l. target_value t f h.0), all_values more found h.1)

  by_title_fine : (ts : List s.Target) (name : List ℕ) (at : ℕ) (found : Found) → TargetsFine ts → Kept ks (Fine ks cx) found (s.key_by_title cx ts name at found)
  by_title_fine ts name at found h = onwards ks (λ later bs. AllByRecursion (ValueFine later) bs) (Fine ks cx) found (each (λ t. s.value_of t.at (t.reads cx)) (s.titled name ts) found) (s.one_of at)
      (each_one ks ValueFine (λ t. s.value_of t.at (t.reads cx)) (s.titled name ts) found (all_values (s.titled name ts) found (titled_fine name ts h))) (λ bs mid l g. one_of_fine at bs mid g)

  by_place_fine : (ts : List s.Target) (n at : ℕ) (found : Found) → TargetsFine ts → Kept ks (Fine ks cx) found (s.key_by_place cx (s.nth n ts) at found)
  by_place_fine ts zero at found h = tt
  by_place_fine [] (suc n) at found h = tt
  by_place_fine (t ∷ ts) (suc zero) at found h = only_fine found _ (target_value t found h.0)
  by_place_fine (t ∷ ts) (suc (suc n)) at found h = by_place_fine ts (suc n) at found h.1

  by_name_fine : (ts : List s.Target) (p : Part) (name : List ℕ) (place : Place) (found : Found) → TargetsFine ts → PartStands p → MayStand cx p.aggregates → Kept ks (Fine ks cx) found (s.key_by_name cx ts p name place found)
  by_name_fine ts p name Nowhere found h k may = by_title_fine ts name p.at found h
  by_name_fine ts p name (Once i) found h k may = k ks cx have may found
  by_name_fine ts p name Repeated found h k may = k ks cx have may found

  key_by_fine : (ts : List s.Target) (p : Part) (form : Form) (found : Found) → TargetsFine ts → PartStands p → MayStand cx p.aggregates → Kept ks (Fine ks cx) found (s.group_key_by cx ts p form found)
  key_by_fine ts p (title.Number n) found h k may = by_place_fine ts n p.at found h
  key_by_fine ts p (title.Name name) found h k may = by_name_fine ts p name (place_of (has_name name) cx.columns) found h k may
  key_by_fine ts p (title.Signed sign n) found h k may = only_fine found _ (value_fine p.at (reads p cx) found (k ks cx have may found))
  key_by_fine ts p title.Other found h k may = only_fine found _ (value_fine p.at (reads p cx) found (k ks cx have may found))

  all_keys : (ts : List s.Target) (ps : List Part) → TargetsFine ts → AllByRecursion PartStands ps → (cx.may_aggregate ≡ false) → AllByRecursion (λ p. (f : Found) → Kept ks ExprFine f (s.group_key cx ts p f)) ps
  all_keys ts [] h k may = tt
  all_keys ts (p ∷ more) h k may = (
    (λ f. onwards ks (Fine ks cx) ExprFine f (s.group_key_by cx ts p p.form f) (λ b. give (expr_of b)) (key_by_fine ts p p.form f h k.0 (λ a m. absurd (no_truth (sym may ∙ m)))) (λ b mid l g.
        gives ks ExprFine mid (expr_of b) (λ later m. (g later m).expression))),
    all_keys ts more h k.1 may,
  )

  abbrev pub IfGroup : Option GroupPart → Type 0
  IfGroup None = ⊤
  IfGroup (Some g) = AllByRecursion PartStands g.keys

  pub group_keys_fine : (ts : List s.Target) (joined : Bool) (g : Option GroupPart) (found : Found) → TargetsFine ts → IfGroup g → cx.may_aggregate ≡ false → Kept ks (λ later es. AllByRecursion (ExprFine later) es) found (s.group_keys cx ts joined g found)
  group_keys_fine ts joined None found h k may = gives ks (λ later es. AllByRecursion (ExprFine later) es) found [] (λ later l. tt)
  group_keys_fine ts joined (Some g) found h k may = where_fit ks (λ later es. AllByRecursion (ExprFine later) es) found (not joined) (error.GroupedJoin g.at) (s.at_most 16 limited.Keys (s.group_key cx ts) g.keys) (λ t.
      at_most_fine ks ExprFine 16 limited.Keys (s.group_key cx ts) g.keys found (all_keys ts g.keys h k may))
