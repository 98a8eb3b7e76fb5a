-- The select list and the keys of GROUP BY are well typed.
use Rattle.std.proofs.Common.{◌≡◌, ℕ, zero, suc, ◌+◌, if◌then◌else◌, Bool, true, false, not, List, [], ◌∷◌, ◌++◌, length, sym, ◌∙◌, Option, None, Some}
use Rattle.std.specs.Prelude.{⊤, bytes_eq, nat_lt}
use Rattle.std.specs.List.{AllByRecursion, list_all}
use Rattle.cq_tree.specs.declared.expression.Expr.{Expr}
use Rattle.cq_tree.specs.declared.expression.Cond.{Cond}
use Rattle.cq_reading.specs.declared.bound.Found.{Found}
use Rattle.cq_reading.specs.declared.bound.Source.{Source}
use Rattle.cq_reading.specs.declared.bound.Bound.{Bound}
use Rattle.cq_reading.specs.declared.bound.Shown.{Shown}
use Rattle.cq_reading.specs.declared.error.Limited.{Limited}
use Rattle.cq_reading.specs.declared.error.BindError.TheVariants as error
use Rattle.cq_reading.specs.declared.error.Limited.TheVariants as limited
use Rattle.cq_reading.specs.Steps.{Reading, give, provided, with_next, each}
use Rattle.cq_reading.specs.Widths.{is_value, is_truth, expr_of, cond_of}
use Rattle.cq_reading.specs.Scopes.{Context, Place, Nowhere, Once, Repeated, place_of, column_at, has_name, is_of}
use Rattle.cq_reading.specs.Titles as title
use Rattle.cq_reading.specs.Titles.{Form}
use Rattle.cq_reading.specs.Parts.{Part, ItemPart, All, AllOf, One, GroupPart}
use Rattle.cq_reading.specs.Expressions.{reads, named_in_group}
use Rattle.cq_reading.specs.Relations.{condition_of}
use Rattle.cq_reading.specs.Selects as s
use Rattle.cq_reading_laws.specs.Bounds.{MayStand}
use Rattle.cq_reading_laws.specs.Typing.{IsTyped, IsTypedCondition}
use Rattle.cq_reading_laws.specs.Reach.{types_in, Onward}
use Rattle.cq_reading_laws.proofs.Standing.{no_truth}
use Rattle.cq_reading_laws.proofs.TypedKeeping.{Setting, Given, Later, AllLater, Run, Fine, gives, where_fit, onwards, through_all, next_one, each_one}
use Rattle.cq_reading_laws.proofs.TypedNames.{Plain, column_at_sound, in_group_fine}
use Rattle.cq_reading_laws.proofs.TypedParts.{Reached, PartTyped, behind_typed}

-- each in turn, of which there are at most so many
at_most_fine : (z : Setting) (cx : Context) {A B : Type 0} (G : Found → B → Type 0) (number : ℕ) (what : Limited) (r : A → Reading B) (items : List A) (found : Found)
    → AllByRecursion (λ a. (f : Found) → Run z cx (Later G) f (r a f)) items → Run z cx (AllLater z cx G) found (s.at_most number what r items found)
at_most_fine z cx {A = A} {B = B} G number what r items found h = through_all z cx (AllLater z cx G) (s.with_one_more number what r) items [] found (steps items h) (λ later l. tt)
  where
    steps : (items : List A) → AllByRecursion (λ a. (f : Found) → Run z cx (Later G) f (r a f)) items
        → AllByRecursion (λ a. (t : List B) (f : Found) → Onward found f → AllLater z cx G f t → Run z cx (AllLater z cx G) f (s.with_one_more number what r t a f)) items
    steps [] h = tt
    steps (a ∷ more) h = ((λ t f l g. where_fit z cx (AllLater z cx G) f (nat_lt (length t) number) (error.Limit what number) (with_next r t a) (λ e. next_one z cx G r t a f g (h.0 f))), steps more h.1)

module _ (z : Setting) (cx : Context) (have : Reached z cx) where
  abbrev F : Found → Bound → Type 0
  F found b = Later (Fine z cx) found b

  abbrev pub CondFine : Found → Cond → Type 0
  CondFine later c = Given z later → IsTypedCondition (types_in z.columns cx later.aggs) z.types.results c

  abbrev pub ExprFine : Found → Expr → Type 0
  ExprFine later e = Given z later → IsTyped (types_in z.columns cx later.aggs) z.types.results e

  pub condition_typed : (p : Part) (found : Found) → PartTyped p → MayStand cx p.aggregates → Run z cx (Later CondFine) found (condition_of p cx found)
  condition_typed p found h may = onwards z cx F (Later CondFine) found (reads p cx found) (λ b. provided (is_truth b) (error.Type p.at) (give (cond_of b))) (h z cx have may found) (λ b mid l g.
      where_fit z cx (Later CondFine) mid (is_truth b) (error.Type p.at) (give (cond_of b)) (λ t. gives z cx (Later CondFine) mid (cond_of b) (λ later m. (g later m).condition)))

  -- ---- values

  pub value_fine : (at : ℕ) (r : Reading Bound) (found : Found) → Run z cx F found (r found) → Run z cx F found (s.value_of at r found)
  value_fine at r found h = onwards z cx F F found (r found) (λ b. provided (is_value b) (error.Type at) (give b)) h (λ b mid l g.
      where_fit z cx F mid (is_value b) (error.Type at) (give b) (λ t. gives z cx F mid b g))

  -- ---- the select list

  abbrev pub TargetFine : s.Target → Type 0
  TargetFine t = (found : Found) → Run z cx F found (t.reads cx found)

  abbrev pub TargetsFine : List s.Target → Type 0
  TargetsFine ts = AllByRecursion TargetFine ts

  star_fine : (at i : ℕ) (c : Source) → TargetFine (s.star_column at i c)
  star_fine at i c = behind_typed false false (λ d. named_in_group d (give (column_at d i)) at)
      (λ y d has may f. in_group_fine y d has.columns f (give (column_at d i)) at (gives y d (Later (Plain y)) f (column_at d i) (λ later l. column_at_sound y d has.columns (Given y later) i))) z cx have (λ e. absurd (no_truth e))

  kept_if : (t : Bool) (x : s.Target) (ts : List s.Target) → TargetFine x → TargetsFine ts → TargetsFine (if t then x ∷ ts else ts)
  kept_if true x ts h k = (h, k)
  kept_if false x ts h k = k

  stars_fine : (at : ℕ) (is : Source → Bool) (i : ℕ) (cs : List Source) → TargetsFine (s.star_columns at is i cs)
  stars_fine at is i [] = tt
  stars_fine at is i (c ∷ more) = kept_if (is c) (s.star_column at i c) (s.star_columns at is (i + 1) more) (star_fine at i c) (stars_fine at is (i + 1) more)

  stars_of_fine : (at : ℕ) (is : Source → Bool) (cs : List Source) (t : Bool) → TargetsFine (if t then s.star_columns at is 0 cs else s.no_relation at ∷ [])
  stars_of_fine at is cs true = stars_fine at is 0 cs
  stars_of_fine at is cs false = ((λ found good. tt), tt)

  abbrev pub ItemFine : ItemPart → Type 0
  ItemFine (All at) = ⊤
  ItemFine (AllOf relation at) = ⊤
  ItemFine (One p name) = PartTyped p × MayStand cx p.aggregates

  targets_append : (ts us : List s.Target) → TargetsFine ts → TargetsFine us → TargetsFine (ts ++ us)
  targets_append [] us h k = k
  targets_append (t ∷ ts) us h k = (h.0, targets_append ts us h.1 k)

  targets_of_fine : (cs : List Source) (i : ItemPart) → ItemFine i → TargetsFine (s.targets_of cs i)
  targets_of_fine cs (All at) h = stars_fine at (λ s. true) 0 cs
  targets_of_fine cs (AllOf relation at) h = stars_of_fine at (is_of relation) cs _
  targets_of_fine cs (One p name) h = ((λ found. h.0 z cx have h.1 found), tt)

  pub targets_fine : (cs : List Source) (items : List ItemPart) → AllByRecursion ItemFine items → TargetsFine (s.targets cs items)
  targets_fine cs [] h = tt
  targets_fine cs (i ∷ more) h = targets_append (s.targets_of cs i) (s.targets cs more) (targets_of_fine cs i h.0) (targets_fine cs more h.1)

  abbrev pub ShownFine : Found → Shown → Type 0
  ShownFine later x = Fine z cx later x.bound

  target_value : (t : s.Target) (found : Found) → TargetFine t → Run z cx F found (s.value_of t.at (t.reads cx) found)
  target_value t found h = value_fine t.at (t.reads cx) found (h found)

  shown_fine : (t : s.Target) (found : Found) → TargetFine t → Run z cx (Later ShownFine) found (s.read_target cx t found)
  shown_fine t found h = onwards z cx F (Later ShownFine) found (s.value_of t.at (t.reads cx) found) (λ b. give (record { title = t.title; bound = b })) (target_value t found h) (λ b mid l g.
      gives z cx (Later ShownFine) mid (record { title = t.title; bound = b }) (λ later m. g later m))

  all_shown : (ts : List s.Target) → TargetsFine ts → AllByRecursion (λ t. (f : Found) → Run z cx (Later ShownFine) f (s.read_target cx t f)) ts
  all_shown [] h = tt
  all_shown (t ∷ more) h = ((λ f. shown_fine t f h.0), all_shown more h.1)

  pub outputs_fine : (ts : List s.Target) (found : Found) → TargetsFine ts → Run z cx (AllLater z cx ShownFine) found (s.at_most 512 limited.Outputs (s.read_target cx) ts found)
  outputs_fine ts found h = at_most_fine z cx ShownFine 512 limited.Outputs (s.read_target cx) ts found (all_shown ts h)

  -- ---- GROUP BY

  one_of_fine : (at : ℕ) (bs : List Bound) (found : Found) → AllLater z cx (Fine z cx) found bs → Run z cx F found (s.one_of at bs found)
  one_of_fine at [] found h = λ good. tt
  one_of_fine at (b ∷ more) found h = where_fit z cx F found (list_all (s.same_as b) more) (error.Ambiguous at) (give b) (λ t. gives z cx F found b (λ later l. (h later l).0))

  titled_fine : (name : List ℕ) (ts : List s.Target) → TargetsFine ts → TargetsFine (s.titled name ts)
  titled_fine name [] h = tt
  titled_fine name (t ∷ more) h = kept_if (bytes_eq t.title name) t (s.titled name more) h.0 (titled_fine name more h.1)

  all_values : (ts : List s.Target) (found : Found) → TargetsFine ts → AllByRecursion (λ t. (f : Found) → Onward found f → Run z cx F f (s.value_of t.at (t.reads cx) f)) ts
  all_values [] found h = tt
  all_values (t ∷ more) found h = ((λ f l. target_value t f h.0), all_values more found h.1)

  by_title_fine : (ts : List s.Target) (name : List ℕ) (at : ℕ) (found : Found) → TargetsFine ts → Run z cx F found (s.key_by_title cx ts name at found)
  by_title_fine ts name at found h = onwards z cx (AllLater z cx (Fine z cx)) F found (each (λ t. s.value_of t.at (t.reads cx)) (s.titled name ts) found) (s.one_of at)
      (each_one z cx (Fine z cx) (λ t. s.value_of t.at (t.reads cx)) (s.titled name ts) found (all_values (s.titled name ts) found (titled_fine name ts h))) (λ bs mid l g. one_of_fine at bs mid g)

  by_place_fine : (ts : List s.Target) (n at : ℕ) (found : Found) → TargetsFine ts → Run z cx F found (s.key_by_place cx (s.nth n ts) at found)
  by_place_fine ts zero at found h = λ good. tt
  by_place_fine [] (suc n) at found h = λ good. tt
  by_place_fine (t ∷ ts) (suc zero) at found h = target_value t found h.0
  by_place_fine (t ∷ ts) (suc (suc n)) at found h = by_place_fine ts (suc n) at found h.1

  by_name_fine : (ts : List s.Target) (p : Part) (name : List ℕ) (place : Place) (found : Found) → TargetsFine ts → PartTyped p → MayStand cx p.aggregates → Run z cx F found (s.key_by_name cx ts p name place found)
  by_name_fine ts p name Nowhere found h k may = by_title_fine ts name p.at found h
  by_name_fine ts p name (Once i) found h k may = k z cx have may found
  by_name_fine ts p name Repeated found h k may = k z cx have may found

  key_by_fine : (ts : List s.Target) (p : Part) (form : Form) (found : Found) → TargetsFine ts → PartTyped p → MayStand cx p.aggregates → Run z cx F found (s.group_key_by cx ts p form found)
  key_by_fine ts p (title.Number n) found h k may = by_place_fine ts n p.at found h
  key_by_fine ts p (title.Name name) found h k may = by_name_fine ts p name (place_of (has_name name) cx.columns) found h k may
  key_by_fine ts p (title.Signed sign n) found h k may = value_fine p.at (reads p cx) found (k z cx have may found)
  key_by_fine ts p title.Other found h k may = value_fine p.at (reads p cx) found (k z cx have may found)

  all_keys : (ts : List s.Target) (ps : List Part) → TargetsFine ts → AllByRecursion PartTyped ps → (cx.may_aggregate ≡ false) → AllByRecursion (λ p. (f : Found) → Run z cx (Later ExprFine) f (s.group_key cx ts p f)) ps
  all_keys ts [] h k may = tt
  all_keys ts (p ∷ more) h k may = (
    (λ f. onwards z cx F (Later ExprFine) f (s.group_key_by cx ts p p.form f) (λ b. give (expr_of b)) (key_by_fine ts p p.form f h k.0 (λ a m. absurd (no_truth (sym may ∙ m)))) (λ b mid l g.
        gives z cx (Later ExprFine) mid (expr_of b) (λ later m. (g later m).expression))),
    all_keys ts more h k.1 may,
  )

  abbrev pub IfGroup : Option GroupPart → Type 0
  IfGroup None = ⊤
  IfGroup (Some g) = AllByRecursion PartTyped g.keys

  pub group_keys_fine : (ts : List s.Target) (joined : Bool) (g : Option GroupPart) (found : Found) → TargetsFine ts → IfGroup g → cx.may_aggregate ≡ false → Run z cx (AllLater z cx ExprFine) found
      (s.group_keys cx ts joined g found)
  group_keys_fine ts joined None found h k may = gives z cx (AllLater z cx ExprFine) found [] (λ later l. tt)
  group_keys_fine ts joined (Some g) found h k may = where_fit z cx (AllLater z cx ExprFine) found (not joined) (error.GroupedJoin g.at) (s.at_most 16 limited.Keys (s.group_key cx ts) g.keys) (λ t.
      at_most_fine z cx ExprFine 16 limited.Keys (s.group_key cx ts) g.keys found (all_keys ts g.keys h k may))
