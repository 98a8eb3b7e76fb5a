-- Loops over the items of a select list, and over the columns that `*` stands for.
use Rattle.std.proofs.Common.{◌≡◌, ℕ, ◌+◌, ◌<◌, ◌≤◌, Bool, true, false, List, [], ◌∷◌, ◌++◌, drop, map, length, get_or, Option, None, Some, Result, Ok, Err, IsErrAnd, sym, subst, ap, refl, ◌∙◌, drop-cons, add-one}
use Rattle.std.proofs.lemmas.List.{drop_all}
use Rattle.std.specs.Prelude.{if◌then◌else◌}
use Rattle.std.specs.List.{list_any}
use Rattle.cq_grammar.specs.declared.name.Name.{Name}
use Rattle.cq_grammar.specs.declared.expr.Expr.{Expr}
use Rattle.cq_grammar.specs.declared.query.Item.{Item}
use Rattle.cq_grammar.specs.declared.query.Item.TheVariants as item
use Rattle.cq_reading.specs.declared.bound.Found.{Found}
use Rattle.cq_reading.specs.declared.bound.Source.{Source}
use Rattle.cq_reading.specs.declared.error.BindError.{BindError}
use Rattle.cq_reading.specs.Steps.{Reading, give, follow, ◌then◌, through}
use Rattle.cq_reading.specs.Outcomes.{Binds, Judges}
use Rattle.cq_reading.specs.Scopes.{is_of}
use Rattle.cq_reading.specs.Parts.{ItemPart, One}
use Rattle.cq_reading.specs.Selects.{Target, star_column, star_columns, stars_of, no_relation, targets_of, targets}
use Rattle.cq_reading.specs.Walk.{part_of, item_part}
use Rattle.cq_bind_looks.proofs.Looks.{item_All, item_AllOf, item_Value, item_Named}
use Rattle.cq_bind_lists.specs.Stars.{target_if, alias_of, value_target}
use Rattle.cq_bind_calls.proofs.Loops.{follow_same, err_is}

-- ---- lists behind each other

follow_twice : {A B C : Type 0} (o : Result (A × Found) BindError) (f : A → Reading B) (g : B → Reading C) (h : A → Reading C) → ((a : A) (k : Found) → h a k ≡ follow (f a k) g) → follow o h ≡ follow (follow o f) g
follow_twice (Ok p) f g h e = e p.0 p.1
follow_twice (Err x) f g h e = refl

pub through_append : {S A : Type 0} (r : S → A → Reading S) (xs ys : List A) (s : S) (f : Found) → through r (xs ++ ys) s f ≡ follow (through r xs s f) (through r ys)
through_append r [] ys s f = refl
through_append r (x ∷ xs) ys s f = follow_twice (r s x f) (through r xs) (through r ys) (through r (xs ++ ys)) (λ t k. through_append r xs ys t k)

pub by_items : {S A : Type 0} (r : S → Target → Reading S) (columns : List Source) (part : A → ItemPart) (xs : List A) (s : S) (f : Found)
    → through r (targets columns (map part xs)) s f ≡ through (λ t a. through r (targets_of columns (part a)) t) xs s f
by_items r columns part [] s f = refl
by_items r columns part (x ∷ xs) s f =
    through_append r (targets_of columns (part x)) (targets columns (map part xs)) s f
    ∙ follow_same (through r (targets_of columns (part x)) s f) (through r (targets columns (map part xs))) (through (λ t a. through r (targets_of columns (part a)) t) xs) (λ t k. by_items r columns part xs t k)

pub binds_items : {S A : Type 0} (r : S → Target → Reading S) (columns : List Source) (part : A → ItemPart) (xs : List A) (s t : S) (f : Found) (res : Result S BindError) (new : Found) → s ≡ t
    → Binds (through (λ u a. through r (targets_of columns (part a)) u) xs s f) res new → Binds (through r (targets columns (map part xs)) t f) res new
binds_items r columns part xs s t f res new e h = subst (λ u. Binds (through r (targets columns (map part xs)) u f) res new) e (subst (λ o. Binds o res new) (sym (by_items r columns part xs s f)) h)

pub binds_from : {S A : Type 0} (r : S → A → Reading S) (xs : List A) (s t : S) (f : Found) (res : Result S BindError) (new : Found) → s ≡ t → Binds (through r xs s f) res new → Binds (through r xs t f) res new
binds_from r xs s t f res new e h = subst (λ u. Binds (through r xs u f) res new) e h

-- ---- a list of one

follow_give : {A : Type 0} (o : Result (A × Found) BindError) → follow o give ≡ o
follow_give (Ok p) = refl
follow_give (Err x) = refl

pub binds_one : {S : Type 0} (r : S → Target → Reading S) (t : Target) (s : S) (f : Found) (res : Result S BindError) (new : Found) → Binds (r s t f) res new → Binds (through r (t ∷ []) s f) res new
binds_one r t s f res new h = subst (λ o. Binds o res new) (sym (follow_give (r s t f))) h

-- ---- the columns that `*` stands for

module _ {S : Type 0} (r : S → Target → Reading S) (at : ℕ) (is : Source → Bool) where
  -- one of them
  pub meant_so : (b : Bool) (s : S) (i : ℕ) (c : Source) (res : Result S BindError) → b ≡ true → Judges (r s (star_column at i c)) res → Judges (target_if r at b s i c) res
  meant_so b s i c res e h = λ f. subst (λ t. Binds (target_if r at t s i c f) res f) (sym e) (h f)

  pub not_meant : (b : Bool) (s : S) (i : ℕ) (c : Source) → b ≡ false → Judges (target_if r at b s i c) (Ok s)
  not_meant b s i c e = λ f. subst (λ t. Binds (target_if r at t s i c f) (Ok s) f) (sym e) refl

  star_first : (b : Bool) (x : Source) (xs : List Source) (s : S) (i : ℕ) (f : Found) → is x ≡ b → through r (star_columns at is i (x ∷ xs)) s f ≡ follow (target_if r at (is x) s i x f) (through r (star_columns at is (i + 1) xs))
  star_first true x xs s i f e = rw e refl
  star_first false x xs s i f e = rw e refl

  module _ (xs : List Source) (i : ℕ) (x d : Source) (s : S) where
    dropped : i < length xs → x ≡ get_or xs i d → drop i xs ≡ x ∷ drop (i + 1) xs
    dropped h k = rw (drop-cons xs i d, ← k, add-one)

    star_next : (f : Found) → i < length xs → x ≡ get_or xs i d → through r (star_columns at is i (drop i xs)) s f ≡ follow (target_if r at (is x) s i x f) (through r (star_columns at is (i + 1) (drop (i + 1) xs)))
    star_next f h k = ap (λ ys. through r (star_columns at is i ys) s f) (dropped h k) ∙ star_first (is x) x (drop (i + 1) xs) s i f refl

    -- one more column
    pub star_goes_on : (t : S) (o : Result (S × Found) BindError) (f : Found) → o ≡ through r (star_columns at is i (drop i xs)) s f → i < length xs → x ≡ get_or xs i d → Judges (target_if r at (is x) s i x) (Ok t) → o ≡ through r (star_columns at is (i + 1) (drop (i + 1) xs)) t f
    star_goes_on t o f q h k a = q ∙ star_next f h k ∙ ap (λ z. follow z (through r (star_columns at is (i + 1) (drop (i + 1) xs)))) (a f)

    -- a column that is refused
    pub star_stops : (e : BindError) (res : Result S BindError) (o : Result (S × Found) BindError) (f : Found) → o ≡ through r (star_columns at is i (drop i xs)) s f → i < length xs → x ≡ get_or xs i d → Judges (target_if r at (is x) s i x) (Err e) → IsErrAnd res (λ y. y ≡ e) → Binds o res f
    star_stops e res o f q h k a w = subst (λ z. Binds o z f) (sym (err_is res e w)) (λ ne. q ∙ star_next f h k ∙ ap (λ z. follow z (through r (star_columns at is (i + 1) (drop (i + 1) xs)))) (a f ne))

  -- after the last
  pub star_ends : (xs : List Source) (i : ℕ) (s : S) (o : Result (S × Found) BindError) (f : Found) → o ≡ through r (star_columns at is i (drop i xs)) s f → length xs ≤ i → o ≡ Ok (s, f)
  star_ends xs i s o f q h = q ∙ rw (drop_all _ _ h)

-- ---- a value under its name

pub item_value : (value : Expr) (name : Option Name) → item_part (item.Value value name) ≡ One (part_of value) (alias_of name)
item_value value None = item_Value value
item_value value (Some name) = item_Named value name

-- ---- the targets of an item

module _ {S : Type 0} (r : S → Target → Reading S) (columns : List Source) (s : S) (f : Found) (res : Result S BindError) (new : Found) where
  pub by_all : (x : Item) (at : ℕ) → x ≡ item.All at → Binds (through r (star_columns at (λ c. true) 0 columns) s f) res new → Binds (through r (targets_of columns (item_part x)) s f) res new
  by_all x at e h = subst (λ y. Binds (through r (targets_of columns (item_part y)) s f) res new) (sym e) (subst (λ i. Binds (through r (targets_of columns i) s f) res new) (sym (item_All at)) h)

  pub by_relation : (x : Item) (relation : Name) → x ≡ item.AllOf relation → Binds (through r (stars_of relation.at (is_of relation.text) columns) s f) res new → Binds (through r (targets_of columns (item_part x)) s f) res new
  by_relation x relation e h = subst (λ y. Binds (through r (targets_of columns (item_part y)) s f) res new) (sym e) (subst (λ i. Binds (through r (targets_of columns i) s f) res new) (sym (item_AllOf relation)) h)

  pub by_value : (x : Item) (value : Expr) (name : Option Name) → x ≡ item.Value value name → Binds (r s (value_target (part_of value) (alias_of name)) f) res new → Binds (through r (targets_of columns (item_part x)) s f) res new
  by_value x value name e h =
      subst (λ y. Binds (through r (targets_of columns (item_part y)) s f) res new) (sym e) (subst (λ i. Binds (through r (targets_of columns i) s f) res new) (sym (item_value value name)) (binds_one r (value_target (part_of value) (alias_of name)) s f res new h))

  pub there : (at : ℕ) (is : Source → Bool) (b : Bool) → b ≡ list_any is columns → b ≡ true → Binds (through r (star_columns at is 0 columns) s f) res new → Binds (through r (stars_of at is columns) s f) res new
  there at is b e d h = subst (λ t. Binds (through r (if t then star_columns at is 0 columns else no_relation at ∷ []) s f) res new) (sym d ∙ e) h

  pub not_there : (at : ℕ) (is : Source → Bool) (b : Bool) → b ≡ list_any is columns → b ≡ false → Binds (r s (no_relation at) f) res new → Binds (through r (stars_of at is columns) s f) res new
  not_there at is b e d h = subst (λ t. Binds (through r (if t then star_columns at is 0 columns else no_relation at ∷ []) s f) res new) (sym d ∙ e) (binds_one r (no_relation at) s f res new h)
