-- The nodes of expressions over parts that are well typed.
use Rattle.std.proofs.Common.{◌≡◌, ℕ, if◌then◌else◌, Bool, true, false, ◌&&◌, ◌||◌, not, List, [], ◌∷◌, map, length, refl, sym, subst}
use Rattle.std.specs.List.{AllByRecursion}
use Rattle.cq_value.proofs.Truths.{and_left}
use Rattle.cq_grammar.specs.declared.expr.NullTest.{NullTest}
use Rattle.cq_grammar.specs.declared.expr.Comparison.{Comparison}
use Rattle.cq_reading.specs.declared.bound.Found.{Found}
use Rattle.cq_reading.specs.declared.bound.Bound.{Bound}
use Rattle.cq_reading.specs.Steps.{Reading, give, through, with_next, each}
use Rattle.cq_reading.specs.Scopes.{Context, plain}
use Rattle.cq_reading.specs.Titles as title
use Rattle.cq_reading.specs.Rules as rule
use Rattle.cq_reading.specs.Parts.{Part, TestPart, LaterPart, AddedPart, MultipliedPart}
use Rattle.cq_reading.specs.Expressions as e
use Rattle.cq_reading.specs.Expressions.{reads, behind_keys}
use Rattle.cq_reading_laws.specs.Bounds.{MayStand}
use Rattle.cq_reading_laws.proofs.FromLeft.{from_left_keeps, from_left_aggregates}
use Rattle.cq_reading_laws.proofs.FineParts.{AnyOf, first_may, second_may}
use Rattle.cq_reading_laws.specs.Reach.{HaveKinds, WorldTyped, Onward}
use Rattle.cq_reading_laws.proofs.Standing.{no_truth}
use Rattle.cq_reading_laws.proofs.TypedKeeping.{Setting, Later, Run, Fine, on, lasts, gives, onwards, through_all, next_one, each_one}
use Rattle.cq_reading_laws.proofs.TypedRules.{coalesced_fine, added_fine, multiplied_fine, compared_fine, negated_fine, null_tested_fine, between_fine, listed_fine, chain_fine, PartsFine}
use Rattle.cq_reading_laws.proofs.TypedNames.{Plain, keyed_fine, alone}

-- what is in reach of a context has its types
pub record Reached (z : Setting) (cx : Context) : Type 0 where
  pub world : WorldTyped z.types cx.world
  pub reach : length cx.world.commons ≡ z.reach
  pub columns : HaveKinds z.columns cx

-- a reading of an expression gives what is well typed in each context that has its types
abbrev pub Reads : Bool → (Context → Reading Bound) → Type 0
Reads aggregates r = (z : Setting) (cx : Context) → Reached z cx → MayStand cx aggregates → (found : Found) → Run z cx (Later (Fine z cx)) found (r cx found)

abbrev pub PartTyped : Part → Type 0
PartTyped p = Reads p.aggregates (reads p)

by_case : (t : Bool) (r : Context → Reading Bound) (z : Setting) (cx : Context) (found : Found) → (t ≡ true → cx.grouped ≡ true) → Run (alone z cx found) (plain cx) (Later (Plain (alone z cx found))) rule.nothing
    (r (plain cx) rule.nothing) → Run z cx (Later (Fine z cx)) found (r cx found)
    → Run z cx (Later (Fine z cx)) found ((if t then rule.keyed cx.keys (r (plain cx)) (r cx) else r cx) found)
by_case true r z cx found grouped g h = keyed_fine z cx found (r (plain cx)) (r cx) (grouped refl) g h
by_case false r z cx found grouped g h = h

pub plainly : (z : Setting) (cx : Context) → Reached z cx → Reached z (plain cx)
plainly z cx h = record { world = h.world; reach = h.reach; columns = h.columns }

pub alone_reached : (z : Setting) (cx : Context) (found : Found) → Reached z cx → Reached (alone z cx found) (plain cx)
alone_reached z cx found h = record { world = h.world; reach = h.reach; columns = h.columns }

-- a node that is well typed is so as a whole key too
pub behind_typed : (selects aggregates : Bool) (r : Context → Reading Bound) → Reads aggregates r → Reads aggregates (behind_keys selects r)
behind_typed selects aggregates r h z cx have may found =
    by_case (cx.grouped && not selects) r z cx found (and_left cx.grouped (not selects)) (h (alone z cx found) (plain cx) (alone_reached z cx found have) (λ a b. absurd (no_truth b)) rule.nothing) (h z cx have may found)

-- a chain from left to right
from_left_typed : {A : Type 0} (part : A → Part) (step : Context → Bound → A → Reading Bound)
    → ((p : A) → PartTyped (part p) → (z : Setting) (cx : Context) → Reached z cx → MayStand cx (part p).aggregates → (x : Bound) (f : Found) → Later (Fine z cx) f x → Run z cx (Later (Fine z cx)) f (step cx x p f))
    → (rest : List A) (before : Part) → PartTyped before → AllByRecursion (λ p. PartTyped (part p)) rest → PartTyped (e.from_left part step before rest)
from_left_typed part step one = from_left_keeps part step PartTyped (λ before p h k. behind_typed _ _ (e.further part step before p).node (λ z cx have may found.
    onwards z cx (Later (Fine z cx)) (Later (Fine z cx)) found (reads before cx found) (λ a. step cx a p) (h z cx have (first_may cx before.aggregates _ may) found) (λ a mid l g.
    one p k z cx have (first_may cx (part p).aggregates false (second_may cx before.aggregates _ may)) a mid g)))

module _ (z : Setting) (cx : Context) (have : Reached z cx) where
  abbrev F : Found → Bound → Type 0
  F found b = Later (Fine z cx) found b

  pub not_typed : (inner : Part) (at : ℕ) → PartTyped inner → MayStand cx (AnyOf (inner ∷ [])) → (found : Found) → Run z cx F found (e.not_reading inner at cx found)
  not_typed inner at h may found = onwards z cx F F found (reads inner cx found) _ (h z cx have (first_may cx inner.aggregates false may) found) (λ a mid l g. negated_fine z cx mid a at g)

  pub compare_typed : (left : Part) (operator : Comparison) (right : Part) (at : ℕ) → PartTyped left → PartTyped right → MayStand cx (AnyOf (left ∷ right ∷ [])) → (found : Found) → Run z cx F found
      (e.compare_reading left operator right at cx found)
  compare_typed left operator right at h k may found =
      onwards z cx F F found (reads left cx found) _ (h z cx have (first_may cx left.aggregates _ may) found) (λ a mid l g.
      onwards z cx F F mid (reads right cx mid) _ (k z cx have (first_may cx right.aggregates _ (second_may cx left.aggregates _ may)) mid) (λ b end m f.
      compared_fine z cx end operator a b at (lasts (Fine z cx) mid end a m g) f))

  pub tested_typed : (operand : Part) (negated : Bool) (test : TestPart) (at : ℕ) → PartTyped operand
      → ((x : Bound) (mid : Found) → F mid x → Run z cx F mid (test.tests cx x negated at mid))
      → MayStand cx operand.aggregates → (found : Found) → Run z cx F found (e.tested_reading operand negated test at cx found)
  tested_typed operand negated test at h k may found =
      onwards z cx F F found (reads operand cx found) _ (h z cx have may found) (λ x mid l g. k x mid g)

  -- ---- chains

  abbrev Ps : Found → List rule.ChainPart → Type 0
  Ps found ps = Later (PartsFine z cx) found ps

  later_steps : (rest : List LaterPart) → AllByRecursion (λ l. PartTyped l.part) rest → MayStand cx (AnyOf (e.parts_behind rest)) → (mid : Found)
      → AllByRecursion (λ l. (ps : List rule.ChainPart) (f : Found) → Onward mid f → Ps f ps → Run z cx Ps f (with_next (e.read_later cx) ps l f)) rest
  later_steps [] h may mid = tt
  later_steps (l ∷ more) h may mid = (
    (λ ps f n g. next_one z cx (λ later (p : rule.ChainPart). Fine z cx later p.0) (e.read_later cx) ps l f g
        (onwards z cx F (Later (λ later (p : rule.ChainPart). Fine z cx later p.0)) f (reads l.part cx f) (λ b. give (b, l.at)) (h.0 z cx have (first_may cx l.part.aggregates _ may) f)
        (λ b end m k. gives z cx (Later (λ later (p : rule.ChainPart). Fine z cx later p.0)) end (b, l.at) (λ later o. k later o)))),
    later_steps more h.1 (second_may cx l.part.aggregates _ may) mid,
  )

  pub chain_typed : (any : Bool) (first : Part) (rest : List LaterPart) → PartTyped first → AllByRecursion (λ l. PartTyped l.part) rest → MayStand cx (AnyOf (first ∷ e.parts_behind rest)) → (found : Found) → Run z cx F found
      (e.chain_reading any first rest cx found)
  chain_typed any first rest h k may found =
      onwards z cx F F found (reads first cx found) _ (h z cx have (first_may cx first.aggregates _ may) found) (λ a mid l g.
      onwards z cx Ps F mid (through (with_next (e.read_later cx)) rest ((a, 0) ∷ []) mid) (rule.chained any)
      (through_all z cx Ps (with_next (e.read_later cx)) rest ((a, 0) ∷ []) mid (later_steps rest k (second_may cx first.aggregates _ may) mid) (λ later m. (g later m, tt)))
      (λ ps end m f. chain_fine z cx (length ps) any ps end f))

  -- ---- NULL tests, sums and products

  null_steps : (rest : List NullTest) (mid : Found) → AllByRecursion (λ (t : NullTest). (a : Bound) (f : Found) → Onward mid f → F f a → Run z cx F f (rule.null_tested t.negated a t.at f)) rest
  null_steps [] mid = tt
  null_steps (t ∷ more) mid = ((λ a f n g. null_tested_fine z cx f t.negated a t.at g), null_steps more mid)

  pub is_typed : (first : Part) (rest : List NullTest) → PartTyped first → MayStand cx (AnyOf (first ∷ [])) → (found : Found) → Run z cx F found (e.is_reading first rest cx found)
  is_typed first rest h may found =
      onwards z cx F F found (reads first cx found) (e.null_tests rest) (h z cx have (first_may cx first.aggregates false may) found) (λ a mid l g.
      through_all z cx F (λ a t. rule.null_tested t.negated a t.at) rest a mid (null_steps rest mid) g)

  pub sum_typed : (first : Part) (rest : List AddedPart) → PartTyped first → AllByRecursion (λ p. PartTyped p.part) rest → MayStand cx (AnyOf (first ∷ map (λ p. p.part) rest)) → (found : Found) → Run z cx F found
      (e.sum_reading first rest cx found)
  sum_typed first rest h k may = from_left_typed (λ p. p.part) e.with_added
      (λ p g y c reached m a f i. onwards y c (Later (Fine y c)) (Later (Fine y c)) f (reads p.part c f) (λ b. rule.added p.operator a b p.at) (g y c reached m f)
      (λ b end l q. added_fine y c end p.operator a b p.at (lasts (Fine y c) f end a l i) q))
      rest first h k z cx have (subst (MayStand cx) (sym (from_left_aggregates (λ p. p.part) e.with_added rest first)) may)

  pub product_typed : (first : Part) (rest : List MultipliedPart) → PartTyped first → AllByRecursion (λ p. PartTyped p.part) rest → MayStand cx (AnyOf (first ∷ map (λ p. p.part) rest)) → (found : Found) → Run z cx F found
      (e.product_reading first rest cx found)
  product_typed first rest h k may = from_left_typed (λ p. p.part) e.with_multiplied
      (λ p g y c reached m a f i. onwards y c (Later (Fine y c)) (Later (Fine y c)) f (reads p.part c f) (λ b. rule.multiplied p.operator a b (title.literal_of p.part.form) p.at) (g y c reached m f)
      (λ b end l q. multiplied_fine y c end p.operator a b (title.literal_of p.part.form) p.at (lasts (Fine y c) f end a l i) q))
      rest first h k z cx have (subst (MayStand cx) (sym (from_left_aggregates (λ p. p.part) e.with_multiplied rest first)) may)

  -- ---- lists

  abbrev pub Bs : Found → List Bound → Type 0
  Bs found bs = Later (λ later bs. AllByRecursion (Fine z cx later) bs) found bs

  pub all_read : (ps : List Part) → AllByRecursion PartTyped ps → MayStand cx (AnyOf ps) → (mid : Found) → AllByRecursion (λ p. (f : Found) → Onward mid f → Run z cx F f (reads p cx f)) ps
  all_read [] h may mid = tt
  all_read (p ∷ more) h may mid = ((λ f l. h.0 z cx have (first_may cx p.aggregates _ may) f), all_read more h.1 (second_may cx p.aggregates _ may) mid)

  pub list_typed : (items : List Part) → AllByRecursion PartTyped items → MayStand cx (AnyOf items) → (x : Bound) (negate : Bool) (at : ℕ) (found : Found) → F found x → Run z cx F found
      (e.in_list_reading items cx x negate at found)
  list_typed items h may x negate at found g =
      onwards z cx Bs F found (each (λ p. reads p cx) items found) (λ bs. rule.listed negate x bs at)
      (each_one z cx (Fine z cx) (λ p. reads p cx) items found (all_read items h may found)) (λ bs end l k. listed_fine z cx end negate x bs at (lasts (Fine z cx) found end x l g) k)

  pub between_typed : (low high : Part) → PartTyped low → PartTyped high → MayStand cx (low.aggregates || high.aggregates) → (x : Bound) (negate : Bool) (at : ℕ) (found : Found) → F found x → Run z cx F found
      (e.between_reading low high cx x negate at found)
  between_typed low high h k may x negate at found g =
      onwards z cx F F found (reads low cx found) _ (h z cx have (first_may cx low.aggregates _ may) found) (λ a mid l f.
      onwards z cx F F mid (reads high cx mid) (λ b. rule.between negate x a b at) (k z cx have (second_may cx low.aggregates _ may) mid) (λ b end m i.
      between_fine z cx end negate x a b at (lasts (Fine z cx) found end x (on found mid end l m) g) (lasts (Fine z cx) mid end a m f) i))

  pub coalesce_typed : (items : List Part) (at : ℕ) → AllByRecursion PartTyped items → MayStand cx (AnyOf items) → (found : Found) → Run z cx F found (e.coalesce_reading items at cx found)
  coalesce_typed items at h may found =
      onwards z cx Bs F found (each (λ p. reads p cx) items found) (λ bs. rule.coalesced bs at)
      (each_one z cx (Fine z cx) (λ p. reads p cx) items found (all_read items h may found)) (λ bs end l k. coalesced_fine z cx end bs at k)
