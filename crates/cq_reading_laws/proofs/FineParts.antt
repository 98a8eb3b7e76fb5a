-- The nodes of expressions over parts that stand.
use Rattle.std.proofs.Common.{◌≡◌, ℕ, if◌then◌else◌, Bool, true, false, ◌&&◌, ◌||◌, not, List, [], ◌∷◌, map, length, refl, sym, subst}
use Rattle.std.specs.List.{AllByRecursion}
use Rattle.cq_value.proofs.Truths.{and_left}
use Rattle.cq_grammar.specs.declared.expr.NullTest.{NullTest}
use Rattle.cq_grammar.specs.declared.expr.Comparison.{Comparison}
use Rattle.cq_reading.specs.declared.bound.Found.{Found}
use Rattle.cq_reading.specs.declared.bound.Bound.{Bound}
use Rattle.cq_reading.specs.Steps.{Reading, give, ◌then◌, through, with_next, each}
use Rattle.cq_reading.specs.Scopes.{Context, plain}
use Rattle.cq_reading.specs.Titles as title
use Rattle.cq_reading.specs.Titles.{Form}
use Rattle.cq_reading.specs.Rules as rule
use Rattle.cq_reading.specs.Parts.{Part, TestPart, LaterPart, AddedPart, MultipliedPart}
use Rattle.cq_reading.specs.Expressions as e
use Rattle.cq_reading.specs.Expressions.{reads, behind_keys}
use Rattle.cq_reading_laws.specs.Bounds.{HaveBits, MayStand, Onward}
use Rattle.cq_reading_laws.proofs.Onwards.{Later, Kept, Fine, on, lasts, gives, onwards, through_all, next_one, each_one}
use Rattle.cq_reading_laws.proofs.Standing.{no_truth}
use Rattle.cq_reading_laws.proofs.FromLeft.{from_left_keeps, from_left_aggregates}
use Rattle.cq_reading_laws.proofs.FineRules.{added_fine, multiplied_fine, compared_fine, negated_fine, null_tested_fine, between_fine, listed_fine, chain_fine, PartsFine}
use Rattle.cq_reading_laws.proofs.FineNames.{Plain, keyed_fine}

-- a reading of an expression gives what stands in each context whose columns have their bits
abbrev pub Stand : Bool → (Context → Reading Bound) → Type 0
Stand aggregates r = (ks : List ℕ) (cx : Context) → HaveBits ks cx → MayStand cx aggregates → (found : Found) → Kept ks (Fine ks cx) found (r cx found)

abbrev pub PartStands : Part → Type 0
PartStands p = Stand p.aggregates (reads p)

by_case : (t : Bool) (r : Context → Reading Bound) (ks : List ℕ) (cx : Context) (found : Found) → (t ≡ true → cx.grouped ≡ true) → Kept ks (Plain ks) rule.nothing (r (plain cx) rule.nothing) → Kept ks (Fine ks cx) found (r cx found)
    → Kept ks (Fine ks cx) found ((if t then rule.keyed cx.keys (r (plain cx)) (r cx) else r cx) found)
by_case true r ks cx found grouped g h = keyed_fine ks cx found (r (plain cx)) (r cx) (grouped refl) g h
by_case false r ks cx found grouped g h = h

-- a node that stands, stands as a whole key too
pub behind_stands : (selects aggregates : Bool) (r : Context → Reading Bound) → Stand aggregates r → Stand aggregates (behind_keys selects r)
behind_stands selects aggregates r h ks cx have may found =
    by_case (cx.grouped && not selects) r ks cx found (and_left cx.grouped (not selects)) (h ks (plain cx) have (λ a b. absurd (no_truth b)) rule.nothing) (h ks cx have may found)

abbrev pub AnyOf : List Part → Bool
AnyOf ps = e.any_aggregates ps

pub first_may : (cx : Context) (a b : Bool) → MayStand cx (a || b) → MayStand cx a
first_may cx true b h is = h is
first_may cx false b h is = absurd (no_truth is)

pub second_may : (cx : Context) (a b : Bool) → MayStand cx (a || b) → MayStand cx b
second_may cx true b h is = h refl
second_may cx false b h is = h is

-- a chain from left to right
from_left_stands : {A : Type 0} (part : A → Part) (step : Context → Bound → A → Reading Bound)
    → ((p : A) → PartStands (part p) → (ks : List ℕ) (cx : Context) → HaveBits ks cx → MayStand cx (part p).aggregates → (x : Bound) (f : Found) → Later ks (Fine ks cx) f x → Kept ks (Fine ks cx) f (step cx x p f))
    → (rest : List A) (before : Part) → PartStands before → AllByRecursion (λ p. PartStands (part p)) rest → PartStands (e.from_left part step before rest)
from_left_stands part step one = from_left_keeps part step PartStands (λ before p h k. behind_stands _ _ (e.further part step before p).node (λ ks cx have may found.
    onwards ks (Fine ks cx) (Fine ks cx) found (reads before cx found) (λ a. step cx a p) (h ks cx have (first_may cx before.aggregates _ may) found) (λ a mid l g.
    one p k ks cx have (first_may cx (part p).aggregates false (second_may cx before.aggregates _ may)) a mid g)))

module _ (ks : List ℕ) (cx : Context) (have : HaveBits ks cx) where
  pub not_stands : (inner : Part) (at : ℕ) → PartStands inner → MayStand cx (AnyOf (inner ∷ [])) → (found : Found) → Kept ks (Fine ks cx) found (e.not_reading inner at cx found)
  not_stands inner at h may found = onwards ks (Fine ks cx) (Fine ks cx) found (reads inner cx found) _ (h ks cx have (first_may cx inner.aggregates false may) found) (λ a mid l g. negated_fine ks cx mid a at g)

  pub compare_stands : (left : Part) (operator : Comparison) (right : Part) (at : ℕ) → PartStands left → PartStands right → MayStand cx (AnyOf (left ∷ right ∷ [])) → (found : Found) → Kept ks (Fine ks cx) found (e.compare_reading left operator right at cx found)
  compare_stands left operator right at h k may found =
      onwards ks (Fine ks cx) (Fine ks cx) found (reads left cx found) _ (h ks cx have (first_may cx left.aggregates _ may) found) (λ a mid l g.
      onwards ks (Fine ks cx) (Fine ks cx) mid (reads right cx mid) _ (k ks cx have (first_may cx right.aggregates _ (second_may cx left.aggregates _ may)) mid) (λ b end m f.
      compared_fine ks cx end operator a b at (lasts ks (Fine ks cx) mid end a m g) f))

  pub tested_stands : (operand : Part) (negated : Bool) (test : TestPart) (at : ℕ) → PartStands operand
      → ((x : Bound) (mid : Found) → Later ks (Fine ks cx) mid x → Kept ks (Fine ks cx) mid (test.tests cx x negated at mid))
      → MayStand cx operand.aggregates → (found : Found) → Kept ks (Fine ks cx) found (e.tested_reading operand negated test at cx found)
  tested_stands operand negated test at h k may found =
      onwards ks (Fine ks cx) (Fine ks cx) found (reads operand cx found) _ (h ks cx have may found) (λ x mid l g. k x mid g)

  -- ---- chains

  later_steps : (rest : List LaterPart) → AllByRecursion (λ l. PartStands l.part) rest → MayStand cx (AnyOf (e.parts_behind rest))
      → AllByRecursion (λ l. (ps : List rule.ChainPart) (f : Found) → Later ks (PartsFine ks cx) f ps → Kept ks (PartsFine ks cx) f (with_next (e.read_later cx) ps l f)) rest
  later_steps [] h may = tt
  later_steps (l ∷ more) h may = (
    (λ ps f g. next_one ks (λ later (p : rule.ChainPart). Fine ks cx later p.0) (e.read_later cx) ps l f g
        (onwards ks (Fine ks cx) (λ later (p : rule.ChainPart). Fine ks cx later p.0) f (reads l.part cx f) (λ b. give (b, l.at)) (h.0 ks cx have (first_may cx l.part.aggregates _ may) f)
        (λ b end m k. gives ks (λ later (p : rule.ChainPart). Fine ks cx later p.0) end (b, l.at) (λ later n. k later n)))),
    later_steps more h.1 (second_may cx l.part.aggregates _ may),
  )

  pub chain_stands : (any : Bool) (first : Part) (rest : List LaterPart) → PartStands first → AllByRecursion (λ l. PartStands l.part) rest → MayStand cx (AnyOf (first ∷ e.parts_behind rest)) → (found : Found) → Kept ks (Fine ks cx) found (e.chain_reading any first rest cx found)
  chain_stands any first rest h k may found =
      onwards ks (Fine ks cx) (Fine ks cx) found (reads first cx found) _ (h ks cx have (first_may cx first.aggregates _ may) found) (λ a mid l g.
      onwards ks (PartsFine ks cx) (Fine ks cx) mid (through (with_next (e.read_later cx)) rest ((a, 0) ∷ []) mid) (rule.chained any)
      (through_all ks (PartsFine ks cx) (with_next (e.read_later cx)) rest ((a, 0) ∷ []) mid (dropped rest (later_steps rest k (second_may cx first.aggregates _ may)) mid) (λ later m. (g later m, tt)))
      (λ ps end m f. chain_fine ks cx (length ps) any ps end f))
    where
      dropped : (rest : List LaterPart) → AllByRecursion (λ l. (ps : List rule.ChainPart) (f : Found) → Later ks (PartsFine ks cx) f ps → Kept ks (PartsFine ks cx) f (with_next (e.read_later cx) ps l f)) rest → (mid : Found)
          → AllByRecursion (λ l. (ps : List rule.ChainPart) (f : Found) → Onward ks mid f → Later ks (PartsFine ks cx) f ps → Kept ks (PartsFine ks cx) f (with_next (e.read_later cx) ps l f)) rest
      dropped [] h mid = tt
      dropped (l ∷ more) h mid = ((λ ps f on g. h.0 ps f g), dropped more h.1 mid)

  -- ---- NULL tests, sums and products

  null_steps : (rest : List NullTest) (mid : Found) → AllByRecursion (λ (t : NullTest). (a : Bound) (f : Found) → Onward ks mid f → Later ks (Fine ks cx) f a → Kept ks (Fine ks cx) f (rule.null_tested t.negated a t.at f)) rest
  null_steps [] mid = tt
  null_steps (t ∷ more) mid = ((λ a f on g. null_tested_fine ks cx f t.negated a t.at g), null_steps more mid)

  pub is_stands : (first : Part) (rest : List NullTest) → PartStands first → MayStand cx (AnyOf (first ∷ [])) → (found : Found) → Kept ks (Fine ks cx) found (e.is_reading first rest cx found)
  is_stands first rest h may found =
      onwards ks (Fine ks cx) (Fine ks cx) found (reads first cx found) (e.null_tests rest) (h ks cx have (first_may cx first.aggregates false may) found) (λ a mid l g.
      through_all ks (Fine ks cx) (λ a t. rule.null_tested t.negated a t.at) rest a mid (null_steps rest mid) g)

  pub sum_stands : (first : Part) (rest : List AddedPart) → PartStands first → AllByRecursion (λ p. PartStands p.part) rest → MayStand cx (AnyOf (first ∷ map (λ p. p.part) rest)) → (found : Found) → Kept ks (Fine ks cx) found (e.sum_reading first rest cx found)
  sum_stands first rest h k may = from_left_stands (λ p. p.part) e.with_added
      (λ p g ks c have m a f i. onwards ks (Fine ks c) (Fine ks c) f (reads p.part c f) (λ b. rule.added p.operator a b p.at) (g ks c have m f) (λ b end l q. added_fine ks c end p.operator a b p.at (lasts ks (Fine ks c) f end a l i) q))
      rest first h k ks cx have (subst (MayStand cx) (sym (from_left_aggregates (λ p. p.part) e.with_added rest first)) may)

  pub product_stands : (first : Part) (rest : List MultipliedPart) → PartStands first → AllByRecursion (λ p. PartStands p.part) rest → MayStand cx (AnyOf (first ∷ map (λ p. p.part) rest)) → (found : Found) → Kept ks (Fine ks cx) found (e.product_reading first rest cx found)
  product_stands first rest h k may = from_left_stands (λ p. p.part) e.with_multiplied
      (λ p g ks c have m a f i. onwards ks (Fine ks c) (Fine ks c) f (reads p.part c f) (λ b. rule.multiplied p.operator a b (title.literal_of p.part.form) p.at) (g ks c have m f) (λ b end l q. multiplied_fine ks c end p.operator a b (title.literal_of p.part.form) p.at (lasts ks (Fine ks c) f end a l i) q))
      rest first h k ks cx have (subst (MayStand cx) (sym (from_left_aggregates (λ p. p.part) e.with_multiplied rest first)) may)

  -- ---- COALESCE and lists

  all_read : (ps : List Part) → AllByRecursion PartStands ps → MayStand cx (AnyOf ps) → (mid : Found) → AllByRecursion (λ p. (f : Found) → Onward ks mid f → Kept ks (Fine ks cx) f (reads p cx f)) ps
  all_read [] h may mid = tt
  all_read (p ∷ more) h may mid = ((λ f l. h.0 ks cx have (first_may cx p.aggregates _ may) f), all_read more h.1 (second_may cx p.aggregates _ may) mid)

  pub list_stands : (items : List Part) → AllByRecursion PartStands items → MayStand cx (AnyOf items) → (x : Bound) (negate : Bool) (at : ℕ) (found : Found) → Later ks (Fine ks cx) found x → Kept ks (Fine ks cx) found (e.in_list_reading items cx x negate at found)
  list_stands items h may x negate at found g =
      onwards ks (λ later bs. AllByRecursion (Fine ks cx later) bs) (Fine ks cx) found (each (λ p. reads p cx) items found) (λ bs. rule.listed negate x bs at)
      (each_one ks (Fine ks cx) (λ p. reads p cx) items found (all_read items h may found)) (λ bs end l k. listed_fine ks cx end negate x bs at (lasts ks (Fine ks cx) found end x l g) k)

  pub between_stands : (low high : Part) → PartStands low → PartStands high → MayStand cx (low.aggregates || high.aggregates) → (x : Bound) (negate : Bool) (at : ℕ) (found : Found) → Later ks (Fine ks cx) found x → Kept ks (Fine ks cx) found (e.between_reading low high cx x negate at found)
  between_stands low high h k may x negate at found g =
      onwards ks (Fine ks cx) (Fine ks cx) found (reads low cx found) _ (h ks cx have (first_may cx low.aggregates _ may) found) (λ a mid l f.
      onwards ks (Fine ks cx) (Fine ks cx) mid (reads high cx mid) (λ b. rule.between negate x a b at) (k ks cx have (second_may cx low.aggregates _ may) mid) (λ b end m i.
      between_fine ks cx end negate x a b at (lasts ks (Fine ks cx) found end x (on ks found mid end l m) g) (lasts ks (Fine ks cx) mid end a m f) i))
