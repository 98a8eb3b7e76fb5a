-- What the walk over the parts of an expression carries on, under a law for each context, which is no other before any grouping.
use Rattle.std.proofs.Common.{ℕ, if◌then◌else◌, Bool, true, false, ◌&&◌, not, List, [], ◌∷◌, Option, None, Some}
use Rattle.std.specs.Prelude.{⊤}
use Rattle.std.specs.List.{AllByRecursion}
use Rattle.cq_grammar.specs.declared.expr.AddOperator.{AddOperator}
use Rattle.cq_grammar.specs.declared.expr.NullTest.{NullTest}
use Rattle.cq_grammar.specs.declared.expr.Comparison.{Comparison}
use Rattle.cq_grammar.specs.declared.expr.Aggregate.{Aggregate}
use Rattle.cq_grammar.specs.declared.name.Name.{Name}
use Rattle.cq_reading.specs.declared.bound.Bound.{Bound}
use Rattle.cq_reading.specs.Steps.{Reading, ◌then◌}
use Rattle.cq_reading.specs.Scopes.{Context, plain}
use Rattle.cq_reading.specs.Titles as title
use Rattle.cq_reading.specs.Titles.{Form}
use Rattle.cq_reading.specs.Rules as rule
use Rattle.cq_reading.specs.Parts.{Part, TestPart, LaterPart, AddedPart, MultipliedPart, ArmPart}
use Rattle.cq_reading.specs.Expressions as e
use Rattle.cq_reading.specs.Expressions.{reads, behind_keys}
use Rattle.cq_reading_laws.proofs.FromLeft.{from_left_keeps}
use Rattle.cq_reading_laws.proofs.Carrying.{Law, Carries, carrying, carries_give, carries_then, carries_through, carries_with_next, carries_each, added_carries, signed_carries, multiplied_carries, condition_carries, chain_carries, chosen_carries, coalesced_carries, counted_carries, summed_carries, keyed_carries, named_carries, named_of_carries}

abbrev pub IfPart : (Part → Type 0) → Option Part → Type 0
IfPart P None = ⊤
IfPart P (Some p) = P p

abbrev pub PartCarries : (Context → Law) → Part → Type 0
PartCarries law p = (cx : Context) → Carries (law cx) (p.node cx)

abbrev pub TestCarries : (Context → Law) → TestPart → Type 0
TestCarries law t = (cx : Context) (x : Bound) (negate : Bool) (at : ℕ) → Carries (law cx) (t.tests cx x negate at)

abbrev pub ArmCarries : (Context → Law) → ArmPart → Type 0
ArmCarries law a = PartCarries law a.condition × PartCarries law a.result

module _ (law : Context → Law) (same : (cx : Context) (r : Reading Bound) → Carries (law (plain cx)) r → Carries (law cx) r) where
  by_case : (t : Bool) (r : Context → Reading Bound) (cx : Context) → ((c : Context) → Carries (law c) (r c)) → Carries (law cx) (if t then rule.keyed cx.keys (r (plain cx)) (r cx) else r cx)
  by_case true r cx h = keyed_carries _ cx.keys (r (plain cx)) (r cx) (h cx)
  by_case false r cx h = h cx

  pub behind_carries : (selects : Bool) (r : Context → Reading Bound) (cx : Context) → ((c : Context) → Carries (law c) (r c)) → Carries (law cx) (behind_keys selects r cx)
  behind_carries selects r cx h = by_case (cx.grouped && not selects) r cx h

  pub reads_carry : (p : Part) (cx : Context) → PartCarries law p → Carries (law cx) (reads p cx)
  reads_carry p cx h = behind_carries p.selects p.node cx h

  -- ---- chains

  later_carry : (cx : Context) (rest : List LaterPart) → AllByRecursion (λ l. PartCarries law l.part) rest → AllByRecursion (λ l. Carries (law cx) (e.read_later cx l)) rest
  later_carry cx [] h = tt
  later_carry cx (l ∷ more) h = (carries_then _ _ _ (reads_carry l.part cx h.0) (λ b. carries_give _ _), later_carry cx more h.1)

  pub chain_reading_carries : (any : Bool) (first : Part) (rest : List LaterPart) → PartCarries law first → AllByRecursion (λ l. PartCarries law l.part) rest → (cx : Context) → Carries (law cx) (e.chain_reading any first rest cx)
  chain_reading_carries any first rest h k cx = carries_then _ _ _ (reads_carry first cx h) (λ a. carries_then _ _ _ (carries_with_next _ (e.read_later cx) rest _ (later_carry cx rest k)) (λ ps. chain_carries _ _ any ps))

  -- ---- NULL tests, sums and products

  null_tests_carry : (l : Law) (rest : List NullTest) → AllByRecursion (λ (t : NullTest). (a : Bound) → Carries l (rule.null_tested t.negated a t.at)) rest
  null_tests_carry l [] = tt
  null_tests_carry l (t ∷ more) = ((λ a. search condition_carries), null_tests_carry _ more)

  pub is_carries : (first : Part) (rest : List NullTest) → PartCarries law first → (cx : Context) → Carries (law cx) (e.is_reading first rest cx)
  is_carries first rest h cx = carries_then _ _ _ (reads_carry first cx h) (λ a. carries_through _ (λ a t. rule.null_tested t.negated a t.at) rest a (null_tests_carry _ rest))

  pub sum_carries : (first : Part) (rest : List AddedPart) → PartCarries law first → AllByRecursion (λ p. PartCarries law p.part) rest → (cx : Context) → Carries (law cx) (e.sum_reading first rest cx)
  sum_carries first rest h k cx = reads_carry (e.from_left (λ p. p.part) e.with_added first rest) cx (from_left_keeps (λ p. p.part) e.with_added (PartCarries law)
      (λ before p g i c. carries_then _ _ _ (reads_carry before c g) (λ a. carries_then _ _ _ (reads_carry p.part c i) (λ b. added_carries _ p.operator a b p.at))) rest first h k)

  pub product_carries : (first : Part) (rest : List MultipliedPart) → PartCarries law first → AllByRecursion (λ p. PartCarries law p.part) rest → (cx : Context) → Carries (law cx) (e.product_reading first rest cx)
  product_carries first rest h k cx = reads_carry (e.from_left (λ p. p.part) e.with_multiplied first rest) cx (from_left_keeps (λ p. p.part) e.with_multiplied (PartCarries law)
      (λ before p g i c. carries_then _ _ _ (reads_carry before c g) (λ a. carries_then _ _ _ (reads_carry p.part c i) (λ b. multiplied_carries _ p.operator a b _ p.at))) rest first h k)

  pub signed_reading_carries : (sign : AddOperator) (inner : Part) (form : Form) (at : ℕ) → PartCarries law inner → (cx : Context) → Carries (law cx) (e.signed_reading sign inner form at cx)
  signed_reading_carries sign inner (title.Number n) at h cx = carries_give _ _
  signed_reading_carries sign inner (title.Signed s n) at h cx = carries_then _ _ _ (reads_carry inner cx h) (λ a. signed_carries _ sign a at)
  signed_reading_carries sign inner (title.Name name) at h cx = carries_then _ _ _ (reads_carry inner cx h) (λ a. signed_carries _ sign a at)
  signed_reading_carries sign inner title.Other at h cx = carries_then _ _ _ (reads_carry inner cx h) (λ a. signed_carries _ sign a at)

  -- ---- CASE and COALESCE

  arms_carry : (cx : Context) (arms : List ArmPart) → AllByRecursion (ArmCarries law) arms → AllByRecursion (λ a. Carries (law cx) (e.read_arm cx a)) arms
  arms_carry cx [] h = tt
  arms_carry cx (a ∷ more) h = (carries_then _ _ _ (reads_carry a.condition cx h.0.0) (λ c. carries_then _ _ _ (reads_carry a.result cx h.0.1) (λ r. carries_give _ _)), arms_carry cx more h.1)

  else_carries : (cx : Context) (p : Option Part) → IfPart (PartCarries law) p → Carries (law cx) (e.read_else cx p)
  else_carries cx None h = carries_give _ _
  else_carries cx (Some p) h = reads_carry p cx h

  pub case_carries : (arms : List ArmPart) (otherwise : Option Part) (at : ℕ) → AllByRecursion (ArmCarries law) arms → IfPart (PartCarries law) otherwise → (cx : Context) → Carries (law cx) (e.case_reading arms otherwise at cx)
  case_carries arms otherwise at h k cx = carries_then _ _ _ (carries_each _ (e.read_arm cx) arms (arms_carry cx arms h)) (λ pairs. carries_then _ _ _ (else_carries cx otherwise k) (λ other. chosen_carries _ pairs other at))

  pub all_read : (cx : Context) (ps : List Part) → AllByRecursion (PartCarries law) ps → AllByRecursion (λ p. Carries (law cx) (reads p cx)) ps
  all_read cx [] h = tt
  all_read cx (p ∷ more) h = (reads_carry p cx h.0, all_read cx more h.1)

  pub coalesce_carries : (items : List Part) (at : ℕ) → AllByRecursion (PartCarries law) items → (cx : Context) → Carries (law cx) (e.coalesce_reading items at cx)
  coalesce_carries items at h cx = carries_then _ _ _ (carries_each _ (λ p. reads p cx) items (all_read cx items h)) (λ bs. coalesced_carries _ bs at)

  -- ---- columns and aggregates

  group_carries : (cx : Context) (r : Reading Bound) (at : ℕ) → Carries (law cx) r → Carries (law cx) (e.named_in_group cx r at)
  group_carries cx r at h = carries_then _ _ _ h (λ b. search carrying)

  pub column_carries : (column : Name) (cx : Context) → Carries (law cx) (e.column_reading column cx)
  column_carries column cx = group_carries cx _ column.at (named_carries _ cx column.text column.at)

  pub column_of_carries : (relation column : Name) (cx : Context) → Carries (law cx) (e.column_of_reading relation column cx)
  column_of_carries relation column cx = group_carries cx _ relation.at (named_of_carries _ cx relation.text column.text relation.at)

  pub aggregate_carries : (function : Aggregate) (argument : Part) (at : ℕ) → PartCarries law argument → (cx : Context) → Carries (law cx) (e.aggregate_reading function argument at cx)
  aggregate_carries function argument at h cx = carries_then _ _ _ (same cx (reads argument (plain cx)) (reads_carry argument (plain cx) h)) (λ a. summed_carries _ cx function a at)

  -- ---- IN and BETWEEN

  pub in_list_carries : (items : List Part) → AllByRecursion (PartCarries law) items → (cx : Context) (x : Bound) (negate : Bool) (at : ℕ) → Carries (law cx) (e.in_list_reading items cx x negate at)
  in_list_carries items h cx x negate at = carries_then _ _ _ (carries_each _ (λ p. reads p cx) items (all_read cx items h)) (λ bs. search condition_carries)

  pub between_carries : (low high : Part) → PartCarries law low → PartCarries law high → (cx : Context) (x : Bound) (negate : Bool) (at : ℕ) → Carries (law cx) (e.between_reading low high cx x negate at)
  between_carries low high h k cx x negate at = carries_then _ _ _ (reads_carry low cx h) (λ a. carries_then _ _ _ (reads_carry high cx k) (λ b. search condition_carries))

  pub not_carries : (inner : Part) (at : ℕ) → PartCarries law inner → (cx : Context) → Carries (law cx) (e.not_reading inner at cx)
  not_carries inner at h cx = carries_then _ _ _ (reads_carry inner cx h) (λ a. search condition_carries)

  pub compare_carries : (left : Part) (operator : Comparison) (right : Part) (at : ℕ) → PartCarries law left → PartCarries law right → (cx : Context) → Carries (law cx) (e.compare_reading left operator right at cx)
  compare_carries left operator right at h k cx = carries_then _ _ _ (reads_carry left cx h) (λ a. carries_then _ _ _ (reads_carry right cx k) (λ b. search condition_carries))

  pub tested_carries : (operand : Part) (negated : Bool) (test : TestPart) (at : ℕ) → PartCarries law operand → TestCarries law test → (cx : Context) → Carries (law cx) (e.tested_reading operand negated test at cx)
  tested_carries operand negated test at h k cx = carries_then _ _ _ (reads_carry operand cx h) (λ x. k cx x negated at)

  pub counted_node_carries : (at : ℕ) (cx : Context) → Carries (law cx) (rule.counted cx at)
  counted_node_carries at cx = counted_carries _ cx at
