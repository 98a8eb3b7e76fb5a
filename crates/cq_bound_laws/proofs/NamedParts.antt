-- The nodes of expressions over parts that name only the CTEs in reach and the results of their own IN subqueries.
use Rattle.std.proofs.Common.{◌≡◌, ℕ, ◌+◌, ◌<◌, if◌then◌else◌, Bool, true, false, ◌&&◌, not, List, [], ◌∷◌, ◌++◌, length, refl, sym, ap, ◌∙◌, subst, arith, Option, None, Some, Result, Ok, Err}
use Rattle.std.specs.Prelude.{⊤, ◌⊎◌}
use Rattle.std.specs.List.{AllByRecursion}
use Rattle.cq_tree.specs.declared.expression.Cond.{InResult}
use Rattle.cq_grammar.specs.declared.expr.AddOperator.{AddOperator}
use Rattle.cq_grammar.specs.declared.expr.NullTest.{NullTest}
use Rattle.cq_grammar.specs.declared.expr.Comparison.{Comparison}
use Rattle.cq_grammar.specs.declared.expr.Aggregate.{Aggregate}
use Rattle.cq_grammar.specs.declared.name.Name.{Name}
use Rattle.cq_meaning.specs.Lists.{Has}
use Rattle.cq_meaning.specs.Results.{ins_in}
use Rattle.cq_reading.specs.declared.bound.Found.{Found}
use Rattle.cq_reading.specs.declared.bound.Bound.{Bound}
use Rattle.cq_reading.specs.declared.bound.Block.{Block}
use Rattle.cq_reading.specs.declared.error.BindError.{BindError}
use Rattle.cq_reading.specs.declared.bound.Bound.TheVariants.{Truth}
use Rattle.cq_reading.specs.declared.error.BindError.TheVariants as error
use Rattle.cq_reading.specs.Steps.{Reading, give, follow, provided, ◌then◌, through, with_next, each}
use Rattle.cq_reading.specs.Widths.{expr_of, are_alike}
use Rattle.cq_reading.specs.Scopes.{World, Context, plain, named, named_of}
use Rattle.cq_reading.specs.Titles as title
use Rattle.cq_reading.specs.Titles.{Form}
use Rattle.cq_reading.specs.Rules as rule
use Rattle.cq_reading.specs.Parts.{Part, TestPart, LaterPart, AddedPart, MultipliedPart, ArmPart, SelectPart}
use Rattle.cq_reading.specs.Expressions as e
use Rattle.cq_reading.specs.Expressions.{reads, behind_keys}
use Rattle.cq_reading_laws.proofs.FromLeft.{from_left_keeps}
use Rattle.cq_reading_laws.proofs.Standing.{no_truth}
use Rattle.cq_reading_laws.proofs.CarryingParts.{IfPart}
use Rattle.cq_plan_laws.specs.Nested.{IsNested}
use Rattle.cq_bound_laws.proofs.NamedForms.{BoundNames, PairNames, names_negated}
use Rattle.cq_bound_laws.proofs.NamedReadings.{AggsName, Adds, AddsIf, Reads, reads_give, reads_provided, reads_then, reads_under, reads_through, reads_nexts, reads_each}
use Rattle.cq_bound_laws.proofs.NamedRules.{added_gives, signed_gives, multiplied_gives, compared_gives, negated_gives, null_tested_gives, between_gives, listed_gives, coalesced_gives, chosen_gives, counted_gives, summed_gives, keyed_gives, found_column_gives, PartNames, chain_gives}

-- the CTEs in reach
abbrev pub Outside : World → ℕ → Type 0
Outside w i = i < length w.commons

-- those, and the results of these numbers
abbrev pub Seen : World → List ℕ → ℕ → Type 0
Seen w ns i = Outside w i ⊎ Has ns i

abbrev pub ReadsIn : (cx : Context) (ns : List ℕ) {A : Type 0} → Type 0 → (A → Type 0) → Reading A → Type 0
ReadsIn cx ns C V r = Reads (Outside cx.world) (Seen cx.world ns) cx.may_select C V r

-- an expression that is read names results of these numbers, where they are those of its IN subqueries
abbrev pub GivesIn : Context → List ℕ → Type 0 → Reading Bound → Type 0
GivesIn cx ns C r = ReadsIn cx ns C (BoundNames (Seen cx.world ns)) r

abbrev pub PartReads : Part → Type 0
PartReads p = (cx : Context) (ns : List ℕ) → GivesIn cx ns ⊤ (p.node cx)

abbrev pub TestReads : TestPart → Type 0
TestReads t = (cx : Context) (ns : List ℕ) (x : Bound) (negate : Bool) (at : ℕ) → GivesIn cx ns (BoundNames (Seen cx.world ns) x) (t.tests cx x negate at)

abbrev pub ArmReads : ArmPart → Type 0
ArmReads a = PartReads a.condition × PartReads a.result

-- a SELECT that is read: the IN subqueries and aggregates around it are as before, and it is nested
pub record BlockNested (w : World) (found : Found) (block : Block) (new : Found) : Type 0 where
  pub subs : new.subs ≡ found.subs
  pub aggs : new.aggs ≡ found.aggs
  pub results : new.results ≡ found.results + ins_in block.query
  pub room : found.blocks < 64
  pub blocks : found.blocks < new.blocks
  pub nested : IsNested (Outside w) found.results block.query

abbrev pub BlockIf : World → Found → Result (Block × Found) BindError → Type 0
BlockIf w found (Ok p) = BlockNested w found p.0 p.1
BlockIf w found (Err e) = ⊤

abbrev pub SelectReads : SelectPart → Type 0
SelectReads s = (w : World) (found : Found) → BlockIf w found (s w found)

module _ (cx : Context) (ns : List ℕ) where
  abbrev O : ℕ → Type 0
  O = Outside cx.world

  abbrev P : ℕ → Type 0
  P = Seen cx.world ns

  abbrev pub N : Bound → Type 0
  N = BoundNames P

  pub then_gives : {A B : Type 0} (C : Type 0) (V : A → Type 0) (W : B → Type 0) (r : Reading A) (k : A → Reading B) → ReadsIn cx ns C V r → ((a : A) → ReadsIn cx ns (C × V a) W (k a)) → ReadsIn cx ns C W (r then k)
  then_gives = reads_then O P cx.may_select

  by_case : (t : Bool) (r : Context → Reading Bound) (C : Type 0) → GivesIn cx ns C (r cx) → GivesIn cx ns C (if t then rule.keyed cx.keys (r (plain cx)) (r cx) else r cx)
  by_case true r C h = keyed_gives O P cx.may_select C cx.keys (r (plain cx)) (r cx) h
  by_case false r C h = h

  pub behind_gives : (selects : Bool) (r : Context → Reading Bound) (C : Type 0) → GivesIn cx ns C (r cx) → GivesIn cx ns C (behind_keys selects r cx)
  behind_gives selects r C h = by_case (cx.grouped && not selects) r C h

  pub part_gives : (C : Type 0) (p : Part) → PartReads p → GivesIn cx ns C (reads p cx)
  part_gives C p h = behind_gives p.selects p.node C (reads_under O P cx.may_select ⊤ C N (p.node cx) (λ c. tt) (h cx ns))

  -- one part, or two in turn, and then a rule over them
  first_gives : (C : Type 0) (p : Part) (k : Bound → Reading Bound) → PartReads p → ((a : Bound) → GivesIn cx ns (C × N a) (k a)) → GivesIn cx ns C (reads p cx then k)
  first_gives C p k h l = then_gives C N N (reads p cx) k (part_gives C p h) l

  both_give : (C : Type 0) (p q : Part) (k : Bound → Bound → Reading Bound) → PartReads p → PartReads q → ((a b : Bound) → GivesIn cx ns ((C × N a) × N b) (k a b)) → GivesIn cx ns C (reads p cx then (λ a. reads q cx then (λ b. k a b)))
  both_give C p q k h i l = first_gives C p (λ a. reads q cx then (λ b. k a b)) h (λ a. first_gives (C × N a) q (k a) i (λ b. l a b))

  pub not_gives : (inner : Part) (at : ℕ) → PartReads inner → GivesIn cx ns ⊤ (e.not_reading inner at cx)
  not_gives inner at h = first_gives ⊤ inner (λ a. rule.negated a at) h (λ a. negated_gives O P cx.may_select (⊤ × N a) a at (λ c. c.1))

  pub compare_gives : (l : Part) (o : Comparison) (r : Part) (at : ℕ) → PartReads l → PartReads r → GivesIn cx ns ⊤ (e.compare_reading l o r at cx)
  compare_gives l o r at h k = both_give ⊤ l r (λ a b. rule.compared o a b at) h k (λ a b. compared_gives O P cx.may_select ((⊤ × N a) × N b) o a b at (λ c. (c.0.1, c.1)))

  pub tested_gives : (operand : Part) (negated : Bool) (test : TestPart) (at : ℕ) → PartReads operand → TestReads test → GivesIn cx ns ⊤ (e.tested_reading operand negated test at cx)
  tested_gives operand negated test at h k =
      first_gives ⊤ operand (λ x. test.tests cx x negated at) h (λ x. reads_under O P cx.may_select (N x) (⊤ × N x) N (test.tests cx x negated at) (λ c. c.1) (k cx ns x negated at))

  -- ---- chains and NULL tests

  laters : (C : Type 0) (rest : List LaterPart) → AllByRecursion (λ l. PartReads l.part) rest → AllByRecursion (λ l. ReadsIn cx ns C (PartNames O P cx.may_select) (e.read_later cx l)) rest
  laters C [] h = tt
  laters C (l ∷ more) h = (
    then_gives C N (PartNames O P cx.may_select) (reads l.part cx) (λ b. give (b, l.at)) (part_gives C l.part h.0) (λ b. reads_give O P cx.may_select (C × N b) (PartNames O P cx.may_select) (b, l.at) (λ c. c.1)),
    laters C more h.1,
  )

  pub chain_reading_gives : (any : Bool) (first : Part) (rest : List LaterPart) → PartReads first → AllByRecursion (λ l. PartReads l.part) rest → GivesIn cx ns ⊤ (e.chain_reading any first rest cx)
  chain_reading_gives any first rest h k =
      let V = PartNames O P cx.may_select in
      first_gives ⊤ first (λ a. through (with_next (e.read_later cx)) rest ((a, 0) ∷ []) then rule.chained any) h (λ a.
      let C = ⊤ × N a in let ps = (a, 0) ∷ [] in
      then_gives C (AllByRecursion V) N (through (with_next (e.read_later cx)) rest ps) (rule.chained any)
      (reads_under O P cx.may_select (C × AllByRecursion V ps) C (AllByRecursion V) (through (with_next (e.read_later cx)) rest ps) (λ c. (c, (c.1, tt))) (reads_nexts O P cx.may_select C V (e.read_later cx) rest ps (laters C rest k)))
      (λ ps. chain_gives O P cx.may_select (C × AllByRecursion V ps) (length ps) any ps (λ c. c.1)))

  null_tests_give : (C : Type 0) (rest : List NullTest) → AllByRecursion (λ (t : NullTest). (a : Bound) → GivesIn cx ns (C × N a) (rule.null_tested t.negated a t.at)) rest
  null_tests_give C [] = tt
  null_tests_give C (t ∷ more) = ((λ a. null_tested_gives O P cx.may_select (C × N a) t.negated a t.at (λ c. c.1)), null_tests_give C more)

  pub is_gives : (first : Part) (rest : List NullTest) → PartReads first → GivesIn cx ns ⊤ (e.is_reading first rest cx)
  is_gives first rest h = first_gives ⊤ first (e.null_tests rest) h (λ a. reads_through O P cx.may_select ⊤ N (λ a t. rule.null_tested t.negated a t.at) rest a (null_tests_give ⊤ rest))

  -- ---- signs

  pub signed_reading_gives : (sign : AddOperator) (inner : Part) (form : Form) (at : ℕ) → PartReads inner → GivesIn cx ns ⊤ (e.signed_reading sign inner form at cx)
  signed_reading_gives sign inner (title.Number n) at h = reads_give O P cx.may_select ⊤ N (rule.signed_number sign n) (λ c. (tt, tt))
  signed_reading_gives sign inner (title.Signed s n) at h = first_gives ⊤ inner (λ a. rule.signed sign a at) h (λ a. signed_gives O P cx.may_select (⊤ × N a) sign a at (λ c. c.1))
  signed_reading_gives sign inner (title.Name name) at h = first_gives ⊤ inner (λ a. rule.signed sign a at) h (λ a. signed_gives O P cx.may_select (⊤ × N a) sign a at (λ c. c.1))
  signed_reading_gives sign inner title.Other at h = first_gives ⊤ inner (λ a. rule.signed sign a at) h (λ a. signed_gives O P cx.may_select (⊤ × N a) sign a at (λ c. c.1))

  -- ---- CASE, COALESCE and lists

  all_give : (C : Type 0) (ps : List Part) → AllByRecursion PartReads ps → AllByRecursion (λ p. GivesIn cx ns C (reads p cx)) ps
  all_give C [] h = tt
  all_give C (p ∷ more) h = (part_gives C p h.0, all_give C more h.1)

  each_gives : (C : Type 0) (ps : List Part) → AllByRecursion PartReads ps → ReadsIn cx ns C (AllByRecursion N) (each (λ p. reads p cx) ps)
  each_gives C ps h = reads_each O P cx.may_select C N (λ p. reads p cx) ps (all_give C ps h)

  pub coalesce_gives : (items : List Part) (at : ℕ) → AllByRecursion PartReads items → GivesIn cx ns ⊤ (e.coalesce_reading items at cx)
  coalesce_gives items at h =
      then_gives ⊤ (AllByRecursion N) N (each (λ p. reads p cx) items) (λ bs. rule.coalesced bs at) (each_gives ⊤ items h) (λ bs. coalesced_gives O P cx.may_select (⊤ × AllByRecursion N bs) bs at (λ c. c.1))

  arms_give : (arms : List ArmPart) → AllByRecursion ArmReads arms → AllByRecursion (λ a. ReadsIn cx ns ⊤ (PairNames P) (e.read_arm cx a)) arms
  arms_give [] h = tt
  arms_give (a ∷ more) h = (
    then_gives ⊤ N (PairNames P) (reads a.condition cx) (λ c. reads a.result cx then (λ r. give (c, r))) (part_gives ⊤ a.condition h.0.0) (λ c.
        then_gives (⊤ × N c) N (PairNames P) (reads a.result cx) (λ r. give (c, r)) (part_gives (⊤ × N c) a.result h.0.1) (λ r.
        reads_give O P cx.may_select ((⊤ × N c) × N r) (PairNames P) (c, r) (λ k. (k.0.1, k.1)))),
    arms_give more h.1,
  )

  else_gives : (C : Type 0) (p : Option Part) → IfPart PartReads p → GivesIn cx ns C (e.read_else cx p)
  else_gives C None h = reads_give O P cx.may_select C N rule.null (λ c. (tt, tt))
  else_gives C (Some p) h = part_gives C p h

  pub case_gives : (arms : List ArmPart) (otherwise : Option Part) (at : ℕ) → AllByRecursion ArmReads arms → IfPart PartReads otherwise → GivesIn cx ns ⊤ (e.case_reading arms otherwise at cx)
  case_gives arms otherwise at h k =
      let V = AllByRecursion (PairNames P) in
      then_gives ⊤ V N (each (e.read_arm cx) arms) (λ pairs. e.read_else cx otherwise then (λ other. rule.chosen pairs other at)) (reads_each O P cx.may_select ⊤ (PairNames P) (e.read_arm cx) arms (arms_give arms h)) (λ pairs.
      then_gives (⊤ × V pairs) N N (e.read_else cx otherwise) (λ other. rule.chosen pairs other at) (else_gives (⊤ × V pairs) otherwise k) (λ other.
      chosen_gives O P cx.may_select ((⊤ × V pairs) × N other) pairs other at (λ c. (c.0.1, c.1))))

  pub in_list_gives : (items : List Part) → AllByRecursion PartReads items → (x : Bound) (negate : Bool) (at : ℕ) → GivesIn cx ns (N x) (e.in_list_reading items cx x negate at)
  in_list_gives items h x negate at =
      then_gives (N x) (AllByRecursion N) N (each (λ p. reads p cx) items) (λ bs. rule.listed negate x bs at) (each_gives (N x) items h) (λ bs. listed_gives O P cx.may_select (N x × AllByRecursion N bs) negate x bs at (λ c. c))

  pub between_reading_gives : (low high : Part) → PartReads low → PartReads high → (x : Bound) (negate : Bool) (at : ℕ) → GivesIn cx ns (N x) (e.between_reading low high cx x negate at)
  between_reading_gives low high h k x negate at = both_give (N x) low high (λ a b. rule.between negate x a b at) h k (λ a b. between_gives O P cx.may_select ((N x × N a) × N b) negate x a b at (λ c. (c.0.0, c.0.1, c.1)))

  -- ---- columns and aggregates

  pub group_gives : (r : Reading Bound) (at : ℕ) → GivesIn cx ns ⊤ r → GivesIn cx ns ⊤ (e.named_in_group cx r at)
  group_gives r at h = then_gives ⊤ N N r (λ b. provided (not cx.grouped) (error.NotGrouped at) (give b)) h (λ b.
      reads_provided O P cx.may_select (⊤ × N b) N (not cx.grouped) (error.NotGrouped at) (give b) (reads_give O P cx.may_select (⊤ × N b) N b (λ c. c.1)))

  pub column_reading_gives : (column : Name) → GivesIn cx ns ⊤ (e.column_reading column cx)
  column_reading_gives column = group_gives (named cx column.text column.at) column.at (found_column_gives O P cx.may_select ⊤ cx column.at _)

  pub column_of_gives : (relation column : Name) → GivesIn cx ns ⊤ (e.column_of_reading relation column cx)
  column_of_gives relation column = group_gives (named_of cx relation.text column.text relation.at) relation.at (found_column_gives O P cx.may_select ⊤ cx relation.at _)

  -- ---- IN subqueries

  abbrev next : Found → Found
  next found = record found { results = found.results + 1 }

  where_fit : (C : Type 0) (f g : Found) (t : Bool) (x : BindError) (r : Reading Bound) → (t ≡ true → AddsIf O P cx.may_select C N f (r g)) → AddsIf O P cx.may_select C N f (provided t x r g)
  where_fit C f g true x r h = h refl
  where_fit C f g false x r h = tt

  with_one : (x : Bound) (negate : Bool) (found : Found) (block : Block) (g : Found) → BlockNested cx.world (next found) block g → cx.may_select ≡ true
      → Adds O P cx.may_select (N x) N found (Truth (rule.negated_if negate (InResult (expr_of x) found.results))) (e.with_sub block.query g)
  with_one x negate found block g h may = record {
    more = block.query ∷ [];
    subs = ap (λ qs. qs ++ block.query ∷ []) h.subs;
    results = omega (arith, h.results);
    blocks = omega (arith, h.blocks);
    none = λ e. absurd (no_truth (sym e ∙ may));
    nested = (h.nested, tt);
    holds = λ covers c aggs. ((tt, names_negated P negate (InResult (expr_of x) found.results) (c.0, covers.0)), subst (AggsName O P) (sym h.aggs) aggs);
  }

  of_block : (x : Bound) (negate : Bool) (at : ℕ) (found : Found) (o : Result (Block × Found) BindError) → BlockIf cx.world (next found) o → AddsIf O P cx.may_select (N x) N found (follow o (λ block. e.among cx x negate at found.results block))
  of_block x negate at found (Ok p) h =
      where_fit (N x) found p.1 cx.may_select (error.Subquery at) _ (λ may.
      where_fit (N x) found p.1 (e.is_one p.0.outputs) (error.WrongCount at) _ (λ one.
      where_fit (N x) found p.1 (are_alike x (e.output_bound p.0.outputs)) (error.Type at) _ (λ alike. with_one x negate found p.0 p.1 h may)))
  of_block x negate at found (Err f) h = tt

  pub in_select_gives : (select : SelectPart) → SelectReads select → (x : Bound) (negate : Bool) (at : ℕ) → GivesIn cx ns (N x) (e.in_select_reading select cx x negate at)
  unfolding Reads
  in_select_gives select h x negate at found = of_block x negate at found (select cx.world (next found)) (h cx.world (next found))

-- ---- sums, products and aggregates

pub sum_gives : (first : Part) (rest : List AddedPart) → PartReads first → AllByRecursion (λ p. PartReads p.part) rest → (cx : Context) (ns : List ℕ) → GivesIn cx ns ⊤ (e.sum_reading first rest cx)
sum_gives first rest h k cx ns = part_gives cx ns ⊤ (e.from_left (λ p. p.part) e.with_added first rest) (from_left_keeps (λ p. p.part) e.with_added PartReads
    (λ before p g i c ms. both_give c ms ⊤ before p.part (λ a b. rule.added p.operator a b p.at) g i (λ a b.
    added_gives (Outside c.world) (Seen c.world ms) c.may_select ((⊤ × N c ms a) × N c ms b) p.operator a b p.at (λ d. (d.0.1, d.1)))) rest first h k)

pub product_gives : (first : Part) (rest : List MultipliedPart) → PartReads first → AllByRecursion (λ p. PartReads p.part) rest → (cx : Context) (ns : List ℕ) → GivesIn cx ns ⊤ (e.product_reading first rest cx)
product_gives first rest h k cx ns = part_gives cx ns ⊤ (e.from_left (λ p. p.part) e.with_multiplied first rest) (from_left_keeps (λ p. p.part) e.with_multiplied PartReads
    (λ before p g i c ms. both_give c ms ⊤ before p.part (λ a b. rule.multiplied p.operator a b (title.literal_of p.part.form) p.at) g i (λ a b.
    multiplied_gives (Outside c.world) (Seen c.world ms) c.may_select ((⊤ × N c ms a) × N c ms b) p.operator a b (title.literal_of p.part.form) p.at (λ d. (d.0.1, d.1)))) rest first h k)

pub aggregate_gives : (function : Aggregate) (argument : Part) (at : ℕ) → PartReads argument → (cx : Context) (ns : List ℕ) → GivesIn cx ns ⊤ (e.aggregate_reading function argument at cx)
aggregate_gives function argument at h cx ns =
    then_gives cx ns ⊤ (N cx ns) (N cx ns) (reads argument (plain cx)) (λ a. rule.summed cx function a at) (part_gives (plain cx) ns ⊤ argument h) (λ a.
    summed_gives (Outside cx.world) (Seen cx.world ns) cx.may_select (⊤ × N cx ns a) cx function a at (λ c. c.1))

pub counted_node_gives : (at : ℕ) (cx : Context) (ns : List ℕ) → GivesIn cx ns ⊤ (rule.counted cx at)
counted_node_gives at cx ns = counted_gives (Outside cx.world) (Seen cx.world ns) cx.may_select ⊤ cx at
