-- A FROM is nested: its subqueries are, it names CTEs in reach, and its ON conditions hold no IN subquery.
use Rattle.std.proofs.Common.{◌≡◌, ℕ, ◌+◌, ◌≤◌, Bool, true, false, List, [], ◌∷◌, ◌++◌, length, refl, sym, ap, ◌∙◌, subst, arith, Option, None, Some, Result, Ok, Err}
use Rattle.std.specs.Prelude.{⊤, slice_get, position, bytes_eq}
use Rattle.std.specs.List.{AllByRecursion}
use Rattle.std.proofs.lemmas.Option.{slice_get_within}
use Rattle.cq_value.proofs.Lists.{append_nil}
use Rattle.cq_grammar.specs.declared.name.Name.{Name}
use Rattle.cq_catalog.specs.declared.info.TableInfo.{TableInfo}
use Rattle.cq_catalog.specs.Contents.{number_of}
use Rattle.cq_tree.specs.declared.expression.Cond.{Cond}
use Rattle.cq_tree.specs.declared.query.FromTree.{FromTree, Table, Sub, Cross, Inner, Left}
use Rattle.cq_tree.specs.declared.query.FromTree as tree
use Rattle.cq_meaning.specs.Results.{ins_in_from}
use Rattle.cq_reading.specs.declared.bound.Found.{Found}
use Rattle.cq_reading.specs.declared.bound.Source.{Source}
use Rattle.cq_reading.specs.declared.bound.Common.{Common}
use Rattle.cq_reading.specs.declared.bound.Block.{Block}
use Rattle.cq_reading.specs.declared.bound.Relations.{Relations}
use Rattle.cq_reading.specs.declared.error.BindError.{BindError}
use Rattle.cq_reading.specs.declared.error.BindError.TheVariants as error
use Rattle.cq_reading.specs.Steps.{Reading, give, follow, ◌then◌, provided, through}
use Rattle.cq_reading.specs.Scopes.{World, Context, table_sources, output_sources}
use Rattle.cq_reading.specs.Parts.{Part, SelectPart, RelationPart, JoinPart, FromPart}
use Rattle.cq_reading.specs.Relations as r
use Rattle.cq_reading_laws.proofs.StepRows.{ins_all, ins_cross, ins_inner, ins_left, ins_sub}
use Rattle.cq_plan_laws.specs.Scoping.{CondNames}
use Rattle.cq_plan_laws.specs.Nested.{FromIsNested}
use Rattle.cq_bound_laws.proofs.NamedReadings.{AggsName, Covers, AddsIf, Reads}
use Rattle.cq_bound_laws.proofs.NamedParts.{Outside, Seen, PartReads, BlockIf, SelectReads}
use Rattle.cq_bound_laws.proofs.NamedLists.{condition_reads}
use Rattle.cq_bound_laws.proofs.NestedRows.{nested_cross, nested_inner, nested_left, nested_sub}

abbrev pub AggsSeen : World → List ℕ → Found → Type 0
AggsSeen w ns f = AggsName (Outside w) (Seen w ns) f.aggs

pub record FromNested (w : World) (found : Found) (r : Relations) (new : Found) : Type 0 where
  pub subs : new.subs ≡ found.subs
  pub results : new.results ≡ found.results + ins_in_from r.tree
  pub blocks : found.blocks ≤ new.blocks
  pub holds : (ns : List ℕ) → AggsSeen w ns found → FromIsNested (Outside w) (Seen w ns) found.results r.tree × AggsSeen w ns new

abbrev pub FromIf : World → Found → Result (Relations × Found) BindError → Type 0
FromIf w found (Ok p) = FromNested w found p.0 p.1
FromIf w found (Err e) = ⊤

abbrev pub RelationReads : RelationPart → Type 0
RelationReads p = (w : World) (names : List (List ℕ)) (found : Found) → FromIf w found (p w names found)

abbrev pub JoinReads : JoinPart → Type 0
JoinReads j = (w : World) (names : List (List ℕ)) (first : ℕ) (a : Relations) (start found : Found) → FromNested w start a found → FromIf w start (j w names first a found)

abbrev pub FromReads : FromPart → Type 0
FromReads f = (w : World) (names : List (List ℕ)) (first : ℕ) (found : Found) → FromIf w found (f w names first found)

-- ---- relations

where_from : (w : World) (start found : Found) (t : Bool) (e : BindError) (r : Reading Relations) → FromIf w start (r found) → FromIf w start (provided t e r found)
where_from w start found true e r h = h
where_from w start found false e r h = tt

-- a leaf
under_reads : (w : World) (found : Found) (name : Name) (names : List (List ℕ)) (t : FromTree) (columns : List Source) (joined : Bool)
    → ins_in_from t ≡ 0 → ((ns : List ℕ) → FromIsNested (Outside w) (Seen w ns) found.results t) → FromIf w found (r.under name names t columns joined found)
under_reads w found name names t columns joined none h =
    where_from w found found _ (error.NameTaken name.text) (give (record { tree = t; columns = columns; names = name.text ∷ []; joined = joined }))
    (record { subs = refl; results = omega (arith, none); blocks = omega arith; holds = λ ns aggs. (h ns, aggs) })

module _ (w : World) (found : Found) where
  table_reads : (name alias : Name) (names : List (List ℕ)) (i : ℕ) (t : Option TableInfo) → FromIf w found (r.table_under name alias names i t found)
  table_reads name alias names i None = tt
  table_reads name alias names i (Some t) =
      where_from w found found _ (error.LocalTable name.at) (r.under alias names (Table i (length t.columns)) (table_sources alias.text t) false)
      (under_reads w found alias names (Table i (length t.columns)) (table_sources alias.text t) false refl (λ ns. tt))

  table_by_reads : (name alias : Name) (names : List (List ℕ)) (i : Option ℕ) → FromIf w found (r.table_by w name alias names i found)
  table_by_reads name alias names None = tt
  table_by_reads name alias names (Some i) = table_reads name alias names i (slice_get w.tables i)

  common_reads : (alias : Name) (names : List (List ℕ)) (i : ℕ) (c : Option Common) → slice_get w.commons i ≡ c → FromIf w found (r.common_by w alias names i c found)
  common_reads alias names i None is = tt
  common_reads alias names i (Some c) is =
      under_reads w found alias names (tree.Result i (length c.outputs)) (output_sources alias.text c.outputs) c.joined refl (λ ns. slice_get_within w.commons i c is)

  relation_reads : (name alias : Name) (names : List (List ℕ)) (i : Option ℕ) → FromIf w found (r.relation_by w name alias names i found)
  relation_reads name alias names None = table_by_reads name alias names (number_of w.tables name.text)
  relation_reads name alias names (Some i) = common_reads alias names i (slice_get w.commons i) refl

  pub table_relation_reads : (name alias : Name) (names : List (List ℕ)) → FromIf w found (r.table_relation w name alias names found)
  table_relation_reads name alias names =
      let at = position (λ c. bytes_eq c.name name.text) w.commons in where_from w found found _ _ (r.relation_by w name alias names at) (relation_reads name alias names at)

  of_block : (alias : Name) (names : List (List ℕ)) (o : Result (Block × Found) BindError) → BlockIf w found o → FromIf w found (follow o (r.subquery_relation alias names))
  of_block alias names (Err e) h = tt
  of_block alias names (Ok p) h =
      where_from w found p.1 _ (error.NameTaken alias.text) (give (record { tree = Sub p.0.query; columns = output_sources alias.text p.0.outputs; names = alias.text ∷ []; joined = p.0.joined }))
      (record {
        subs = h.subs;
        results = h.results ∙ ap (λ n. found.results + n) (sym (ins_sub p.0.query));
        blocks = omega (arith, h.blocks);
        holds = λ ns aggs. (nested_sub (Outside w) (Seen w ns) found.results p.0.query h.nested, subst (AggsName (Outside w) (Seen w ns)) (sym h.aggs) aggs);
      })

pub subquery_reads : (select : SelectPart) (alias : Name) → SelectReads select → RelationReads (λ w names. r.one_more names (select w then r.subquery_relation alias names))
subquery_reads select alias h w names found = where_from w found found _ _ (select w then r.subquery_relation alias names) (of_block w found alias names (select w found) (h w found))

-- ---- joins

-- what is made of two, under C of the numbers that are seen
pub record Makes (C : (ℕ → Type 0) → Type 0) (make : FromTree → FromTree → FromTree) : Type 1 where
  pub ins : (a b : FromTree) → ins_in_from (make a b) ≡ ins_in_from a + ins_in_from b
  pub nested : (O S : ℕ → Type 0) (k : ℕ) (a b : FromTree) → FromIsNested O S k a → FromIsNested O S (k + ins_in_from a) b → C S → FromIsNested O S k (make a b)

cross_makes : Makes (λ S. ⊤) Cross
cross_makes = record { ins = ins_cross; nested = λ O S k a b h g c. nested_cross O S k a b h g }

abbrev pub OnMakes : (FromTree → FromTree → Cond → FromTree) → Type 1
OnMakes make = (c : Cond) → Makes (λ S. CondNames S c) (λ a b. make a b c)

pub inner_makes : OnMakes Inner
inner_makes c = record { ins = λ a b. ins_inner a b c; nested = λ O S k a b h g n. nested_inner O S k a b c h g n }

pub left_makes : OnMakes Left
left_makes c = record { ins = λ a b. ins_left a b c; nested = λ O S k a b h g n. nested_left O S k a b c h g n }

both_reads : (w : World) (C : (ℕ → Type 0) → Type 0) (make : FromTree → FromTree → FromTree) (m : Makes C make) (a b : Relations) (start f g new : Found) → FromNested w start a f → FromNested w f b g
    → new.subs ≡ g.subs → new.results ≡ g.results → g.blocks ≤ new.blocks → ((ns : List ℕ) → AggsSeen w ns g → C (Seen w ns) × AggsSeen w ns new) → FromNested w start (r.both make a b) new
both_reads w C make m a b start f g new h k subs results blocks holds = record {
  subs = subs ∙ (k.subs ∙ h.subs);
  results = omega (arith, h.results, k.results, results, m.ins a.tree b.tree);
  blocks = omega (arith, h.blocks, k.blocks, blocks);
  holds = λ ns aggs.
      let x = h.holds ns aggs in
      let y = k.holds ns x.1 in
      let z = holds ns y.1 in
      (m.nested (Outside w) (Seen w ns) start.results a.tree b.tree x.0 (subst (λ i. FromIsNested (Outside w) (Seen w ns) i b.tree) h.results y.0) z.0, z.1);
}

cross_reads : (w : World) (a b : Relations) (start f g : Found) → FromNested w start a f → FromNested w f b g → FromNested w start (r.both Cross a b) g
cross_reads w a b start f g h k = both_reads w (λ S. ⊤) Cross cross_makes a b start f g g h k refl refl (omega arith) (λ ns aggs. (tt, aggs))

-- some relations, and then more
then_from : (w : World) (start f : Found) (o : Result (Relations × Found) BindError) (next : Relations → Reading Relations) → FromIf w f o
    → ((b : Relations) (g : Found) → FromNested w f b g → FromIf w start (next b g)) → FromIf w start (follow o next)
then_from w start f (Ok p) next h k = k p.0 p.1 h
then_from w start f (Err e) next h k = tt

-- an ON finds no IN subquery
of_condition : (w : World) (make : FromTree → FromTree → Cond → FromTree) → OnMakes make → (a b : Relations) (start f g : Found) → FromNested w start a f → FromNested w f b g
    → (o : Result (Cond × Found) BindError) → ((ns : List ℕ) → AddsIf (Outside w) (Seen w ns) false ⊤ (CondNames (Seen w ns)) g o) → FromIf w start (follow o (λ c. give (r.both (λ x y. make x y c) a b)))
of_condition w make m a b start f g h k (Ok p) s =
    let t = s [] in
    let none = t.none refl in
    let ins : ins_all t.more ≡ 0 = ap ins_all none in
    both_reads w (λ S. CondNames S p.0) (λ x y. make x y p.0) (m p.0) a b start f g p.1 h k (t.subs ∙ (ap (λ qs. g.subs ++ qs) none ∙ append_nil g.subs)) (omega (arith, t.results, ins)) t.blocks
    (λ ns aggs. let u = s ns in u.holds (subst (Covers (Seen w ns) g.results) (sym (u.none refl)) tt) tt aggs)
of_condition w make m a b start f g h k (Err e) s = tt

pub run : (w : World) (ns : List ℕ) (may : Bool) {A : Type 0} (C : Type 0) (V : A → Type 0) (x : Reading A) (found : Found) → Reads (Outside w) (Seen w ns) may C V x → AddsIf (Outside w) (Seen w ns) may C V found (x found)
unfolding Reads
run w ns may C V x found h = h found

pub on_join_reads : (make : FromTree → FromTree → Cond → FromTree) → OnMakes make → (relation : RelationPart) (on : Part) → RelationReads relation → PartReads on
    → JoinReads (λ w names first a. relation w (names ++ a.names) then r.joined_on w first make on a)
on_join_reads make m relation on h p w names first a start f k =
    then_from w start f (relation w (names ++ a.names) f) (r.joined_on w first make on a) (h w (names ++ a.names) f) (λ b g l.
    let cx : Context = r.on_context w first (a.columns ++ b.columns) in
    of_condition w make m a b start f g k l (r.condition_of on cx g) (λ ns. run w ns false ⊤ (CondNames (Seen w ns)) (r.condition_of on cx) g (condition_reads cx ns on p)))

pub cross_join_reads : (relation : RelationPart) → RelationReads relation → JoinReads (λ w names first a. relation w (names ++ a.names) then (λ b. give (r.both Cross a b)))
cross_join_reads relation h w names first a start f k =
    then_from w start f (relation w (names ++ a.names) f) (λ b. give (r.both Cross a b)) (h w (names ++ a.names) f) (λ b g l. cross_reads w a b start f g k l)

through_from : (w : World) (start : Found) {A : Type 0} (next : Relations → A → Reading Relations) (xs : List A)
    → AllByRecursion (λ x. (a : Relations) (f : Found) → FromNested w start a f → FromIf w start (next a x f)) xs → (a : Relations) (f : Found) → FromNested w start a f → FromIf w start (through next xs a f)
through_from w start next [] h a f k = k
through_from w start next (x ∷ more) h a f k = then_from w start start (next a x f) (through next more) (h.0 a f k) (λ b g l. through_from w start next more h.1 b g l)

joins_read : (w : World) (names : List (List ℕ)) (first : ℕ) (start : Found) (js : List JoinPart) → AllByRecursion JoinReads js
    → AllByRecursion (λ j. (a : Relations) (f : Found) → FromNested w start a f → FromIf w start (r.with_join w names first a j f)) js
joins_read w names first start [] h = tt
joins_read w names first start (j ∷ more) h = ((λ a f k. h.0 w names first a start f k), joins_read w names first start more h.1)

pub from_part_reads : (relation : RelationPart) (js : List JoinPart) → RelationReads relation → AllByRecursion JoinReads js → FromReads (λ w names first. relation w names then through (r.with_join w names first) js)
from_part_reads relation js h k w names first found =
    then_from w found found (relation w names found) (through (r.with_join w names first) js) (h w names found) (λ a f l. through_from w found (r.with_join w names first) js (joins_read w names first found js k) a f l)

-- ---- products

products_read : (w : World) (start : Found) (fs : List FromPart) → AllByRecursion FromReads fs → AllByRecursion (λ p. (a : Relations) (f : Found) → FromNested w start a f → FromIf w start (r.with_product w a p f)) fs
products_read w start [] h = tt
products_read w start (p ∷ more) h = (
  (λ a f k. then_from w start f (p w a.names (length a.columns) f) (λ b. give (r.both Cross a b)) (h.0 w a.names (length a.columns) f) (λ b g l. cross_reads w a b start f g k l)),
  products_read w start more h.1,
)

pub from_reads : (w : World) (found : Found) (fs : List FromPart) → AllByRecursion FromReads fs → FromIf w found (r.from_of w fs found)
from_reads w found [] h = record { subs = refl; results = omega arith; blocks = omega arith; holds = λ ns aggs. (tt, aggs) }
from_reads w found (p ∷ more) h =
    then_from w found found (p w [] 0 found) (through (r.with_product w) more) (h.0 w [] 0 found) (λ a f l. through_from w found (r.with_product w) more (products_read w found more h.1) a f l)
