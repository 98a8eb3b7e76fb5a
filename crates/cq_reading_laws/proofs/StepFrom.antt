-- The steps in a FROM: the IN subqueries of its subqueries have their numbers in order, and its own SELECT finds none in it.
use Rattle.std.proofs.Common.{◌≡◌, ℕ, zero, suc, ◌+◌, ◌≤◌, ◌<◌, Bool, true, false, List, [], ◌∷◌, ◌++◌, length, refl, sym, ap, ◌∙◌, subst, arith, Option, None, Some, Result, Ok, Err}
use Rattle.std.specs.Prelude.{⊤, slice_get, position, bytes_eq}
use Rattle.std.specs.List.{AllByRecursion}
use Rattle.cq_value.proofs.Lists.{append_nil, all_append}
use Rattle.cq_catalog.specs.declared.info.TableInfo.{TableInfo}
use Rattle.cq_catalog.specs.Contents.{number_of}
use Rattle.cq_grammar.specs.declared.name.Name.{Name}
use Rattle.cq_tree.specs.declared.expression.Cond.{Cond}
use Rattle.cq_tree.specs.declared.query.FromTree.{FromTree, Table, Sub, Cross, Inner, Left}
use Rattle.cq_tree.specs.declared.query.FromTree as tree
use Rattle.cq_meaning.specs.declared.Columns.{Columns}
use Rattle.cq_meaning.specs.Results.{ins_in_from}
use Rattle.cq_meaning.specs.Widths.{table_bits, from_bits}
use Rattle.cq_meaning_laws.specs.WholeRules.{Step, steps_in_from}
use Rattle.cq_reading.specs.declared.bound.Found.{Found}
use Rattle.cq_reading.specs.declared.bound.Source.{Source}
use Rattle.cq_reading.specs.declared.bound.Common.{Common}
use Rattle.cq_reading.specs.declared.bound.Block.{Block}
use Rattle.cq_reading.specs.declared.bound.Relations.{Relations}
use Rattle.cq_reading.specs.declared.error.BindError.{BindError}
use Rattle.cq_reading.specs.declared.error.BindError.TheVariants as error
use Rattle.cq_reading.specs.Steps.{Reading, give, provided, follow, ◌then◌, through}
use Rattle.cq_reading.specs.Scopes.{World, Context, table_sources, output_sources}
use Rattle.cq_reading.specs.Parts.{Part, RelationPart, JoinPart, FromPart, SelectPart}
use Rattle.cq_reading.specs.Relations as r
use Rattle.cq_reading_laws.proofs.Carrying.{Law, Carried, Carries}
use Rattle.cq_reading_laws.proofs.CarryingParts.{PartCarries}
use Rattle.cq_reading_laws.proofs.CarryingSelects.{condition_of_carries}
use Rattle.cq_reading_laws.proofs.Trees.{bits_cross, bits_inner, bits_left, bits_sub}
use Rattle.cq_reading_laws.proofs.StepRows.{ins_all, ins_cross, ins_inner, ins_left, ins_sub, steps_cross, steps_inner, steps_left, steps_sub}
use Rattle.cq_reading_laws.proofs.StepSubs.{Agree, Right, AreRight, right_later, Subs, subs_law, law, same_law, BlockIf, SelectSteps}

-- the widths of a FROM's columns hang on no more than the first n results
abbrev pub DependsFrom : ℕ → FromTree → Type 0
DependsFrom n t = (cs ds : Columns) → Agree n cs ds → from_bits cs t ≡ from_bits ds t

pub record FromSteps (w : World) (found : Found) (r : Relations) (new : Found) : Type 0 where
  pub subs : new.subs ≡ found.subs
  pub results : new.results ≡ found.results + ins_in_from r.tree
  pub blocks : found.blocks ≤ new.blocks
  pub steps : AreRight w new.results (steps_in_from found.results r.tree)
  pub same : DependsFrom (length w.commons) r.tree

abbrev pub FromStepsIf : World → Found → Result (Relations × Found) BindError → Type 0
FromStepsIf w found (Ok p) = FromSteps w found p.0 p.1
FromStepsIf w found (Err e) = ⊤

abbrev pub RelationSteps : RelationPart → Type 0
RelationSteps p = (w : World) (names : List (List ℕ)) (found : Found) → FromStepsIf w found (p w names found)

abbrev pub JoinSteps : JoinPart → Type 0
JoinSteps j = (w : World) (names : List (List ℕ)) (first : ℕ) (a : Relations) (start found : Found) → FromSteps w start a found → FromStepsIf w start (j w names first a found)

abbrev pub FromPartSteps : FromPart → Type 0
FromPartSteps f = (w : World) (names : List (List ℕ)) (first : ℕ) (found : Found) → FromStepsIf w found (f w names first found)

-- ---- relations

steps_where : (w : World) (start found : Found) (t : Bool) (e : BindError) (r : Reading Relations) → FromStepsIf w start (r found) → FromStepsIf w start (provided t e r found)
steps_where w start found true e r h = h
steps_where w start found false e r h = tt

-- a leaf
under_steps : (w : World) (found : Found) (name : Name) (names : List (List ℕ)) (t : FromTree) (columns : List Source) (joined : Bool)
    → ins_in_from t ≡ 0 → AreRight w found.results (steps_in_from found.results t) → DependsFrom (length w.commons) t → FromStepsIf w found (r.under name names t columns joined found)
under_steps w found name names t columns joined none steps same =
    steps_where w found found _ (error.NameTaken name.text) (give (record { tree = t; columns = columns; names = name.text ∷ []; joined = joined }))
    (record { subs = refl; results = omega (arith, none); blocks = omega arith; steps = steps; same = same })

-- where something is found, there is that much
is_there : {A : Type 0} (xs : List A) (i : ℕ) (x : A) → slice_get xs i ≡ Some x → i < length xs
is_there [] i x is = absurd (subst (λ o. IsNone o) is tt)
  where
    IsNone : {A : Type 0} → Option A → Type 0
    IsNone None = ⊤
    IsNone (Some a) = ⊥
is_there (y ∷ xs) zero x is = omega arith
is_there (y ∷ xs) (suc i) x is = let l = is_there xs i x is in omega (arith, l)

module _ (w : World) (found : Found) where
  table_steps : (name alias : Name) (names : List (List ℕ)) (i : ℕ) (t : Option TableInfo) → FromStepsIf w found (r.table_under name alias names i t found)
  table_steps name alias names i None = tt
  table_steps name alias names i (Some t) =
      steps_where w found found _ (error.LocalTable name.at) (r.under alias names (Table i (length t.columns)) (table_sources alias.text t) false)
      (under_steps w found alias names (Table i (length t.columns)) (table_sources alias.text t) false refl tt (λ cs ds a. ap (λ ts. table_bits ts i) a.tables))

  table_by_steps : (name alias : Name) (names : List (List ℕ)) (i : Option ℕ) → FromStepsIf w found (r.table_by w name alias names i found)
  table_by_steps name alias names None = tt
  table_by_steps name alias names (Some i) = table_steps name alias names i (slice_get w.tables i)

  common_steps : (alias : Name) (names : List (List ℕ)) (i : ℕ) (c : Option Common) → slice_get w.commons i ≡ c → FromStepsIf w found (r.common_by w alias names i c found)
  common_steps alias names i None is = tt
  common_steps alias names i (Some c) is =
      under_steps w found alias names (tree.Result i (length c.outputs)) (output_sources alias.text c.outputs) c.joined refl tt (λ cs ds a. a.results i (is_there w.commons i c is))

  relation_steps : (name alias : Name) (names : List (List ℕ)) (i : Option ℕ) → FromStepsIf w found (r.relation_by w name alias names i found)
  relation_steps name alias names None = table_by_steps name alias names (number_of w.tables name.text)
  relation_steps name alias names (Some i) = common_steps alias names i (slice_get w.commons i) refl

  pub table_relation_steps : (name alias : Name) (names : List (List ℕ)) → FromStepsIf w found (r.table_relation w name alias names found)
  table_relation_steps name alias names =
      steps_where w found found _ _ (r.relation_by w name alias names (position (λ c. bytes_eq c.name name.text) w.commons)) (relation_steps name alias names (position (λ c. bytes_eq c.name name.text) w.commons))

  of_block : (alias : Name) (names : List (List ℕ)) (o : Result (Block × Found) BindError) → BlockIf w found o → FromStepsIf w found (follow o (r.subquery_relation alias names))
  of_block alias names (Err e) h = tt
  of_block alias names (Ok p) h =
      steps_where w found p.1 _ (error.NameTaken alias.text) (give (record { tree = Sub p.0.query; columns = output_sources alias.text p.0.outputs; names = alias.text ∷ []; joined = p.0.joined }))
      (record {
        subs = h.subs;
        results = h.results ∙ ap (λ n. found.results + n) (sym (ins_sub p.0.query));
        blocks = omega (arith, h.blocks);
        steps = subst (AreRight w p.1.results) (sym (steps_sub found.results p.0.query)) h.steps;
        same = λ cs ds a. bits_sub cs p.0.query ∙ (h.same cs ds a ∙ sym (bits_sub ds p.0.query));
      })

pub subquery_steps : (select : SelectPart) (alias : Name) → SelectSteps select → RelationSteps (λ w names. r.one_more names (select w then r.subquery_relation alias names))
subquery_steps select alias h w names found = steps_where w found found _ _ (select w then r.subquery_relation alias names) (of_block w found alias names (select w found) (h w found))

-- ---- joins

-- what is made of two
pub record Makes (make : FromTree → FromTree → FromTree) : Type 0 where
  pub ins : (a b : FromTree) → ins_in_from (make a b) ≡ ins_in_from a + ins_in_from b
  pub steps : (k : ℕ) (a b : FromTree) → steps_in_from k (make a b) ≡ steps_in_from k a ++ steps_in_from (k + ins_in_from a) b
  pub bits : (cs : Columns) (a b : FromTree) → from_bits cs (make a b) ≡ from_bits cs a ++ from_bits cs b

pub cross_makes : Makes Cross
cross_makes = record { ins = ins_cross; steps = steps_cross; bits = bits_cross }

pub inner_makes : (c : Cond) → Makes (λ a b. Inner a b c)
inner_makes c = record { ins = λ a b. ins_inner a b c; steps = λ k a b. steps_inner k a b c; bits = λ cs a b. bits_inner cs a b c }

pub left_makes : (c : Cond) → Makes (λ a b. Left a b c)
left_makes c = record { ins = λ a b. ins_left a b c; steps = λ k a b. steps_left k a b c; bits = λ cs a b. bits_left cs a b c }

both_same : (n : ℕ) (make : FromTree → FromTree → FromTree) (m : Makes make) (a b : FromTree) → DependsFrom n a → DependsFrom n b → DependsFrom n (make a b)
both_same n make m a b h k cs ds g =
    m.bits cs a b ∙ (ap (λ js. js ++ from_bits cs b) (h cs ds g) ∙ (ap (λ js. from_bits ds a ++ js) (k cs ds g) ∙ sym (m.bits ds a b)))

pub both_steps : (w : World) (make : FromTree → FromTree → FromTree) (m : Makes make) (a b : Relations) (start f g new : Found) → FromSteps w start a f → FromSteps w f b g
    → new.subs ≡ g.subs → new.results ≡ g.results → g.blocks ≤ new.blocks → FromSteps w start (r.both make a b) new
both_steps w make m a b start f g new h k subs results blocks = record {
  subs = subs ∙ (k.subs ∙ h.subs);
  results = omega (arith, h.results, k.results, results, m.ins a.tree b.tree);
  blocks = omega (arith, h.blocks, k.blocks, blocks);
  steps = subst (AreRight w new.results) (sym (m.steps start.results a.tree b.tree))
      (all_append (λ (s : Step). Right w new.results s.query) (steps_in_from start.results a.tree) (steps_in_from (start.results + ins_in_from a.tree) b.tree)
      (right_later w f.results new.results (steps_in_from start.results a.tree) (omega (arith, k.results, results)) h.steps)
      (subst (λ i. AreRight w new.results (steps_in_from i b.tree)) h.results (right_later w g.results new.results (steps_in_from f.results b.tree) (omega (arith, results)) k.steps)));
  same = both_same (length w.commons) make m a.tree b.tree h.same k.same;
}

-- the relation behind those before it, and then the two of them
then_steps : (w : World) (start f : Found) (o : Result (Relations × Found) BindError) (next : Relations → Reading Relations) → FromStepsIf w f o
    → ((b : Relations) (g : Found) → FromSteps w f b g → FromStepsIf w start (next b g)) → FromStepsIf w start (follow o next)
then_steps w start f (Ok p) next h k = k p.0 p.1 h
then_steps w start f (Err e) next h k = tt

-- an ON finds no IN subquery
nothing_found : (w : World) (g new : Found) → Subs w false g new → (new.subs ≡ g.subs) × (new.results ≡ g.results) × (g.blocks ≤ new.blocks)
nothing_found w g new s =
    let e = s.none refl in
    let n : ins_all s.more ≡ 0 = ap ins_all e in
    (s.subs ∙ (ap (λ qs. g.subs ++ qs) e ∙ append_nil g.subs), omega (arith, s.results, n), s.blocks)

of_condition : (w : World) (make : FromTree → FromTree → Cond → FromTree) (m : (c : Cond) → Makes (λ a b. make a b c)) (a b : Relations) (start f g : Found) → FromSteps w start a f → FromSteps w f b g
    → (o : Result (Cond × Found) BindError) → Carried (subs_law w false) g o → FromStepsIf w start (follow o (λ c. give (r.both (λ x y. make x y c) a b)))
of_condition w make m a b start f g h k (Ok p) s = let n = nothing_found w g p.1 s.0 in both_steps w (λ x y. make x y p.0) (m p.0) a b start f g p.1 h k n.0 n.1 n.2
of_condition w make m a b start f g h k (Err e) s = tt

pub carried : {A : Type 0} (l : Law) (x : Reading A) (found : Found) → Carries l x → Carried l found (x found)
unfolding Carries
carried l x found h = h found

pub on_join_steps : (make : FromTree → FromTree → Cond → FromTree) (m : (c : Cond) → Makes (λ a b. make a b c)) (relation : RelationPart) (on : Part) → RelationSteps relation → PartCarries law on
    → JoinSteps (λ w names first a. relation w (names ++ a.names) then r.joined_on w first make on a)
on_join_steps make m relation on h p w names first a start f k =
    then_steps w start f (relation w (names ++ a.names) f) (r.joined_on w first make on a) (h w (names ++ a.names) f) (λ b g l.
    let cx : Context = r.on_context w first (a.columns ++ b.columns) in
    of_condition w make m a b start f g k l (r.condition_of on cx g) (carried (subs_law w false) (r.condition_of on cx) g (condition_of_carries law same_law on cx p)))

pub cross_join_steps : (relation : RelationPart) → RelationSteps relation → JoinSteps (λ w names first a. relation w (names ++ a.names) then (λ b. give (r.both Cross a b)))
cross_join_steps relation h w names first a start f k =
    then_steps w start f (relation w (names ++ a.names) f) (λ b. give (r.both Cross a b)) (h w (names ++ a.names) f) (λ b g l. both_steps w Cross cross_makes a b start f g g k l refl refl (omega arith))

through_steps : (w : World) (start : Found) {A : Type 0} (next : Relations → A → Reading Relations) (xs : List A)
    → AllByRecursion (λ x. (a : Relations) (f : Found) → FromSteps w start a f → FromStepsIf w start (next a x f)) xs → (a : Relations) (f : Found) → FromSteps w start a f → FromStepsIf w start (through next xs a f)
through_steps w start next [] h a f k = k
through_steps w start {A = A} next (x ∷ more) h a f k = after (next a x f) (h.0 a f k) (λ b g l. through_steps w start next more h.1 b g l)
  where
    after : (o : Result (Relations × Found) BindError) → FromStepsIf w start o → ((b : Relations) (g : Found) → FromSteps w start b g → FromStepsIf w start (through next more b g))
        → FromStepsIf w start (follow o (through next more))
    after (Ok p) l go = go p.0 p.1 l
    after (Err e) l go = tt

joins_steps : (w : World) (names : List (List ℕ)) (first : ℕ) (start : Found) (js : List JoinPart) → AllByRecursion JoinSteps js
    → AllByRecursion (λ j. (a : Relations) (f : Found) → FromSteps w start a f → FromStepsIf w start (r.with_join w names first a j f)) js
joins_steps w names first start [] h = tt
joins_steps w names first start (j ∷ more) h = ((λ a f k. h.0 w names first a start f k), joins_steps w names first start more h.1)

-- what stands for some relations and for more of them behind it
more_steps : (w : World) (start : Found) (o : Result (Relations × Found) BindError) (next : Relations → Reading Relations) → FromStepsIf w start o
    → ((a : Relations) (f : Found) → FromSteps w start a f → FromStepsIf w start (next a f)) → FromStepsIf w start (follow o next)
more_steps w start (Ok p) next h k = k p.0 p.1 h
more_steps w start (Err e) next h k = tt

pub from_part_steps : (relation : RelationPart) (js : List JoinPart) → RelationSteps relation → AllByRecursion JoinSteps js → FromPartSteps (λ w names first. relation w names then through (r.with_join w names first) js)
from_part_steps relation js h k w names first found =
    more_steps w found (relation w names found) (through (r.with_join w names first) js) (h w names found) (λ a f l. through_steps w found (r.with_join w names first) js (joins_steps w names first found js k) a f l)

-- ---- products

products_steps : (w : World) (start : Found) (fs : List FromPart) → AllByRecursion FromPartSteps fs → AllByRecursion (λ p. (a : Relations) (f : Found) → FromSteps w start a f → FromStepsIf w start (r.with_product w a p f)) fs
products_steps w start [] h = tt
products_steps w start (p ∷ more) h = (
  (λ a f k. then_steps w start f (p w a.names (length a.columns) f) (λ b. give (r.both Cross a b)) (h.0 w a.names (length a.columns) f) (λ b g l. both_steps w Cross cross_makes a b start f g g k l refl refl (omega arith))),
  products_steps w start more h.1,
)

pub from_steps : (w : World) (found : Found) (fs : List FromPart) → AllByRecursion FromPartSteps fs → FromStepsIf w found (r.from_of w fs found)
from_steps w found [] h = record { subs = refl; results = omega arith; blocks = omega arith; steps = tt; same = λ cs ds a. ap (λ ts. table_bits ts 0) a.tables }
from_steps w found (p ∷ more) h =
    more_steps w found (p w [] 0 found) (through (r.with_product w) more) (h.0 w [] 0 found) (λ a f l. through_steps w found (r.with_product w) more (products_steps w found more h.1) a f l)
