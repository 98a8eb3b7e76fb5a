-- The IN subqueries of a SELECT: each that is found has the next number, behind those in it, and is what the engine asks for.
use Rattle.std.proofs.Common.{◌≡◌, ℕ, ◌+◌, ◌≤◌, ◌<◌, Bool, true, false, List, [], ◌∷◌, ◌++◌, length, refl, sym, ap, ◌∙◌, subst, arith, Result, Ok, Err}
use Rattle.std.specs.Prelude.{⊤, slice_index_or}
use Rattle.std.specs.List.{AllByRecursion}
use Rattle.cq_value.proofs.Lists.{append_nil, all_append}
use Rattle.cq_tree.specs.declared.query.Query.{Query}
use Rattle.cq_meaning.specs.declared.Columns.{Columns}
use Rattle.cq_meaning.specs.Results.{ins_in}
use Rattle.cq_meaning.specs.Widths.{output_bits, IsBoundQuery}
use Rattle.cq_meaning_laws.specs.WholeRules.{Step, steps_in}
use Rattle.cq_reading.specs.declared.bound.Found.{Found}
use Rattle.cq_reading.specs.declared.bound.Bound.{Bound}
use Rattle.cq_reading.specs.declared.bound.Block.{Block}
use Rattle.cq_reading.specs.declared.error.BindError.{BindError}
use Rattle.cq_reading.specs.declared.error.BindError.TheVariants as error
use Rattle.cq_reading.specs.Steps.{Reading, follow, provided}
use Rattle.cq_reading.specs.Widths.{are_alike}
use Rattle.cq_reading.specs.Scopes.{World, Context, plain}
use Rattle.cq_reading.specs.Expressions as e
use Rattle.cq_reading.specs.Parts.{SelectPart}
use Rattle.cq_reading_laws.specs.Worlds.{WorldFits}
use Rattle.cq_reading_laws.proofs.Carrying.{Law, Carried, Carries}
use Rattle.cq_reading_laws.proofs.Onwards.{append_all}
use Rattle.cq_reading_laws.proofs.Standing.{no_truth}
use Rattle.cq_reading_laws.proofs.FineJoins.{FineBlockIf, SelectStands}
use Rattle.cq_reading_laws.proofs.StepRows.{ins_all, steps_all, ins_append, steps_append, all_as}

-- the same tables, and the same widths of the first n results
pub record Agree (n : ℕ) (cs ds : Columns) : Type 0 where
  pub tables : cs.tables ≡ ds.tables
  pub results : (i : ℕ) → i < n → slice_index_or cs.results i [] ≡ slice_index_or ds.results i []

-- the widths of a query's outputs hang on no more than the first n results
abbrev pub Depends : ℕ → Query → Type 0
Depends n q = (cs ds : Columns) → Agree n cs ds → output_bits cs q ≡ output_bits ds q

-- a query in this world, read when there were m results: it is what the engine asks for once they are there, and of the results only
-- those of the CTEs in reach count for the widths of its outputs
pub record Right (w : World) (m : ℕ) (q : Query) : Type 0 where
  pub bound : (cs : Columns) → WorldFits cs w → m ≤ length cs.results → IsBoundQuery cs q
  pub same : Depends (length w.commons) q

abbrev pub AreRight : World → ℕ → List Step → Type 0
AreRight w m steps = AllByRecursion (λ s. Right w m s.query) steps

pub right_later : (w : World) (m n : ℕ) (steps : List Step) → m ≤ n → AreRight w m steps → AreRight w n steps
right_later w m n steps l h = all_as (λ (s : Step). Right w m s.query) (λ (s : Step). Right w n s.query) steps (λ s r. record { bound = λ cs fit few. r.bound cs fit (omega (arith, l, few)); same = r.same }) h

-- IN subqueries are only added, and none where no SELECT may stand
pub record Subs (w : World) (may : Bool) (f g : Found) : Type 0 where
  pub more : List Query
  pub subs : g.subs ≡ f.subs ++ more
  pub results : g.results ≡ f.results + ins_all more
  pub blocks : f.blocks ≤ g.blocks
  pub none : may ≡ false → more ≡ []
  pub steps : AreRight w g.results (steps_all f.results more)

pub no_more : (w : World) (may : Bool) (f g : Found) → g.subs ≡ f.subs → g.results ≡ f.results → g.blocks ≡ f.blocks → Subs w may f g
no_more w may f g s r b = record { more = []; subs = s ∙ sym (append_nil f.subs); results = omega (arith, r); blocks = omega (arith, b); none = λ e. refl; steps = tt }

both_none : (ps qs : List Query) → ps ≡ [] → qs ≡ [] → ps ++ qs ≡ []
both_none ps qs e f = ap (λ rs. rs ++ qs) e ∙ f

pub subs_on : (w : World) (may : Bool) (f g h : Found) → Subs w may f g → Subs w may g h → Subs w may f h
subs_on w may f g h a b = record {
  more = a.more ++ b.more;
  subs = b.subs ∙ ap (λ qs. qs ++ b.more) a.subs ∙ append_all f.subs a.more b.more;
  results = omega (arith, a.results, b.results, ins_append a.more b.more);
  blocks = omega (arith, a.blocks, b.blocks);
  none = λ e. both_none a.more b.more (a.none e) (b.none e);
  steps = subst (AreRight w h.results) (sym (steps_append f.results a.more b.more))
      (all_append (λ (s : Step). Right w h.results s.query) (steps_all f.results a.more) (steps_all (f.results + ins_all a.more) b.more)
      (right_later w g.results h.results (steps_all f.results a.more) (omega (arith, b.results)) a.steps)
      (subst (λ k. AreRight w h.results (steps_all k b.more)) a.results b.steps));
}

abbrev pub subs_law : World → Bool → Law
subs_law w may = record {
  Later = Subs w may;
  now = λ f. no_more w may f f refl refl refl;
  on = subs_on w may;
  aggs = λ f aggs. no_more w may f (record f { aggs = aggs }) refl refl refl;
}

abbrev pub law : Context → Law
law cx = subs_law cx.world cx.may_select

pub same_law : (cx : Context) (r : Reading Bound) → Carries (law (plain cx)) r → Carries (law cx) r
same_law cx r h = h

-- ---- a SELECT

-- a SELECT that is read: the IN subqueries around it are as before, and those in it have their numbers
pub record BlockSteps (w : World) (found : Found) (block : Block) (new : Found) : Type 0 where
  pub subs : new.subs ≡ found.subs
  pub results : new.results ≡ found.results + ins_in block.query
  pub room : found.blocks < 64
  pub blocks : found.blocks < new.blocks
  pub steps : AreRight w new.results (steps_in found.results block.query)
  pub same : Depends (length w.commons) block.query

abbrev pub BlockIf : World → Found → Result (Block × Found) BindError → Type 0
BlockIf w found (Ok p) = BlockSteps w found p.0 p.1
BlockIf w found (Err e) = ⊤

abbrev pub SelectSteps : SelectPart → Type 0
SelectSteps s = (w : World) (found : Found) → BlockIf w found (s w found)

carried_provided : (l : Law) (found : Found) (t : Bool) (x : BindError) (r : Reading Bound) (g : Found) → (t ≡ true → Carried l found (r g)) → Carried l found (provided t x r g)
carried_provided l found true x r g h = h refl
carried_provided l found false x r g h = tt

-- the query of a block is what the engine asks for
abbrev IsFine : World → Block → Found → Type 0
IsFine w block new = (cs : Columns) → WorldFits cs w → new.results ≤ length cs.results → IsBoundQuery cs block.query

module _ (cx : Context) (b : Bound) (negate : Bool) (at : ℕ) (found : Found) where
  abbrev mid : Found
  mid = record found { results = found.results + 1 }

  with_one : (block : Block) (g : Found) → BlockSteps cx.world mid block g → IsFine cx.world block g → cx.may_select ≡ true → Subs cx.world cx.may_select found (e.with_sub block.query g)
  with_one block g h k may = record {
    more = block.query ∷ [];
    subs = ap (λ qs. qs ++ block.query ∷ []) h.subs;
    results = omega (arith, h.results);
    blocks = omega (arith, h.blocks);
    none = λ e. absurd (no_truth (sym e ∙ may));
    steps = all_append (λ (s : Step). Right cx.world g.results s.query) (steps_in (found.results + 1) block.query) (record { number = found.results; query = block.query } ∷ []) h.steps (record { bound = k; same = h.same }, tt);
  }

  of_among : (block : Block) (g : Found) → BlockSteps cx.world mid block g → IsFine cx.world block g → Carried (law cx) found (e.among cx b negate at found.results block g)
  of_among block g h k =
      carried_provided (law cx) found cx.may_select (error.Subquery at) _ g (λ may.
      carried_provided (law cx) found (e.is_one block.outputs) (error.WrongCount at) _ g (λ one.
      carried_provided (law cx) found (are_alike b (e.output_bound block.outputs)) (error.Type at) _ g (λ alike.
      (with_one block g h k may, λ later m. tt))))

  of_block : (o : Result (Block × Found) BindError) → BlockIf cx.world mid o → ((cs : Columns) → WorldFits cs cx.world → FineBlockIf cs mid o)
      → Carried (law cx) found (follow o (λ block. e.among cx b negate at found.results block))
  of_block (Ok p) h k = of_among p.0 p.1 h (λ cs fit few. (k cs fit).bound few)
  of_block (Err x) h k = tt

pub in_select_steps : (select : SelectPart) → SelectSteps select → SelectStands select → (cx : Context) (b : Bound) (negate : Bool) (at : ℕ) → Carries (law cx) (e.in_select_reading select cx b negate at)
unfolding Carries
in_select_steps select h k cx b negate at found =
    let next : Found = record found { results = found.results + 1 } in
    of_block cx b negate at found (select cx.world next) (h cx.world next) (λ cs fit. k cs cx.world fit next)
