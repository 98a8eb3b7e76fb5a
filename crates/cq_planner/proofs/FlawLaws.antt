-- The flaws of a plan's blocks, as code gathers them.
use Rattle.std.proofs.Common.{◌≡◌, Bool, true, false, ◌||◌, List, [], ◌∷◌, ◌++◌, Option, refl, sym, ap, ◌∙◌}
use Rattle.std.specs.List.{list_any}
use Rattle.std.proofs.lemmas.List.Folds.{list_any-append}
use denote.Hole.Carrier.{hidden}
use Rattle.cq_tree.specs.declared.unsupported.Unsupported.{Unsupported}
use Rattle.cq_one_plan.specs.declared.plan.Plan.{Plan, out-Plan, roll-Plan, roll-out-Plan, Row_of-Plan, end_of-Plan, more_of-Plan, items-the_row-Plan, items_hidden-the_row-Plan-0}
use Rattle.cq_one_plan.specs.declared.plan.Plan.TheBlock.{hidden-the_row-Plan-0}
use Rattle.cq_one_plan.specs.declared.plan.Plan.TheOpen.{Plan-F}
use Rattle.cq_one_plan.specs.Reading.{blocks_in_order, blocks_of_all}
use Rattle.cq_one_plan.specs.Refusing.{grounds_in, needs_repartition, refusal_in}
use Rattle.cq_planner.specs.declared.refusing.Flaws.{Flaws}
use Rattle.cq_planner.specs.Flaws.{either, flaws_by, flaws_within, flaws_among, lowest}

or_false : (b : Bool) → (b || false) ≡ b
or_false true = refl
or_false false = refl

module _ (repartition : Bool) where
  -- those of blocks
  abbrev of : List Plan → Flaws
  of bs = record {
    needs_repartition = list_any (needs_repartition repartition) bs;
    lacks_equality = list_any (λ b. (grounds_in b).lacks_equality) bs;
    has_loose_join = list_any (λ b. (grounds_in b).has_loose_join) bs;
  }

  abbrev flawed : Bool → Bool → Bool → Flaws
  flawed needs lacks loose = record { needs_repartition = needs; lacks_equality = lacks; has_loose_join = loose }

  of_both : (bs cs : List Plan) → of (bs ++ cs) ≡ either (of bs) (of cs)
  of_both bs cs = λ i. flawed (list_any-append (needs_repartition repartition) bs cs i) (list_any-append (λ b. (grounds_in b).lacks_equality) bs cs i) (list_any-append (λ b. (grounds_in b).has_loose_join) bs cs i)

  all_row : {n : _} (ps : Row_of-Plan n) → of (blocks_of_all ps) ≡ flaws_among repartition (items-the_row-Plan _ ps)
  all_row end_of-Plan = refl
  all_row (more_of-Plan p more) = of_both (blocks_in_order p) (blocks_of_all more) ∙ ap (either (flaws_within repartition p)) (all_row more)

  all_hidden : (ps : List Plan) → of (blocks_of_all (hidden-the_row-Plan-0 ps)) ≡ flaws_among repartition ps
  all_hidden ps = all_row (hidden-the_row-Plan-0 ps) ∙ ap (flaws_among repartition) (items_hidden-the_row-Plan-0 ps)

  one : (x : Plan-F Plan) → of (roll-Plan x ∷ []) ≡ flaws_by repartition x.planner x.grounds
  unfolding roll-Plan denote.Hole.Carrier.roll
  one x = λ i. flawed (or_false (needs_repartition repartition (roll-Plan x)) i) (or_false x.grounds.lacks_equality i) (or_false x.grounds.has_loose_join i)

  within_rolled : (x : Plan-F Plan) → flaws_within repartition (roll-Plan x) ≡ either (flaws_among repartition x.subplans) (flaws_by repartition x.planner x.grounds)
  unfolding roll-Plan denote.Hole.Carrier.roll
  within_rolled x = of_both (blocks_of_all (hidden-the_row-Plan-0 x.subplans)) (roll-Plan x ∷ []) ∙ (λ i. either (all_hidden x.subplans i) (one x i))

  pub within_is : (p : Plan) → flaws_within repartition p ≡ either (flaws_among repartition (out-Plan p).subplans) (flaws_by repartition (out-Plan p).planner (out-Plan p).grounds)
  within_is p = ap (flaws_within repartition) (sym (roll-out-Plan p)) ∙ within_rolled (out-Plan p)

  cut_rolled : (x : Plan-F Plan) → (grounds_in (roll-Plan x)).has_loose_cut ≡ x.grounds.has_loose_cut
  unfolding roll-Plan denote.Hole.Carrier.roll
  cut_rolled x = refl

  cut_is : (p : Plan) → (grounds_in p).has_loose_cut ≡ (out-Plan p).grounds.has_loose_cut
  cut_is p = ap (λ (x : Plan). (grounds_in x).has_loose_cut) (sym (roll-out-Plan p)) ∙ cut_rolled (out-Plan p)

  pub refusal_found : (p : Plan) (flaws : Flaws) (r : Option Unsupported) → flaws ≡ flaws_within repartition p → r ≡ lowest flaws (out-Plan p).grounds.has_loose_cut → r ≡ refusal_in repartition p
  refusal_found p flaws r f is = is ∙ (λ i. lowest (f i) (sym (cut_is p) i))
