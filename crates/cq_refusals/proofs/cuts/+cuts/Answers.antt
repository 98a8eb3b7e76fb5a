use Rattle.std.proofs.Common.{rules, ap, ◌∙◌, ◌||◌}
use Rattle.std.specs.List.{list_any}
use Rattle.cq_tree.specs.declared.query.Query.{out-Query}
use Rattle.cq_planning.specs.Blocks.{subqueries_in, subqueries_below}
use Rattle.cq_planning.specs.Refusals.{is_cut_loosely}
use Rattle.cq_refusals.specs.Cuts.{is_cut_within}
use Rattle.cq_refusals.proofs.CutLaws.{cut, or_first, or_second, in_is, below_sub, below_cross, below_inner, below_left}
use Rattle.cq_refusals.proofs.cuts.+cuts.Goals as goal

pub has_loose_below-returns-then-is_cut_loosely : goal.has_loose_below-returns-then-is_cut_loosely
has_loose_below-returns-then-is_cut_loosely t c =
    or_first _ (is_cut_loosely c.in-Sub.q) (cut (subqueries_in c.in-Sub.q)) _ (c.is_cut_loosely.ensures ∙ ap is_cut_loosely c.get.ensures) c.if-is_cut_loosely.true
    (ap (λ f. cut (subqueries_below f)) c.in-Sub.is ∙ below_sub c.in-Sub.q)

pub has_loose_below-returns-else-is_cut_loosely : goal.has_loose_below-returns-else-is_cut_loosely
has_loose_below-returns-else-is_cut_loosely t c =
    or_second c.is_cut_loosely.result _ (is_cut_loosely c.in-Sub.q) (cut (subqueries_in c.in-Sub.q)) _ (c.is_cut_loosely.ensures ∙ ap is_cut_loosely c.get.ensures) c.if-is_cut_loosely.false
    (c.has_loose_cut.ensures ∙ ap (λ q. cut (subqueries_in q)) c.get-else-is_cut_loosely.ensures) (ap (λ f. cut (subqueries_below f)) c.in-Sub.is ∙ below_sub c.in-Sub.q)

pub has_loose_below-returns-then-has_loose_below : goal.has_loose_below-returns-then-has_loose_below
has_loose_below-returns-then-has_loose_below t c =
    or_first _ (cut (subqueries_below c.in-Cross.a)) (cut (subqueries_below c.in-Cross.b)) _ (c.has_loose_below.ensures ∙ ap (λ f. cut (subqueries_below f)) c.get-in-Cross.ensures) c.if-has_loose_below.true
    (ap (λ f. cut (subqueries_below f)) c.in-Cross.is ∙ below_cross c.in-Cross.a c.in-Cross.b)

pub has_loose_below-returns-else-has_loose_below : goal.has_loose_below-returns-else-has_loose_below
has_loose_below-returns-else-has_loose_below t c =
    or_second c.has_loose_below.result _ (cut (subqueries_below c.in-Cross.a)) (cut (subqueries_below c.in-Cross.b)) _ (c.has_loose_below.ensures ∙ ap (λ f. cut (subqueries_below f)) c.get-in-Cross.ensures) c.if-has_loose_below.false
    (c.has_loose_below-else-has_loose_below.ensures ∙ ap (λ f. cut (subqueries_below f)) c.get-else-has_loose_below.ensures) (ap (λ f. cut (subqueries_below f)) c.in-Cross.is ∙ below_cross c.in-Cross.a c.in-Cross.b)

pub has_loose_below-returns-then-has_loose_below-2 : goal.has_loose_below-returns-then-has_loose_below-2
has_loose_below-returns-then-has_loose_below-2 t c =
    or_first _ (cut (subqueries_below c.in-Inner.a)) (cut (subqueries_below c.in-Inner.b)) _ (c.has_loose_below-in-Inner.ensures ∙ ap (λ f. cut (subqueries_below f)) c.get-in-Inner.ensures) c.if-has_loose_below-2.true
    (ap (λ f. cut (subqueries_below f)) c.in-Inner.is ∙ below_inner c.in-Inner.a c.in-Inner.b c.in-Inner.field-2)

pub has_loose_below-returns-else-has_loose_below-2 : goal.has_loose_below-returns-else-has_loose_below-2
has_loose_below-returns-else-has_loose_below-2 t c =
    or_second c.has_loose_below-in-Inner.result _ (cut (subqueries_below c.in-Inner.a)) (cut (subqueries_below c.in-Inner.b)) _ (c.has_loose_below-in-Inner.ensures ∙ ap (λ f. cut (subqueries_below f)) c.get-in-Inner.ensures) c.if-has_loose_below-2.false
    (c.has_loose_below-else-has_loose_below-2.ensures ∙ ap (λ f. cut (subqueries_below f)) c.get-else-has_loose_below-2.ensures) (ap (λ f. cut (subqueries_below f)) c.in-Inner.is ∙ below_inner c.in-Inner.a c.in-Inner.b c.in-Inner.field-2)

pub has_loose_below-returns-then-has_loose_below-3 : goal.has_loose_below-returns-then-has_loose_below-3
has_loose_below-returns-then-has_loose_below-3 t c =
    or_first _ (cut (subqueries_below c.in-Left.a)) (cut (subqueries_below c.in-Left.b)) _ (c.has_loose_below-in-Left.ensures ∙ ap (λ f. cut (subqueries_below f)) c.get-in-Left.ensures) c.if-has_loose_below-3.true
    (ap (λ f. cut (subqueries_below f)) c.in-Left.is ∙ below_left c.in-Left.a c.in-Left.b c.in-Left.field-2)

pub has_loose_below-returns-else-has_loose_below-3 : goal.has_loose_below-returns-else-has_loose_below-3
has_loose_below-returns-else-has_loose_below-3 t c =
    or_second c.has_loose_below-in-Left.result _ (cut (subqueries_below c.in-Left.a)) (cut (subqueries_below c.in-Left.b)) _ (c.has_loose_below-in-Left.ensures ∙ ap (λ f. cut (subqueries_below f)) c.get-in-Left.ensures) c.if-has_loose_below-3.false
    (c.has_loose_below-else-has_loose_below-3.ensures ∙ ap (λ f. cut (subqueries_below f)) c.get-else-has_loose_below-3.ensures) (ap (λ f. cut (subqueries_below f)) c.in-Left.is ∙ below_left c.in-Left.a c.in-Left.b c.in-Left.field-2)

pub has_loose_cut-returns-then-has_loose_one : goal.has_loose_cut-returns-then-has_loose_one
has_loose_cut-returns-then-has_loose_one t c =
    or_first _ (list_any is_cut_within (out-Query c.args.q.now).ctes) (cut (subqueries_below (out-Query c.args.q.now).from) || list_any is_cut_within (out-Query c.args.q.now).subs) _ (search rules) c.if-has_loose_one.true (in_is c.args.q.now)

pub has_loose_cut-returns-then-has_loose_below : goal.has_loose_cut-returns-then-has_loose_below
has_loose_cut-returns-then-has_loose_below t c =
    or_second c.has_loose_one.result _ (list_any is_cut_within (out-Query c.args.q.now).ctes) (cut (subqueries_below (out-Query c.args.q.now).from) || list_any is_cut_within (out-Query c.args.q.now).subs) _ (search rules) c.if-has_loose_one.false
    (or_first _ (cut (subqueries_below (out-Query c.args.q.now).from)) (list_any is_cut_within (out-Query c.args.q.now).subs) _ (search rules) c.if-has_loose_below.true (search rules)) (in_is c.args.q.now)

pub has_loose_cut-returns-else-has_loose_below : goal.has_loose_cut-returns-else-has_loose_below
has_loose_cut-returns-else-has_loose_below t c =
    or_second c.has_loose_one.result _ (list_any is_cut_within (out-Query c.args.q.now).ctes) (cut (subqueries_below (out-Query c.args.q.now).from) || list_any is_cut_within (out-Query c.args.q.now).subs) _ (search rules) c.if-has_loose_one.false
    (or_second c.has_loose_below.result _ (cut (subqueries_below (out-Query c.args.q.now).from)) (list_any is_cut_within (out-Query c.args.q.now).subs) _ (search rules) c.if-has_loose_below.false (search rules) (search rules)) (in_is c.args.q.now)
