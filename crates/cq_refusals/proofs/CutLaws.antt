-- Cuts in a query, as code sees it.
use Rattle.std.proofs.Common.{◌≡◌, Bool, true, false, List, ◌++◌, refl, sym, ap, ◌∙◌, ◌||◌, ◌&&◌, not, is_some, nat_eq}
use Rattle.std.specs.List.{list_any}
use Rattle.std.proofs.lemmas.List.Folds.{list_any-append}
use denote.Hole.Carrier.{hidden}
use Rattle.cq_tree.specs.declared.expression.Cond.{Cond}
use Rattle.cq_tree.specs.declared.query.FromTree.{FromTree, Sub, Cross, Inner, Left}
use Rattle.cq_tree.specs.declared.query.FromTree.TheBlock.{hidden-the_row-FromTree-1, hidden-the_row-Query-0, hidden-the_row-Query-2}
use Rattle.cq_tree.specs.declared.query.FromTree.TheOpen.{Query-F}
use Rattle.cq_tree.specs.declared.query.Query.{Query, Query', out-Query, roll-Query, roll-out-Query, Row_of-Query, end_of-Query, more_of-Query, items-the_row-Query, items_hidden-the_row-Query-2}
use Rattle.cq_planning.specs.Blocks.{subqueries_in, subqueries_below, each_with_subqueries}
use Rattle.cq_planning.specs.Refusals.{is_cut_loosely, orders_all}
use Rattle.cq_refusals.specs.Cuts.{is_cut_within}

-- whether one of them is cut
abbrev pub cut : List Query → Bool
cut = list_any is_cut_loosely

-- an OR by its parts, one after the other
pub or_first : (r a b whole : Bool) → r ≡ a → r ≡ true → whole ≡ (a || b) → r ≡ whole
or_first r a b whole e y is = y ∙ (ap (λ (x : Bool). x || b) (sym y ∙ e) ∙ sym is)

pub or_second : (r s a b whole : Bool) → r ≡ a → r ≡ false → s ≡ b → whole ≡ (a || b) → s ≡ whole
or_second r s a b whole e n f is = f ∙ (ap (λ (x : Bool). x || b) (sym n ∙ e) ∙ sym is)

or_apart : (a b d : Bool) → (a || (b || d)) ≡ ((a || b) || d)
or_apart true b d = refl
or_apart false b d = refl

all_row : {n : _} (qs : Row_of-Query n) → cut (each_with_subqueries qs) ≡ list_any is_cut_within (items-the_row-Query _ qs)
all_row end_of-Query = refl
all_row (more_of-Query q more) =
    ap (λ (b : Bool). is_cut_loosely q || b) (list_any-append is_cut_loosely (subqueries_in q) (each_with_subqueries more) ∙ ap (λ (b : Bool). cut (subqueries_in q) || b) (all_row more))
    ∙ or_apart (is_cut_loosely q) (cut (subqueries_in q)) (list_any is_cut_within (items-the_row-Query _ more))

all_hidden : (qs : List Query) → cut (each_with_subqueries (hidden-the_row-Query-2 qs)) ≡ list_any is_cut_within qs
all_hidden qs = all_row (hidden-the_row-Query-2 qs) ∙ ap (list_any is_cut_within) (items_hidden-the_row-Query-2 qs)

in_rolled : (x : Query-F FromTree Query) → cut (subqueries_in (roll-Query x)) ≡ (list_any is_cut_within x.ctes || (cut (subqueries_below x.from) || list_any is_cut_within x.subs))
unfolding roll-Query denote.Hole.Carrier.roll
in_rolled x =
    list_any-append is_cut_loosely (each_with_subqueries (hidden-the_row-Query-2 x.ctes)) (subqueries_below x.from ++ each_with_subqueries (hidden-the_row-Query-2 x.subs))
    ∙ (λ i. all_hidden x.ctes i || (list_any-append is_cut_loosely (subqueries_below x.from) (each_with_subqueries (hidden-the_row-Query-2 x.subs)) ∙ ap (λ (b : Bool). cut (subqueries_below x.from) || b) (all_hidden x.subs)) i)

pub in_is : (q : Query) → cut (subqueries_in q) ≡ (list_any is_cut_within (out-Query q).ctes || (cut (subqueries_below (out-Query q).from) || list_any is_cut_within (out-Query q).subs))
in_is q = ap (λ (r : Query). cut (subqueries_in r)) (sym (roll-out-Query q)) ∙ in_rolled (out-Query q)

pub loosely_is : (q : Query) → is_cut_loosely q ≡ ((is_some (out-Query q).limit || not (nat_eq (out-Query q).offset 0)) && not (orders_all (out-Query q).order (out-Query q).shown))
unfolding out-Query denote.Hole.Carrier.out
loosely_is (Query' cs ctes ss subs from where_ grouped keys aggs having items shown distinct order limit offset names) = refl

pub below_sub : (q : Query) → cut (subqueries_below (Sub q)) ≡ is_cut_within q
unfolding hidden-the_row-Query-0 hidden
below_sub q = refl

pub below_cross : (a b : FromTree) → cut (subqueries_below (Cross a b)) ≡ (cut (subqueries_below a) || cut (subqueries_below b))
unfolding hidden-the_row-FromTree-1 hidden
below_cross a b = list_any-append is_cut_loosely (subqueries_below a) (subqueries_below b)

pub below_inner : (a b : FromTree) (on : Cond) → cut (subqueries_below (Inner a b on)) ≡ (cut (subqueries_below a) || cut (subqueries_below b))
unfolding hidden-the_row-FromTree-1 hidden
below_inner a b on = list_any-append is_cut_loosely (subqueries_below a) (subqueries_below b)

pub below_left : (a b : FromTree) (on : Cond) → cut (subqueries_below (Left a b on)) ≡ (cut (subqueries_below a) || cut (subqueries_below b))
unfolding hidden-the_row-FromTree-1 hidden
below_left a b on = list_any-append is_cut_loosely (subqueries_below a) (subqueries_below b)
