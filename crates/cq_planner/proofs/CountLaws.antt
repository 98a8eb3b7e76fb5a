-- Counts at the nodes of a query, as code sees them.
use Rattle.std.proofs.Common.{◌≡◌, ℕ, ◌+◌, List, ◌∷◌, length, refl, sym, ap, ◌∙◌, zero-add, arith}
use denote.Hole.Carrier.{hidden}
use Rattle.cq_tree.specs.declared.expression.Cond.{Cond}
use Rattle.cq_tree.specs.declared.query.FromTree.{FromTree, Sub, Cross, Inner, Left}
use Rattle.cq_tree.specs.declared.query.FromTree.TheBlock.{hidden-the_row-FromTree-1, hidden-the_row-Query-0, hidden-the_row-Query-2}
use Rattle.cq_tree.specs.declared.query.FromTree.TheOpen.{Query-F}
use Rattle.cq_tree.specs.declared.query.Query.{Query, out-Query, roll-Query, roll-out-Query, Row_of-Query, end_of-Query, more_of-Query, items-the_row-Query, items_hidden-the_row-Query-2}
use Rattle.cq_meaning.specs.Results.{ins_in, ins_in_from, ins_in_all}
use Rattle.cq_one_plan.specs.Stays.{leaves_in, leaves_of, leaves_of_all}
use Rattle.cq_planner.specs.declared.counting.Numbers.{Numbers}
use Rattle.cq_planner.specs.Counting.{both, counts_in, counts_of, counts_among, ins_each, leaves_each}

-- ---- lists of queries

subs_row : {n : _} (qs : Row_of-Query n) → ins_in_all qs ≡ length (items-the_row-Query _ qs) + ins_each (items-the_row-Query _ qs)
subs_row end_of-Query = refl
subs_row (more_of-Query q more) = counted (ins_in q) (ins_in_all more) (ins_each (items-the_row-Query _ more)) (items-the_row-Query _ more) (subs_row more)
  where
    counted : (k n m : ℕ) (qs : List Query) → n ≡ length qs + m → 1 + k + n ≡ length (q ∷ qs) + (k + m)
    counted k n m qs e = omega (arith, e)

leaves_row : {n : _} (qs : Row_of-Query n) → leaves_of_all qs ≡ leaves_each (items-the_row-Query _ qs)
leaves_row end_of-Query = refl
leaves_row (more_of-Query q more) = ap (λ (n : ℕ). leaves_of q + n) (leaves_row more)

subs_hidden : (qs : List Query) → ins_in_all (hidden-the_row-Query-2 qs) ≡ length qs + ins_each qs
subs_hidden qs = subs_row (hidden-the_row-Query-2 qs) ∙ ap (λ (us : List Query). length us + ins_each us) (items_hidden-the_row-Query-2 qs)

pub leaves_hidden : (qs : List Query) → leaves_of_all (hidden-the_row-Query-2 qs) ≡ leaves_each qs
leaves_hidden qs = leaves_row (hidden-the_row-Query-2 qs) ∙ ap leaves_each (items_hidden-the_row-Query-2 qs)

-- ---- nodes

ins_rolled : (x : Query-F FromTree Query) → ins_in (roll-Query x) ≡ ins_in_from x.from + (length x.subs + ins_each x.subs)
unfolding roll-Query denote.Hole.Carrier.roll
ins_rolled x = ap (λ (n : ℕ). ins_in_from x.from + n) (subs_hidden x.subs)

ins_is : (q : Query) → ins_in q ≡ ins_in_from (out-Query q).from + (length (out-Query q).subs + ins_each (out-Query q).subs)
ins_is q = ap ins_in (sym (roll-out-Query q)) ∙ ins_rolled (out-Query q)

leaves_rolled : (x : Query-F FromTree Query) → leaves_of (roll-Query x) ≡ leaves_each x.ctes + (leaves_in x.from + leaves_each x.subs)
unfolding roll-Query denote.Hole.Carrier.roll
leaves_rolled x = λ i. leaves_hidden x.ctes i + (leaves_in x.from + leaves_hidden x.subs i)

leaves_is : (q : Query) → leaves_of q ≡ leaves_each (out-Query q).ctes + (leaves_in (out-Query q).from + leaves_each (out-Query q).subs)
leaves_is q = ap leaves_of (sym (roll-out-Query q)) ∙ leaves_rolled (out-Query q)

abbrev numbered : ℕ → ℕ → Numbers
numbered ins relations = record { ins = ins; relations = relations }

query_counted : (q : Query) → counts_of q
    ≡ record { ins = ins_in_from (out-Query q).from + (length (out-Query q).subs + ins_each (out-Query q).subs); relations = leaves_each (out-Query q).ctes + (leaves_in (out-Query q).from + leaves_each (out-Query q).subs) }
query_counted q = λ i. numbered (ins_is q i) (leaves_is q i)

sub_counted : (q : Query) → counts_in (Sub q) ≡ both (record { ins = 0; relations = 1 }) (counts_of q)
unfolding hidden-the_row-Query-0 hidden
sub_counted q = λ i. numbered (sym (zero-add (ins_in q)) i) (1 + leaves_of q)

cross_counted : (a b : FromTree) → counts_in (Cross a b) ≡ both (counts_in a) (counts_in b)
unfolding hidden-the_row-FromTree-1 hidden
cross_counted a b = refl

inner_counted : (a b : FromTree) (on : Cond) → counts_in (Inner a b on) ≡ both (counts_in a) (counts_in b)
unfolding hidden-the_row-FromTree-1 hidden
inner_counted a b on = refl

left_counted : (a b : FromTree) (on : Cond) → counts_in (Left a b on) ≡ both (counts_in a) (counts_in b)
unfolding hidden-the_row-FromTree-1 hidden
left_counted a b on = refl

-- what code finds at a node

pub query_found : (q : Query) (ctes from subs : Numbers) (count within ins beyond relations : ℕ) → ctes ≡ counts_among (out-Query q).ctes → from ≡ counts_in (out-Query q).from → subs ≡ counts_among (out-Query q).subs →
    count ≡ length (out-Query q).subs → within ≡ count + subs.ins → ins ≡ from.ins + within → beyond ≡ from.relations + subs.relations → relations ≡ ctes.relations + beyond → record { ins = ins; relations = relations } ≡ counts_of q
query_found q ctes from subs count within ins beyond relations ec ef es en ew ei eb er =
    let n : ins ≡ ins_in_from (out-Query q).from + (length (out-Query q).subs + ins_each (out-Query q).subs) =
    ei ∙ (ap (λ (x : ℕ). from.ins + x) ew ∙ (λ i. (ef i).ins + (en i + (es i).ins))) in
    let m : relations ≡ leaves_each (out-Query q).ctes + (leaves_in (out-Query q).from + leaves_each (out-Query q).subs) =
    er ∙ (ap (λ (x : ℕ). ctes.relations + x) eb ∙ (λ i. (ec i).relations + ((ef i).relations + (es i).relations))) in
    (λ i. numbered (n i) (m i)) ∙ sym (query_counted q)

pub sub_found : (q : Query) (one n : Numbers) → one ≡ record { ins = 0; relations = 1 } → n ≡ counts_of q → both one n ≡ counts_in (Sub q)
sub_found q one n o e = (λ i. both (o i) (e i)) ∙ sym (sub_counted q)

pub cross_found : (a b : FromTree) (m n : Numbers) → m ≡ counts_in a → n ≡ counts_in b → both m n ≡ counts_in (Cross a b)
cross_found a b m n d e = (λ i. both (d i) (e i)) ∙ sym (cross_counted a b)

pub inner_found : (a b : FromTree) (on : Cond) (m n : Numbers) → m ≡ counts_in a → n ≡ counts_in b → both m n ≡ counts_in (Inner a b on)
inner_found a b on m n d e = (λ i. both (d i) (e i)) ∙ sym (inner_counted a b on)

pub left_found : (a b : FromTree) (on : Cond) (m n : Numbers) → m ≡ counts_in a → n ≡ counts_in b → both m n ≡ counts_in (Left a b on)
left_found a b on m n d e = (λ i. both (d i) (e i)) ∙ sym (left_counted a b on)
