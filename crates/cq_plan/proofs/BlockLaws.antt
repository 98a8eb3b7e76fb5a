-- The blocks of a statement, as code sees them, and what they touch.
use Rattle.std.proofs.Common.{◌≡◌, ℕ, ◌+◌, ◌<◌, List, [], ◌∷◌, ◌++◌, map, take, length, get_or, refl, sym, ap, subst, ◌∙◌, append_assoc, append-nil}
use Rattle.std.specs.List.{flat_map}
use Rattle.std.proofs.lemmas.Grind.{flat_map-append}
use Rattle.std.proofs.lemmas.List.{map-append, take_more}
use denote.Hole.Carrier.{hidden}
use Rattle.cq_tree.specs.declared.expression.Cond.{Cond}
use Rattle.cq_tree.specs.declared.query.FromTree.{FromTree, Sub, Cross, Inner, Left}
use Rattle.cq_tree.specs.declared.query.FromTree.TheBlock.{hidden-the_row-FromTree-1, hidden-the_row-Query-0, hidden-the_row-Query-2}
use Rattle.cq_tree.specs.declared.query.FromTree.TheOpen.{Query-F}
use Rattle.cq_tree.specs.declared.query.Query.{Query, out-Query, roll-Query, roll-out-Query, Row_of-Query, end_of-Query, more_of-Query, items-the_row-Query, items_hidden-the_row-Query-2}
use Rattle.cq_catalog.specs.Contents.{Contents}
use Rattle.cq_planning.specs.Occurrences.{Occurrence, occurrences_in, occurrences_of, blocks_of, with_ins, all_with_ins, ins_of, ins_of_from, ins_of_all}
use Rattle.cq_planning.specs.Touched.{touched_by_each, in_order, groups_of}
use Rattle.cq_plan.specs.Touches.{touches, touched_alone}

all_row : {n : _} (qs : Row_of-Query n) → ins_of_all qs ≡ flat_map with_ins (items-the_row-Query _ qs)
all_row end_of-Query = refl
all_row (more_of-Query q more) = ap (λ (rest : List Query). with_ins q ++ rest) (all_row more)

blocks_row : {n : _} (qs : Row_of-Query n) → all_with_ins qs ≡ flat_map with_ins (items-the_row-Query _ qs)
blocks_row end_of-Query = refl
blocks_row (more_of-Query q more) = ap (λ (rest : List Query). with_ins q ++ rest) (blocks_row more)

ins_rolled : (x : Query-F FromTree Query) → ins_of (roll-Query x) ≡ ins_of_from x.from ++ flat_map with_ins x.subs
unfolding roll-Query denote.Hole.Carrier.roll
ins_rolled x = ap (λ (rest : List Query). ins_of_from x.from ++ rest) (all_row (hidden-the_row-Query-2 x.subs) ∙ ap (flat_map with_ins) (items_hidden-the_row-Query-2 x.subs))

blocks_rolled : (x : Query-F FromTree Query) → blocks_of (roll-Query x) ≡ flat_map with_ins x.ctes ++ with_ins (roll-Query x)
unfolding roll-Query denote.Hole.Carrier.roll
blocks_rolled x = ap (λ (rest : List Query). rest ++ with_ins (roll-Query x)) (blocks_row (hidden-the_row-Query-2 x.ctes) ∙ ap (flat_map with_ins) (items_hidden-the_row-Query-2 x.ctes))

ins_is : (q : Query) → ins_of q ≡ ins_of_from (out-Query q).from ++ flat_map with_ins (out-Query q).subs
ins_is q = ap ins_of (sym (roll-out-Query q)) ∙ ins_rolled (out-Query q)

blocks_is : (q : Query) → blocks_of q ≡ flat_map with_ins (out-Query q).ctes ++ with_ins q
blocks_is q = ap blocks_of (sym (roll-out-Query q)) ∙ (blocks_rolled (out-Query q) ∙ ap (λ (r : Query). flat_map with_ins (out-Query q).ctes ++ with_ins r) (roll-out-Query q))

module _ (c : Contents) where
  -- what a query's IN subqueries touch
  pub touched_ins : (q : Query) → flat_map (touched_alone c) (ins_of q) ≡ flat_map (touched_alone c) (ins_of_from (out-Query q).from) ++ flat_map (touched_alone c) (flat_map with_ins (out-Query q).subs)
  touched_ins q = ap (flat_map (touched_alone c)) (ins_is q) ∙ flat_map-append (touched_alone c) (ins_of_from (out-Query q).from) (flat_map with_ins (out-Query q).subs)

  pub touched_ins_sub : (q : Query) → flat_map (touched_alone c) (ins_of_from (Sub q)) ≡ flat_map (touched_alone c) (ins_of q)
  unfolding hidden-the_row-Query-0 hidden
  touched_ins_sub q = refl

  pub touched_ins_cross : (a b : FromTree) → flat_map (touched_alone c) (ins_of_from (Cross a b)) ≡ flat_map (touched_alone c) (ins_of_from a) ++ flat_map (touched_alone c) (ins_of_from b)
  unfolding hidden-the_row-FromTree-1 hidden
  touched_ins_cross a b = flat_map-append (touched_alone c) (ins_of_from a) (ins_of_from b)

  pub touched_ins_inner : (a b : FromTree) (on : Cond) → flat_map (touched_alone c) (ins_of_from (Inner a b on)) ≡ flat_map (touched_alone c) (ins_of_from a) ++ flat_map (touched_alone c) (ins_of_from b)
  unfolding hidden-the_row-FromTree-1 hidden
  touched_ins_inner a b on = flat_map-append (touched_alone c) (ins_of_from a) (ins_of_from b)

  pub touched_ins_left : (a b : FromTree) (on : Cond) → flat_map (touched_alone c) (ins_of_from (Left a b on)) ≡ flat_map (touched_alone c) (ins_of_from a) ++ flat_map (touched_alone c) (ins_of_from b)
  unfolding hidden-the_row-FromTree-1 hidden
  touched_ins_left a b on = flat_map-append (touched_alone c) (ins_of_from a) (ins_of_from b)

  alone_all : (qs : List Query) → map (touches c) (flat_map (λ b. occurrences_in c b []) qs) ≡ flat_map (touched_alone c) qs
  alone_all [] = refl
  alone_all (q ∷ qs) = map-append (touches c) (occurrences_in c q []) (flat_map (λ b. occurrences_in c b []) qs) ∙ ap (λ (rest : List (ℕ × List ℕ)). touched_alone c q ++ rest) (alone_all qs)

  -- what a whole statement touches
  pub touched_whole : (q : Query) → map (touches c) (occurrences_of c q) ≡ (flat_map (touched_alone c) (flat_map with_ins (out-Query q).ctes) ++ touched_alone c q) ++ flat_map (touched_alone c) (ins_of q)
  touched_whole q = alone_all (blocks_of q) ∙ (ap (flat_map (touched_alone c)) (blocks_is q) ∙ (flat_map-append (touched_alone c) (flat_map with_ins (out-Query q).ctes) (with_ins q) ∙ sym (append_assoc (flat_map (touched_alone c) (flat_map with_ins (out-Query q).ctes)) (touched_alone c q) (flat_map (touched_alone c) (ins_of q)))))

  -- one block more
  pub one_more : (qs : List Query) (i : ℕ) (d : Query) → i < length qs → flat_map (touched_alone c) (flat_map with_ins (take (i + 1) qs)) ≡ (flat_map (touched_alone c) (flat_map with_ins (take i qs)) ++ touched_alone c (get_or qs i d)) ++ flat_map (touched_alone c) (ins_of (get_or qs i d))
  one_more qs i d h = ap (λ bs. flat_map (touched_alone c) bs) (flat_more qs i h) ∙ (flat_map-append (touched_alone c) (flat_map with_ins (take i qs)) (with_ins (get_or qs i d)) ∙ sym (append_assoc (flat_map (touched_alone c) (flat_map with_ins (take i qs))) (touched_alone c (get_or qs i d)) (flat_map (touched_alone c) (ins_of (get_or qs i d)))))
    where
      flat_more : (qs : List Query) (i : ℕ) → i < length qs → flat_map with_ins (take (i + 1) qs) ≡ flat_map with_ins (take i qs) ++ with_ins (get_or qs i d)
      flat_more qs i h = ap (flat_map with_ins) (take_more qs i d h) ∙ (flat_map-append with_ins (take i qs) (get_or qs i d ∷ []) ∙ ap (λ (rest : List Query). flat_map with_ins (take i qs) ++ rest) (append-nil (with_ins (get_or qs i d))))

  pub one_more_found : (f0 f1 f2 f3 : List (ℕ × List ℕ)) (qs : List Query) (i : ℕ) (q : Query) → i < length qs → q ≡ get_or qs i q → f1 ≡ f0 ++ flat_map (touched_alone c) (flat_map with_ins (take i qs)) →
      f2 ≡ f1 ++ touched_alone c q → f3 ≡ f2 ++ flat_map (touched_alone c) (ins_of q) → f3 ≡ f0 ++ flat_map (touched_alone c) (flat_map with_ins (take (i + 1) qs))
  one_more_found f0 f1 f2 f3 qs i q h is a b d =
      d ∙ (ap (λ (us : List (ℕ × List ℕ)). us ++ flat_map (touched_alone c) (ins_of q)) (b ∙ (ap (λ (us : List (ℕ × List ℕ)). us ++ touched_alone c q) a ∙ append_assoc f0 (flat_map (touched_alone c) (flat_map with_ins (take i qs))) (touched_alone c q)))
      ∙ (append_assoc f0 (flat_map (touched_alone c) (flat_map with_ins (take i qs)) ++ touched_alone c q) (flat_map (touched_alone c) (ins_of q))
      ∙ ap (λ (us : List (ℕ × List ℕ)). f0 ++ us) (subst (λ r. (flat_map (touched_alone c) (flat_map with_ins (take i qs)) ++ touched_alone c r) ++ flat_map (touched_alone c) (ins_of r) ≡ flat_map (touched_alone c) (flat_map with_ins (take (i + 1) qs))) (sym is) (sym (one_more qs i q h)))))

  -- the groups alone
  pub groups_alone : (q : Query) → map (λ (t : ℕ × List ℕ). t.1) (map (touches c) (occurrences_of c q)) ≡ touched_by_each c q
  groups_alone q = seconds (occurrences_of c q)
    where
      seconds : (os : List Occurrence) → map (λ (t : ℕ × List ℕ). t.1) (map (touches c) os) ≡ map (λ o. in_order c (groups_of c o)) os
      seconds [] = refl
      seconds (o ∷ os) = ap (λ rest. in_order c (groups_of c o) ∷ rest) (seconds os)
