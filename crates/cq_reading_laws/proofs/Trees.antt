-- The bits of a FROM and of a query, and what the engine asks of them, at the nodes as the walk makes them.
use Rattle.std.proofs.Common.{◌≡◌, ℕ, ◌≤◌, List, [], ◌++◌, map, take, length, refl, sym, ap, ◌∙◌, subst}
use denote.Hole.Carrier.{hidden}
use Rattle.cq_tree.specs.declared.expression.Cond.{Cond}
use Rattle.cq_tree.specs.declared.query.FromTree.{FromTree, Sub, Cross, Inner, Left}
use Rattle.cq_tree.specs.declared.query.FromTree.TheBlock.{hidden-the_row-FromTree-1, hidden-the_row-Query-0}
use Rattle.cq_tree.specs.declared.query.FromTree.TheOpen.{Query-F}
use Rattle.cq_tree.specs.declared.query.Query.{Query, Query', roll-Query, out-Query, out-roll-Query}
use Rattle.cq_meaning.specs.declared.Columns.{Columns}
use Rattle.cq_meaning.specs.Widths.{bits, input_bits, from_bits, output_bits, IsBoundCondition, AreBoundItems, IsBoundFrom, IsBoundQuery}

module _ (cs : Columns) where
  pub bits_cross : (a b : FromTree) → from_bits cs (Cross a b) ≡ from_bits cs a ++ from_bits cs b
  unfolding hidden-the_row-FromTree-1 hidden
  bits_cross a b = refl

  pub bits_inner : (a b : FromTree) (on : Cond) → from_bits cs (Inner a b on) ≡ from_bits cs a ++ from_bits cs b
  unfolding hidden-the_row-FromTree-1 hidden
  bits_inner a b on = refl

  pub bits_left : (a b : FromTree) (on : Cond) → from_bits cs (Left a b on) ≡ from_bits cs a ++ from_bits cs b
  unfolding hidden-the_row-FromTree-1 hidden
  bits_left a b on = refl

  pub bits_sub : (q : Query) → from_bits cs (Sub q) ≡ output_bits cs q
  unfolding hidden-the_row-Query-0 hidden
  bits_sub q = refl

  pub bound_cross : (ahead : List ℕ) (a b : FromTree) → IsBoundFrom cs ahead a → IsBoundFrom cs (ahead ++ from_bits cs a) b → IsBoundFrom cs ahead (Cross a b)
  unfolding hidden-the_row-FromTree-1 hidden
  bound_cross ahead a b h k = (h, k)

  pub bound_inner : (ahead : List ℕ) (a b : FromTree) (on : Cond) → IsBoundFrom cs ahead a → IsBoundFrom cs (ahead ++ from_bits cs a) b → IsBoundCondition (ahead ++ (from_bits cs a ++ from_bits cs b)) (length cs.results) on → IsBoundFrom cs ahead (Inner a b on)
  unfolding hidden-the_row-FromTree-1 hidden
  bound_inner ahead a b on h k c = (h, k, c)

  pub bound_left : (ahead : List ℕ) (a b : FromTree) (on : Cond) → IsBoundFrom cs ahead a → IsBoundFrom cs (ahead ++ from_bits cs a) b → IsBoundCondition (ahead ++ (from_bits cs a ++ from_bits cs b)) (length cs.results) on → IsBoundFrom cs ahead (Left a b on)
  unfolding hidden-the_row-FromTree-1 hidden
  bound_left ahead a b on h k c = (h, k, c)

  pub bound_sub : (ahead : List ℕ) (q : Query) → IsBoundQuery cs q → IsBoundFrom cs ahead (Sub q)
  unfolding hidden-the_row-Query-0 hidden
  bound_sub ahead q h = h

  output_bits_out : (q : Query) → output_bits cs q ≡ (let x = out-Query q in take x.shown (map (bits (input_bits (from_bits cs x.from) x.grouped x.keys x.aggs)) x.items))
  unfolding out-Query denote.Hole.Carrier.out
  output_bits_out (Query' ts ctes ss subs from filter_ grouped keys aggs having items shown distinct order limit offset names) = refl

  bound_out : (q : Query) → (let x = out-Query q in IsBoundFrom cs [] x.from × AreBoundItems (from_bits cs x.from) (length cs.results) x.filter x.grouped x.keys x.aggs x.having x.items × (x.shown ≤ length x.items)) → IsBoundQuery cs q
  unfolding out-Query denote.Hole.Carrier.out
  bound_out (Query' ts ctes ss subs from filter_ grouped keys aggs having items shown distinct order limit offset names) h = h

  pub output_bits_of : (x : Query-F FromTree Query) → output_bits cs (roll-Query x) ≡ take x.shown (map (bits (input_bits (from_bits cs x.from) x.grouped x.keys x.aggs)) x.items)
  output_bits_of x = output_bits_out (roll-Query x) ∙ ap (λ (x : Query-F FromTree Query). take x.shown (map (bits (input_bits (from_bits cs x.from) x.grouped x.keys x.aggs)) x.items)) (out-roll-Query x)

  pub bound_query : (x : Query-F FromTree Query) → IsBoundFrom cs [] x.from → AreBoundItems (from_bits cs x.from) (length cs.results) x.filter x.grouped x.keys x.aggs x.having x.items → x.shown ≤ length x.items → IsBoundQuery cs (roll-Query x)
  bound_query x h k l = bound_out (roll-Query x) (subst (λ (x : Query-F FromTree Query). IsBoundFrom cs [] x.from × AreBoundItems (from_bits cs x.from) (length cs.results) x.filter x.grouped x.keys x.aggs x.having x.items × (x.shown ≤ length x.items)) (sym (out-roll-Query x)) (h, k, l))
