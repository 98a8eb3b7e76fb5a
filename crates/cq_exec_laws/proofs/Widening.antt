-- What the binder lets through, it lets through with more results; and it lets through the query of a relation that is planned by itself.
use Rattle.std.proofs.Common.{◌≡◌, ℕ, zero, suc, ◌+◌, ◌-◌, ◌/◌, ◌≤◌, ◌<◌, Bool, true, false, List, [], ◌∷◌, ◌++◌, map, take, drop, length, Option, None, Some, refl, sym, ap, subst, ◌∙◌, arith, if◌then◌else◌}
use Rattle.std.proofs.Common.{append_assoc}
use Rattle.std.proofs.Math.Seq.{get_or-append_seam}
use Rattle.std.proofs.lemmas.List.{length-append, take_all}
use Rattle.std.specs.Prelude.{slice_index_or}
use Rattle.std.specs.List.{AllByRecursion}
use denote.Hole.Carrier.{hidden}
use Rattle.cq_value.proofs.Lists.{all_append, all_weaker}
use Rattle.cq_value.specs.declared.value.Value.{Value}
use Rattle.cq_tree.specs.declared.expression.Op.TheVariants as op
use Rattle.cq_tree.specs.declared.expression.Expr.{Expr, Literal, Column, Neg', Add', Sub', Mul', Div', Rem', Case', Coalesce', Row_of-Expr, end_of-Expr, more_of-Expr, Row_of-Arm, end_of-Arm, more_of-Arm}
use Rattle.cq_tree.specs.declared.expression.Cond.{Cond, Compare, IsNull, InResult, And', Or', Not', Always, end_of-Cond, more_of-Cond}
use Rattle.cq_tree.specs.declared.expression.Cond.TheBlock.{hidden-the_row-Cond-0}
use Rattle.cq_tree.specs.declared.query.Agg.{Agg}
use Rattle.cq_tree.specs.declared.query.Agg.TheVariants as agg
use Rattle.cq_tree.specs.declared.query.FromTree.{FromTree, Table, Result, Cross', Inner', Left', end_of-FromTree, more_of-FromTree, end_of-Query, more_of-Query}
use Rattle.cq_tree.specs.declared.query.FromTree as tree
use Rattle.cq_tree.specs.declared.query.Query.{roll-Query}
use Rattle.cq_meaning.specs.declared.Columns.{Columns}
use Rattle.cq_meaning.specs.Chains.{joined_by, halves}
use Rattle.cq_meaning.specs.Queries.{columns_in}
use Rattle.cq_meaning.specs.Widths.{bits, bits_of_value, group_bits, from_bits, output_bits, IsBelow, IsBound, AreBoundArms, AreBound, IsBoundCondition, IsBoundAggregate, AreBoundItems, IsBoundFrom, IsBoundQuery}
use Rattle.cq_meaning_laws.proofs.SafeLaws.{columns_are}
use Rattle.cq_meaning_laws.proofs.WithinLaws.{all_take, all_drop}
use Rattle.cq_task_laws.specs.Partial.{columns_from}
use Rattle.cq_task_laws.proofs.LargeLaws.{length_columns}
use Rattle.cq_planning.specs.Conjuncts.{conjuncts, inner_conjuncts, conjuncts_of, column_of, literal_of, both_of, one_value, both_halves, in_list, turned_equality}
use Rattle.cq_planning.specs.ValueSets.{ValueSet}
use Rattle.cq_one_plan.specs.Stays.{set_filter, lone_query}
use Rattle.cq_exec_laws.proofs.Members.{InIf, Says, InSet}

-- ---- more results

module _ (m n : ℕ) (few : m ≤ n) where
  mutual
    wider : (ks : List ℕ) (e : Expr) → IsBound ks m e → IsBound ks n e
    wider ks (Literal v) h = h
    wider ks (Column at) h = h
    wider ks (Neg' p (more_of-Expr e end_of-Expr)) h = (wider ks e h.0, h.1)
    wider ks (Add' p (more_of-Expr a end_of-Expr) q (more_of-Expr b end_of-Expr)) h = (wider ks a h.0, wider ks b h.1, h.2)
    wider ks (Sub' p (more_of-Expr a end_of-Expr) q (more_of-Expr b end_of-Expr)) h = (wider ks a h.0, wider ks b h.1, h.2)
    wider ks (Mul' p (more_of-Expr a end_of-Expr) q (more_of-Expr b end_of-Expr)) h = (wider ks a h.0, wider ks b h.1, h.2)
    wider ks (Div' p (more_of-Expr e end_of-Expr) c) h = (wider ks e h.0, h.1, h.2)
    wider ks (Rem' p (more_of-Expr e end_of-Expr) c) h = (wider ks e h.0, h.1, h.2)
    wider ks (Case' shape arms p (more_of-Expr other end_of-Expr)) h = (wider_arms ks arms h.0, wider ks other h.1)
    wider ks (Coalesce' shape es) h = wider_all ks es h

    wider_arms : (ks : List ℕ) {l : _} (arms : Row_of-Arm l) → AreBoundArms ks m arms → AreBoundArms ks n arms
    wider_arms ks end_of-Arm h = tt
    wider_arms ks (more_of-Arm c e more) h = (wider_condition ks c h.0, wider ks e h.1, wider_arms ks more h.2)

    wider_all : (ks : List ℕ) {l : _} (es : Row_of-Expr l) → AreBound ks m es → AreBound ks n es
    wider_all ks end_of-Expr h = tt
    wider_all ks (more_of-Expr e more) h = (wider ks e h.0, wider_all ks more h.1)

    pub wider_condition : (ks : List ℕ) (c : Cond) → IsBoundCondition ks m c → IsBoundCondition ks n c
    wider_condition ks (Compare op a b) h = (wider ks a h.0, wider ks b h.1)
    wider_condition ks (IsNull e) h = wider ks e h
    wider_condition ks (InResult e i) h = (wider ks e h.0, let l = h.1 in omega (arith, l, few))
    wider_condition ks (And' p (more_of-Cond a end_of-Cond) q (more_of-Cond b end_of-Cond)) h = (wider_condition ks a h.0, wider_condition ks b h.1)
    wider_condition ks (Or' p (more_of-Cond a end_of-Cond) q (more_of-Cond b end_of-Cond)) h = (wider_condition ks a h.0, wider_condition ks b h.1)
    wider_condition ks (Not' p (more_of-Cond a end_of-Cond)) h = wider_condition ks a h
    wider_condition ks Always h = tt

  wider_aggregate : (ks : List ℕ) (a : Agg) → IsBoundAggregate ks m a → IsBoundAggregate ks n a
  wider_aggregate ks agg.CountAll h = tt
  wider_aggregate ks (agg.Count e) h = wider ks e h
  wider_aggregate ks (agg.Sum e) h = (wider ks e h.0, h.1)
  wider_aggregate ks (agg.Min e) h = wider ks e h
  wider_aggregate ks (agg.Max e) h = wider ks e h

  wider_each : (ks : List ℕ) (es : List Expr) → AllByRecursion (IsBound ks m) es → AllByRecursion (IsBound ks n) es
  wider_each ks es h = all_weaker (IsBound ks m) (IsBound ks n) (wider ks) es h

  pub wider_items : (ks : List ℕ) (filter_ : Cond) (grouped : Bool) (keys : List Expr) (aggs : List Agg) (having : Cond) (items : List Expr) →
      AreBoundItems ks m filter_ grouped keys aggs having items → AreBoundItems ks n filter_ grouped keys aggs having items
  wider_items ks filter_ false keys aggs having items h = (wider_condition ks filter_ h.0, wider_each ks items h.1)
  wider_items ks filter_ true keys aggs having items h = (
    wider_condition ks filter_ h.0,
    wider_each ks keys h.1,
    all_weaker (IsBoundAggregate ks m) (IsBoundAggregate ks n) (wider_aggregate ks) aggs h.2,
    wider_condition (group_bits ks keys aggs) having h.3,
    wider_each (group_bits ks keys aggs) items h.4,
  )

-- ---- literals

-- a value that the binder lets through
abbrev pub IsFine : Value → Type 0
IsFine v = IsBelow (bits_of_value v) v

module _ (ks : List ℕ) (n : ℕ) where
  one_fine : (o : Option ℕ) (e : Expr) → IsBound ks n e → InIf IsFine (one_value (both_of o (literal_of e)))
  one_fine None e h = tt
  one_fine (Some x) (Literal v) h = (h, tt)
  one_fine (Some x) (Column at) h = tt
  one_fine (Some x) (Neg' p es) h = tt
  one_fine (Some x) (Add' p a q b) h = tt
  one_fine (Some x) (Sub' p a q b) h = tt
  one_fine (Some x) (Mul' p a q b) h = tt
  one_fine (Some x) (Div' p es c) h = tt
  one_fine (Some x) (Rem' p es c) h = tt
  one_fine (Some x) (Case' shape arms p es) h = tt
  one_fine (Some x) (Coalesce' shape es) h = tt

  halves_fine : (o r : Option (ℕ × List Value)) → InIf IsFine o → InIf IsFine r → InIf IsFine (both_halves o r)
  halves_fine None r h g = tt
  halves_fine (Some k) None h g = tt
  halves_fine (Some k) (Some l) h g = by_cases _
    where
      by_cases : (b : Bool) → InIf IsFine (if b then Some (k.0, k.1 ++ l.1) else None)
      by_cases true = all_append IsFine k.1 l.1 h g
      by_cases false = tt

  listed_fine : (c : Cond) → IsBoundCondition ks n c → InIf IsFine (in_list c)
  listed_fine (Compare op.Eq a b) h = one_fine (column_of a) b h.1
  listed_fine (Compare op.Ne a b) h = tt
  listed_fine (Compare op.Lt a b) h = tt
  listed_fine (Compare op.Le a b) h = tt
  listed_fine (Compare op.Gt a b) h = tt
  listed_fine (Compare op.Ge a b) h = tt
  listed_fine (IsNull e) h = tt
  listed_fine (InResult e i) h = tt
  listed_fine (And' p a q b) h = tt
  listed_fine (Or' p (more_of-Cond a end_of-Cond) q (more_of-Cond b end_of-Cond)) h = halves_fine (in_list a) (in_list b) (listed_fine a h.0) (listed_fine b h.1)
  listed_fine (Not' p a) h = tt
  listed_fine Always h = tt

  turned_fine : (c : Cond) → IsBoundCondition ks n c → InIf IsFine (turned_equality c)
  turned_fine (Compare op.Eq a b) h = one_fine (column_of b) a h.0
  turned_fine (Compare op.Ne a b) h = tt
  turned_fine (Compare op.Lt a b) h = tt
  turned_fine (Compare op.Le a b) h = tt
  turned_fine (Compare op.Gt a b) h = tt
  turned_fine (Compare op.Ge a b) h = tt
  turned_fine (IsNull e) h = tt
  turned_fine (InResult e i) h = tt
  turned_fine (And' p a q b) h = tt
  turned_fine (Or' p a q b) h = tt
  turned_fine (Not' p a) h = tt
  turned_fine Always h = tt

  said_fine : (c : Cond) → IsBoundCondition ks n c → AllByRecursion (Says IsFine) (conjuncts c)
  said_fine (Compare op a b) h = ((listed_fine (Compare op a b) h, turned_fine (Compare op a b) h), tt)
  said_fine (IsNull e) h = ((tt, tt), tt)
  said_fine (InResult e i) h = ((tt, tt), tt)
  said_fine (And' p (more_of-Cond a end_of-Cond) q (more_of-Cond b end_of-Cond)) h = all_append (Says IsFine) (conjuncts a) (conjuncts b) (said_fine a h.0) (said_fine b h.1)
  said_fine (Or' p a q b) h = ((listed_fine (Or' p a q b) h, tt), tt)
  said_fine (Not' p a) h = ((tt, tt), tt)
  said_fine Always h = tt

module _ (cs : Columns) where
  inner_fine : (ahead : List ℕ) (f : FromTree) → IsBoundFrom cs ahead f → AllByRecursion (Says IsFine) (inner_conjuncts f)
  inner_fine ahead (Table t n) h = tt
  inner_fine ahead (tree.Sub' p q) h = tt
  inner_fine ahead (Result i n) h = tt
  inner_fine ahead (Cross' p (more_of-FromTree a end_of-FromTree) q (more_of-FromTree b end_of-FromTree)) h =
      all_append (Says IsFine) (inner_conjuncts a) (inner_conjuncts b) (inner_fine ahead a h.0) (inner_fine (ahead ++ from_bits cs a) b h.1)
  inner_fine ahead (Inner' p (more_of-FromTree a end_of-FromTree) q (more_of-FromTree b end_of-FromTree) on) h =
      all_append (Says IsFine) (inner_conjuncts a ++ inner_conjuncts b) (conjuncts on)
      (all_append (Says IsFine) (inner_conjuncts a) (inner_conjuncts b) (inner_fine ahead a h.0) (inner_fine (ahead ++ from_bits cs a) b h.1)) (said_fine _ _ on h.2)
  inner_fine ahead (Left' p (more_of-FromTree a end_of-FromTree) q (more_of-FromTree b end_of-FromTree) on) h = inner_fine ahead a h.0

  filter_bound : (ks : List ℕ) (n : ℕ) (filter_ : Cond) (grouped : Bool) (keys : List Expr) (aggs : List Agg) (having : Cond) (items : List Expr) →
      AreBoundItems ks n filter_ grouped keys aggs having items → IsBoundCondition ks n filter_
  filter_bound ks n filter_ false keys aggs having items h = h.0
  filter_bound ks n filter_ true keys aggs having items h = h.0

  -- what a query's conjuncts say
  pub conjuncts_fine : (from : FromTree) (filter_ : Cond) (grouped : Bool) (keys : List Expr) (aggs : List Agg) (having : Cond) (items : List Expr) → IsBoundFrom cs [] from →
      AreBoundItems (from_bits cs from) (length cs.results) filter_ grouped keys aggs having items → AllByRecursion (Says IsFine) (conjuncts_of filter_ from)
  conjuncts_fine from filter_ grouped keys aggs having items h g =
      all_append (Says IsFine) (conjuncts filter_) (inner_conjuncts from)
      (said_fine (from_bits cs from) (length cs.results) filter_ (filter_bound (from_bits cs from) (length cs.results) filter_ grouped keys aggs having items g)) (inner_fine [] from h)

-- ---- a relation that is planned by itself

module _ (ks : List ℕ) (n : ℕ) where
  bound_joined : (any : Bool) (c d : Cond) → IsBoundCondition ks n c → IsBoundCondition ks n d → IsBoundCondition ks n (joined_by any c d)
  unfolding hidden-the_row-Cond-0 hidden
  bound_joined true c d h g = (h, g)
  bound_joined false c d h g = (h, g)

  bound_halves : (most : ℕ) (any : Bool) (cs : List Cond) → AllByRecursion (IsBoundCondition ks n) cs → IsBoundCondition ks n (halves most any cs)
  bound_halves most any [] h = tt
  bound_halves most any (c ∷ []) h = h.0
  bound_halves zero any (c ∷ d ∷ more) h = tt
  bound_halves (suc most) any (c ∷ d ∷ more) h =
      let cs = c ∷ d ∷ more in let m = length cs - length cs / 2 in
      bound_joined any (halves most any (take m cs)) (halves most any (drop m cs))
      (bound_halves most any (take m cs) (all_take (IsBoundCondition ks n) m cs h)) (bound_halves most any (drop m cs) (all_drop (IsBoundCondition ks n) m cs h))

  equals : (y : ℕ) (vs : List Value) → y < length ks → AllByRecursion IsFine vs → AllByRecursion (IsBoundCondition ks n) (map (λ w. Compare op.Eq (Column y) (Literal w)) vs)
  equals y [] h k = tt
  equals y (v ∷ vs) h k = ((h, k.0), equals y vs h k.1)

  set_bound : (y : ℕ) (set : ValueSet) → y < length ks → InSet IsFine set → IsBoundCondition ks n (set_filter y set)
  set_bound y None h k = tt
  set_bound y (Some []) h k = (h, tt)
  set_bound y (Some (v ∷ vs)) h k =
      let cs : List Cond = map (λ w. Compare op.Eq (Column y) (Literal w)) (v ∷ vs) in
      bound_halves (length cs) true cs (equals y (v ∷ vs) h k)

  columns_bound : (at count : ℕ) → at + count ≤ length ks → AllByRecursion (IsBound ks n) (columns_from at count)
  columns_bound at zero h = tt
  columns_bound at (suc count) h = (omega (arith, h), columns_bound (suc at) count (omega (arith, h)))

-- all columns of a FROM, of which one has a value of a set
columns_shown : (ks before after : List ℕ) → ks ≡ before ++ after → map (bits ks) (columns_from (length before) (length after)) ≡ after
columns_shown ks before [] e = refl
columns_shown ks before (k ∷ after) e =
    let here : slice_index_or ks (length before) 0 ≡ k = ap (λ (us : List ℕ). slice_index_or us (length before) 0) e ∙ get_or-append_seam before k after 0 in
    let long : length (before ++ k ∷ []) ≡ suc (length before) = length-append before (k ∷ []) ∙ omega arith in
    let rest = columns_shown ks (before ++ k ∷ []) after (e ∙ sym (append_assoc before (k ∷ []) after)) in
    λ i. here i ∷ subst (λ m. map (bits ks) (columns_from m (length after)) ≡ after) long rest i

module _ (cs : Columns) where
  pub lone_bound : (f : FromTree) (y : ℕ) (set : ValueSet) → IsBoundFrom cs [] f → y < columns_in f → InSet IsFine set → IsBoundQuery cs (lone_query f y set) × (output_bits cs (lone_query f y set) ≡ from_bits cs f)
  unfolding roll-Query denote.Hole.Carrier.roll
  lone_bound f y set h l fine =
      let ks : List ℕ = from_bits cs f in
      let n : ℕ = columns_in f in
      let long : n ≡ length ks = columns_are cs [] f h in
      let wide : length (columns_from 0 n) ≡ n = length_columns 0 n in
      let shown : map (bits ks) (columns_from 0 n) ≡ ks = ap (λ (m : ℕ). map (bits ks) (columns_from 0 m)) long ∙ columns_shown ks [] ks refl in (
        (h, (set_bound ks (length cs.results) y set (omega (arith, l, long)) fine, columns_bound ks (length cs.results) 0 n (omega (arith, long))), omega (arith, wide)),
        ap (take n) shown ∙ take_all n ks (omega (arith, long)),
      )
