-- The sets that LEFT JOINs leave, looked up among relations, are those of the definition.
use Rattle.std.proofs.Common.{◌≡◌, ℕ, ◌+◌, ◌<◌, ◌≤◌, List, [], ◌++◌, fold, take, length, get_or, true, false, cond, nat_eq, nat_lt, Option, None, Some, refl, sym, ap, subst, ◌∙◌, arith}
use Rattle.std.specs.Prelude.{nat_le}
use Rattle.std.proofs.lemmas.List.Sums.{fold_more, fold-append}
use Rattle.cq_value.proofs.Truths.{nat_eq_itself, is_below}
use Rattle.cq_tree.specs.declared.expression.Cond.{Cond}
use Rattle.cq_tree.specs.declared.query.FromTree.{FromTree, Table, Sub', Result, Cross', Inner', Left', end_of-FromTree, more_of-FromTree}
use Rattle.cq_meaning.specs.Queries.{columns_in}
use Rattle.cq_catalog.specs.Contents.{Contents}
use Rattle.cq_planning.specs.Conjuncts.{conjuncts, equalities}
use Rattle.cq_planning.specs.Relations.{Distribution}
use Rattle.cq_planning.specs.ValueSets.{ValueSet}
use Rattle.cq_planning.specs.Narrowing.{distribution_in, is_at, right_sets, sets_in, narrowed_by}
use Rattle.cq_plan.specs.declared.sets.Begun.{Begun}
use Rattle.cq_plan.specs.Begun.{begun_by, set_there, set_at, set_of, sets_under, one_begun, begun}

-- the set of its own distribution column is the narrowed one
pub own_set : (sets left : ℕ → ValueSet) (low : ℕ) (pairs : List (ℕ × ℕ)) (d : Distribution) (high : ℕ) →
    set_of (sets_under sets left low pairs (Some d) high) (Some d) ≡ narrowed_by left low high d.column (sets d.column) pairs
own_set sets left low pairs d high = rw (nat_eq_itself d.column) refl

-- nothing narrows where the ON has no equality
nothing_under : (sets left : ℕ → ValueSet) (low : ℕ) (d : Option Distribution) (high y : ℕ) → sets_under sets left low [] d high y ≡ sets y
nothing_under sets left low d high y = elim (is_at d y) as (λ b. cond b (sets y) (sets y) ≡ sets y) [ true ↦ refl | false ↦ refl ]

pub nothing_narrows : (sets left : ℕ → ValueSet) (low : ℕ) (d : Option Distribution) (high : ℕ) → sets_under sets left low [] d high ≡ sets
nothing_narrows sets left low d high = λ i y. nothing_under sets left low d high y i

-- ---- one step of the search from behind

pub found_here : (x : ℕ) (rs : List Begun) (n : ℕ) (d : Begun) → n < length rs → nat_le (get_or rs n d).start x ≡ true → fold (begun_by x) None (take (n + 1) rs) ≡ Some (get_or rs n d)
found_here x rs n d h e = fold_more (begun_by x) None rs n d h ∙ rw e refl

pub passed_here : (x : ℕ) (rs : List Begun) (n : ℕ) (d : Begun) → n < length rs → nat_le (get_or rs n d).start x ≡ false → fold (begun_by x) None (take (n + 1) rs) ≡ fold (begun_by x) None (take n rs)
passed_here x rs n d h e = fold_more (begun_by x) None rs n d h ∙ rw e refl

-- ---- the relations of a FROM

-- a right side
abbrev right_begun : Contents → (ℕ → ValueSet) → FromTree → FromTree → Cond → ℕ → List Begun
right_begun c sets a b on start = one_begun (start + columns_in a) (distribution_in c b (start + columns_in a))
    (set_of (right_sets sets (sets_in c sets a start) (distribution_in c b (start + columns_in a)) start (start + columns_in a) on) (distribution_in c b (start + columns_in a)))

le_false : (m n : ℕ) → n < m → nat_le m n ≡ false
le_false m n h = grind arith

le_true : (m n : ℕ) → m ≤ n → nat_le m n ≡ true
le_true m n h = grind arith

module _ (c : Contents) (x : ℕ) where
  -- relations that begin behind a column aren't looked at
  behind : (sets : ℕ → ValueSet) (f : FromTree) (start : ℕ) (found : Option Begun) → x < start → fold (begun_by x) found (begun c sets f start) ≡ found
  behind sets (Table t n) start found h = rw (le_false start x h) refl
  behind sets (Sub' p q) start found h = rw (le_false start x h) refl
  behind sets (Result i n) start found h = rw (le_false start x h) refl
  behind sets (Cross' p (more_of-FromTree a end_of-FromTree) q (more_of-FromTree b end_of-FromTree)) start found h =
      fold-append (begun_by x) found (begun c sets a start) (begun c sets b (start + columns_in a))
      ∙ (behind sets b (start + columns_in a) (fold (begun_by x) found (begun c sets a start)) (omega arith) ∙ behind sets a start found h)
  behind sets (Inner' p (more_of-FromTree a end_of-FromTree) q (more_of-FromTree b end_of-FromTree) on) start found h =
      fold-append (begun_by x) found (begun c sets a start) (begun c sets b (start + columns_in a))
      ∙ (behind sets b (start + columns_in a) (fold (begun_by x) found (begun c sets a start)) (omega arith) ∙ behind sets a start found h)
  behind sets (Left' p (more_of-FromTree a end_of-FromTree) q (more_of-FromTree b end_of-FromTree) on) start found h =
      fold-append (begun_by x) found (begun c sets a start) (right_begun c sets a b on start)
      ∙ (rw (le_false (start + columns_in a) x (omega arith)) refl ∙ behind sets a start found h)

  -- what was found before doesn't matter where the FROM begins at the column or before it
  afresh : (sets : ℕ → ValueSet) (f : FromTree) (start : ℕ) (found : Option Begun) → start ≤ x → fold (begun_by x) found (begun c sets f start) ≡ fold (begun_by x) None (begun c sets f start)
  afresh sets (Table t n) start found h = rw (le_true start x h) refl
  afresh sets (Sub' p q) start found h = rw (le_true start x h) refl
  afresh sets (Result i n) start found h = rw (le_true start x h) refl
  afresh sets (Cross' p (more_of-FromTree a end_of-FromTree) q (more_of-FromTree b end_of-FromTree)) start found h =
      fold-append (begun_by x) found (begun c sets a start) (begun c sets b (start + columns_in a))
      ∙ (ap (λ o. fold (begun_by x) o (begun c sets b (start + columns_in a))) (afresh sets a start found h)
      ∙ sym (fold-append (begun_by x) None (begun c sets a start) (begun c sets b (start + columns_in a))))
  afresh sets (Inner' p (more_of-FromTree a end_of-FromTree) q (more_of-FromTree b end_of-FromTree) on) start found h =
      fold-append (begun_by x) found (begun c sets a start) (begun c sets b (start + columns_in a))
      ∙ (ap (λ o. fold (begun_by x) o (begun c sets b (start + columns_in a))) (afresh sets a start found h)
      ∙ sym (fold-append (begun_by x) None (begun c sets a start) (begun c sets b (start + columns_in a))))
  afresh sets (Left' p (more_of-FromTree a end_of-FromTree) q (more_of-FromTree b end_of-FromTree) on) start found h =
      fold-append (begun_by x) found (begun c sets a start) (right_begun c sets a b on start)
      ∙ (ap (λ o. fold (begun_by x) o (right_begun c sets a b on start)) (afresh sets a start found h)
      ∙ sym (fold-append (begun_by x) None (begun c sets a start) (right_begun c sets a b on start)))

lt_fails : (m n : ℕ) → nat_lt m n ≡ false → n ≤ m
lt_fails m n h = grind arith

eq_holds : (m n : ℕ) → nat_eq m n ≡ true → m ≡ n
eq_holds m n h = grind arith

-- a right side's set of a column
at_right : (sets left : ℕ → ValueSet) (low : ℕ) (pairs : List (ℕ × ℕ)) (d : Option Distribution) (high x : ℕ) →
    sets_under sets left low pairs d high x ≡ cond (is_at d x) (set_of (sets_under sets left low pairs d high) d) (sets x)
at_right sets left low pairs None high x = refl
at_right sets left low pairs (Some d) high x = elim (nat_eq d.column x) as (λ b. nat_eq d.column x ≡ b → cond b (narrowed_by left low high x (sets x) pairs) (sets x) ≡ cond b (set_of (sets_under sets left low pairs (Some d) high) (Some d)) (sets x)) [
  | true ↦ (λ e. subst (λ y. narrowed_by left low high y (sets y) pairs ≡ set_of (sets_under sets left low pairs (Some d) high) (Some d)) (eq_holds d.column x e) (sym (own_set sets left low pairs d high)))
  | false ↦ (λ e. refl)
] refl

-- that of another relation
at_plain : (sets : ℕ → ValueSet) (d : Option Distribution) (x : ℕ) → sets x ≡ cond (is_at d x) (set_of sets d) (sets x)
at_plain sets None x = refl
at_plain sets (Some d) x = elim (nat_eq d.column x) as (λ b. nat_eq d.column x ≡ b → sets x ≡ cond b (sets d.column) (sets x)) [
  | true ↦ (λ e. ap sets (sym (eq_holds d.column x e)))
  | false ↦ (λ e. refl)
] refl

one_plain : (sets : ℕ → ValueSet) (start : ℕ) (d : Option Distribution) (x : ℕ) → sets x ≡ set_at sets (one_begun start d (set_of sets d)) x
one_plain sets start d x = elim (nat_le start x) as (λ b. sets x ≡ set_there sets x (cond b (Some (record { start = start; distribution = d; set = set_of sets d })) None)) [ true ↦ at_plain sets d x | false ↦ refl ]

module _ (c : Contents) (x : ℕ) where
  pub sets_found : (sets : ℕ → ValueSet) (f : FromTree) (start : ℕ) → sets_in c sets f start x ≡ set_at sets (begun c sets f start) x
  sets_found sets (Table t n) start = one_plain sets start (distribution_in c (Table t n) start) x
  sets_found sets (Sub' p q) start = one_plain sets start (distribution_in c (Sub' p q) start) x
  sets_found sets (Result i n) start = one_plain sets start None x
  sets_found sets (Cross' p (more_of-FromTree a end_of-FromTree) q (more_of-FromTree b end_of-FromTree)) start =
      elim (nat_lt x (start + columns_in a)) as (λ t. nat_lt x (start + columns_in a) ≡ t → cond t (sets_in c sets a start x) (sets_in c sets b (start + columns_in a) x) ≡ set_at sets (begun c sets a start ++ begun c sets b (start + columns_in a)) x) [
        | true ↦ (λ e. sets_found sets a start ∙ sym (ap (set_there sets x) (fold-append (begun_by x) None (begun c sets a start) (begun c sets b (start + columns_in a)) ∙ behind c x sets b (start + columns_in a) (fold (begun_by x) None (begun c sets a start)) (is_below x (start + columns_in a) e))))
        | false ↦ (λ e. sets_found sets b (start + columns_in a) ∙ sym (ap (set_there sets x) (fold-append (begun_by x) None (begun c sets a start) (begun c sets b (start + columns_in a)) ∙ afresh c x sets b (start + columns_in a) (fold (begun_by x) None (begun c sets a start)) (lt_fails x (start + columns_in a) e))))
      ] refl
  sets_found sets (Inner' p (more_of-FromTree a end_of-FromTree) q (more_of-FromTree b end_of-FromTree) on) start =
      elim (nat_lt x (start + columns_in a)) as (λ t. nat_lt x (start + columns_in a) ≡ t → cond t (sets_in c sets a start x) (sets_in c sets b (start + columns_in a) x) ≡ set_at sets (begun c sets a start ++ begun c sets b (start + columns_in a)) x) [
        | true ↦ (λ e. sets_found sets a start ∙ sym (ap (set_there sets x) (fold-append (begun_by x) None (begun c sets a start) (begun c sets b (start + columns_in a)) ∙ behind c x sets b (start + columns_in a) (fold (begun_by x) None (begun c sets a start)) (is_below x (start + columns_in a) e))))
        | false ↦ (λ e. sets_found sets b (start + columns_in a) ∙ sym (ap (set_there sets x) (fold-append (begun_by x) None (begun c sets a start) (begun c sets b (start + columns_in a)) ∙ afresh c x sets b (start + columns_in a) (fold (begun_by x) None (begun c sets a start)) (lt_fails x (start + columns_in a) e))))
      ] refl
  sets_found sets (Left' p (more_of-FromTree a end_of-FromTree) q (more_of-FromTree b end_of-FromTree) on) start =
      elim (nat_lt x (start + columns_in a)) as (λ t. nat_lt x (start + columns_in a) ≡ t → cond t (sets_in c sets a start x) (right_sets sets (sets_in c sets a start) (distribution_in c b (start + columns_in a)) start (start + columns_in a) on x) ≡ set_at sets (begun c sets a start ++ (right_begun c sets a b on start)) x) [
        | true ↦ (λ e. sets_found sets a start ∙ sym (ap (set_there sets x) (fold-append (begun_by x) None (begun c sets a start) (right_begun c sets a b on start) ∙ passed (le_false (start + columns_in a) x (is_below x (start + columns_in a) e)))))
        | false ↦ (λ e. at_right sets (sets_in c sets a start) start (equalities (conjuncts on)) (distribution_in c b (start + columns_in a)) (start + columns_in a) x ∙ sym (ap (set_there sets x) (fold-append (begun_by x) None (begun c sets a start) (right_begun c sets a b on start) ∙ taken (le_true (start + columns_in a) x (lt_fails x (start + columns_in a) e)))))
      ] refl
    where
      passed : nat_le (start + columns_in a) x ≡ false → fold (begun_by x) (fold (begun_by x) None (begun c sets a start)) (right_begun c sets a b on start) ≡ fold (begun_by x) None (begun c sets a start)
      passed e = rw e refl

      taken : nat_le (start + columns_in a) x ≡ true → fold (begun_by x) (fold (begun_by x) None (begun c sets a start)) (right_begun c sets a b on start) ≡ Some (record { start = start + columns_in a; distribution = (distribution_in c b (start + columns_in a)); set = set_of (right_sets sets (sets_in c sets a start) (distribution_in c b (start + columns_in a)) start (start + columns_in a) on) (distribution_in c b (start + columns_in a)) })
      taken e = rw e refl

-- the look-up among the relations of a left side is the definition's
pub left_found : (c : Contents) (sets : ℕ → ValueSet) (f : FromTree) (start : ℕ) → set_at sets (begun c sets f start) ≡ sets_in c sets f start
left_found c sets f start = λ i x. sym (sets_found c x sets f start) i
