-- Over the rows alone that a query of joins wants, WHERE keeps the same joined rows.
use Rattle.std.proofs.Common.{◌≡◌, ◌⊎◌, inl, inr, ◌+◌, ◌-◌, ◌<◌, ◌≤◌, ℕ, zero, suc, Bool, true, false, cond, not, ◌&&◌, ◌||◌, nat_eq, List, [], ◌∷◌, ◌++◌, filter, map, fold, length, replicate, Option, Some, None, refl, sym, ◌∙◌, ap, subst, arith, length-append, Ordering, Less, Equal, Greater}
use Rattle.std.specs.Prelude.{nat_le, nat_lt}
use Rattle.std.specs.List.{list_all, list_any, AllByRecursion}
use Rattle.std.specs.Ordering.{is_eq}
use Rattle.std.proofs.lemmas.Bool.Decides.{eqb_tells}
use Rattle.std.proofs.lemmas.List.Elements.{filter-append}
use Rattle.cq_value.proofs.Lists.{all_append, all_weaker, all_filtered, filter_map, filter_turned}
use Rattle.cq_value.proofs.Truths.{and_both, below_or_not, two_ways}
use Rattle.cq_value.specs.declared.value.Value.{Value}
use Rattle.cq_value.specs.declared.value.Value.TheVariants.{Null, Int, Text}
use Rattle.cq_value.specs.Order.{compared, value_cmp}
use Rattle.cq_value.proofs.OrderLaws.{value_cmp_same}
use Rattle.cq_tree.specs.declared.expression.Expr.{Literal, Column}
use Rattle.cq_tree.specs.declared.expression.Cond.{Cond, Compare, And', end_of-Cond, more_of-Cond}
use Rattle.cq_tree.specs.declared.expression.Op.TheVariants.{Eq}
use Rattle.cq_tree.specs.declared.query.FromTree.{FromTree, Table, Sub', Result, Cross', Inner', Left', end_of-FromTree, more_of-FromTree}
use Rattle.cq_meaning.specs.Values.{Row, Tables, column, same_value, table_rows}
use Rattle.cq_meaning.specs.Logic.{is_yes, met}
use Rattle.cq_meaning.specs.Expressions.{truth_of, keeps}
use Rattle.cq_meaning.specs.Groups.{is_known}
use Rattle.cq_meaning.specs.Joins.{product, or_else, left_join}
use Rattle.cq_meaning.specs.Lists.{Has}
use Rattle.cq_meaning.specs.Queries.{columns_in, joins, from_rows}
use Rattle.cq_demands.specs.Demands.{demand_of, demands, has_all, rows_with}
use Rattle.cq_demands.specs.declared.joins.Leaf.{Leaf}
use Rattle.cq_demands.specs.JoinDemands.{is_plain, leaves_from, on_demands, tie_of, ties, on_ties, demand_at, carried_by, carried, spread, all_ties, demanded, is_in, in_range, is_demand, is_of_each, wanted_of, wants_of, wants_at, AreWide, IsNarrowed, JoinsKeepWanted}
use Rattle.cq_demands.proofs.Narrowed.{all_rows}
use Rattle.cq_demands.proofs.Kept.{equal_is, same_itself, yes_both, passing_alike}

-- what passes a test, and had P before
all_passing : {X : Type 0} (P Q : X → Type 0) (p : X → Bool) → ((x : X) → P x → p x ≡ true → Q x) → (xs : List X) → AllByRecursion P xs → AllByRecursion Q (filter p xs)
all_passing P Q p f [] h = tt
all_passing P Q p f (x ∷ xs) h = elim (two_ways (p x)) [
  | inl y ↦ rw y (f x h.0 y, all_passing P Q p f xs h.1)
  | inr n ↦ rw n (all_passing P Q p f xs h.1)
]

-- ---- what a true condition says

-- values that are told the same are one
is_one : (v w : Value) → same_value v w ≡ true → v ≡ w
is_one v w e = (value_cmp_same v w).0 (equal_only (value_cmp v w) e)
  where
    equal_only : (o : Ordering) → is_eq o ≡ true → o ≡ Equal
    equal_only Less h = cc
    equal_only Equal h = refl
    equal_only Greater h = cc

known_left : (x y : Value) → is_yes (met Eq (compared x y)) ≡ true → is_known x ≡ true
known_left (Int m) y h = refl
known_left (Text s) y h = refl
known_left Null (Int n) h = cc
known_left Null (Text t) h = cc
known_left Null Null h = cc

module _ (row : Row) where
  -- the column has the value, which isn't NULL
  abbrev pub Sure : ℕ × Value → Type 0
  Sure p = (column row p.0 ≡ p.1) × (is_known p.1 ≡ true)

  -- the columns have one value, which isn't NULL
  abbrev pub Tied : ℕ × ℕ → Type 0
  Tied t = (column row t.0 ≡ column row t.1) × (is_known (column row t.0) ≡ true)

  sure_one : (c : Cond) → keeps c [] row ≡ true → AllByRecursion Sure (demand_of c)
  sure_one (Compare Eq (Column i) (Literal v)) k =
      let e : column row i ≡ v = equal_is (column row i) v k in
      ((e, subst (λ w. is_known w ≡ true) e (known_left (column row i) v k)), tt)
  sure_one (Compare Eq (Literal v) (Column i)) k =
      let e : v ≡ column row i = equal_is v (column row i) k in
      ((sym e, known_left v (column row i) k), tt)
  sure_one c k = tt

  pub kept_sure : (c : Cond) → keeps c [] row ≡ true → AllByRecursion Sure (demands c)
  kept_sure (And' p (more_of-Cond a end_of-Cond) q (more_of-Cond b end_of-Cond)) k =
      let both = yes_both (truth_of a row []) (truth_of b row []) k in
      all_append Sure (demands a) (demands b) (kept_sure a both.0) (kept_sure b both.1)
  kept_sure c k = sure_one c k

  tied_one : (c : Cond) → keeps c [] row ≡ true → AllByRecursion Tied (tie_of c)
  tied_one (Compare Eq (Column i) (Column j)) k = ((equal_is (column row i) (column row j) k, known_left (column row i) (column row j) k), tt)
  tied_one c k = tt

  pub kept_tied : (c : Cond) → keeps c [] row ≡ true → AllByRecursion Tied (ties c)
  kept_tied (And' p (more_of-Cond a end_of-Cond) q (more_of-Cond b end_of-Cond)) k =
      let both = yes_both (truth_of a row []) (truth_of b row []) k in
      all_append Tied (ties a) (ties b) (kept_tied a both.0) (kept_tied b both.1)
  kept_tied c k = tied_one c k

  -- ---- demands that are carried along equalities

  abbrev Good : ℕ × Value → Type 0
  Good p = column row p.0 ≡ p.1

  demand_good : (ds : List (ℕ × Value)) (x : ℕ) (v : Value) → AllByRecursion Good ds → demand_at ds x ≡ Some v → column row x ≡ v
  demand_good [] x v h e = cc
  demand_good (p ∷ ds) x v h e = elim (eqb_tells p.0 x) [
    | inl same ↦ (let is : Some p.1 ≡ Some v = rw same.0 at e in let w : p.1 ≡ v = cc in subst (λ n. column row n ≡ v) same.1 (h.0 ∙ w))
    | inr other ↦ (let is : demand_at ds x ≡ Some v = rw other.0 at e in demand_good ds x v h.1 is)
  ]

  carried_good : (ds : List (ℕ × Value)) (t : ℕ × ℕ) → AllByRecursion Good ds → column row t.0 ≡ column row t.1 → AllByRecursion Good (carried ds t)
  carried_good ds t h e = by_found (demand_at ds t.0) (demand_at ds t.1) refl refl
    where
      by_found : (m n : Option Value) → demand_at ds t.0 ≡ m → demand_at ds t.1 ≡ n → AllByRecursion Good (carried_by m n ds t)
      by_found (Some v) None a b = all_append Good ds ((t.1, v) ∷ []) h (sym e ∙ demand_good ds t.0 v h a, tt)
      by_found None (Some v) a b = all_append Good ds ((t.0, v) ∷ []) h (e ∙ demand_good ds t.1 v h b, tt)
      by_found (Some v) (Some w) a b = h
      by_found None None a b = h

  fold_good : (pairs : List (ℕ × ℕ)) (ds : List (ℕ × Value)) → AllByRecursion Good ds → AllByRecursion Tied pairs → AllByRecursion Good (fold carried ds pairs)
  fold_good [] ds h t = h
  fold_good (x ∷ pairs) ds h t = fold_good pairs (carried ds x) (carried_good ds x h t.0.0) t.1

  pub spread_good : (times pairs : List (ℕ × ℕ)) (ds : List (ℕ × Value)) → AllByRecursion Good ds → AllByRecursion Tied pairs → AllByRecursion Good (spread times pairs ds)
  spread_good [] pairs ds h t = h
  spread_good (x ∷ times) pairs ds h t = spread_good times pairs (fold carried ds pairs) (fold_good pairs ds h t) t

-- ---- columns of joined rows

abbrev pad : ℕ → Row → Row
pad start row = replicate start Null ++ row

column_known : (u r : Row) (x : ℕ) → is_known (column u x) ≡ true → column (u ++ r) x ≡ column u x
column_known [] r x h = cc
column_known (v ∷ u) r zero h = refl
column_known (v ∷ u) r (suc x) h = column_known u r x h

column_behind : (n : ℕ) (u r : Row) (x : ℕ) → length u ≡ n → is_known (column (pad n r) x) ≡ true → column (u ++ r) x ≡ column (pad n r) x
column_behind zero [] r x e h = refl
column_behind zero (v ∷ u) r x e h = absurd (omega (arith, e))
column_behind (suc n) [] r x e h = absurd (omega (arith, e))
column_behind (suc n) (v ∷ u) r zero e h = cc
column_behind (suc n) (v ∷ u) r (suc x) e h = column_behind n u r x (omega (arith, e)) h

append_twice : (a b d : Row) → (a ++ b) ++ d ≡ a ++ (b ++ d)
append_twice [] b d = refl
append_twice (v ∷ a) b d = ap (λ u. v ∷ u) (append_twice a b d)

nulls_long : (n : ℕ) → length (replicate n Null) ≡ n
nulls_long zero = refl
nulls_long (suc n) = ap suc (nulls_long n)

module _ (start : ℕ) (l r : Row) (w : ℕ) (long : length l ≡ w) where
  front_long : length (pad start l) ≡ start + w
  front_long = length-append (replicate start Null) l ∙ (let a = nulls_long start in omega (arith, a, long))

  in_left : (x : ℕ) → is_known (column (pad start l) x) ≡ true → column (pad start (l ++ r)) x ≡ column (pad start l) x
  in_left x k = ap (λ u. column u x) (sym (append_twice (replicate start Null) l r)) ∙ column_known (pad start l) r x k

  in_right : (x : ℕ) → is_known (column (pad (start + w) r) x) ≡ true → column (pad start (l ++ r)) x ≡ column (pad (start + w) r) x
  in_right x k = ap (λ u. column u x) (sym (append_twice (replicate start Null) l r)) ∙ column_behind (start + w) (pad start l) r x front_long k

  sure_left : (p : ℕ × Value) → Sure (pad start l) p → Sure (pad start (l ++ r)) p
  sure_left p h = (in_left p.0 (subst (λ v. is_known v ≡ true) (sym h.0) h.1) ∙ h.0, h.1)

  sure_right : (p : ℕ × Value) → Sure (pad (start + w) r) p → Sure (pad start (l ++ r)) p
  sure_right p h = (in_right p.0 (subst (λ v. is_known v ≡ true) (sym h.0) h.1) ∙ h.0, h.1)

  tied_left : (t : ℕ × ℕ) → Tied (pad start l) t → Tied (pad start (l ++ r)) t
  tied_left t h =
      let a = in_left t.0 h.1 in
      let b = in_left t.1 (subst (λ v. is_known v ≡ true) h.0 h.1) in
      (a ∙ h.0 ∙ sym b, subst (λ v. is_known v ≡ true) (sym a) h.1)

  tied_right : (t : ℕ × ℕ) → Tied (pad (start + w) r) t → Tied (pad start (l ++ r)) t
  tied_right t h =
      let a = in_right t.0 h.1 in
      let b = in_right t.1 (subst (λ v. is_known v ≡ true) h.0 h.1) in
      (a ∙ h.0 ∙ sym b, subst (λ v. is_known v ≡ true) (sym a) h.1)

all_map : {X Y : Type 0} (Q : Y → Type 0) (f : X → Y) (xs : List X) → AllByRecursion (λ x. Q (f x)) xs → AllByRecursion Q (map f xs)
all_map Q f [] h = tt
all_map Q f (x ∷ xs) h = (h.0, all_map Q f xs h.1)

all_product : (P Q R : Row → Type 0) → ((l r : Row) → P l → Q r → R (l ++ r)) → (ls rs : List Row) → AllByRecursion P ls → AllByRecursion Q rs → AllByRecursion R (product ls rs)
all_product P Q R f [] rs h k = tt
all_product P Q R f (l ∷ ls) rs h k =
    all_append R (map (λ r. l ++ r) rs) (product ls rs) (all_map R (λ r. l ++ r) rs (all_weaker Q (λ r. R (l ++ r)) (λ r q. f l r h.0 q) rs k)) (all_product P Q R f ls rs h.1 k)

all_or_else : (R : Row → Type 0) (row : Row) (xs : List Row) → R row → AllByRecursion R xs → AllByRecursion R (or_else row xs)
all_or_else R row [] h k = (h, tt)
all_or_else R row (x ∷ xs) h k = k

all_left_join : (P Q R : Row → Type 0) → ((l r : Row) → P l → Q r → R (l ++ r)) → (on : Row → Bool) (w : ℕ) (ls rs : List Row) → Q (replicate w Null) → AllByRecursion P ls → AllByRecursion Q rs → AllByRecursion R (left_join on w ls rs)
all_left_join P Q R f on w [] rs n h k = tt
all_left_join P Q R f on w (l ∷ ls) rs n h k =
    all_append R (or_else (l ++ replicate w Null) (filter on (map (λ r. l ++ r) rs))) (left_join on w ls rs)
    (all_or_else R (l ++ replicate w Null) (filter on (map (λ r. l ++ r) rs)) (f l (replicate w Null) h.0 n)
    (all_filtered R on (map (λ r. l ++ r) rs) (all_map R (λ r. l ++ r) rs (all_weaker Q (λ r. R (l ++ r)) (λ r q. f l r h.0 q) rs k))))
    (all_left_join P Q R f on w ls rs n h.1 k)

-- ---- what is true of each row of a FROM

abbrev pub Facts : FromTree → ℕ → Row → Type 0
Facts f start row = (length row ≡ columns_in f) × AllByRecursion (Sure (pad start row)) (on_demands f) × AllByRecursion (Tied (pad start row)) (on_ties f)

module _ (start wa wb : ℕ) (da db : List (ℕ × Value)) (ta tb : List (ℕ × ℕ)) where
  -- of a side, by its width, its demands and its ties
  abbrev Side : ℕ → ℕ → List (ℕ × Value) → List (ℕ × ℕ) → Row → Type 0
  Side from w ds ts row = (length row ≡ w) × AllByRecursion (Sure (pad from row)) ds × AllByRecursion (Tied (pad from row)) ts

  joined_facts : (l r : Row) → Side start wa da ta l → Side (start + wa) wb db tb r → Side start (wa + wb) (da ++ db) (ta ++ tb) (l ++ r)
  joined_facts l r h k = (
    length-append l r ∙ (λ i. h.0 i + k.0 i),
    all_append (Sure (pad start (l ++ r))) da db
        (all_weaker (Sure (pad start l)) (Sure (pad start (l ++ r))) (sure_left start l r wa h.0) da h.1)
        (all_weaker (Sure (pad (start + wa) r)) (Sure (pad start (l ++ r))) (sure_right start l r wa h.0) db k.1),
    all_append (Tied (pad start (l ++ r))) ta tb
        (all_weaker (Tied (pad start l)) (Tied (pad start (l ++ r))) (tied_left start l r wa h.0) ta h.2)
        (all_weaker (Tied (pad (start + wa) r)) (Tied (pad start (l ++ r))) (tied_right start l r wa h.0) tb k.2),
  )

pub from_facts : (f : FromTree) (start : ℕ) (db : Tables) → is_plain f ≡ true → AreWide f db → AllByRecursion (Facts f start) (from_rows f start db [])
from_facts (Table t n) start db plain wide = all_weaker (λ (row : Row). length row ≡ n) (Facts (Table t n) start) (λ row e. (e, tt, tt)) (table_rows db t) wide
from_facts (Sub' p q) start db plain wide = cc
from_facts (Result i n) start db plain wide = cc
from_facts (Cross' p (more_of-FromTree a end_of-FromTree) q (more_of-FromTree b end_of-FromTree)) start db plain wide =
    let both = and_both (is_plain a) (is_plain b) plain in
    all_product (Facts a start) (Facts b (start + columns_in a)) (Facts (Cross' p (more_of-FromTree a end_of-FromTree) q (more_of-FromTree b end_of-FromTree)) start)
    (λ l r h k. joined_facts start (columns_in a) (columns_in b) (on_demands a) (on_demands b) (on_ties a) (on_ties b) l r h k)
    (from_rows a start db []) (from_rows b (start + columns_in a) db []) (from_facts a start db both.0 wide.0) (from_facts b (start + columns_in a) db both.1 wide.1)
from_facts (Inner' p (more_of-FromTree a end_of-FromTree) q (more_of-FromTree b end_of-FromTree) on) start db plain wide =
    let both = and_both (is_plain a) (is_plain b) plain in
    let rows : List Row = product (from_rows a start db []) (from_rows b (start + columns_in a) db []) in
    let sides : Row → Type 0 = Side start (columns_in a) (columns_in b) (on_demands a) (on_demands b) (on_ties a) (on_ties b) start (columns_in a + columns_in b) (on_demands a ++ on_demands b) (on_ties a ++ on_ties b) in
    let whole : FromTree = Inner' p (more_of-FromTree a end_of-FromTree) q (more_of-FromTree b end_of-FromTree) on in
    all_passing sides (Facts whole start) (joins on [] start)
    (λ row h k. (
      h.0,
      all_append (Sure (pad start row)) (on_demands a ++ on_demands b) (demands on) h.1 (kept_sure (pad start row) on k),
      all_append (Tied (pad start row)) (on_ties a ++ on_ties b) (ties on) h.2 (kept_tied (pad start row) on k),
    ))
    rows
    (all_product (Facts a start) (Facts b (start + columns_in a)) sides
    (λ l r h k. joined_facts start (columns_in a) (columns_in b) (on_demands a) (on_demands b) (on_ties a) (on_ties b) l r h k)
    (from_rows a start db []) (from_rows b (start + columns_in a) db []) (from_facts a start db both.0 wide.0) (from_facts b (start + columns_in a) db both.1 wide.1))
from_facts (Left' p (more_of-FromTree a end_of-FromTree) q (more_of-FromTree b end_of-FromTree) on) start db plain wide =
    let both = and_both (is_plain a) (is_plain b) plain in
    let wa : ℕ = columns_in a in
    let wb : ℕ = columns_in b in
    let whole : FromTree = Left' p (more_of-FromTree a end_of-FromTree) q (more_of-FromTree b end_of-FromTree) on in
    all_left_join (Facts a start) (λ (r : Row). length r ≡ wb) (Facts whole start)
    (λ l r h k. (
      length-append l r ∙ (λ i. h.0 i + k i),
      all_weaker (Sure (pad start l)) (Sure (pad start (l ++ r))) (sure_left start l r wa h.0) (on_demands a) h.1,
      all_weaker (Tied (pad start l)) (Tied (pad start (l ++ r))) (tied_left start l r wa h.0) (on_ties a) h.2,
    ))
    (joins on [] start) wb (from_rows a start db []) (from_rows b (start + wa) db []) (nulls_long wb) (from_facts a start db both.0 wide.0)
    (all_weaker (Facts b (start + wa)) (λ (r : Row). length r ≡ wb) (λ r h. h.0) (from_rows b (start + wa) db []) (from_facts b (start + wa) db both.1 wide.1))

-- ---- tests of the columns of rows

-- a test of each demand of these columns
abbrev fits : List (ℕ × Value) → ℕ → ℕ → Row → Bool
fits ds start w row = has_all (in_range start w ds) row

-- where a column stands
data Stands (start wa wb x : ℕ) : Type 0 where
  outside : is_in start (wa + wb) x ≡ false → is_in start wa x ≡ false → is_in (start + wa) wb x ≡ false → Stands start wa wb x
  left : is_in start (wa + wb) x ≡ true → is_in start wa x ≡ true → is_in (start + wa) wb x ≡ false → x - start < wa → Stands start wa wb x
  right : is_in start (wa + wb) x ≡ true → is_in start wa x ≡ false → is_in (start + wa) wb x ≡ true → x - start ≡ wa + (x - (start + wa)) → Stands start wa wb x

both_are : (a b c d : Bool) → a ≡ c → b ≡ d → (a && b) ≡ (c && d)
both_are a b c d e f = λ i. e i && f i

stands : (start wa wb x : ℕ) → Stands start wa wb x
stands start wa wb x = elim (below_or_not x start) [
  | inl low ↦ (let h = low.1 in
      let a : nat_le start x ≡ false = grind arith in
      let b : nat_le (start + wa) x ≡ false = grind arith in
      outside (both_are _ _ false _ a refl) (both_are _ _ false _ a refl) (both_are _ _ false _ b refl))
  | inr at ↦ (let h = at.1 in
      let a : nat_le start x ≡ true = grind arith in
      elim (below_or_not x (start + wa)) [
        | inl y ↦ (let k = y.1 in
            let b : nat_lt (x - start) (wa + wb) ≡ true = grind arith in
            let c : nat_lt (x - start) wa ≡ true = grind arith in
            let d : nat_le (start + wa) x ≡ false = grind arith in
            left (both_are _ _ true true a b) (both_are _ _ true true a c) (both_are _ _ false _ d refl) (omega (arith, h, k)))
        | inr n ↦ (let k = n.1 in
            let c : nat_lt (x - start) wa ≡ false = grind arith in
            let d : nat_le (start + wa) x ≡ true = grind arith in
            elim (below_or_not x (start + wa + wb)) [
              | inl u ↦ (let m = u.1 in
                  let b : nat_lt (x - start) (wa + wb) ≡ true = grind arith in
                  let e : nat_lt (x - (start + wa)) wb ≡ true = grind arith in
                  right (both_are _ _ true true a b) (both_are _ _ true false a c) (both_are _ _ true true d e) (omega (arith, h, k)))
              | inr u ↦ (let m = u.1 in
                  let b : nat_lt (x - start) (wa + wb) ≡ false = grind arith in
                  let e : nat_lt (x - (start + wa)) wb ≡ false = grind arith in
                  outside (both_are _ _ true false a b) (both_are _ _ true false a c) (both_are _ _ true false d e))
            ])
      ])
]

column_left : (u r : Row) (x : ℕ) → x < length u → column (u ++ r) x ≡ column u x
column_left [] r x h = absurd (omega (arith, h))
column_left (v ∷ u) r zero h = refl
column_left (v ∷ u) r (suc x) h = column_left u r x (omega (arith, h))

column_after : (u r : Row) (x : ℕ) → column (u ++ r) (length u + x) ≡ column r x
column_after [] r x = let e : 0 + x ≡ x = omega arith in ap (column r) e
column_after (v ∷ u) r x = let e : suc (length u) + x ≡ suc (length u + x) = omega arith in ap (column (v ∷ (u ++ r))) e ∙ column_after u r x

and_front : (x a b : Bool) → (x && (a && b)) ≡ ((x && a) && b)
and_front true a b = refl
and_front false a b = refl

and_middle : (x a b : Bool) → (x && (a && b)) ≡ (a && (x && b))
and_middle true true b = refl
and_middle true false b = refl
and_middle false true b = refl
and_middle false false b = refl

-- a joined row passes where both of its sides do
fits_joined : (ds : List (ℕ × Value)) (start wa wb : ℕ) (l r : Row) → length l ≡ wa → fits ds start (wa + wb) (l ++ r) ≡ (fits ds start wa l && fits ds (start + wa) wb r)
fits_joined [] start wa wb l r long = refl
fits_joined (p ∷ ds) start wa wb l r long =
    let rest : fits ds start (wa + wb) (l ++ r) ≡ (fits ds start wa l && fits ds (start + wa) wb r) = fits_joined ds start wa wb l r long in
    elim (stands start wa wb p.0) [
      | outside a b c ↦ rw (a, b, c) rest
      | left a b c low ↦ rw (a, b, c) (
          (λ i. same_value (column_left l r (p.0 - start) (omega (arith, low, long)) i) p.1 && rest i)
          ∙ and_front (same_value (column l (p.0 - start)) p.1) (fits ds start wa l) (fits ds (start + wa) wb r))
      | right a b c at ↦ rw (a, b, c) (
          (λ i. same_value (((ap (column (l ++ r)) (at ∙ ap (λ n. n + (p.0 - (start + wa))) (sym long))) ∙ column_after l r (p.0 - (start + wa))) i) p.1 && rest i)
          ∙ and_middle (same_value (column r (p.0 - (start + wa))) p.1) (fits ds start wa l) (fits ds (start + wa) wb r))
    ]

-- ---- products of the rows that pass

filter_same : {X : Type 0} (p q : X → Bool) (xs : List X) → ((x : X) → p x ≡ q x) → filter p xs ≡ filter q xs
filter_same p q xs h = ap (λ (t : _ → Bool). filter t xs) (λ i x. h x i)

filter_none : {X : Type 0} (xs : List X) → filter (λ (x : X). false) xs ≡ []
filter_none [] = refl
filter_none (x ∷ xs) = filter_none xs

filter_joined : (p fa fb : Row → Bool) (ls rs : List Row) → AllByRecursion (λ (l : Row). (r : Row) → p (l ++ r) ≡ (fa l && fb r)) ls → filter p (product ls rs) ≡ product (filter fa ls) (filter fb rs)
filter_joined p fa fb [] rs h = refl
filter_joined p fa fb (l ∷ ls) rs h =
    filter-append p (map (λ r. l ++ r) rs) (product ls rs)
    ∙ ap (λ xs. filter p (map (λ r. l ++ r) rs) ++ xs) (filter_joined p fa fb ls rs h.1)
    ∙ elim (two_ways (fa l)) [
      | inl y ↦ rw y (ap (λ xs. xs ++ product (filter fa ls) (filter fb rs))
          (filter_map p (λ r. l ++ r) rs ∙ ap (map (λ r. l ++ r)) (filter_same (λ r. p (l ++ r)) fb rs (λ r. h.0 r ∙ ap (λ b. b && fb r) y))))
      | inr n ↦ rw n (ap (λ xs. xs ++ product (filter fa ls) (filter fb rs))
          (filter_map p (λ r. l ++ r) rs ∙ ap (map (λ r. l ++ r)) (filter_same (λ r. p (l ++ r)) (λ r. false) rs (λ r. h.0 r ∙ ap (λ b. b && fb r) n) ∙ filter_none rs)))
    ]

-- ---- LEFT JOINs of the left rows that pass

none_pass : (p : Row → Bool) (xs : List Row) → AllByRecursion (λ (x : Row). p x ≡ false) xs → filter p xs ≡ []
none_pass p [] h = refl
none_pass p (x ∷ xs) h = rw h.0 (none_pass p xs h.1)

left_only : (p fa on : Row → Bool) (w : ℕ) (ls rs : List Row) → AllByRecursion (λ (l : Row). (x : Row) → p (l ++ x) ≡ true → fa l ≡ true) ls →
    filter p (left_join on w ls rs) ≡ filter p (left_join on w (filter fa ls) rs)
left_only p fa on w [] rs h = refl
left_only p fa on w (l ∷ ls) rs h =
    let here : List Row = or_else (l ++ replicate w Null) (filter on (map (λ r. l ++ r) rs)) in
    let more : filter p (left_join on w ls rs) ≡ filter p (left_join on w (filter fa ls) rs) = left_only p fa on w ls rs h.1 in
    elim (two_ways (fa l)) [
      | inl y ↦ rw y (
          filter-append p here (left_join on w ls rs) ∙ ap (λ xs. filter p here ++ xs) more
          ∙ sym (filter-append p here (left_join on w (filter fa ls) rs)))
      | inr n ↦ rw n (
          let fails : (x : Row) → p (l ++ x) ≡ false = λ x. elim (two_ways (p (l ++ x))) [ inl k ↦ (let bad : true ≡ false = sym (h.0 x k) ∙ n in cc) | inr k ↦ k ] in
          let rest : AllByRecursion (λ (x : Row). p x ≡ false) (filter on (map (λ r. l ++ r) rs)) =
          all_filtered (λ (x : Row). p x ≡ false) on (map (λ r. l ++ r) rs) (all_map (λ (x : Row). p x ≡ false) (λ r. l ++ r) rs (each (λ r. p (l ++ r) ≡ false) fails rs)) in
          let nothing : filter p here ≡ [] = none_pass p here (all_or_else (λ (x : Row). p x ≡ false) (l ++ replicate w Null) (filter on (map (λ r. l ++ r) rs)) (fails (replicate w Null)) rest) in
          filter-append p here (left_join on w ls rs) ∙ ap (λ xs. xs ++ filter p (left_join on w ls rs)) nothing ∙ more)
    ]
  where
    each : (P : Row → Type 0) → ((r : Row) → P r) → (rs : List Row) → AllByRecursion P rs
    each P f [] = tt
    each P f (r ∷ rs) = (f r, each P f rs)

-- ---- what is wanted of a table is demanded wherever it stands

all_at : {X : Type 0} (p : X → Bool) (xs : List X) (x : X) → list_all p xs ≡ true → Has xs x → p x ≡ true
all_at p [] x h m = absurd m
all_at p (y ∷ xs) x h (inl e) = subst (λ z. p z ≡ true) e (and_both (p y) (list_all p xs) h).0
all_at p (y ∷ xs) x h (inr m) = all_at p xs x (and_both (p y) (list_all p xs) h).1 m

passing : {X : Type 0} (p : X → Bool) (xs : List X) → AllByRecursion (λ (x : X). p x ≡ true) (filter p xs)
passing p [] = tt
passing p (x ∷ xs) = elim (two_ways (p x)) [ inl y ↦ rw y (y, passing p xs) | inr n ↦ rw n (passing p xs) ]

module _ (all : List Leaf) (ds : List (ℕ × Value)) where
  wants_pass : (table : ℕ) (ls : List Leaf) → AllByRecursion (λ (p : ℕ × Value). is_of_each all ds table p ≡ true) (wants_at (map (λ (l : Leaf). (l.table, wanted_of all ds l)) ls) table)
  wants_pass table [] = tt
  wants_pass table (l ∷ ls) = elim (eqb_tells l.table table) [
    | inl same ↦ rw same.0 (subst (λ t. AllByRecursion (λ (p : ℕ × Value). is_of_each all ds t p ≡ true) (wanted_of all ds l)) same.1 (passing (is_of_each all ds l.table) (in_range l.start l.columns ds)))
    | inr other ↦ rw other.0 (wants_pass table ls)
  ]

  -- where the columns of a table have all that is demanded of them, they have what is demanded of one place
  fits_tail : (q : ℕ × Value) (es : List (ℕ × Value)) (start w : ℕ) (row : Row) → fits (q ∷ es) start w row ≡ true → fits es start w row ≡ true
  fits_tail q es start w row f = elim (two_ways (is_in start w q.0)) [
    | inl here ↦ (let fit : (same_value (column row (q.0 - start)) q.1 && fits es start w row) ≡ true = rw here at f in (and_both (same_value (column row (q.0 - start)) q.1) (fits es start w row) fit).1)
    | inr away ↦ rw away at f
  ]

  place_has : (l : Leaf) (p : ℕ × Value) (es : List (ℕ × Value)) (row : Row) → list_any (is_demand l p) es ≡ true → fits es l.start l.columns row ≡ true → same_value (column row p.0) p.1 ≡ true
  place_has l p [] row a f = cc
  place_has l p (q ∷ es) row a f = elim (two_ways (is_demand l p q)) [
    | inl it ↦ (
        let open_ = and_both (not l.padded) (is_in l.start l.columns q.0 && (nat_eq (q.0 - l.start) p.0 && same_value q.1 p.1)) it in
        let here = and_both (is_in l.start l.columns q.0) (nat_eq (q.0 - l.start) p.0 && same_value q.1 p.1) open_.1 in
        let these = and_both (nat_eq (q.0 - l.start) p.0) (same_value q.1 p.1) here.1 in
        let fit : (same_value (column row (q.0 - l.start)) q.1 && fits es l.start l.columns row) ≡ true = rw here.0 at f in
        let parts = and_both (same_value (column row (q.0 - l.start)) q.1) (fits es l.start l.columns row) fit in
        let at : q.0 - l.start ≡ p.0 = same_number (q.0 - l.start) p.0 these.0 in
        let one : column row (q.0 - l.start) ≡ q.1 = is_one (column row (q.0 - l.start)) q.1 parts.0 in
        let two : q.1 ≡ p.1 = is_one q.1 p.1 these.1 in
        same_itself (column row p.0) p.1 (ap (column row) (sym at) ∙ one ∙ two)
        )
    | inr other ↦ (let more : list_any (is_demand l p) es ≡ true = rw other at a in place_has l p es row more (fits_tail q es l.start l.columns row f))
  ]
    where
      same_number : (a b : ℕ) → nat_eq a b ≡ true → a ≡ b
      same_number a b e = elim (eqb_tells a b) [ inl y ↦ y.1 | inr n ↦ (let bad : true ≡ false = sym e ∙ n.0 in cc) ]

  each_has : (l : Leaf) → Has all l → (wanted : List (ℕ × Value)) → AllByRecursion (λ (p : ℕ × Value). is_of_each all ds l.table p ≡ true) wanted → (row : Row) → fits ds l.start l.columns row ≡ true → has_all wanted row ≡ true
  each_has l there [] h row f = refl
  each_has l there (p ∷ wanted) h row f =
      let here : (not (nat_eq l.table l.table) || list_any (is_demand l p) ds) ≡ true = all_at (λ (m : Leaf). not (nat_eq m.table l.table) || list_any (is_demand m p) ds) all l h.0 there in
      let itself : nat_eq l.table l.table ≡ true = grind arith in
      let demand : list_any (is_demand l p) ds ≡ true = rw itself at here in
      let one : same_value (column row p.0) p.1 ≡ true = place_has l p ds row demand f in
      rw one (each_has l there wanted h.1 row f)

  -- of a table on the right side of a LEFT JOIN nothing is demanded
  none_demanded : (l : Leaf) (p : ℕ × Value) (es : List (ℕ × Value)) → l.padded ≡ true → list_any (is_demand l p) es ≡ false
  none_demanded l p [] e = refl
  none_demanded l p (q ∷ es) e =
      let first : is_demand l p q ≡ false = ap (λ b. not b && (is_in l.start l.columns q.0 && (nat_eq (q.0 - l.start) p.0 && same_value q.1 p.1))) e in
      rw first (none_demanded l p es e)

  none_wanted : (l : Leaf) → Has all l → l.padded ≡ true → (wanted : List (ℕ × Value)) → AllByRecursion (λ (p : ℕ × Value). is_of_each all ds l.table p ≡ true) wanted → wanted ≡ []
  none_wanted l there pads [] h = refl
  none_wanted l there pads (p ∷ wanted) h =
      let here : (not (nat_eq l.table l.table) || list_any (is_demand l p) ds) ≡ true = all_at (λ (m : Leaf). not (nat_eq m.table l.table) || list_any (is_demand m p) ds) all l h.0 there in
      let itself : nat_eq l.table l.table ≡ true = grind arith in
      let demand : list_any (is_demand l p) ds ≡ true = rw itself at here in
      let bad : true ≡ false = sym demand ∙ none_demanded l p ds pads in
      cc

  module _ (db dc : Tables) (narrowed : IsNarrowed (wants_of all ds) db dc) where
    whole_there : (l : Leaf) → Has all l → l.padded ≡ true → table_rows dc l.table ≡ table_rows db l.table
    whole_there l there pads =
        narrowed l.table ∙ ap (λ values. rows_with values (table_rows db l.table)) (none_wanted l there pads (wants_at (wants_of all ds) l.table) (wants_pass l.table all)) ∙ all_rows (table_rows db l.table)

    leaf_same : (l : Leaf) → Has all l → filter (fits ds l.start l.columns) (table_rows dc l.table) ≡ filter (fits ds l.start l.columns) (table_rows db l.table)
    leaf_same l there =
        ap (filter (fits ds l.start l.columns)) (narrowed l.table)
        ∙ passing_alike (fits ds l.start l.columns) (has_all (wants_at (wants_of all ds) l.table)) (λ row f. each_has l there (wants_at (wants_of all ds) l.table) (wants_pass l.table all) row f) (table_rows db l.table)

    narrowed_wide : (f : FromTree) → AreWide f db → AreWide f dc
    narrowed_wide (Table t n) wide = subst (AllByRecursion (λ (row : Row). length row ≡ n)) (sym (narrowed t)) (all_filtered (λ (row : Row). length row ≡ n) (has_all (wants_at (wants_of all ds) t)) (table_rows db t) wide)
    narrowed_wide (Sub' p q) wide = tt
    narrowed_wide (Result i n) wide = tt
    narrowed_wide (Cross' p (more_of-FromTree a end_of-FromTree) q (more_of-FromTree b end_of-FromTree)) wide = (narrowed_wide a wide.0, narrowed_wide b wide.1)
    narrowed_wide (Inner' p (more_of-FromTree a end_of-FromTree) q (more_of-FromTree b end_of-FromTree) on) wide = (narrowed_wide a wide.0, narrowed_wide b wide.1)
    narrowed_wide (Left' p (more_of-FromTree a end_of-FromTree) q (more_of-FromTree b end_of-FromTree) on) wide = (narrowed_wide a wide.0, narrowed_wide b wide.1)

    -- the rows of two sides that pass
    sides_same : (start wa wb : ℕ) (us vs cs zs : List Row) → AllByRecursion (λ (row : Row). length row ≡ wa) us → AllByRecursion (λ (row : Row). length row ≡ wa) cs →
        filter (fits ds start wa) cs ≡ filter (fits ds start wa) us → filter (fits ds (start + wa) wb) zs ≡ filter (fits ds (start + wa) wb) vs →
        filter (fits ds start (wa + wb)) (product cs zs) ≡ filter (fits ds start (wa + wb)) (product us vs)
    sides_same start wa wb us vs cs zs wide wide2 ea eb =
        let split : (row : Row) → length row ≡ wa → (r : Row) → fits ds start (wa + wb) (row ++ r) ≡ (fits ds start wa row && fits ds (start + wa) wb r) = λ row long r. fits_joined ds start wa wb row r long in
        let ok : Row → Type 0 = λ l. (r : Row) → fits ds start (wa + wb) (l ++ r) ≡ (fits ds start wa l && fits ds (start + wa) wb r) in
        filter_joined (fits ds start (wa + wb)) (fits ds start wa) (fits ds (start + wa) wb) cs zs (all_weaker (λ (row : Row). length row ≡ wa) ok split cs wide2)
        ∙ (λ i. product (ea i) (eb i))
        ∙ sym (filter_joined (fits ds start (wa + wb)) (fits ds start wa) (fits ds (start + wa) wb) us vs (all_weaker (λ (row : Row). length row ≡ wa) ok split us wide))

    lengths : (f : FromTree) (start : ℕ) (d : Tables) → is_plain f ≡ true → AreWide f d → AllByRecursion (λ (row : Row). length row ≡ columns_in f) (from_rows f start d [])
    lengths f start d plain wide = all_weaker (Facts f start) (λ (row : Row). length row ≡ columns_in f) (λ row h. h.0) (from_rows f start d []) (from_facts f start d plain wide)

    has_front : {X : Type 0} (x : X) (xs ys : List X) → Has xs x → Has (xs ++ ys) x
    has_front x [] ys h = absurd h
    has_front x (y ∷ xs) ys (inl e) = inl e
    has_front x (y ∷ xs) ys (inr h) = inr (has_front x xs ys h)

    has_back : {X : Type 0} (x : X) (xs ys : List X) → Has ys x → Has (xs ++ ys) x
    has_back x [] ys h = h
    has_back x (y ∷ xs) ys h = inr (has_back x xs ys h)

    -- the right side of a LEFT JOIN has the same rows
    right_same : (f : FromTree) (start : ℕ) → is_plain f ≡ true → ((l : Leaf) → Has (leaves_from f start true) l → Has all l) → from_rows f start dc [] ≡ from_rows f start db []
    right_same (Table t n) start plain there = whole_there (record { table = t; start = start; columns = n; padded = true }) (there (record { table = t; start = start; columns = n; padded = true }) (inl refl)) refl
    right_same (Sub' p q) start plain there = cc
    right_same (Result i n) start plain there = cc
    right_same (Cross' p (more_of-FromTree a end_of-FromTree) q (more_of-FromTree b end_of-FromTree)) start plain there =
        let both = and_both (is_plain a) (is_plain b) plain in
        let mid : ℕ = start + columns_in a in
        let x = right_same a start both.0 (λ l h. there l (has_front l (leaves_from a start true) (leaves_from b mid true) h)) in
        let y = right_same b mid both.1 (λ l h. there l (has_back l (leaves_from a start true) (leaves_from b mid true) h)) in
        λ i. product (x i) (y i)
    right_same (Inner' p (more_of-FromTree a end_of-FromTree) q (more_of-FromTree b end_of-FromTree) on) start plain there =
        let both = and_both (is_plain a) (is_plain b) plain in
        let mid : ℕ = start + columns_in a in
        let x = right_same a start both.0 (λ l h. there l (has_front l (leaves_from a start true) (leaves_from b mid true) h)) in
        let y = right_same b mid both.1 (λ l h. there l (has_back l (leaves_from a start true) (leaves_from b mid true) h)) in
        λ i. filter (joins on [] start) (product (x i) (y i))
    right_same (Left' p (more_of-FromTree a end_of-FromTree) q (more_of-FromTree b end_of-FromTree) on) start plain there =
        let both = and_both (is_plain a) (is_plain b) plain in
        let mid : ℕ = start + columns_in a in
        let x = right_same a start both.0 (λ l h. there l (has_front l (leaves_from a start true) (leaves_from b mid true) h)) in
        let y = right_same b mid both.1 (λ l h. there l (has_back l (leaves_from a start true) (leaves_from b mid true) h)) in
        λ i. left_join (joins on [] start) (columns_in b) (x i) (y i)

    from_same : (f : FromTree) (start : ℕ) → is_plain f ≡ true → AreWide f db → ((l : Leaf) → Has (leaves_from f start false) l → Has all l) →
        filter (fits ds start (columns_in f)) (from_rows f start dc []) ≡ filter (fits ds start (columns_in f)) (from_rows f start db [])
    from_same (Table t n) start plain wide there = leaf_same (record { table = t; start = start; columns = n; padded = false }) (there (record { table = t; start = start; columns = n; padded = false }) (inl refl))
    from_same (Sub' p q) start plain wide there = cc
    from_same (Result i n) start plain wide there = cc
    from_same (Cross' p (more_of-FromTree a end_of-FromTree) q (more_of-FromTree b end_of-FromTree)) start plain wide there =
        let both = and_both (is_plain a) (is_plain b) plain in
        let wa : ℕ = columns_in a in
        sides_same start wa (columns_in b) (from_rows a start db []) (from_rows b (start + wa) db []) (from_rows a start dc []) (from_rows b (start + wa) dc [])
        (lengths a start db both.0 wide.0) (lengths a start dc both.0 (narrowed_wide a wide.0))
        (from_same a start both.0 wide.0 (λ l h. there l (has_front l (leaves_from a start false) (leaves_from b (start + wa) false) h)))
        (from_same b (start + wa) both.1 wide.1 (λ l h. there l (has_back l (leaves_from a start false) (leaves_from b (start + wa) false) h)))
    from_same (Inner' p (more_of-FromTree a end_of-FromTree) q (more_of-FromTree b end_of-FromTree) on) start plain wide there =
        let both = and_both (is_plain a) (is_plain b) plain in
        let wa : ℕ = columns_in a in
        let w : ℕ = wa + columns_in b in
        filter_turned (fits ds start w) (joins on [] start) (product (from_rows a start dc []) (from_rows b (start + wa) dc []))
        ∙ ap (filter (joins on [] start)) (sides_same start wa (columns_in b) (from_rows a start db []) (from_rows b (start + wa) db []) (from_rows a start dc []) (from_rows b (start + wa) dc [])
        (lengths a start db both.0 wide.0) (lengths a start dc both.0 (narrowed_wide a wide.0))
        (from_same a start both.0 wide.0 (λ l h. there l (has_front l (leaves_from a start false) (leaves_from b (start + wa) false) h)))
        (from_same b (start + wa) both.1 wide.1 (λ l h. there l (has_back l (leaves_from a start false) (leaves_from b (start + wa) false) h))))
        ∙ sym (filter_turned (fits ds start w) (joins on [] start) (product (from_rows a start db []) (from_rows b (start + wa) db [])))
    from_same (Left' p (more_of-FromTree a end_of-FromTree) q (more_of-FromTree b end_of-FromTree) on) start plain wide there =
        let both = and_both (is_plain a) (is_plain b) plain in
        let wa : ℕ = columns_in a in
        let wb : ℕ = columns_in b in
        let test : Row → Bool = fits ds start (wa + wb) in
        let front : Row → Bool = fits ds start wa in
        let needs : Row → Type 0 = λ l. (x : Row) → test (l ++ x) ≡ true → front l ≡ true in
        let needed : (l : Row) → length l ≡ wa → needs l = λ l long x t. (and_both (front l) (fits ds (start + wa) wb x) (sym (fits_joined ds start wa wb l x long) ∙ t)).0 in
        let left : filter front (from_rows a start dc []) ≡ filter front (from_rows a start db []) =
        from_same a start both.0 wide.0 (λ l h. there l (has_front l (leaves_from a start false) (leaves_from b (start + wa) true) h)) in
        let right : from_rows b (start + wa) dc [] ≡ from_rows b (start + wa) db [] =
        right_same b (start + wa) both.1 (λ l h. there l (has_back l (leaves_from a start false) (leaves_from b (start + wa) true) h)) in
        left_only test front (joins on [] start) wb (from_rows a start dc []) (from_rows b (start + wa) dc [])
        (all_weaker (λ (row : Row). length row ≡ wa) needs needed (from_rows a start dc []) (lengths a start dc both.0 (narrowed_wide a wide.0)))
        ∙ (λ i. filter test (left_join (joins on [] start) wb (left i) (right i)))
        ∙ sym (left_only test front (joins on [] start) wb (from_rows a start db []) (from_rows b (start + wa) db [])
        (all_weaker (λ (row : Row). length row ≡ wa) needs needed (from_rows a start db []) (lengths a start db both.0 wide.0)))

-- ---- what is kept passes

good_fits : (ds : List (ℕ × Value)) (w : ℕ) (row : Row) → AllByRecursion (λ (p : ℕ × Value). column row p.0 ≡ p.1) ds → fits ds 0 w row ≡ true
good_fits [] w row h = refl
good_fits (p ∷ ds) w row h =
    let rest : fits ds 0 w row ≡ true = good_fits ds w row h.1 in
    elim (two_ways (is_in 0 w p.0)) [
      | inl here ↦ (let at : p.0 - 0 ≡ p.0 = omega arith in
          let one : same_value (column row (p.0 - 0)) p.1 ≡ true = same_itself (column row (p.0 - 0)) p.1 (ap (column row) at ∙ h.0) in
          rw (here, one) rest)
      | inr away ↦ rw away rest
    ]

restricted : (p q : Row → Bool) (xs : List Row) → AllByRecursion (λ (x : Row). p x ≡ true → q x ≡ true) xs → filter p xs ≡ filter p (filter q xs)
restricted p q [] h = refl
restricted p q (x ∷ xs) h =
    let more : filter p xs ≡ filter p (filter q xs) = restricted p q xs h.1 in
    elim (two_ways (q x)) [
      | inl y ↦ rw y (elim (two_ways (p x)) [ inl k ↦ rw k (ap (λ ys. x ∷ ys) more) | inr k ↦ rw k more ])
      | inr n ↦ rw n (elim (two_ways (p x)) [ inl k ↦ (let bad : true ≡ false = sym (h.0 k) ∙ n in cc) | inr k ↦ rw k more ])
    ]

module _ (filter_ : Cond) (from : FromTree) where
  kept_fits : (row : Row) → Facts from 0 row → keeps filter_ [] row ≡ true → fits (demanded filter_ from) 0 (columns_in from) row ≡ true
  kept_fits row h k =
      let sure : AllByRecursion (Sure row) (demands filter_ ++ on_demands from) = all_append (Sure row) (demands filter_) (on_demands from) (kept_sure row filter_ k) h.1 in
      let tied : AllByRecursion (Tied row) (all_ties filter_ from) = all_append (Tied row) (ties filter_) (on_ties from) (kept_tied row filter_ k) h.2 in
      let good : AllByRecursion (λ (p : ℕ × Value). column row p.0 ≡ p.1) (demands filter_ ++ on_demands from) = all_weaker (Sure row) (λ (p : ℕ × Value). column row p.0 ≡ p.1) (λ p s. s.0) (demands filter_ ++ on_demands from) sure in
      good_fits (demanded filter_ from) (columns_in from) row (spread_good row (all_ties filter_ from) (all_ties filter_ from) (demands filter_ ++ on_demands from) good tied)

  all_fit : (db : Tables) → is_plain from ≡ true → AreWide from db → AllByRecursion (λ (row : Row). keeps filter_ [] row ≡ true → fits (demanded filter_ from) 0 (columns_in from) row ≡ true) (from_rows from 0 db [])
  all_fit db plain wide = all_weaker (Facts from 0) (λ (row : Row). keeps filter_ [] row ≡ true → fits (demanded filter_ from) 0 (columns_in from) row ≡ true) kept_fits (from_rows from 0 db []) (from_facts from 0 db plain wide)

pub joins_keep_wanted : JoinsKeepWanted
joins_keep_wanted filter_ from db dc plain wide narrowed =
    let ds : List (ℕ × Value) = demanded filter_ from in
    let all : List Leaf = leaves_from from 0 false in
    let keep : Row → Bool = keeps filter_ [] in
    let fit : Row → Bool = fits ds 0 (columns_in from) in
    restricted keep fit (from_rows from 0 dc []) (all_fit filter_ from dc plain (narrowed_wide all ds db dc narrowed from wide))
    ∙ ap (filter keep) (from_same all ds db dc narrowed from 0 plain wide (λ l h. h))
    ∙ sym (restricted keep fit (from_rows from 0 db []) (all_fit filter_ from db plain wide))
