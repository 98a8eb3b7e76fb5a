-- A group that is too large for a task, or over all tasks together, is too large for the block.
use Rattle.std.proofs.Common.{◌≡◌, ℕ, zero, suc, pos, ◌≤◌, ◌<◌, ◌^◌, ◌+◌, Bool, true, false, List, [], ◌∷◌, ◌++◌, map, length, refl, sym, ap, subst, ◌∙◌, inl, inr, arith, length-append, append-nil, add-zero}
use Rattle.std.specs.Prelude.{filter, fold, ◌||◌, ◌⊎◌, nat_lt}
use Rattle.std.specs.List.{flat_map, list_any}
use Rattle.std.proofs.lemmas.Bool.{ltb-true, lt-ltb}
use Rattle.std.proofs.lemmas.List.{get_or-append-add}
use Rattle.std.proofs.lemmas.List.Elements.{filter-append}
use Rattle.cq_value.proofs.Truths.{or_either}
use Rattle.cq_value.proofs.Lists.{length_map}
use Rattle.cq_value.specs.declared.value.Value.{Value}
use Rattle.cq_value.specs.declared.value.Value.TheVariants.{Null, Int}
use Rattle.cq_tree.specs.declared.plan.Combine.{Combine}
use Rattle.cq_tree.specs.declared.plan.Combine.TheVariants.{Nothing, RowsOnly, Groups}
use Rattle.cq_tree.specs.declared.expression.Expr.{Expr, Column}
use Rattle.cq_tree.specs.declared.expression.Cond.{Always}
use Rattle.cq_tree.specs.declared.query.Agg.{Agg}
use Rattle.cq_tree.specs.declared.query.Agg.TheVariants as agg
use Rattle.cq_tree.specs.declared.query.Query.{Query, Query'}
use Rattle.cq_meaning.specs.declared.Group.{Group}
use Rattle.cq_meaning.specs.Lists.{Has}
use Rattle.cq_meaning.specs.Values.{Row, same_row, column}
use Rattle.cq_meaning.specs.Expressions.{keeps, items_of}
use Rattle.cq_meaning.specs.Groups.{distinct, aggregate, group_row, groups_of, group_with, sum_of, added, is_known}
use Rattle.cq_meaning.specs.Limits.{is_large_group}
use Rattle.cq_meaning.proofs.MapLaws.{has_mapped}
use Rattle.cq_meaning.proofs.Reorder.{Reordered, then, filtered}
use Rattle.cq_meaning.proofs.RowLaws.{has_either, has_distinct, distinct_has, has_filtered, filtered_has, filter_all, same_is, same_from, has_again}
use Rattle.cq_meaning_laws.proofs.AggregateLaws.{length_again}
use Rattle.cq_meaning_laws.proofs.OrderFree.{groups_again}
use Rattle.cq_meaning_laws.proofs.SortLaws.{back}
use Rattle.cq_task_laws.specs.Partial.{columns_from, partial}
use Rattle.cq_task_laws.specs.Merging.{joined, combining, all_combining, is_above_limit, is_large_together, has_large_together}
use Rattle.cq_task_laws.specs.Gathering.{kept_of, has_large_over, IsNonEmpty, AllAnswer}
use Rattle.cq_task_laws.proofs.Opened.{large_partial, large_opened, counted_groups}
use Rattle.cq_task_laws.proofs.PartLaws.{mapped_has, flat_map_of_map, flat_map_same}
use Rattle.cq_task_laws.proofs.GatherRows.{whole_rows, all_given, answers_joined}
use Rattle.cq_task_laws.proofs.GatherLaws.{part_width, groups_join, some_map, length_push}

pub any_at : {X : Type 0} (p : X → Bool) (xs : List X) → list_any p xs ≡ true → (x : X) × Has xs x × (p x ≡ true)
any_at p [] e = cc
any_at {X} p (x ∷ xs) e = go (p x) refl e (any_at p xs)
  where
    go : (b : Bool) → p x ≡ b → (b || list_any p xs) ≡ true → (list_any p xs ≡ true → (z : X) × Has xs z × (p z ≡ true)) → (z : X) × Has (x ∷ xs) z × (p z ≡ true)
    go true d f rest = (x, inl refl, d)
    go false d f rest = let u : (z : X) × Has xs z × (p z ≡ true) = rest f in (u.0, inr u.1, u.2)

pub any_from : {X : Type 0} (p : X → Bool) (xs : List X) (x : X) → Has xs x → p x ≡ true → list_any p xs ≡ true
any_from p [] x h t = absurd h
any_from p (y ∷ xs) x (inl e) t = ap (λ b. b || list_any p xs) (subst (λ z. p z ≡ true) (sym e) t)
any_from p (y ∷ xs) x (inr h) t = elim (p y) as (λ b. (b || list_any p xs) ≡ true) [ true ↦ refl | false ↦ any_from p xs x h t ]

-- each choice of rows has no more rows in us than in vs
abbrev IsSmaller : List Row → List Row → Type 0
IsSmaller us vs = (p : Row → Bool) → length (filter p us) ≤ length (filter p vs)

part_smaller : {X : Type 0} (part : X → List Row) (parts : List X) (i : X) → Has parts i → IsSmaller (part i) (flat_map part parts)
part_smaller part [] i h p = absurd h
part_smaller part (j ∷ is) i (inl e) p =
    let a : length (filter p (part j ++ flat_map part is)) ≡ length (filter p (part j)) + length (filter p (flat_map part is)) = ap length (filter-append p (part j) (flat_map part is)) ∙ length-append (filter p (part j)) (filter p (flat_map part is)) in
    subst (λ n. length (filter p (part n)) ≤ length (filter p (part j ++ flat_map part is))) e (omega arith)
part_smaller part (j ∷ is) i (inr h) p =
    let a : length (filter p (part j ++ flat_map part is)) ≡ length (filter p (part j)) + length (filter p (flat_map part is)) = ap length (filter-append p (part j) (flat_map part is)) ∙ length-append (filter p (part j)) (filter p (flat_map part is)) in
    let b : length (filter p (part i)) ≤ length (filter p (flat_map part is)) = part_smaller part is i h p in
    omega arith

again_smaller : (us vs ws : List Row) → Reordered vs ws → IsSmaller us vs → IsSmaller us ws
again_smaller us vs ws r s p = let e : length (filter p vs) ≡ length (filter p ws) = length_again (filtered p r) in let b : length (filter p us) ≤ length (filter p vs) = s p in omega arith

larger : (m n : ℕ) → m ≤ n → nat_lt (2 ^ 31) m ≡ true → nat_lt (2 ^ 31) n ≡ true
larger m n h e = let d : 2 ^ 31 < m = ltb-true (2 ^ 31) m e in lt-ltb (2 ^ 31) n (omega arith)

first_in : (n : ℕ) (us : List Row) → n < length us → (r : Row) × Has us r
first_in n [] h = absurd (omega arith)
first_in n (u ∷ us) h = (u, inl refl)

large_whole : (rs : List (List Row)) (keys : List Expr) (us vs : List Row) → IsSmaller us vs → list_any is_large_group (groups_of keys rs us) ≡ true → list_any is_large_group (groups_of keys rs vs) ≡ true
large_whole rs [] us vs small e =
    let u : (g : Group) × Has (record { keys = []; rows = us } ∷ []) g × (is_large_group g ≡ true) = any_at is_large_group (record { keys = []; rows = us } ∷ []) e in
    any_from is_large_group (record { keys = []; rows = vs } ∷ []) (record { keys = []; rows = vs }) (inl refl)
    (larger (length us) (length vs) (subst (λ zs. length zs ≤ length vs) (filter_all (λ r. true) us (λ r h. refl)) (subst (λ zs. length (filter (λ r. true) us) ≤ length zs) (filter_all (λ r. true) vs (λ r h. refl)) (small (λ r. true))))
    (single u.0 u.1 u.2))
  where
    single : (g : Group) → Has (record { keys = []; rows = us } ∷ []) g → is_large_group g ≡ true → nat_lt (2 ^ 31) (length us) ≡ true
    single g (inl q) t = subst (λ z. is_large_group z ≡ true) (sym q) t
    single g (inr k) t = absurd k
large_whole rs (k0 ∷ ks) us vs small e =
    let key : Row → Row = items_of (k0 ∷ ks) rs in
    let u : (g : Group) × Has (map (group_with key us) (distinct (map key us))) g × (is_large_group g ≡ true) = any_at is_large_group (map (group_with key us) (distinct (map key us))) e in
    let v : (k : Row) × Has (distinct (map key us)) k × (group_with key us k ≡ u.0) = mapped_has (group_with key us) (distinct (map key us)) u.0 u.1 in
    let large : nat_lt (2 ^ 31) (length (filter (λ r. same_row v.0 (key r)) vs)) ≡ true =
    larger (length (filter (λ r. same_row v.0 (key r)) us)) (length (filter (λ r. same_row v.0 (key r)) vs)) (small (λ r. same_row v.0 (key r))) (subst (λ g. is_large_group g ≡ true) (sym v.2) u.2) in
    let w : (r : Row) × Has (filter (λ r. same_row v.0 (key r)) vs) r = first_in (2 ^ 31) (filter (λ r. same_row v.0 (key r)) vs) (ltb-true (2 ^ 31) (length (filter (λ r. same_row v.0 (key r)) vs)) large) in
    let x : Has vs w.0 × (same_row v.0 (key w.0) ≡ true) = has_filtered (λ r. same_row v.0 (key r)) vs w.0 w.1 in
    let m : Has (distinct (map key vs)) v.0 = has_distinct (map key vs) v.0 (subst (λ z. Has (map key vs) z) (sym (same_is v.0 (key w.0) x.1)) (has_mapped key vs w.0 x.0)) in
    any_from is_large_group (map (group_with key vs) (distinct (map key vs))) (group_with key vs v.0) (has_mapped (group_with key vs) (distinct (map key vs)) v.0 m) large

pub large_task : (kind : Combine) (q : Query) (rs : List (List Row)) (parts : List (List Row)) (whole part : List Row) →
    Reordered (kept_of q rs whole) (flat_map (kept_of q rs) parts) → Has parts part → has_large_over (partial kind q) rs part ≡ true → has_large_over q rs whole ≡ true
large_task kind (Query' cs ctes ss subs from filter_ false keys aggs having items shown distinct order limit offset names) rs parts whole part again has large =
    let q : Query = Query' cs ctes ss subs from filter_ false keys aggs having items shown distinct order limit offset names in
    sym (large_partial kind q rs part) ∙ large
large_task kind (Query' cs ctes ss subs from filter_ true keys aggs having items shown distinct order limit offset names) rs parts whole part again has large =
    let q : Query = Query' cs ctes ss subs from filter_ true keys aggs having items shown distinct order limit offset names in
    large_whole rs keys (filter (keeps filter_ rs) part) (filter (keeps filter_ rs) whole) (again_smaller (filter (keeps filter_ rs) part) (flat_map (filter (keeps filter_ rs)) parts) (filter (keeps filter_ rs) whole) (back again) (part_smaller (filter (keeps filter_ rs)) parts part has)) (sym (large_partial kind q rs part) ∙ large)

-- ---- over all tasks together

length_items : (es : List Expr) (rs : List (List Row)) (row : Row) → length (items_of es rs row) ≡ length es
length_items [] rs row = refl
length_items (e ∷ es) rs row = ap suc (length_items es rs row)

pub groups_wide : (keys : List Expr) (rs : List (List Row)) (rows : List Row) (g : Group) → Has (groups_of keys rs rows) g → length g.keys ≡ length keys
groups_wide [] rs rows g (inl e) = ap (λ (h : Group). length h.keys) (sym e)
groups_wide [] rs rows g (inr h) = absurd h
groups_wide (k ∷ ks) rs rows g h =
    let key : Row → Row = items_of (k ∷ ks) rs in
    let u : (j : Row) × Has (distinct (map key rows)) j × (group_with key rows j ≡ g) = mapped_has (group_with key rows) (distinct (map key rows)) g h in
    let v : (r : Row) × Has rows r × (key r ≡ u.0) = mapped_has key rows u.0 (distinct_has (map key rows) u.0 u.1) in
    ap (λ (x : Group). length x.keys) (sym u.2) ∙ (ap length (sym v.2) ∙ length_items (k ∷ ks) rs v.0)

pub length_columns : (at n : ℕ) → length (columns_from at n) ≡ n
length_columns at zero = refl
length_columns at (suc n) = ap suc (length_columns (suc at) n)

-- what stands behind the keys
behind : (k row : Row) (n j : ℕ) → length k ≡ n → column (k ++ row) (n + j) ≡ column row j
behind k row n j e = subst (λ m. column (k ++ row) (m + j) ≡ column row j) e (get_or-append-add k row j Null)

pub last_one : (f : Agg → Value) (aggs : List Agg) (a : Agg) → column (map f (aggs ++ a ∷ [])) (length aggs) ≡ f a
last_one f [] a = refl
last_one f (b ∷ aggs) a = last_one f aggs a

combining_last : (f : Agg → Value) (at : ℕ) (aggs : List Agg) (a : Agg) → column (map f (all_combining at (aggs ++ a ∷ []))) (length aggs) ≡ f (combining (at + length aggs) a)
combining_last f at [] a = ap (λ n. f (combining n a)) (sym (add-zero at))
combining_last f at (b ∷ aggs) a = combining_last f (suc at) aggs a ∙ ap (λ n. f (combining n a)) (further at (length aggs))
  where
    further : (at n : ℕ) → suc at + n ≡ at + suc n
    further at n = omega arith

-- a count of some rows
abbrev Counts : Value → Type 0
Counts v = (n : ℕ) × (v ≡ Int (pos (suc n)))

-- a sum of counts is no less than how many they are
sum_from : (m : ℕ) (vs : List Value) → ((v : Value) → Has vs v → Counts v) → (n : ℕ) × (fold added (Int (pos m)) (filter is_known vs) ≡ Int (pos n)) × (m + length vs ≤ n)
sum_from m [] h = (m, refl, omega arith)
sum_from m (v ∷ vs) h =
    let c : Counts v = h v (inl refl) in
    let r : (n : ℕ) × (fold added (Int (pos (m + suc c.0))) (filter is_known vs) ≡ Int (pos n)) × ((m + suc c.0) + length vs ≤ n) = sum_from (m + suc c.0) vs (λ w k. h w (inr k)) in
    (r.0, subst (λ w. fold added (Int (pos m)) (filter is_known (w ∷ vs)) ≡ Int (pos r.0)) (sym c.1) r.1, step c.0 r.0 r.2)
  where
    step : (c n : ℕ) → (m + suc c) + length vs ≤ n → m + suc (length vs) ≤ n
    step c n h = omega arith

sum_counts : (vs : List Value) → ((v : Value) → Has vs v → Counts v) → nat_lt (2 ^ 31) (length vs) ≡ true → is_above_limit (sum_of (filter is_known vs)) ≡ true
sum_counts [] h e = absurd (let d : 2 ^ 31 < 0 = ltb-true (2 ^ 31) 0 e in omega arith)
sum_counts (v ∷ vs) h e =
    let c : Counts v = h v (inl refl) in
    let r : (n : ℕ) × (fold added (Int (pos (suc c.0))) (filter is_known vs) ≡ Int (pos n)) × (suc c.0 + length vs ≤ n) = sum_from (suc c.0) vs (λ w k. h w (inr k)) in
    let d : 2 ^ 31 < suc (length vs) = ltb-true (2 ^ 31) (suc (length vs)) e in
    subst (λ w. is_above_limit (sum_of (filter is_known (w ∷ vs))) ≡ true) (sym c.1) (subst (λ w. is_above_limit w ≡ true) (sym r.1) (above r.0 (bound c.0 r.0 r.2 d)))
  where
    bound : (c n : ℕ) → suc c + length vs ≤ n → 2 ^ 31 < suc (length vs) → 2 ^ 31 < n
    bound c n h d = omega arith

    above : (n : ℕ) → 2 ^ 31 < n → is_above_limit (Int (pos n)) ≡ true
    above n h = lt-ltb (2 ^ 31) n h

length_some : (us : List Row) (x : Row) → Has us x → (c : ℕ) × (length us ≡ suc c)
length_some [] x h = absurd h
length_some (u ∷ us) x h = (length us, refl)

flat_has : {X : Type 0} (f : X → List Row) (ps : List X) (x : Row) → Has (flat_map f ps) x → (p : X) × Has ps p × Has (f p) x
flat_has f [] x h = absurd h
flat_has {X} f (p ∷ ps) x h = elim (has_either (f p) (flat_map f ps) x h) [
  | inl a ↦ (p, inl refl, a)
  | inr b ↦ (let u : (r : X) × Has ps r × Has (f r) x = flat_has f ps x b in (u.0, inr u.1, u.2))
]

module _ (rs : List (List Row)) (keys : List Expr) (aggs : List Agg) where
  abbrev cols : List Expr
  cols = columns_from 0 (length keys)

  abbrev counted : List Agg
  counted = aggs ++ agg.CountAll ∷ []

  abbrev sums : List Agg
  sums = all_combining (length keys) counted

  abbrev at : ℕ
  at = length keys + length aggs

  pub count_of : (rows : List Row) (h : Group) → Has (groups_of keys rs rows) h → column (group_row counted rs h) at ≡ Int (pos (length h.rows))
  count_of rows h m = behind h.keys (map (aggregate rs h.rows) counted) (length keys) (length aggs) (groups_wide keys rs rows h m) ∙ last_one (aggregate rs h.rows) aggs agg.CountAll

  pub sum_in : (rows : List Row) (g : Group) → Has (groups_of cols rs rows) g → column (group_row sums rs g) at ≡ aggregate rs g.rows (agg.Sum (Column at))
  sum_in rows g m =
      behind g.keys (map (aggregate rs g.rows) sums) (length keys) (length aggs) (groups_wide cols rs rows g m ∙ length_columns 0 (length keys))
      ∙ combining_last (aggregate rs g.rows) (length keys) aggs agg.CountAll

  -- a group whose rows count too many is a group of too many rows
  by_count : (whole rows : List Row) → Reordered (map (group_row counted rs) (groups_of keys rs whole)) (map (group_row sums rs) (groups_of cols rs rows)) →
      (g : Group) → Has (groups_of cols rs rows) g → is_above_limit (aggregate rs g.rows (agg.Sum (Column at))) ≡ true → list_any is_large_group (groups_of keys rs whole) ≡ true
  by_count whole rows r g m t =
      let row : Row = group_row sums rs g in
      let v : (h : Group) × Has (groups_of keys rs whole) h × (group_row counted rs h ≡ row) =
      mapped_has (group_row counted rs) (groups_of keys rs whole) row (has_again (back r) row (has_mapped (group_row sums rs) (groups_of cols rs rows) g m)) in
      let e : Int (pos (length v.0.rows)) ≡ aggregate rs g.rows (agg.Sum (Column at)) = sym (count_of whole v.0 v.1) ∙ (ap (λ x. column x at) v.2 ∙ sum_in rows g m) in
      any_from is_large_group (groups_of keys rs whole) v.0 v.1 (subst (λ w. is_above_limit w ≡ true) (sym e) t)

  -- a group that has too many rows of tasks counts too many rows, where each of them counts some
  by_rows : (rows : List Row) → ((r : Row) → Has rows r → Counts (column r at)) → (g : Group) → ((r : Row) → Has g.rows r → Has rows r) → is_large_group g ≡ true →
      is_above_limit (aggregate rs g.rows (agg.Sum (Column at))) ≡ true
  by_rows rows count g within t =
      sum_counts (map (λ r. column r at) g.rows)
      (λ v h. let u : (r : Row) × Has g.rows r × (column r at ≡ v) = mapped_has (λ r. column r at) g.rows v h in subst Counts u.2 (count u.0 (within u.0 u.1)))
      (subst (λ n. nat_lt (2 ^ 31) n ≡ true) (sym (length_map (λ r. column r at) g.rows)) t)

  -- with keys each row of a task counts some rows
  row_counts : (k : Expr) (ks : List Expr) → keys ≡ k ∷ ks → (p : List Row) (r : Row) → Has (map (group_row counted rs) (groups_of keys rs p)) r → Counts (column r at)
  row_counts k ks e p r h =
      let v : (g : Group) × Has (groups_of keys rs p) g × (group_row counted rs g ≡ r) = mapped_has (group_row counted rs) (groups_of keys rs p) r h in
      let n : (c : ℕ) × (length v.0.rows ≡ suc c) = filled v.0 (subst (λ es. Has (groups_of es rs p) v.0) e v.1) in
      (n.0, ap (λ x. column x at) (sym v.2) ∙ (count_of p v.0 v.1 ∙ ap (λ m. Int (pos m)) n.1))
    where
      filled : (g : Group) → Has (groups_of (k ∷ ks) rs p) g → (c : ℕ) × (length g.rows ≡ suc c)
      filled g m =
          let key : Row → Row = items_of (k ∷ ks) rs in
          let u : (j : Row) × Has (distinct (map key p)) j × (group_with key p j ≡ g) = mapped_has (group_with key p) (distinct (map key p)) g m in
          let w : (s : Row) × Has p s × (key s ≡ u.0) = mapped_has key p u.0 (distinct_has (map key p) u.0 u.1) in
          let f : Has (filter (λ s. same_row u.0 (key s)) p) w.0 = filtered_has (λ s. same_row u.0 (key s)) p w.0 w.1 (same_from u.0 (key w.0) (sym w.2)) in
          subst (λ (x : Group). (c : ℕ) × (length x.rows ≡ suc c)) u.2 (length_some (filter (λ s. same_row u.0 (key s)) p) w.0 f)

-- the rows of a group are among the rows
group_within : (es : List Expr) (rs : List (List Row)) (rows : List Row) (g : Group) → Has (groups_of es rs rows) g → (r : Row) → Has g.rows r → Has rows r
group_within [] rs rows g (inl e) r h = subst (λ (x : Group). Has x.rows r) (sym e) h
group_within [] rs rows g (inr k) r h = absurd k
group_within (e ∷ es) rs rows g m r h =
    let key : Row → Row = items_of (e ∷ es) rs in
    let u : (j : Row) × Has (distinct (map key rows)) j × (group_with key rows j ≡ g) = mapped_has (group_with key rows) (distinct (map key rows)) g m in
    (has_filtered (λ s. same_row u.0 (key s)) rows r (subst (λ (x : Group). Has x.rows r) (sym u.2) h)).0

-- without keys each task has one row
one_each : (f : List Row → Row) (parts : List (List Row)) → length (flat_map (λ p. f p ∷ []) parts) ≡ length parts
one_each f [] = refl
one_each f (p ∷ parts) = ap suc (one_each f parts)

-- a group of tasks' rows that is too large, by the rows or by what they count, counts too many
above_by : (rs : List (List Row)) (keys : List Expr) (aggs : List Agg) (keep : List Row → List Row) (parts : List (List Row)) (rows : List Row) → length parts ≤ 2 ^ 31 →
    Reordered (flat_map (λ p. map (group_row (aggs ++ agg.CountAll ∷ []) rs) (groups_of keys rs (keep p))) parts) rows →
    (g : Group) → Has (groups_of (columns_from 0 (length keys)) rs rows) g → is_large_together (length keys + length aggs) rs g ≡ true →
    is_above_limit (aggregate rs g.rows (agg.Sum (Column (length keys + length aggs)))) ≡ true
above_by rs [] aggs keep parts rows few again g (inr m) t = absurd m
above_by rs [] aggs keep parts rows few again g (inl e) t = elim (or_either (is_large_group g) (is_above_limit (aggregate rs g.rows (agg.Sum (Column (0 + length aggs))))) t) [
  | inl a ↦ absurd (too_few (ltb-true (2 ^ 31) (length rows) (subst (λ (x : Group). is_large_group x ≡ true) (sym e) a)))
  | inr b ↦ b
]
  where
    same_length : length parts ≡ length rows
    same_length = sym (one_each (λ p. group_row (aggs ++ agg.CountAll ∷ []) rs (record { keys = []; rows = keep p })) parts) ∙ length_again again

    too_few : 2 ^ 31 < length rows → ⊥
    too_few d = let s : length parts ≡ length rows = same_length in omega arith
above_by rs (k ∷ ks) aggs keep parts rows few again g m t = elim (or_either (is_large_group g) (is_above_limit (aggregate rs g.rows (agg.Sum (Column (length (k ∷ ks) + length aggs))))) t) [
  | inl a ↦ by_rows rs (k ∷ ks) aggs rows counts g (group_within (columns_from 0 (length (k ∷ ks))) rs rows g m) a
  | inr b ↦ b
]
  where
    counts : (r : Row) → Has rows r → Counts (column r (length (k ∷ ks) + length aggs))
    counts r h =
        let u : (p : List Row) × Has parts p × Has (map (group_row (aggs ++ agg.CountAll ∷ []) rs) (groups_of (k ∷ ks) rs (keep p))) r =
        flat_has (λ p. map (group_row (aggs ++ agg.CountAll ∷ []) rs) (groups_of (k ∷ ks) rs (keep p))) parts r (has_again (back again) r h) in
        row_counts rs (k ∷ ks) aggs k ks refl (keep u.0) r u.2

pub large_together : (kind : Combine) (q : Query) (rs : List (List Row)) (parts answers : List (List Row)) (whole : List Row) →
    Reordered (kept_of q rs whole) (flat_map (kept_of q rs) parts) → IsNonEmpty parts → length parts ≤ 2 ^ 31 → AllAnswer (partial kind q) rs parts answers →
    has_large_together kind q rs answers ≡ true → has_large_over q rs whole ≡ true
large_together Nothing q rs parts answers whole again some few given large = cc
large_together RowsOnly q rs parts answers whole again some few given large = cc
large_together Groups (Query' cs ctes ss subs from filter_ false keys aggs having items shown distinct order limit offset names) rs parts answers whole again some few given large =
    sym (large_opened (Query' cs ctes ss subs from filter_ false keys aggs having items shown distinct order limit offset names) rs answers) ∙ large
large_together Groups (Query' cs ctes ss subs from filter_ true keys aggs having items shown distinct order limit offset names) rs parts answers whole again some few given large =
    let q : Query = Query' cs ctes ss subs from filter_ true keys aggs having items shown distinct order limit offset names in
    let keep : List Row → List Row = filter (keeps filter_ rs) in
    let counted_aggs : List Agg = aggs ++ agg.CountAll ∷ [] in
    let w : ℕ = length keys + (length aggs + 1) in
    let g : List Row → List Row = λ p. map (group_row counted_aggs rs) (groups_of keys rs (keep p)) in
    let wide : (p : List Row) (r : Row) → Has (g p) r → length r ≡ w = λ p r h. part_width rs aggs (agg.CountAll ∷ []) keys (keep p) r h ∙ ap (λ n. length keys + n) (length_push aggs agg.CountAll) in
    let g2 : List Row → List Row = λ p. map (items_of (columns_from 0 w) rs) (filter (keeps Always rs) (g p)) in
    let same_part : (p : List Row) → g2 p ≡ g p = λ p. whole_rows rs w (g p) (wide p) in
    let r1 : Reordered (flat_map g2 parts) (joined answers) =
    answers_joined w g2 (λ p r h. wide p r (subst (λ us. Has us r) (same_part p) h)) parts answers
    (all_given (partial Groups q) rs w g2 (λ p a h. counted_groups q rs p a refl h) parts answers given) in
    let r2 : Reordered (flat_map g parts) (joined answers) = subst (λ us. Reordered us (joined answers)) (flat_map_same g2 g parts (λ p h. same_part p)) r1 in
    let the_cols : List Expr = columns_from 0 (length keys) in
    let the_sums : List Agg = all_combining (length keys) counted_aggs in
    let e2 : map (group_row the_sums rs) (groups_of the_cols rs (flat_map g parts)) ≡ map (group_row counted_aggs rs) (groups_of keys rs (flat_map keep parts)) =
    ap (λ us. map (group_row the_sums rs) (groups_of the_cols rs us)) (sym (flat_map_of_map (λ p. map (group_row counted_aggs rs) (groups_of keys rs p)) keep parts))
    ∙ (ap (λ more. map (group_row the_sums rs) (groups_of the_cols rs (flat_map (λ p. map (group_row more rs) (groups_of keys rs p)) (map keep parts)))) (sym (append-nil counted_aggs))
    ∙ (groups_join rs counted_aggs [] keys (map keep parts) (some_map keep parts some)
    ∙ ap (λ us. map (group_row counted_aggs rs) (groups_of keys rs us)) (flat_map_of_map (λ p. p) keep parts))) in
    let r3 : Reordered (map (group_row counted_aggs rs) (groups_of keys rs (keep whole))) (map (group_row the_sums rs) (groups_of the_cols rs (joined answers))) =
    then (groups_again counted_aggs keys rs again) (subst (λ us. Reordered us (map (group_row the_sums rs) (groups_of the_cols rs (joined answers)))) e2 (groups_again the_sums the_cols rs r2)) in
    let u : (h : Group) × Has (groups_of the_cols rs (joined answers)) h × (is_large_together (length keys + length aggs) rs h ≡ true) =
    any_at (is_large_together (length keys + length aggs) rs) (groups_of the_cols rs (joined answers)) (sym (large_opened q rs answers) ∙ large) in
    by_count rs keys aggs (keep whole) (joined answers) r3 u.0 u.1 (above_by rs keys aggs keep parts (joined answers) few r2 u.0 u.1 u.2)
