-- What the tasks of a block give can be merged, where the block is safe over all its rows.
use Rattle.std.proofs.Common.{◌≡◌, ℕ, zero, suc, pos, ◌≤◌, ◌<◌, ◌^◌, ◌+◌, ◌*◌, Bool, true, false, cond, List, [], ◌∷◌, ◌++◌, map, length, take, All, refl, sym, ap, subst, ◌∙◌, inl, inr, arith, length-append, append-nil, append_assoc, add-zero}
use Rattle.std.specs.Prelude.{filter, ◌||◌}
use Rattle.std.specs.List.{flat_map, list_any, AllByRecursion}
use Rattle.std.proofs.lemmas.Bool.{lt-ltb}
use Rattle.std.proofs.lemmas.List.Elements.{All-from_recursion, recursion_from_All}
use Rattle.cq_value.proofs.Lists.{length_map}
use native.Mathlib.Decide.{dec_lt}
use Rattle.cq_value.specs.declared.value.Value.TheVariants.{Int}
use Rattle.cq_tree.specs.declared.expression.Expr.{Expr, Column}
use Rattle.cq_tree.specs.declared.expression.Cond.{Cond, Always}
use Rattle.cq_tree.specs.declared.query.Agg.{Agg}
use Rattle.cq_tree.specs.declared.query.Agg.TheVariants as agg
use Rattle.cq_meaning.specs.declared.Group.{Group}
use Rattle.cq_meaning.specs.Lists.{Has}
use Rattle.cq_meaning.specs.Values.{Row, same_row, column}
use Rattle.cq_meaning.specs.Expressions.{keeps, items_of, value_of}
use Rattle.cq_meaning.specs.Groups.{distinct, aggregate, group_row, groups_of, group_with, known_values, sum_of, is_known}
use Rattle.cq_meaning.specs.Limits.{is_large_group}
use Rattle.cq_meaning.specs.Safety.{Fits, IsSafe, IsSafeCondition, AreSafeOver, IsSafeAggregate, AreSafeGroups, AreSafeItems}
use Rattle.cq_meaning.proofs.MapLaws.{has_mapped}
use Rattle.cq_meaning.proofs.RowLaws.{has_either, has_distinct, has_filtered, filter_all, same_is, true_not_false, not_true}
use Rattle.cq_task_laws.specs.Partial.{columns_from}
use Rattle.cq_task_laws.specs.Merging.{joined, combining, all_combining, is_above_limit, is_large_together}
use Rattle.cq_task_laws.specs.Gathering.{IsNonEmpty}
use Rattle.cq_task_laws.proofs.PartLaws.{mapped_has}
use Rattle.cq_task_laws.proofs.Combining.{one}
use Rattle.cq_task_laws.proofs.Regrouping.{if_some, some_of, some_whole, some_rows, part_columns, same_keys, width_in}
use Rattle.cq_task_laws.proofs.GatherLaws.{part_width, groups_join}
use Rattle.cq_task_laws.proofs.LargeLaws.{any_at, any_from, groups_wide, length_columns, last_one, count_of, sum_in}

-- elements

by_has : {X : Type 0} (P : X → Type 0) (xs : List X) → ((x : X) → Has xs x → P x) → AllByRecursion P xs
by_has P [] h = tt
by_has P (x ∷ xs) h = (h x (inl refl), by_has P xs (λ y k. h y (inr k)))

pub of_has : {X : Type 0} (P : X → Type 0) (xs : List X) → ((x : X) → Has xs x → P x) → All P xs
of_has P xs h = All-from_recursion P xs (by_has P xs h)

pub at_has : {X : Type 0} (P : X → Type 0) (xs : List X) → AllByRecursion P xs → (x : X) → Has xs x → P x
at_has P [] a x h = absurd h
at_has P (y ∷ xs) a x (inl e) = subst P e a.0
at_has P (y ∷ xs) a x (inr h) = at_has P xs a.1 x h

flat_has : {X Y : Type 0} (f : X → List Y) (ps : List X) (y : Y) → Has (flat_map f ps) y → (p : X) × Has ps p × Has (f p) y
flat_has f [] y h = absurd h
flat_has {X} {Y} f (p ∷ ps) y h = elim (has_either (f p) (flat_map f ps) y h) [
  | inl a ↦ (p, inl refl, a)
  | inr b ↦ (let u : (r : X) × Has ps r × Has (f r) y = flat_has f ps y b in (u.0, inr u.1, u.2))
]

take_map : {X Y : Type 0} (f : X → Y) (n : ℕ) (xs : List X) → take n (map f xs) ≡ map f (take n xs)
take_map f zero xs = refl
take_map f (suc n) [] = refl
take_map f (suc n) (x ∷ xs) = ap (λ us. f x ∷ us) (take_map f n xs)

take_has : {X : Type 0} (n : ℕ) (xs : List X) (x : X) → Has (take n xs) x → Has xs x
take_has zero xs x h = absurd h
take_has (suc n) [] x h = absurd h
take_has (suc n) (y ∷ xs) x (inl e) = inl e
take_has (suc n) (y ∷ xs) x (inr h) = inr (take_has n xs x h)

take_few : {X : Type 0} (n : ℕ) (xs : List X) → length (take n xs) ≤ length xs
take_few zero xs = omega arith
take_few (suc n) [] = omega arith
take_few (suc n) (x ∷ xs) = let h : length (take n xs) ≤ length xs = take_few n xs in omega arith

-- columns

columns_rec : (at n : ℕ) (row : Row) (rs : List (List Row)) → at + n ≤ length row → AllByRecursion (λ e. IsSafe e row rs) (columns_from at n)
columns_rec at zero row rs h = tt
columns_rec at (suc n) row rs h = (omega arith, columns_rec (suc at) n row rs (omega arith))

pub columns_safe : (n : ℕ) (row : Row) (rs : List (List Row)) → n ≤ length row → All (λ e. IsSafe e row rs) (columns_from 0 n)
columns_safe n row rs h = All-from_recursion (λ e. IsSafe e row rs) (columns_from 0 n) (columns_rec 0 n row rs (omega arith))

pub rows_safe : (w : ℕ) (rs : List (List Row)) (rows : List Row) → ((r : Row) → Has rows r → length r ≡ w) → AreSafeItems Always false [] [] Always (columns_from 0 w) rs rows
rows_safe w rs rows wide = (
  of_has (λ row. IsSafeCondition Always row rs) rows (λ r h. tt),
  of_has (λ row. All (λ e. IsSafe e row rs) (columns_from 0 w)) (filter (keeps Always rs) rows)
      (λ r h. columns_safe w r rs (let e : length r ≡ w = wide r (has_filtered (keeps Always rs) rows r h).0 in omega arith)),
)

-- sums of partial values

fits_count : (n : ℕ) → n ≤ 2 ^ 62 → Fits (Int (pos n))
fits_count n h = grind arith

few_filtered : {X : Type 0} (p : X → Bool) (vs : List X) → length (filter p vs) ≤ length vs
few_filtered p [] = omega arith
few_filtered p (v ∷ vs) = let h : length (filter p vs) ≤ length vs = few_filtered p vs in
    elim (p v) as (λ b. length (cond b (v ∷ filter p vs) (filter p vs)) ≤ suc (length vs)) [ true ↦ omega (arith, h) | false ↦ omega (arith, h) ]

few_known : (e : Expr) (rs : List (List Row)) (rows : List Row) → length (known_values e rs rows) ≤ length rows
few_known e rs rows =
    let h : length (known_values e rs rows) ≤ length (map (λ row. value_of e row rs) rows) = few_filtered is_known (map (λ row. value_of e row rs) rows) in
    let k : length (map (λ row. value_of e row rs) rows) ≡ length rows = length_map (λ row. value_of e row rs) rows in
    omega (arith, h, k)

-- what the first parts have together is how all begin
joined_take : (n : ℕ) (parts : List (List Row)) → joined (take n parts) ≡ take (length (joined (take n parts))) (joined parts)
joined_take n parts = go n parts
  where
    front : (us vs : List Row) → us ≡ take (length us) (us ++ vs)
    front [] vs = refl
    front (u ∷ us) vs = ap (λ ws. u ∷ ws) (front us vs)

    whole : (n : ℕ) (parts : List (List Row)) → (vs : List Row) × (joined parts ≡ joined (take n parts) ++ vs)
    whole zero parts = (joined parts, refl)
    whole (suc n) [] = ([], refl)
    whole (suc n) (p ∷ parts) = let u : (vs : List Row) × (joined parts ≡ joined (take n parts) ++ vs) = whole n parts in (u.0, ap (λ us. p ++ us) u.1 ∙ sym (append_assoc p (joined (take n parts)) u.0))

    go : (n : ℕ) (parts : List (List Row)) → joined (take n parts) ≡ take (length (joined (take n parts))) (joined parts)
    go n parts = let u : (vs : List Row) × (joined parts ≡ joined (take n parts) ++ vs) = whole n parts in front (joined (take n parts)) u.0 ∙ ap (take (length (joined (take n parts)))) (sym u.1)

-- partial rows of some parts, made of each part
module _ (rs : List (List Row)) (make : List Row → Row) (some : List (List Row)) (bound : (n : ℕ) → length (joined (take n some)) ≤ 2 ^ 62) where
  -- the first so many of them fit, where the aggregates of their parts do
  first_fit : (at : ℕ) (a : Agg) → ((p : List Row) → column (make p) at ≡ aggregate rs p a) → combining at a ≡ agg.Sum (Column at) → (n : ℕ) → Fits (aggregate rs (joined (take n some)) a) →
      Fits (sum_of (known_values (Column at) rs (take n (map make some))))
  first_fit at a h sums n fit = subst (λ us. Fits (sum_of (known_values (Column at) rs us))) (sym (take_map make n some)) (go (take n some) fit)
    where
      go : (us : List (List Row)) → Fits (aggregate rs (joined us) a) → Fits (sum_of (known_values (Column at) rs (map make us)))
      go [] f = tt
      go (u ∷ us) f = subst Fits (sym (ap (aggregate rs (map make (u ∷ us))) (sym sums) ∙ one rs make (u ∷ us) tt at a h)) f

  columns_there : (at : ℕ) → ((p : List Row) → at < length (make p)) → All (λ row. IsSafe (Column at) row rs) (map make some)
  columns_there at wide = of_has (λ row. IsSafe (Column at) row rs) (map make some)
      (λ row h. let u : (p : List Row) × Has some p × (make p ≡ row) = mapped_has make some row h in subst (λ r. at < length r) u.2 (wide u.0))

  pub one_safe : (at : ℕ) (a : Agg) → ((p : List Row) → column (make p) at ≡ aggregate rs p a) → ((p : List Row) → at < length (make p)) → IsSafeAggregate rs (joined some) a → IsSafeAggregate rs (map make some) (combining at a)
  one_safe at agg.CountAll h wide safe = (columns_there at wide, λ n. first_fit at agg.CountAll h refl n (fits_count (length (joined (take n some))) (bound n)))
  one_safe at (agg.Count e) h wide safe = (
    columns_there at wide,
    λ n. first_fit at (agg.Count e) h refl n (fits_count (length (known_values e rs (joined (take n some))))
        (let b : length (joined (take n some)) ≤ 2 ^ 62 = bound n in let k : length (known_values e rs (joined (take n some))) ≤ length (joined (take n some)) = few_known e rs (joined (take n some)) in omega (arith, b, k))),
  )
  one_safe at (agg.Sum e) h wide safe = (
    columns_there at wide,
    λ n. first_fit at (agg.Sum e) h refl n (subst (λ us. Fits (sum_of (known_values e rs us))) (sym (joined_take n some)) (safe.1 (length (joined (take n some))))),
  )
  one_safe at (agg.Min e) h wide safe = columns_there at wide
  one_safe at (agg.Max e) h wide safe = columns_there at wide

  -- from a column on stand the partial values of these aggregates, in order
  pub all_safe : (aggs rest : List Agg) (at : ℕ) → ((p : List Row) (j : ℕ) → column (make p) (at + j) ≡ column (map (aggregate rs p) (aggs ++ rest)) j) → ((p : List Row) → at + length aggs ≤ length (make p)) →
      AllByRecursion (IsSafeAggregate rs (joined some)) aggs → AllByRecursion (IsSafeAggregate rs (map make some)) (all_combining at aggs)
  all_safe [] rest at h wide safe = tt
  all_safe (a ∷ aggs) rest at h wide safe = (
    one_safe at a (λ p. subst (λ k. column (make p) k ≡ aggregate rs p a) (add-zero at) (h p 0)) (λ p. let w : at + suc (length aggs) ≤ length (make p) = wide p in omega arith) safe.0,
    all_safe aggs rest (suc at) (λ p j. subst (λ k. column (make p) k ≡ column (map (aggregate rs p) (aggs ++ rest)) j) (next at j) (h p (suc j)))
        (λ p. let w : at + suc (length aggs) ≤ length (make p) = wide p in omega arith) safe.1,
  )
    where
      next : (at j : ℕ) → at + suc j ≡ suc at + j
      next at j = omega arith

-- a group of tasks' rows: one for each of some lists, each of which is a group of a part, and which together are a group of all
abbrev pub partial_row : List (List Row) → List Agg → Row → List Row → Row
partial_row rs aggs k p = group_row (aggs ++ agg.CountAll ∷ []) rs (record { keys = k; rows = p })

abbrev pub partial_rows : List (List Row) → List Expr → List Agg → List (List Row) → List Row
partial_rows rs keys aggs ps = flat_map (λ p. map (group_row (aggs ++ agg.CountAll ∷ []) rs) (groups_of keys rs p)) ps

pub record Merged (rs : List (List Row)) (keys : List Expr) (aggs : List Agg) (ps : List (List Row)) (g : Group) : Type 0 where
  pub key : Row
  pub some : List (List Row)
  pub made : g.rows ≡ map (partial_row rs aggs key) some
  pub wide : length key ≡ length keys
  pub few : length some ≤ length ps
  pub each : (p : List Row) → Has some p → (part : List Row) × Has ps part × ((h : Group) × Has (groups_of keys rs part) h × (h.rows ≡ p))
  pub whole : (h : Group) × Has (groups_of keys rs (joined ps)) h × (h.rows ≡ joined some)

single_map : {X Y : Type 0} (f : X → Y) (ps : List X) → flat_map (λ p. f p ∷ []) ps ≡ map f ps
single_map f [] = refl
single_map f (p ∷ ps) = ap (λ us. f p ∷ us) (single_map f ps)

few_some : {X : Type 0} (f : List Row → List X) (ps : List (List Row)) → length (flat_map (λ p. if_some (f p)) ps) ≤ length ps
few_some f [] = omega arith
few_some f (p ∷ ps) = go (f p) (few_some f ps)
  where
    go : (us : List _) → length (flat_map (λ p. if_some (f p)) ps) ≤ length ps → length (if_some us ++ flat_map (λ p. if_some (f p)) ps) ≤ suc (length ps)
    go [] h = omega arith
    go (u ∷ us) h = omega arith

some_is : (us p : List Row) → Has (if_some us) p → (us ≡ p) × ((x : Row) × Has us x)
some_is [] p h = absurd h
some_is (u ∷ us) p (inl e) = (e, (u, inl refl))
some_is (u ∷ us) p (inr h) = absurd h

merged : (rs : List (List Row)) (keys : List Expr) (aggs : List Agg) (ps : List (List Row)) (g : Group) → Has (groups_of (columns_from 0 (length keys)) rs (partial_rows rs keys aggs ps)) g → Merged rs keys aggs ps g
merged rs [] aggs ps g (inr h) = absurd h
merged rs [] aggs ps g (inl e) = record {
  key = [];
  some = ps;
  made = ap (λ (x : Group). x.rows) (sym e) ∙ single_map (partial_row rs aggs []) ps;
  wide = refl;
  few = omega arith;
  each = λ p h. (p, h, (record { keys = []; rows = p }, inl refl, refl));
  whole = (record { keys = []; rows = joined ps }, inl refl, refl);
}
merged rs (k0 ∷ ks) aggs ps g m =
    let keys : List Expr = k0 ∷ ks in
    let key_of : Row → Row = items_of keys rs in
    let first : Row → Row = items_of (columns_from 0 (length keys)) rs in
    let more : List Agg = agg.CountAll ∷ [] in
    let all : List Row = partial_rows rs keys aggs ps in
    let u : (k : Row) × Has (distinct (map first all)) k × (group_with first all k ≡ g) = mapped_has (group_with first all) (distinct (map first all)) g m in
    let there : Has (distinct (map key_of (joined ps))) u.0 = subst (λ us. Has us u.0) (same_keys rs keys aggs more ps) u.1 in
    record {
      key = u.0;
      some = some_of rs keys aggs more u.0 ps;
      made = ap (λ (x : Group). x.rows) (sym u.2) ∙ some_rows rs keys aggs more u.0 ps;
      wide = width_in rs keys aggs more (joined ps) u.0 there;
      few = few_some (filter (λ r. same_row u.0 (key_of r))) ps;
      each = λ p h.
          let v : (part : List Row) × Has ps part × Has (if_some (filter (λ r. same_row u.0 (key_of r)) part)) p = flat_has (λ q. if_some (filter (λ r. same_row u.0 (key_of r)) q)) ps p h in
          let s : (filter (λ r. same_row u.0 (key_of r)) v.0 ≡ p) × ((x : Row) × Has (filter (λ r. same_row u.0 (key_of r)) v.0) x) = some_is (filter (λ r. same_row u.0 (key_of r)) v.0) p v.2 in
          let f : Has v.0 s.1.0 × (same_row u.0 (key_of s.1.0) ≡ true) = has_filtered (λ r. same_row u.0 (key_of r)) v.0 s.1.0 s.1.1 in
          let d : Has (distinct (map key_of v.0)) u.0 = has_distinct (map key_of v.0) u.0 (subst (λ z. Has (map key_of v.0) z) (sym (same_is u.0 (key_of s.1.0) f.1)) (has_mapped key_of v.0 s.1.0 f.0)) in
          (v.0, v.1, (group_with key_of v.0 u.0, has_mapped (group_with key_of v.0) (distinct (map key_of v.0)) u.0 d, s.0));
      whole = (group_with key_of (joined ps) u.0, has_mapped (group_with key_of (joined ps)) (distinct (map key_of (joined ps))) u.0 there, sym (some_whole rs keys aggs more u.0 ps));
    }

-- how many rows

is_small : (g : Group) → is_large_group g ≡ false → length g.rows ≤ 2147483648
is_small g e = go (dec_lt (2 ^ 31) (length g.rows))
  where
    go : Dec (2 ^ 31 < length g.rows) → length g.rows ≤ 2147483648
    go (yes d) = absurd (true_not_false (is_large_group g) (lt-ltb (2 ^ 31) (length g.rows) d) e)
    go (no k) = omega arith

none_large : (gs : List Group) → list_any is_large_group gs ≡ false → (g : Group) → Has gs g → length g.rows ≤ 2147483648
none_large gs e g m = is_small g (not_true (is_large_group g) (λ t. true_not_false (list_any is_large_group gs) (any_from is_large_group gs g m t) e))

small_joined : (us : List (List Row)) → ((p : List Row) → Has us p → length p ≤ 2147483648) → length (joined us) ≤ length us * 2147483648
small_joined [] h = omega arith
small_joined (u ∷ us) h =
    let a : length (u ++ joined us) ≡ length u + length (joined us) = length-append u (joined us) in
    let b : length (joined us) ≤ length us * 2147483648 = small_joined us (λ p k. h p (inr k)) in
    let c : length u ≤ 2147483648 = h u (inl refl) in
    omega arith

module _ (rs : List (List Row)) (keys : List Expr) (aggs : List Agg) (ps : List (List Row)) (few : length ps ≤ 2 ^ 31) (small : (p : List Row) → Has ps p → list_any is_large_group (groups_of keys rs p) ≡ false) where
  abbrev these_cols : List Expr
  these_cols = columns_from 0 (length keys)

  abbrev these_rows : List Row
  these_rows = partial_rows rs keys aggs ps

  abbrev kept_rows : List Row
  kept_rows = filter (keeps Always rs) these_rows

  kept_same : kept_rows ≡ these_rows
  kept_same = filter_all (keeps Always rs) these_rows (λ r h. refl)

  width : ℕ
  width = length keys + (length aggs + 1)

  rows_wide : (r : Row) → Has these_rows r → length keys + (length aggs + 1) ≡ length r
  rows_wide r h =
      let u : (p : List Row) × Has ps p × Has (map (group_row (aggs ++ agg.CountAll ∷ []) rs) (groups_of keys rs p)) r = flat_has (λ p. map (group_row (aggs ++ agg.CountAll ∷ []) rs) (groups_of keys rs p)) ps r h in
      sym (part_width rs aggs (agg.CountAll ∷ []) keys u.0 r u.2 ∙ ap (λ n. length keys + n) (length-append aggs (agg.CountAll ∷ [])))

  keys_safe : AreSafeOver these_cols rs kept_rows
  keys_safe = of_has (λ row. All (λ e. IsSafe e row rs) these_cols) kept_rows
      (λ r h. columns_safe (length keys) r rs (let e : length keys + (length aggs + 1) ≡ length r = rows_wide r (has_filtered (keeps Always rs) these_rows r h).0 in omega arith))

  merged_of : (g : Group) → Has (groups_of these_cols rs kept_rows) g → Merged rs keys aggs ps g
  merged_of g m = merged rs keys aggs ps g (subst (λ us. Has (groups_of these_cols rs us) g) kept_same m)

  merged_bound : (g : Group) (m : Merged rs keys aggs ps g) (n : ℕ) → length (joined (take n m.some)) ≤ 2 ^ 62
  merged_bound g m n =
      let a : length (joined (take n m.some)) ≤ length (take n m.some) * 2147483648 = small_joined (take n m.some) (λ p h.
      let v : (part : List Row) × Has ps part × ((h : Group) × Has (groups_of keys rs part) h × (h.rows ≡ p)) = m.each p (take_has n m.some p h) in
      subst (λ us. length us ≤ 2147483648) v.2.2 (none_large (groups_of keys rs v.0) (small v.0 v.1) v.2.0 v.2.1)) in
      let b : length (take n m.some) ≤ length m.some = take_few n m.some in
      let c : length m.some ≤ length ps = m.few in
      omega arith

  row_wide : (k : Row) → length k ≡ length keys → (p : List Row) → length keys + (length aggs + 1) ≡ length (partial_row rs aggs k p)
  row_wide k e p =
      sym (length-append k (map (aggregate rs p) (aggs ++ agg.CountAll ∷ []))
      ∙ (λ i. e i + (length_map (aggregate rs p) (aggs ++ agg.CountAll ∷ []) ∙ length-append aggs (agg.CountAll ∷ [])) i))

  pub counts_safe : AreSafeItems Always true these_cols (agg.Sum (Column (length keys + length aggs)) ∷ []) Always (Column (length keys) ∷ []) rs these_rows
  counts_safe = (
    of_has (λ row. IsSafeCondition Always row rs) these_rows (λ r h. tt),
    keys_safe,
    λ none. record {
      aggregates = of_has (λ g. All (IsSafeAggregate rs g.rows) (agg.Sum (Column (length keys + length aggs)) ∷ [])) (groups_of these_cols rs kept_rows)
          (λ g m. of_has (IsSafeAggregate rs g.rows) (agg.Sum (Column (length keys + length aggs)) ∷ []) (λ a h. counted g (merged_of g m) a h));
      conditions = of_has (λ row. IsSafeCondition Always row rs) (map (group_row (agg.Sum (Column (length keys + length aggs)) ∷ []) rs) (groups_of these_cols rs kept_rows)) (λ r h. tt);
      values = of_has (λ row. All (λ e. IsSafe e row rs) (Column (length keys) ∷ [])) (filter (keeps Always rs) (map (group_row (agg.Sum (Column (length keys + length aggs)) ∷ []) rs) (groups_of these_cols rs kept_rows)))
          (λ r h. of_has (λ e. IsSafe e r rs) (Column (length keys) ∷ []) (λ e k. behind_keys r (has_filtered (keeps Always rs) (map (group_row (agg.Sum (Column (length keys + length aggs)) ∷ []) rs) (groups_of these_cols rs kept_rows)) r h).0 e k));
    },
  )
    where
      counted : (g : Group) → Merged rs keys aggs ps g → (a : Agg) → Has (agg.Sum (Column (length keys + length aggs)) ∷ []) a → IsSafeAggregate rs g.rows a
      counted g m a (inr h) = absurd h
      counted g m a (inl e) =
          subst (λ b. IsSafeAggregate rs g.rows b) e (subst (λ us. IsSafeAggregate rs us (agg.Sum (Column (length keys + length aggs)))) (sym m.made)
          (one_safe rs (partial_row rs aggs m.key) m.some (merged_bound g m) (length keys + length aggs) agg.CountAll
          (λ p. part_columns rs keys aggs (agg.CountAll ∷ []) m.key m.wide p (length aggs) ∙ last_one (aggregate rs p) aggs agg.CountAll)
          (λ p. let w : length keys + (length aggs + 1) ≡ length (partial_row rs aggs m.key p) = row_wide m.key m.wide p in omega arith) tt))

      behind_keys : (r : Row) → Has (map (group_row (agg.Sum (Column (length keys + length aggs)) ∷ []) rs) (groups_of these_cols rs kept_rows)) r → (e : Expr) → Has (Column (length keys) ∷ []) e → IsSafe e r rs
      behind_keys r h e (inr k) = absurd k
      behind_keys r h e (inl q) =
          let u : (g : Group) × Has (groups_of these_cols rs kept_rows) g × (group_row (agg.Sum (Column (length keys + length aggs)) ∷ []) rs g ≡ r) =
          mapped_has (group_row (agg.Sum (Column (length keys + length aggs)) ∷ []) rs) (groups_of these_cols rs kept_rows) r h in
          let w : length u.0.keys ≡ length keys = groups_wide these_cols rs kept_rows u.0 u.1 ∙ length_columns 0 (length keys) in
          let l : length r ≡ length u.0.keys + 1 = ap length (sym u.2) ∙ length-append u.0.keys (aggregate rs u.0.rows (agg.Sum (Column (length keys + length aggs))) ∷ []) in
          subst (λ x. IsSafe x r rs) q (let d : length keys < length r = omega arith in d)

  module _ (having : Cond) (items : List Expr) (some : IsNonEmpty ps) (whole : list_any is_large_group (groups_of keys rs (joined ps)) ≡ false → AreSafeGroups aggs having items rs (groups_of keys rs (joined ps))) where
    -- the groups of all rows, by the tasks' rows
    same_groups : map (group_row (all_combining (length keys) aggs) rs) (groups_of these_cols rs kept_rows) ≡ map (group_row aggs rs) (groups_of keys rs (joined ps))
    same_groups = ap (λ us. map (group_row (all_combining (length keys) aggs) rs) (groups_of these_cols rs us)) kept_same ∙ groups_join rs aggs (agg.CountAll ∷ []) keys ps some

    -- none of them is too large, where none counts too many rows
    whole_small : list_any (is_large_together (length keys + length aggs) rs) (groups_of these_cols rs these_rows) ≡ false → list_any is_large_group (groups_of keys rs (joined ps)) ≡ false
    whole_small e = not_true (list_any is_large_group (groups_of keys rs (joined ps))) (λ t. true_not_false (list_any (is_large_together (length keys + length aggs) rs) (groups_of these_cols rs these_rows)) (above t) e)
      where
        counted_join : map (group_row (all_combining (length keys) (aggs ++ agg.CountAll ∷ [])) rs) (groups_of these_cols rs these_rows) ≡ map (group_row (aggs ++ agg.CountAll ∷ []) rs) (groups_of keys rs (joined ps))
        counted_join =
            ap (λ more. map (group_row (all_combining (length keys) (aggs ++ agg.CountAll ∷ [])) rs) (groups_of these_cols rs (flat_map (λ p. map (group_row more rs) (groups_of keys rs p)) ps))) (sym (append-nil (aggs ++ agg.CountAll ∷ [])))
            ∙ groups_join rs (aggs ++ agg.CountAll ∷ []) [] keys ps some

        above : list_any is_large_group (groups_of keys rs (joined ps)) ≡ true → list_any (is_large_together (length keys + length aggs) rs) (groups_of these_cols rs these_rows) ≡ true
        above t =
            let u : (h : Group) × Has (groups_of keys rs (joined ps)) h × (is_large_group h ≡ true) = any_at is_large_group (groups_of keys rs (joined ps)) t in
            let row : Row = group_row (aggs ++ agg.CountAll ∷ []) rs u.0 in
            let v : (g : Group) × Has (groups_of these_cols rs these_rows) g × (group_row (all_combining (length keys) (aggs ++ agg.CountAll ∷ [])) rs g ≡ row) =
            mapped_has (group_row (all_combining (length keys) (aggs ++ agg.CountAll ∷ [])) rs) (groups_of these_cols rs these_rows) row
            (subst (λ us. Has us row) (sym counted_join) (has_mapped (group_row (aggs ++ agg.CountAll ∷ []) rs) (groups_of keys rs (joined ps)) u.0 u.1)) in
            let c : aggregate rs v.0.rows (agg.Sum (Column (length keys + length aggs))) ≡ Int (pos (length u.0.rows)) =
            sym (sum_in rs keys aggs these_rows v.0 v.1) ∙ (ap (λ x. column x (length keys + length aggs)) v.2 ∙ count_of rs keys aggs (joined ps) u.0 u.1) in
            any_from (is_large_together (length keys + length aggs) rs) (groups_of these_cols rs these_rows) v.0 v.1
            (second (is_large_group v.0) (is_above_limit (aggregate rs v.0.rows (agg.Sum (Column (length keys + length aggs))))) (subst (λ w. is_above_limit w ≡ true) (sym c) u.2))
          where
            second : (a b : Bool) → b ≡ true → (a || b) ≡ true
            second true b e = refl
            second false b e = e

    pub groups_safe : list_any (is_large_together (length keys + length aggs) rs) (groups_of these_cols rs these_rows) ≡ false → AreSafeItems Always true these_cols (all_combining (length keys) aggs) having items rs these_rows
    groups_safe e = (
      of_has (λ row. IsSafeCondition Always row rs) these_rows (λ r h. tt),
      keys_safe,
      λ none. record {
        aggregates = of_has (λ g. All (IsSafeAggregate rs g.rows) (all_combining (length keys) aggs)) (groups_of these_cols rs kept_rows) (λ g m. combined g (merged_of g m));
        conditions = subst (λ us. All (λ row. IsSafeCondition having row rs) us) (sym same_groups) (whole (whole_small e)).conditions;
        values = subst (λ us. AreSafeOver items rs (filter (keeps having rs) us)) (sym same_groups) (whole (whole_small e)).values;
      },
    )
      where
        combined : (g : Group) → Merged rs keys aggs ps g → All (IsSafeAggregate rs g.rows) (all_combining (length keys) aggs)
        combined g m =
            let safe : All (IsSafeAggregate rs m.whole.0.rows) aggs =
            at_has (λ (h : Group). All (IsSafeAggregate rs h.rows) aggs) (groups_of keys rs (joined ps)) (recursion_from_All (λ (h : Group). All (IsSafeAggregate rs h.rows) aggs) (groups_of keys rs (joined ps)) (whole (whole_small e)).aggregates) m.whole.0 m.whole.1 in
            All-from_recursion (IsSafeAggregate rs g.rows) (all_combining (length keys) aggs)
            (subst (λ us. AllByRecursion (IsSafeAggregate rs us) (all_combining (length keys) aggs)) (sym m.made)
            (all_safe rs (partial_row rs aggs m.key) m.some (merged_bound g m) aggs (agg.CountAll ∷ []) (length keys)
            (part_columns rs keys aggs (agg.CountAll ∷ []) m.key m.wide)
            (λ p. let w : length keys + (length aggs + 1) ≡ length (partial_row rs aggs m.key p) = row_wide m.key m.wide p in omega arith)
            (recursion_from_All (IsSafeAggregate rs (joined m.some)) aggs (subst (λ us. All (IsSafeAggregate rs us) aggs) m.whole.2 safe))))
