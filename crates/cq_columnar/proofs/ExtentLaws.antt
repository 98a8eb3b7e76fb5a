-- What the least and the greatest value of a column say: a chunk whose kept values don't reach between two values has no row there.
use Rattle.std.proofs.Common.{◌≡◌, ◌∙◌, inl, inr, ℕ, zero, suc, ◌<◌, ◌≤◌, Bool, true, false, not, cond, ◌&&◌, nat_lt, List, [], ◌∷◌, ◌++◌, length, get_or, Option, Some, None, refl, sym, ap, subst, arith, Ordering, Less, Equal, Greater}
use Rattle.std.specs.Prelude.{filter, slice_get, fold}
use Rattle.std.specs.List.{AllByRecursion}
use Rattle.std.specs.Ordering.{is_eq, is_gt, ordering_reverse}
use Rattle.std.proofs.lemmas.Cmp.{upto, tied_itself}
use Rattle.cq_value.specs.declared.value.Value.{Value}
use Rattle.cq_value.specs.declared.value.Value.TheVariants.{Null}
use Rattle.cq_value.specs.Order.{value_cmp}
use Rattle.cq_value.specs.Tables.{Pair}
use Rattle.cq_value.proofs.OrderLaws.{value_cmp_total, value_cmp_same}
use Rattle.std.proofs.lemmas.Bool.{cases_lt}
use Rattle.cq_value.proofs.Lists.{got_before, got_last, all_weaker}
use Rattle.cq_value.proofs.Truths.{two_ways, left_false, right_false, or_neither, below_or_not}
use Rattle.cq_store.specs.Stores.{has_value, has_values}
use Rattle.cq_columnar.specs.declared.bounds.Bounds.{Bounds}
use Rattle.cq_columnar.specs.Chunks.{column, width}
use Rattle.cq_columnar.specs.Columns.{above, is_set, wider, extent, extents, lies, reaches, is_read, may_have, may_have_all}

-- ---- the kept values of a column

length_more : {X : Type 0} (xs : List X) (x : X) → length (xs ++ x ∷ []) ≡ suc (length xs)
length_more [] x = refl
length_more (y ∷ xs) x = ap suc (length_more xs x)

extents_length : (count : ℕ) (rows : List Pair) → length (extents count rows) ≡ count
extents_length zero rows = refl
extents_length (suc count) rows = length_more (extents count rows) (extent (column rows count)) ∙ ap suc (extents_length count rows)

pub extent_at : (count : ℕ) (rows : List Pair) (place : ℕ) → place < count → slice_get (extents count rows) place ≡ Some (extent (column rows place))
extent_at zero rows place l = absurd (omega (arith, l))
extent_at (suc count) rows place l =
    elim (cases_lt place count) [
      | inl lt ↦ got_before (extents count rows) (extent (column rows count) ∷ []) place (omega (arith, lt, extents_length count rows)) ∙ extent_at count rows place lt
      | inr le ↦ (let same : count ≡ place = omega (arith, l, le) in
          subst (λ k. slice_get (extents (suc count) rows) k ≡ Some (extent (column rows k))) same
          (ap (slice_get (extents (suc count) rows)) (sym (extents_length count rows)) ∙ got_last (extents count rows) (extent (column rows count))))
    ]

-- ---- the order

not_both : (o : Ordering) → is_gt o ≡ true → is_gt (ordering_reverse o) ≡ false
not_both Less e = absurd cc
not_both Equal e = absurd cc
not_both Greater e = refl

turned : (a b : Value) → above a b ≡ true → above b a ≡ false
turned a b e = ap is_gt (value_cmp_total.antisymm b a) ∙ not_both (value_cmp a b) e

itself : (a : Value) → above a a ≡ false
itself a = ap is_gt (tied_itself value_cmp_total a)

-- bounds hold a value
pub record Holds (v : Value) (o : Option Bounds) : Type 0 where
  pub bounds : Bounds
  pub are : o ≡ Some bounds
  pub least : above bounds.least v ≡ false
  pub greatest : above v bounds.greatest ≡ false

least_kept : (b : Bounds) (v w : Value) → above b.least v ≡ false → above (cond (above b.least w) w b.least) v ≡ false
least_kept b v w h = elim (two_ways (above b.least w)) [ inl y ↦ rw y (upto value_cmp_total w b.least v (turned b.least w y) h) | inr n ↦ rw n h ]

greatest_kept : (b : Bounds) (v w : Value) → above v b.greatest ≡ false → above v (cond (above w b.greatest) w b.greatest) ≡ false
greatest_kept b v w h = elim (two_ways (above w b.greatest)) [ inl y ↦ rw y (upto value_cmp_total v b.greatest w h (turned w b.greatest y)) | inr n ↦ rw n h ]

least_new : (b : Bounds) (w : Value) → above (cond (above b.least w) w b.least) w ≡ false
least_new b w = elim (two_ways (above b.least w)) [ inl y ↦ rw y (itself w) | inr n ↦ rw n n ]

greatest_new : (b : Bounds) (w : Value) → above w (cond (above w b.greatest) w b.greatest) ≡ false
greatest_new b w = elim (two_ways (above w b.greatest)) [ inl y ↦ rw y (itself w) | inr n ↦ rw n n ]

kept : (v w : Value) (o : Option Bounds) → Holds v o → Holds v (wider o w)
kept v w None h = absurd (let e = h.are in cc)
kept v w (Some b) h =
    let same : b ≡ h.bounds = let e = h.are in cc in
    let low : above b.least v ≡ false = ap (λ (a : Bounds). above a.least v) same ∙ h.least in
    let high : above v b.greatest ≡ false = ap (λ (a : Bounds). above v a.greatest) same ∙ h.greatest in
    elim (two_ways (is_set w)) [
      | inl y ↦ rw y (record { bounds = record { least = cond (above b.least w) w b.least; greatest = cond (above w b.greatest) w b.greatest }; are = refl; least = least_kept b v w low; greatest = greatest_kept b v w high })
      | inr n ↦ rw n (record { bounds = b; are = refl; least = low; greatest = high })
    ]

new : (w : Value) (o : Option Bounds) → is_set w ≡ true → Holds w (wider o w)
new w None y = rw y (record { bounds = record { least = w; greatest = w }; are = refl; least = itself w; greatest = itself w })
new w (Some b) y =
    rw y (record { bounds = record { least = cond (above b.least w) w b.least; greatest = cond (above w b.greatest) w b.greatest }; are = refl; least = least_new b w; greatest = greatest_new b w })

all_kept : (v : Value) (ws : List Value) (o : Option Bounds) → Holds v o → Holds v (fold wider o ws)
all_kept v [] o h = h
all_kept v (w ∷ ws) o h = all_kept v ws (wider o w) (kept v w o h)

-- each value of a list that is set is held by its bounds
abbrev SetHolds : Option Bounds → Value → Type 0
SetHolds o v = is_set v ≡ true → Holds v o

all_hold : (vs : List Value) (o : Option Bounds) → AllByRecursion (SetHolds (fold wider o vs)) vs
all_hold [] o = tt
all_hold (v ∷ vs) o = (λ y. all_kept v vs (wider o v) (new v o y), all_hold vs (wider o v))

-- ---- chunks that are passed over

out_of_reach : (o : Option Bounds) (low high v : Value) → reaches low high o ≡ false → SetHolds o v → ((is_set v && not (above low v)) && not (above v high)) ≡ false
out_of_reach o low high v out holds =
    elim (two_ways (is_set v)) [
      | inr n ↦ rw n refl
      | inl y ↦ rw y (elim (two_ways (above low v)) [
        | inl a ↦ rw a refl
        | inr a ↦ rw a (elim (two_ways (above v high)) [ inl b ↦ rw b refl | inr b ↦ absurd (reached (holds y) a b) ])
      ])
    ]
  where
    reached : Holds v o → above low v ≡ false → above v high ≡ false → ⊥
    reached h a b =
        let e : reaches low high (Some h.bounds) ≡ false = ap (reaches low high) (sym h.are) ∙ out in
        let l : above h.bounds.least high ≡ false = upto value_cmp_total h.bounds.least v high h.least b in
        let g : above low h.bounds.greatest ≡ false = upto value_cmp_total low v h.bounds.greatest a h.greatest in
        let yes : reaches low high (Some h.bounds) ≡ true = rw (l, g) refl in
        let wrong : true ≡ false = sym yes ∙ e in cc

none_lies : (rows : List Pair) (place : ℕ) (low high : Value) (o : Option Bounds) → reaches low high o ≡ false → AllByRecursion (SetHolds o) (column rows place) → filter (λ (p : Pair). lies place low high p.1) rows ≡ []
none_lies [] place low high o out holds = refl
none_lies (p ∷ ps) place low high o out holds = rw (out_of_reach o low high (get_or p.1 place Null) out holds.0) (none_lies ps place low high o out holds.1)

-- what is kept of a column that the first row has, and what isn't of one that it lacks
unread : (rows : List Pair) (place : ℕ) (low high : Value) → is_read place low high rows ≡ false → reaches low high (extent (column rows place)) ≡ false
unread rows place low high out = elim (two_ways (nat_lt place (width rows))) [ inl y ↦ rw y at out | inr n ↦ absurd (let wrong : true ≡ false = rw n at out in cc) ]

pub passed_over : (rows : List Pair) (place : ℕ) (low high : Value) → is_read place low high rows ≡ false → filter (λ (p : Pair). lies place low high p.1) rows ≡ []
passed_over rows place low high out = none_lies rows place low high (extent (column rows place)) (unread rows place low high out) (all_hold (column rows place) None)

-- ---- chunks that lack a value

-- a value that the bounds of a column rule out is none of its values
rules_out : (o : Option Bounds) (v x : Value) → is_set v ≡ true → reaches v v o ≡ false → SetHolds o x → is_eq (value_cmp x v) ≡ false
rules_out o v x set out holds = elim (two_ways (is_eq (value_cmp x v))) [ inl y ↦ absurd (met ((value_cmp_same x v).0 (equal (value_cmp x v) y))) | inr n ↦ n ]
  where
    equal : (o : Ordering) → is_eq o ≡ true → o ≡ Equal
    equal Less e = absurd cc
    equal Equal e = refl
    equal Greater e = absurd cc

    met : x ≡ v → ⊥
    met same =
        let none = out_of_reach o v v v out (subst (SetHolds o) same holds) in
        let wrong : true ≡ false = rw (set, itself v) at none in cc

all_ruled_out : (rows : List Pair) (place : ℕ) (v : Value) (o : Option Bounds) → is_set v ≡ true → reaches v v o ≡ false → AllByRecursion (SetHolds o) (column rows place) → AllByRecursion (λ (p : Pair). has_value place v p.1 ≡ false) rows
all_ruled_out [] place v o set out holds = tt
all_ruled_out (p ∷ ps) place v o set out holds = (rules_out o v (get_or p.1 place Null) set out holds.0, all_ruled_out ps place v o set out holds.1)

none_has : (rows : List Pair) (place : ℕ) (v : Value) → may_have place v rows ≡ false → AllByRecursion (λ (p : Pair). has_value place v p.1 ≡ false) rows
none_has rows place v out =
    let both = or_neither (not (is_set v)) (is_read place v v rows) out in
    all_ruled_out rows place v (extent (column rows place)) (not_false (is_set v) both.0) (unread rows place v v both.1) (all_hold (column rows place) None)
  where
    not_false : (b : Bool) → not b ≡ false → b ≡ true
    not_false true e = refl
    not_false false e = absurd cc

pub none_has_all : (rows : List Pair) (wanted : List (ℕ × Value)) → may_have_all wanted rows ≡ false → AllByRecursion (λ (p : Pair). has_values wanted p.1 ≡ false) rows
none_has_all rows [] out = absurd cc
none_has_all rows (w ∷ ws) out =
    elim (two_ways (may_have w.0 w.1 rows)) [
      | inl y ↦ all_weaker (λ (p : Pair). has_values ws p.1 ≡ false) (λ (p : Pair). has_values (w ∷ ws) p.1 ≡ false) (λ p n. right_false (has_value w.0 w.1 p.1) (has_values ws p.1) n) rows (none_has_all rows ws (rw y at out))
      | inr n ↦ all_weaker (λ (p : Pair). has_value w.0 w.1 p.1 ≡ false) (λ (p : Pair). has_values (w ∷ ws) p.1 ≡ false) (λ p n. left_false (has_value w.0 w.1 p.1) (has_values ws p.1) n) rows (none_has rows w.0 w.1 n)
    ]

-- ---- what is kept at a column's place

past : {X : Type 0} (xs : List X) (place : ℕ) → length xs ≤ place → slice_get xs place ≡ None
past [] place le = refl
past (x ∷ xs) zero le = absurd (omega (arith, le))
past (x ∷ xs) (suc place) le = past xs place (omega (arith, le))

pub kept_at : (rows : List Pair) (keeps : List (Option Bounds)) (place : ℕ) (b : Option Bounds) (low high : Value) → keeps ≡ extents (width rows) rows → Some b ≡ slice_get keeps place → reaches low high b ≡ is_read place low high rows
kept_at rows keeps place b low high e got =
    elim (below_or_not place (width rows)) [
      | inl y ↦ rw y.0 (let same : Some b ≡ Some (extent (column rows place)) = got ∙ ap (λ xs. slice_get xs place) e ∙ extent_at (width rows) rows place y.1 in ap (reaches low high) (one b (extent (column rows place)) same))
      | inr n ↦ absurd (let wrong : Some b ≡ None = got ∙ ap (λ xs. slice_get xs place) e ∙ past (extents (width rows) rows) place (omega (arith, n.1, extents_length (width rows) rows)) in cc)
    ]
  where
    one : (x y : Option Bounds) → Some x ≡ Some y → x ≡ y
    one x y e = cc

pub none_kept_at : (rows : List Pair) (keeps : List (Option Bounds)) (place : ℕ) (low high : Value) → keeps ≡ extents (width rows) rows → None ≡ slice_get keeps place → true ≡ is_read place low high rows
none_kept_at rows keeps place low high e got =
    elim (below_or_not place (width rows)) [
      | inl y ↦ absurd (let wrong : None ≡ Some (extent (column rows place)) = got ∙ ap (λ xs. slice_get xs place) e ∙ extent_at (width rows) rows place y.1 in cc)
      | inr n ↦ rw n.0 refl
    ]
