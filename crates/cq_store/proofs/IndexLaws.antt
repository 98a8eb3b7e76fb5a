-- What an index names: all rows that have the values which are looked for, in order, also after rows came, changed and went.
use Rattle.std.proofs.Common.{◌≡◌, ◌≢◌, ◌⊎◌, inl, inr, ℕ, zero, suc, ◌+◌, ◌%◌, ◌<◌, ◌≤◌, Bool, true, false, cond, not, ltb, nat_eq, ◌||◌, List, [], ◌∷◌, ◌++◌, take, drop, map, filter, length, append_assoc, append-nil, get_or, set, All, refl, sym, ap, ◌∙◌, ⊎_elim, arith, subst, zero-le, ltb-true, ltb-false, eq-eqb, ne_eqb, le_refl, le_of_lt, eq-or-lt_of_le, Equal}
use Rattle.std.specs.List.{AllByRecursion, list_any, list_all, fold, flat_map}
use Rattle.std.specs.Ordering.{is_eq}
use Rattle.std.specs.declared.cmp.Ordering.{Ordering}
use Rattle.std.specs.declared.cmp.Ordering.TheVariants.{Less, Greater}
use Rattle.std.proofs.lemmas.List.{get_or_default, get_or-set_same, get_or-set_other, length-set}
use Rattle.std.proofs.lemmas.List.Elements.{All-from_recursion, recursion_from_All, All-map, All-filter, filter-append}
use Rattle.std.proofs.lemmas.List.Folds.{list_any-append}
use Rattle.std.proofs.Math.Nat.{mod-lt}
use Rattle.cq_value.proofs.Truths.{and_both}
use Rattle.cq_value.specs.declared.value.Value.{Value}
use Rattle.cq_value.specs.declared.value.Value.TheVariants.{Null}
use Rattle.cq_value.specs.declared.change.Change.{Change}
use Rattle.cq_value.specs.Changes.{changed, applied}
use Rattle.cq_value.specs.Tables.{Pair, Table, IsAscending, with_row, with_new_row, without_row}
use Rattle.cq_value.proofs.OrderLaws.{value_cmp_same}
use Rattle.cq_value.proofs.Lists.{all_more, all_weaker}
use Rattle.cq_value.proofs.TableLaws.{rising}
use Rattle.cq_pages.proofs.PageLaws.{ascending_left, ascending_right, page_at}
use Rattle.cq_store.specs.declared.index.Index.{Index}
use Rattle.cq_store.specs.Stores.{has_value, has_values}
use Rattle.cq_pages.specs.Pages.{pairs_of, named, Splits}
use Rattle.cq_store.specs.Indexes.{mixed, row_number, wanted_number, bucket, is_in, Rises, Holds, Covers, with_id, Notes, StandsIn, GoesOn, AllBelow}

-- values that are found make the number of the row that has them
equal : (o : Ordering) → is_eq o ≡ true → o ≡ Equal
equal Less e = cc
equal Equal e = refl
equal Greater e = cc

number_from : (wanted : List (ℕ × Value)) (row : List Value) (n : ℕ) → list_all (λ (p : ℕ × Value). has_value p.0 p.1 row) wanted ≡ true →
    fold (λ number column. mixed number (get_or row column Null)) n (map (λ (p : ℕ × Value). p.0) wanted) ≡ fold (λ number (p : ℕ × Value). mixed number p.1) n wanted
number_from [] row n e = refl
number_from (p ∷ wanted) row n e =
    let parts = and_both (has_value p.0 p.1 row) (list_all (λ (q : ℕ × Value). has_value q.0 q.1 row) wanted) e in
    let same : get_or row p.0 Null ≡ p.1 = (value_cmp_same (get_or row p.0 Null) p.1).0 (equal _ parts.0) in
    ap (λ v. fold (λ number column. mixed number (get_or row column Null)) (mixed n v) (map (λ (q : ℕ × Value). q.0) wanted)) same ∙ number_from wanted row (mixed n p.1) parts.1

pub numbers_meet : (wanted : List (ℕ × Value)) (row : List Value) (columns : List ℕ) → columns ≡ map (λ (p : ℕ × Value). p.0) wanted → has_values wanted row ≡ true →
    row_number columns row ≡ wanted_number wanted
numbers_meet wanted row columns e has = ap (λ cs. row_number cs row) e ∙ number_from wanted row 0 has

-- the rows with an id, where ids ascend: one or none
none_named : (id : ℕ) (ps : List Pair) → AllByRecursion (λ (q : Pair). id < q.0) ps → named id ps ≡ []
none_named id [] h = refl
none_named id (p ∷ ps) h = let e : nat_eq p.0 id ≡ false = ne_eqb p.0 id (λ e. absurd (omega (arith, h.0, e))) in rw e (none_named id ps h.1)

below_at : (n : ℕ) (ps : List Pair) → ((k : ℕ) (d : Pair) → zero ≤ k → k < length ps → n < (get_or ps k d).0) → AllByRecursion (λ (q : Pair). n < q.0) ps
below_at n [] h = tt
below_at n (p ∷ ps) h = (h 0 p zero-le (omega arith), below_at n ps (λ k d z l. h (suc k) d zero-le (omega (arith, l))))

raised : (m n : ℕ) (ps : List Pair) → AllByRecursion (λ (q : Pair). n < q.0) ps → m ≤ n → AllByRecursion (λ (q : Pair). m < q.0) ps
raised m n [] h le = tt
raised m n (p ∷ ps) h le = (omega (arith, h.0, le), raised m n ps h.1 le)

-- the rows with ids that ascend, one id after the other, are the rows whose id is among them
not_in : (n m : ℕ) (ids : List ℕ) → AllByRecursion (λ i. n < i) ids → m ≤ n → is_in ids m ≡ false
not_in n m [] h le = refl
not_in n m (i ∷ ids) h le = let e : nat_eq i m ≡ false = ne_eqb i m (λ e. absurd (omega (arith, h.0, le, e))) in rw e (not_in n m ids h.1 le)

none_in : (ps : List Pair) → filter (λ (p : Pair). is_in [] p.0) ps ≡ []
none_in [] = refl
none_in (p ∷ ps) = none_in ps

drop_first : (id : ℕ) (ids : List ℕ) (ps : List Pair) → AllByRecursion (λ (q : Pair). id < q.0) ps → filter (λ (p : Pair). is_in (id ∷ ids) p.0) ps ≡ filter (λ (p : Pair). is_in ids p.0) ps
drop_first id ids [] h = refl
drop_first id ids (p ∷ ps) h =
    let e : nat_eq id p.0 ≡ false = ne_eqb id p.0 (λ e. absurd (omega (arith, h.0, e))) in
    let rest = drop_first id ids ps h.1 in
    rw (e, rest) refl

below_first : (id : ℕ) (ids : List ℕ) (p : Pair) (ps : List Pair) → AllByRecursion (λ i. id < i) ids → p.0 < id →
    named id ps ++ filter (λ (q : Pair). is_in ids q.0) ps ≡ filter (λ (q : Pair). is_in (id ∷ ids) q.0) ps →
    named id (p ∷ ps) ++ filter (λ (q : Pair). is_in ids q.0) (p ∷ ps) ≡ filter (λ (q : Pair). is_in (id ∷ ids) q.0) (p ∷ ps)
below_first id ids p ps up lt rest =
    let e : nat_eq p.0 id ≡ false = ne_eqb p.0 id (λ e. absurd (omega (arith, lt, e))) in
    let f : nat_eq id p.0 ≡ false = ne_eqb id p.0 (λ e. absurd (omega (arith, lt, e))) in
    let g : is_in ids p.0 ≡ false = not_in id p.0 ids up (le_of_lt lt) in
    rw (e, f, g) rest

at_first : (id : ℕ) (ids : List ℕ) (p : Pair) (ps : List Pair) (next : ℕ) → IsAscending (p ∷ ps) next → AllByRecursion (λ i. id < i) ids → id ≡ p.0 →
    named id (p ∷ ps) ++ filter (λ (q : Pair). is_in ids q.0) (p ∷ ps) ≡ filter (λ (q : Pair). is_in (id ∷ ids) q.0) (p ∷ ps)
at_first id ids p ps next h up same =
    let e : nat_eq p.0 id ≡ true = eq-eqb p.0 id (sym same) in
    let f : nat_eq id p.0 ≡ true = eq-eqb id p.0 same in
    let g : is_in ids p.0 ≡ false = not_in id p.0 ids up (omega (arith, same)) in
    let gone : AllByRecursion (λ (q : Pair). id < q.0) ps = raised id p.0 ps h.1 (omega (arith, same)) in
    let none = none_named id ps gone in
    let rest = drop_first id ids ps gone in
    rw (e, f, g, none, rest) refl

above_first : (id : ℕ) (ids : List ℕ) (p : Pair) (ps : List Pair) (next : ℕ) → IsAscending (p ∷ ps) next → AllByRecursion (λ i. id < i) ids → id < p.0 →
    named id (p ∷ ps) ++ filter (λ (q : Pair). is_in ids q.0) (p ∷ ps) ≡ filter (λ (q : Pair). is_in (id ∷ ids) q.0) (p ∷ ps)
above_first id ids p ps next h up lt =
    let gone : AllByRecursion (λ (q : Pair). id < q.0) (p ∷ ps) = (lt, raised id p.0 ps h.1 (le_of_lt lt)) in
    rw (none_named id (p ∷ ps) gone) (sym (drop_first id ids (p ∷ ps) gone))

order : (m n : ℕ) → (m < n) ⊎ (n ≤ m)
order m n = by_test (ltb m n) refl
  where
    by_test : (b : Bool) → ltb m n ≡ b → (m < n) ⊎ (n ≤ m)
    by_test true e = inl (ltb-true m n e)
    by_test false e = inr (ltb-false m n e)

first_named : (id : ℕ) (ids : List ℕ) (ps : List Pair) (next : ℕ) → IsAscending ps next → AllByRecursion (λ i. id < i) ids →
    named id ps ++ filter (λ (p : Pair). is_in ids p.0) ps ≡ filter (λ (p : Pair). is_in (id ∷ ids) p.0) ps
first_named id ids [] next h up = refl
first_named id ids (p ∷ ps) next h up =
    let rest = first_named id ids ps next h.2 up in
    ⊎_elim (λ lt. below_first id ids p ps up lt rest) (λ le. ⊎_elim (at_first id ids p ps next h up) (above_first id ids p ps next h up) (eq-or-lt_of_le le)) (order p.0 id)

pub all_named : (ids : List ℕ) (upto : ℕ) (ps : List Pair) (next : ℕ) → IsAscending ps next → Rises ids upto →
    flat_map (λ id. named id ps) ids ≡ filter (λ (p : Pair). is_in ids p.0) ps
all_named [] upto ps next h up = sym (none_in ps)
all_named (id ∷ ids) upto ps next h up = ap (λ qs. named id ps ++ qs) (all_named ids upto ps next h up.2) ∙ first_named id ids ps next h up.1

abbrev is_none : List Pair → Bool
is_none [] = true
is_none (p ∷ ps) = false

-- where each row that passes a test has its id among them, the rows that pass are those of the ids that do
pub kept_in : (q : Pair → Bool) (ids : List ℕ) (ps : List Pair) → AllByRecursion (λ (p : Pair). q p ≡ true → is_in ids p.0 ≡ true) ps →
    filter q (filter (λ (p : Pair). is_in ids p.0) ps) ≡ filter q ps
kept_in q ids [] h = refl
kept_in q ids (p ∷ ps) h = by_test (kept_in q ids ps h.1) (q p) refl
  where
    by_test : filter q (filter (λ (r : Pair). is_in ids r.0) ps) ≡ filter q ps → (b : Bool) → q p ≡ b → filter q (filter (λ (r : Pair). is_in ids r.0) (p ∷ ps)) ≡ filter q (p ∷ ps)
    by_test rest true e = rw (h.0 e, e) (ap (λ qs. p ∷ qs) rest)
    by_test rest false e = elim (is_in ids p.0) as (λ b. filter q (cond b (p ∷ filter (λ (r : Pair). is_in ids r.0) ps) (filter (λ (r : Pair). is_in ids r.0) ps)) ≡ cond (q p) (p ∷ filter q ps) (filter q ps)) [
      | true ↦ rw e rest
      | false ↦ rw e rest
    ]

filter_flat : (q : Pair → Bool) (f : ℕ → List Pair) (ids : List ℕ) → flat_map (λ id. filter q (f id)) ids ≡ filter q (flat_map f ids)
filter_flat q f [] = refl
filter_flat q f (id ∷ ids) = ap (λ qs. filter q (f id) ++ qs) (filter_flat q f ids) ∙ sym (filter-append q (f id) (flat_map f ids))

any_flat : (q : Pair → Bool) (f : ℕ → List Pair) (ids : List ℕ) → list_any (λ id. list_any q (f id)) ids ≡ list_any q (flat_map f ids)
any_flat q f [] = refl
any_flat q f (id ∷ ids) = ap (λ b. list_any q (f id) || b) (any_flat q f ids) ∙ sym (list_any-append q (f id) (flat_map f ids))

any_filter : (q : Pair → Bool) (ps : List Pair) → list_any q ps ≡ not (is_none (filter q ps))
any_filter q [] = refl
any_filter q (p ∷ ps) = elim (q p) as (λ b. (b || list_any q ps) ≡ not (is_none (cond b (p ∷ filter q ps) (filter q ps)))) [ true ↦ refl | false ↦ any_filter q ps ]

-- the bucket of the wanted values has the ids of all rows that have them
complete : (index : Index) (wanted : List (ℕ × Value)) (ps : List Pair) → Holds index ps → Covers index wanted ps →
    AllByRecursion (λ (p : Pair). has_values wanted p.1 ≡ true → is_in (bucket index.buckets (wanted_number wanted)) p.0 ≡ true) ps
complete index wanted ps h c =
    recursion_from_All (λ (p : Pair). has_values wanted p.1 ≡ true → is_in (bucket index.buckets (wanted_number wanted)) p.0 ≡ true) ps
    (λ k d l has. let e = numbers_meet wanted (get_or ps k d).1 index.columns c.columns has in rw e at (h.named k d l (c.all k d l)))

bucket_rises : (index : Index) (number : ℕ) (ps : List Pair) → Holds index ps → 0 < length index.buckets → Rises (bucket index.buckets number) index.upto
bucket_rises index number ps h some = h.rises (number % length index.buckets) [] (mod-lt number some)

-- the rows that have the wanted values are found one id of their bucket after the other
pub finds_all : (index : Index) (wanted : List (ℕ × Value)) (ps : List Pair) (next : ℕ) → IsAscending ps next → Holds index ps → Covers index wanted ps →
    flat_map (λ id. filter (λ (p : Pair). has_values wanted p.1) (named id ps)) (bucket index.buckets (wanted_number wanted)) ≡ filter (λ (p : Pair). has_values wanted p.1) ps
finds_all index wanted ps next up h c =
    let q : Pair → Bool = λ p. has_values wanted p.1 in
    let ids = bucket index.buckets (wanted_number wanted) in
    filter_flat q (λ id. named id ps) ids ∙ ap (λ qs. filter q qs) (all_named ids index.upto ps next up (bucket_rises index (wanted_number wanted) ps h c.some))
    ∙ kept_in q ids ps (complete index wanted ps h c)

pub finds_any : (index : Index) (wanted : List (ℕ × Value)) (ps : List Pair) (next : ℕ) → IsAscending ps next → Holds index ps → Covers index wanted ps →
    list_any (λ id. list_any (λ (p : Pair). has_values wanted p.1) (named id ps)) (bucket index.buckets (wanted_number wanted)) ≡ list_any (λ (p : Pair). has_values wanted p.1) ps
finds_any index wanted ps next up h c =
    let q : Pair → Bool = λ p. has_values wanted p.1 in
    let ids = bucket index.buckets (wanted_number wanted) in
    any_flat q (λ id. named id ps) ids
    ∙ ap (λ qs. list_any q qs) (all_named ids index.upto ps next up (bucket_rises index (wanted_number wanted) ps h c.some))
    ∙ any_filter q (filter (λ (p : Pair). is_in ids p.0) ps)
    ∙ ap (λ qs. not (is_none qs)) (kept_in q ids ps (complete index wanted ps h c))
    ∙ sym (any_filter q ps)

-- an index that names no row holds of all rows
pub holds_none : (index : Index) (ps : List Pair) → index.upto ≡ 0 → All (λ ids. ids ≡ []) index.buckets → Holds index ps
holds_none index ps e none = record {
  named = λ k d l lt. absurd (omega (arith, lt, e));
  rises = λ k d l. subst (λ ids. Rises ids index.upto) (sym (none k d l)) tt;
}

-- changes of the rows
all_put : (P : Pair → Type 0) (ps : List Pair) (p : Pair) → AllByRecursion P ps → P p → AllByRecursion P (ps ++ p ∷ [])
all_put P [] p h one = (one, tt)
all_put P (q ∷ ps) p h one = (h.0, all_put P ps p h.1 one)

abbrev Named : Index → Pair → Type 0
Named index p = p.0 < index.upto → is_in (bucket index.buckets (row_number index.columns p.1)) p.0 ≡ true

pub holds_added : (index : Index) (t : Table) (id : ℕ) (row : List Value) → Holds index t.pairs → index.upto ≤ id → Holds index (with_row t id row).pairs
holds_added index t id row h up = record {
  named = All-from_recursion (Named index) (t.pairs ++ (id, row) ∷ []) (all_put (Named index) t.pairs (id, row) (recursion_from_All (Named index) t.pairs h.named) (λ lt. absurd (omega (arith, lt, up))));
  rises = h.rises;
}

pub holds_dropped : (index : Index) (t : Table) (id : ℕ) → Holds index t.pairs → Holds index (without_row t id).pairs
holds_dropped index t id h = record {
  named = All-filter (λ (p : Pair). not (nat_eq p.0 id)) (Named index) t.pairs h.named;
  rises = h.rises;
}

pub holds_put : (index : Index) (t : Table) (id : ℕ) (row : List Value) → Holds index t.pairs → Named index (id, row) → Holds index (with_new_row t id row).pairs
holds_put index t id row h there = record {
  named = All-map (Named index) (λ (p : Pair). cond (nat_eq p.0 id) (id, row) p) t.pairs (λ k d l. either (get_or t.pairs k d) (h.named k d l));
  rises = h.rises;
}
  where
    either : (p : Pair) → Named index p → Named index (cond (nat_eq p.0 id) (id, row) p)
    either p old = elim (nat_eq p.0 id) as (λ b. Named index (cond b (id, row) p)) [ true ↦ there | false ↦ old ]

-- one more row is named
rises_up : (ids : List ℕ) (upto more : ℕ) → Rises ids upto → upto ≤ more → Rises ids more
rises_up [] upto more h up = tt
rises_up (id ∷ ids) upto more h up = (omega (arith, h.0, up), h.1, rises_up ids upto more h.2 up)

below_put : (n id : ℕ) (ids : List ℕ) → AllByRecursion (λ i. n < i) ids → n < id → AllByRecursion (λ i. n < i) (ids ++ id ∷ [])
below_put n id [] h lt = (lt, tt)
below_put n id (i ∷ ids) h lt = (h.0, below_put n id ids h.1 lt)

rises_put : (ids : List ℕ) (upto id : ℕ) → Rises ids upto → upto ≤ id → Rises (ids ++ id ∷ []) (id + 1)
rises_put [] upto id h up = (omega arith, tt, tt)
rises_put (i ∷ ids) upto id h up = (omega (arith, h.0, up), below_put i id ids h.1 (omega (arith, h.0, up)), rises_put ids upto id h.2 up)

in_more : (ids more : List ℕ) (id : ℕ) → is_in ids id ≡ true → is_in (ids ++ more) id ≡ true
in_more ids more id e = list_any-append (λ n. nat_eq n id) ids more ∙ rw e refl

in_last : (ids : List ℕ) (id : ℕ) → is_in (ids ++ id ∷ []) id ≡ true
in_last [] id = rw (eq-eqb id id refl) refl
in_last (i ∷ ids) id = elim (nat_eq i id) as (λ b. (b || is_in (ids ++ id ∷ []) id) ≡ true) [ true ↦ refl | false ↦ in_last ids id ]

same_or_not : (m n : ℕ) → (m ≡ n) ⊎ (m ≢ n)
same_or_not m n = ⊎_elim (λ lt. inr (λ e. absurd (omega (arith, lt, e)))) (λ le. ⊎_elim (λ e. inl (sym e)) (λ lt. inr (λ e. absurd (omega (arith, lt, e)))) (eq-or-lt_of_le le)) (order m n)

bucket_kept : (buckets : List (List ℕ)) (place number id n : ℕ) → place < length buckets → is_in (bucket buckets number) id ≡ true →
    is_in (bucket (set buckets place (get_or buckets place [] ++ n ∷ [])) number) id ≡ true
bucket_kept buckets place number id n within there =
    let ids = get_or buckets place [] ++ n ∷ [] in
    let k = number % length buckets in
    rw (length-set buckets place ids)
    (⊎_elim (λ e. subst (λ j. is_in (get_or (set buckets place ids) j []) id ≡ true) (sym e)
    (rw (get_or-set_same buckets place ids [] within) (in_more (get_or buckets place []) (n ∷ []) id (subst (λ j. is_in (get_or buckets j []) id ≡ true) e there))))
    (λ ne. rw (get_or-set_other buckets place k ids [] ne) there) (same_or_not k place))

bucket_new : (buckets : List (List ℕ)) (number id : ℕ) → 0 < length buckets →
    is_in (bucket (set buckets (number % length buckets) (get_or buckets (number % length buckets) [] ++ id ∷ [])) number) id ≡ true
bucket_new buckets number id some =
    let place = number % length buckets in
    let ids = get_or buckets place [] ++ id ∷ [] in
    rw (length-set buckets place ids, get_or-set_same buckets place ids [] (mod-lt number some)) (in_last (get_or buckets place []) id)

-- the row where the ids below the bound end is named too
pub holds_more : (index : Index) (ps : List Pair) (next place : ℕ) (p : Pair) → IsAscending ps next → Holds index ps → 0 < length index.buckets → Splits ps index.upto place →
    place < length ps → p ≡ get_or ps place p → Holds (with_id index p.0 p.1) ps
holds_more index ps next place p up h some s within read =
    let n = row_number index.columns p.1 in
    let b = n % length index.buckets in
    let ids = get_or index.buckets b [] ++ p.0 ∷ [] in
    let in_b : b < length index.buckets = mod-lt n some in
    let above : index.upto ≤ p.0 = subst (λ (q : Pair). index.upto ≤ q.0) (sym read) (s.above place p (le_refl place) within) in
    record {
      named = λ k d l lt. ⊎_elim (λ before. bucket_kept index.buckets b (row_number index.columns (get_or ps k d).1) (get_or ps k d).0 p.0 in_b (h.named k d l (s.below k d before)))
          (λ after. ⊎_elim (λ same. subst (λ (q : Pair). is_in (bucket (set index.buckets b ids) (row_number index.columns q.1)) q.0 ≡ true) (read ∙ get_or_default ps place p d within ∙ ap (λ j. get_or ps j d) same) (bucket_new index.buckets n p.0 some))
          (λ later. let high : p.0 < (get_or ps k d).0 = subst (λ (q : Pair). q.0 < (get_or ps k d).0) (sym (read ∙ get_or_default ps place p d within)) (rising ps next place k d up later l) in absurd (omega (arith, high, lt)))
          (eq-or-lt_of_le after)) (order k place);
      rises = λ k d l. let l' : k < length index.buckets = subst (λ m. k < m) (length-set index.buckets b ids) l in
          ⊎_elim (λ e. subst (λ j. Rises (get_or (set index.buckets b ids) j d) (p.0 + 1)) (sym e)
          (rw (get_or-set_same index.buckets b ids d in_b) (rises_put (get_or index.buckets b []) index.upto p.0 (h.rises b [] in_b) above)))
          (λ ne. rw (get_or-set_other index.buckets b k ids d ne) (rises_up (get_or index.buckets k d) index.upto (p.0 + 1) (h.rises k d l') (omega (arith, above)))) (same_or_not k b);
    }

-- where the ids below a bound end, in two parts
splits_here : (ps : List Pair) (p : Pair) (qs : List Pair) (next upto : ℕ) → IsAscending (ps ++ p ∷ qs) next → AllByRecursion (λ (q : Pair). q.0 < upto) ps → upto ≤ p.0 → Splits (ps ++ p ∷ qs) upto (length ps)
splits_here [] p qs next upto up low high = record {
  within = zero-le;
  below = λ k d lt. absurd (omega (arith, lt));
  above = λ k d le l. later k d l;
}
  where
    later : (k : ℕ) (d : Pair) → k < length (p ∷ qs) → upto ≤ (get_or (p ∷ qs) k d).0
    later zero d l = high
    later (suc k) d l = let lt : p.0 < (get_or qs k d).0 = rising (p ∷ qs) next 0 (suc k) d up (omega arith) l in omega (arith, lt, high)
splits_here (a ∷ ps) p qs next upto up low high =
    let rest = splits_here ps p qs next upto up.2 low.1 high in
    record { within = omega (arith, rest.within); below = earlier rest; above = later rest }
  where
    earlier : Splits (ps ++ p ∷ qs) upto (length ps) → (k : ℕ) (d : Pair) → k < length (a ∷ ps) → (get_or (a ∷ (ps ++ p ∷ qs)) k d).0 < upto
    earlier s zero d lt = low.0
    earlier s (suc k) d lt = s.below k d (omega (arith, lt))

    later : Splits (ps ++ p ∷ qs) upto (length ps) → (k : ℕ) (d : Pair) → length (a ∷ ps) ≤ k → k < length (a ∷ (ps ++ p ∷ qs)) → upto ≤ (get_or (a ∷ (ps ++ p ∷ qs)) k d).0
    later s zero d le l = absurd (omega (arith, le))
    later s (suc k) d le l = s.above k d (omega (arith, le)) (omega (arith, l))

here : (ps : List Pair) (p : Pair) (qs : List Pair) (d : Pair) → (length ps < length (ps ++ p ∷ qs)) × (p ≡ get_or (ps ++ p ∷ qs) (length ps) d)
here [] p qs d = (omega arith, refl)
here (a ∷ ps) p qs d = let rest = here ps p qs d in (omega (arith, rest.0), rest.1)

page_parts : (page : List Pair) (i : ℕ) (p : Pair) → i < length page → p ≡ get_or page i p → (page ≡ take i page ++ p ∷ drop (i + 1) page) × (take (i + 1) page ≡ take i page ++ p ∷ [])
page_parts [] i p l read = absurd (omega (arith, l))
page_parts (q ∷ page) zero p l read = (ap (λ r. r ∷ page) (sym read), ap (λ r. r ∷ []) (sym read))
page_parts (q ∷ page) (suc i) p l read =
    let one : suc i + 1 ≡ suc (i + 1) = omega arith in
    let rest = page_parts page i p (omega (arith, l)) read in
    rw one (ap (λ ps. q ∷ ps) rest.0, ap (λ ps. q ∷ ps) rest.1)

-- a page among all pairs, in two parts
all_parts : (before page after : List Pair) (i : ℕ) (p : Pair) → i < length page → p ≡ get_or page i p →
    before ++ page ++ after ≡ (before ++ take i page) ++ p ∷ (drop (i + 1) page ++ after)
all_parts before page after i p l read =
    ap (λ ps. before ++ ps ++ after) (page_parts page i p l read).0
    ∙ ap (λ ps. ps ++ after) (sym (append_assoc before (take i page) (p ∷ drop (i + 1) page)))
    ∙ append_assoc (before ++ take i page) (p ∷ drop (i + 1) page) after

low_more : (upto : ℕ) (before page : List Pair) (i : ℕ) (p : Pair) → i < length page → p ≡ get_or page i p → AllByRecursion (λ (q : Pair). q.0 < upto) (before ++ take i page) → p.0 < upto →
    AllByRecursion (λ (q : Pair). q.0 < upto) (before ++ take (i + 1) page)
low_more upto before page i p l read low lt =
    subst (λ ps. AllByRecursion (λ (q : Pair). q.0 < upto) ps) (append_assoc before (take i page) (p ∷ []) ∙ ap (λ ps. before ++ ps) (sym (page_parts page i p l read).1))
    (all_more (λ (q : Pair). q.0 < upto) (before ++ take i page) p low lt)

-- a row of a page that is named already
pub page_passed : (old index : Index) (page : List Pair) (i : ℕ) (p : Pair) → i < length page → p ≡ get_or page i p → AllBelow old index page (take i page) → p.0 < index.upto → AllBelow old index page (take (i + 1) page)
page_passed old index page i p l read low lt before after s = low_more index.upto before page i p l read (low before after s) lt

-- and one that is named now
pub page_named : (old index : Index) (page : List Pair) (i : ℕ) (p : Pair) → i < length page → p ≡ get_or page i p → 0 < length index.buckets → index.upto ≤ p.0 →
    GoesOn old index page → AllBelow old index page (take i page) → GoesOn old (with_id index p.0 p.1) page
page_named old index page i p l read some high goes low before after s holds =
    let e = all_parts before page after i p l read in
    let ps = before ++ take i page in
    let qs = drop (i + 1) page ++ after in
    let up : IsAscending (ps ++ p ∷ qs) s.next = subst (λ rs. IsAscending rs s.next) e s.up in
    let there = here ps p qs p in
    subst (λ rs. Holds (with_id index p.0 p.1) rs) (sym e)
    (holds_more index (ps ++ p ∷ qs) s.next (length ps) p up (subst (λ rs. Holds index rs) e (goes before after s holds)) some
    (splits_here ps p qs s.next index.upto up (low before after s) high) there.0 there.1)

pub page_goes_on : (old index : Index) (page : List Pair) (i : ℕ) (p : Pair) → i < length page → p ≡ get_or page i p → index.upto ≤ p.0 → AllBelow old index page (take i page) →
    AllBelow old (with_id index p.0 p.1) page (take (i + 1) page)
page_goes_on old index page i p l read high low before after s =
    low_more (p.0 + 1) before page i p l read (all_weaker (λ (q : Pair). q.0 < index.upto) (λ (q : Pair). q.0 < p.0 + 1) (λ q lt. omega (arith, lt, high)) (before ++ take i page) (low before after s)) (omega arith)

-- ---- all pages

page_more : (pages : List (List Pair)) (i : ℕ) (d : List Pair) → i < length pages → pairs_of (take (i + 1) pages) ≡ pairs_of (take i pages) ++ get_or pages i d
page_more [] i d l = absurd (omega (arith, l))
page_more (page ∷ pages) zero d l = append-nil page
page_more (page ∷ pages) (suc i) d l =
    let one : suc i + 1 ≡ suc (i + 1) = omega arith in
    rw one (ap (λ ps. page ++ ps) (page_more pages i d (omega (arith, l))) ∙ sym (append_assoc page (pairs_of (take i pages)) (get_or pages i d)))

-- a page among the last ones of all
page_among : (ps before : List Pair) (pages : List (List Pair)) (i : ℕ) (d : List Pair) → ps ≡ before ++ pairs_of pages → i < length pages →
    ps ≡ (before ++ pairs_of (take i pages)) ++ get_or pages i d ++ pairs_of (drop (i + 1) pages)
page_among ps before pages i d e l =
    e ∙ ap (λ qs. before ++ qs) (page_at pages i d l)
    ∙ sym (append_assoc before (pairs_of (take i pages)) (get_or pages i d ++ pairs_of (drop (i + 1) pages)))
    ∙ sym (append_assoc (before ++ pairs_of (take i pages)) (get_or pages i d) (pairs_of (drop (i + 1) pages)))

page_next : (P : Pair → Type 0) (before : List Pair) (pages : List (List Pair)) (i : ℕ) (d : List Pair) → i < length pages →
    AllByRecursion P ((before ++ pairs_of (take i pages)) ++ get_or pages i d) → AllByRecursion P (before ++ pairs_of (take (i + 1) pages))
page_next P before pages i d l all =
    subst (λ ps. AllByRecursion P ps) (append_assoc before (pairs_of (take i pages)) (get_or pages i d) ∙ ap (λ ps. before ++ ps) (sym (page_more pages i d l))) all

page_stands : (ps before page after : List Pair) (next upto : ℕ) → ps ≡ before ++ page ++ after → IsAscending ps next → AllByRecursion (λ (p : Pair). p.0 < upto) before → StandsIn page upto before after
page_stands ps before page after next upto e up low = record { next = next; up = subst (λ qs. IsAscending qs next) e up; below = low }

-- the ids of a page are below the next id
page_fits : (before page after : List Pair) (next : ℕ) → IsAscending (before ++ page ++ after) next → next < 18446744073709551616 → All (λ (p : Pair). p.0 + 1 < 18446744073709551616) page
page_fits before page after next up range = All-from_recursion (λ (p : Pair). p.0 + 1 < 18446744073709551616) page (fits page (ascending_right before page next (ascending_left (before ++ page) after next up)))
  where
    fits : (qs : List Pair) → IsAscending qs next → AllByRecursion (λ (p : Pair). p.0 + 1 < 18446744073709551616) qs
    fits [] h = tt
    fits (q ∷ qs) h = (omega (arith, h.0, range), fits qs h.2)

catch_at : (ps before page : List Pair) (items : List (List Pair)) (i : ℕ) (d : List Pair) → ps ≡ before ++ pairs_of items → i < length items → page ≡ get_or items i d →
    ps ≡ (before ++ pairs_of (take i items)) ++ page ++ pairs_of (drop (i + 1) items)
catch_at ps before page items i d whole l is = subst (λ qs. ps ≡ (before ++ pairs_of (take i items)) ++ qs ++ pairs_of (drop (i + 1) items)) (sym is) (page_among ps before items i d whole l)

-- the next page is gone through
pub holds_next : (ps before page : List Pair) (items : List (List Pair)) (i next : ℕ) (d : List Pair) (index new : Index) → ps ≡ before ++ pairs_of items → i < length items → page ≡ get_or items i d →
    IsAscending ps next → AllByRecursion (λ (p : Pair). p.0 < index.upto) (before ++ pairs_of (take i items)) → GoesOn index new page → Holds index ps → Holds new ps
holds_next ps before page items i next d index new whole l is up low goes holds =
    let e = catch_at ps before page items i d whole l is in
    let b = before ++ pairs_of (take i items) in
    let a = pairs_of (drop (i + 1) items) in
    subst (λ qs. Holds new qs) (sym e) (goes b a (page_stands ps b page a next index.upto e up low) (subst (λ qs. Holds index qs) e holds))

pub low_next : (ps before page : List Pair) (items : List (List Pair)) (i next : ℕ) (d : List Pair) (index new : Index) → ps ≡ before ++ pairs_of items → i < length items → page ≡ get_or items i d →
    IsAscending ps next → AllByRecursion (λ (p : Pair). p.0 < index.upto) (before ++ pairs_of (take i items)) → AllBelow index new page page →
    AllByRecursion (λ (p : Pair). p.0 < new.upto) (before ++ pairs_of (take (i + 1) items))
low_next ps before page items i next d index new whole l is up low all =
    let e = catch_at ps before page items i d whole l is in
    let b = before ++ pairs_of (take i items) in
    let a = pairs_of (drop (i + 1) items) in
    page_next (λ (p : Pair). p.0 < new.upto) before items i d l
    (subst (λ qs. AllByRecursion (λ (p : Pair). p.0 < new.upto) (b ++ qs)) is (all b a (page_stands ps b page a next index.upto e up low)))

pub fits_next : (ps before page : List Pair) (items : List (List Pair)) (i next : ℕ) (d : List Pair) → ps ≡ before ++ pairs_of items → i < length items → page ≡ get_or items i d →
    IsAscending ps next → next < 18446744073709551616 → All (λ (p : Pair). p.0 + 1 < 18446744073709551616) page
fits_next ps before page items i next d whole l is up range =
    page_fits (before ++ pairs_of (take i items)) page (pairs_of (drop (i + 1) items)) next (subst (λ qs. IsAscending qs next) (catch_at ps before page items i d whole l is) up) range

-- a test of the rows, page by page
pub any_pages : (q : Pair → Bool) (pages : List (List Pair)) → list_any (λ page. list_any q page) pages ≡ list_any q (pairs_of pages)
any_pages q [] = refl
any_pages q (page ∷ pages) = ap (λ b. list_any q page || b) (any_pages q pages) ∙ sym (list_any-append q page (pairs_of pages))

pub filter_more : (q : Pair → Bool) (pages : List (List Pair)) (i : ℕ) (d : List Pair) → i < length pages → filter q (pairs_of (take (i + 1) pages)) ≡ filter q (pairs_of (take i pages)) ++ filter q (get_or pages i d)
filter_more q pages i d l = ap (λ ps. filter q ps) (page_more pages i d l) ∙ filter-append q (pairs_of (take i pages)) (get_or pages i d)

-- changes one after the other
pub notes_none : (index : Index) → Notes index index []
notes_none index t h = h

applied_more : (cs : List Change) (k : ℕ) (d : Change) (t : Table) → k < length cs → applied t (take (k + 1) cs) ≡ changed (applied t (take k cs)) (get_or cs k d)
applied_more [] k d t l = absurd (omega (arith, l))
applied_more (c ∷ cs) zero d t l = refl
applied_more (c ∷ cs) (suc k) d t l = let e : suc k + 1 ≡ suc (k + 1) = omega arith in rw e (applied_more cs k d (changed t c) (omega (arith, l)))

pub notes_more : (before index after : Index) (cs : List Change) (k : ℕ) (c : Change) → Notes before index (take k cs) → k < length cs → c ≡ get_or cs k c → Notes index after (c ∷ []) →
    Notes before after (take (k + 1) cs)
notes_more before index after cs k c old within read new t h =
    subst (λ (u : Table). Holds after u.pairs) (sym (applied_more cs k c t within ∙ ap (λ x. changed (applied t (take k cs)) x) (sym read))) (new (applied t (take k cs)) (old t h))

-- ids that are below the next one are below a bound from there on
below_next : (ps : List Pair) (next upto : ℕ) → IsAscending ps next → next ≤ upto → AllByRecursion (λ (p : Pair). p.0 < upto) ps
below_next [] next upto up h = tt
below_next (p ∷ ps) next upto up h = let l : p.0 < next = up.0 in (omega arith, below_next ps next upto up.2 h)

pub all_below : (ps : List Pair) (next upto : ℕ) → IsAscending ps next → next ≤ upto → All (λ (p : Pair). p.0 < upto) ps
all_below ps next upto up h = All-from_recursion (λ (p : Pair). p.0 < upto) ps (below_next ps next upto up h)
