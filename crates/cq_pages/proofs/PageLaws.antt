-- Pages in order of ids: where an id stands, and what a changed page makes of all pairs.
use Rattle.std.proofs.Common.{◌≡◌, ◌≢◌, inl, inr, ℕ, zero, suc, ◌+◌, ◌<◌, ◌≤◌, Bool, true, false, cond, not, nat_eq, ◌||◌, List, [], ◌∷◌, ◌++◌, map, filter, length, take, drop, get_or, set, remove, refl, sym, ap, ◌∙◌, ⊎_elim, arith, subst, zero-le, eq-eqb, ne_eqb, ne_of_lt, le_refl, le_of_lt, eq-or-lt_of_le, append_assoc, append-nil, add-one, drop-cons, ◌-◌}
use Rattle.std.specs.List.{AllByRecursion, list_any, flat_map}
use Rattle.std.specs.List.Sorted.{IsNonDecreasingBy}
use Rattle.std.proofs.lemmas.List.{get_or_default, length-append, get_or_append_left, get_or-append-add, map-append}
use Rattle.std.proofs.lemmas.List.Elements.{filter-append}
use Rattle.std.proofs.lemmas.List.Folds.{list_any-append}
use Rattle.std.proofs.lemmas.Grind.{flat_map-append}
use Rattle.cq_value.specs.declared.value.Value.{Value}
use Rattle.cq_value.specs.Tables.{Pair, IsAscending}
use Rattle.std.proofs.lemmas.Bool.{eqb-true}
use Rattle.cq_value.proofs.Truths.{two_ways}
use Rattle.cq_value.proofs.Lists.{all_append, all_left, all_right}
use Rattle.cq_value.proofs.TableLaws.{put_at, removed_at}
use Rattle.cq_pages.specs.Pages.{pairs_of, IsPage, Ascends, AreLaid, Stands, Splits, named, has, with_new, without, StandsAt}

-- ---- parts of pairs that ascend

pub ascending_right : (ps qs : List Pair) (next : ℕ) → IsAscending (ps ++ qs) next → IsAscending qs next
ascending_right [] qs next h = h
ascending_right (p ∷ ps) qs next h = ascending_right ps qs next h.2

pub ascending_left : (ps qs : List Pair) (next : ℕ) → IsAscending (ps ++ qs) next → IsAscending ps next
ascending_left [] qs next h = tt
ascending_left (p ∷ ps) qs next h = (h.0, all_left (λ q. p.0 < q.0) ps qs h.1, ascending_left ps qs next h.2)

raised : (m n : ℕ) (ps : List Pair) → AllByRecursion (λ q. n < q.0) ps → m ≤ n → AllByRecursion (λ q. m < q.0) ps
raised m n [] h le = tt
raised m n (p ∷ ps) h le = (omega (arith, h.0, le), raised m n ps h.1 le)

-- all pairs before one are below what it isn't above
below_one : (ps : List Pair) (q : Pair) (qs : List Pair) (next id : ℕ) → IsAscending (ps ++ q ∷ qs) next → q.0 ≤ id → AllByRecursion (λ p. p.0 < id) ps
below_one [] q qs next id h le = tt
below_one (p ∷ ps) q qs next id h le =
    let lt : p.0 < q.0 = (all_right (λ r. p.0 < r.0) ps (q ∷ qs) h.1).0 in (omega (arith, lt, le), below_one ps q qs next id h.2 le)

ascending_from : (ps : List Pair) (next low : ℕ) → IsAscending ps next → AllByRecursion (λ q. low ≤ q.0) ps → low ≤ next → low + length ps ≤ next
ascending_from [] next low h up le = omega (arith, le)
ascending_from (p ∷ ps) next low h up le =
    let rest = ascending_from ps next (p.0 + 1) h.2 (above ps h.1) (omega (arith, h.0)) in omega (arith, rest, up.0)
  where
    above : (qs : List Pair) → AllByRecursion (λ q. p.0 < q.0) qs → AllByRecursion (λ q. p.0 + 1 ≤ q.0) qs
    above [] k = tt
    above (q ∷ qs) k = (omega (arith, k.0), above qs k.1)

-- there are no more rows than ids below the next
pub ascending_length : (ps : List Pair) (next : ℕ) → IsAscending ps next → length ps ≤ next
ascending_length ps next h = let l = ascending_from ps next 0 h (all_up ps) zero-le in omega (arith, l)
  where
    all_up : (qs : List Pair) → AllByRecursion (λ q. 0 ≤ q.0) qs
    all_up [] = tt
    all_up (q ∷ qs) = (zero-le, all_up qs)

-- ---- where an id stands

abbrev pub first : List Pair → ℕ
first page = (get_or page 0 (0, [])).0

first_above : (n : ℕ) (pages : List (List Pair)) (j : ℕ) (d : List Pair) → AllByRecursion (λ q. n < q.0) (pairs_of pages) → AllByRecursion IsPage pages → j < length pages →
    n < first (get_or pages j d)
first_above n [] j d h full l = absurd (omega (arith, l))
first_above n ([] ∷ pages) j d h full l = let none = full.0.0 in absurd (omega (arith, none))
first_above n ((q ∷ qs) ∷ pages) zero d h full l = h.0
first_above n ((q ∷ qs) ∷ pages) (suc j) d h full l = first_above n pages j d (all_right (λ r. n < r.0) qs (pairs_of pages) h.1) full.1 (omega (arith, l))

pub firsts_rise : (pages : List (List Pair)) (next : ℕ) → IsAscending (pairs_of pages) next → AllByRecursion IsPage pages → IsNonDecreasingBy (λ page. first page) pages
firsts_rise [] next h full i j d le l = absurd (omega (arith, l))
firsts_rise ([] ∷ pages) next h full i j d le l = let none = full.0.0 in absurd (omega (arith, none))
firsts_rise ((q ∷ qs) ∷ pages) next h full zero zero d le l = le_refl _
firsts_rise ((q ∷ qs) ∷ pages) next h full zero (suc j) d le l =
    le_of_lt (first_above q.0 pages j d (all_right (λ r. q.0 < r.0) qs (pairs_of pages) h.1) full.1 (omega (arith, l)))
firsts_rise ((q ∷ qs) ∷ pages) next h full (suc i) zero d le l = absurd (omega (arith, le))
firsts_rise ((q ∷ qs) ∷ pages) next h full (suc i) (suc j) d le l = firsts_rise pages next (ascending_right (q ∷ qs) (pairs_of pages) next h) full.1 i j d (omega (arith, le)) (omega (arith, l))

all_after : (id : ℕ) (pages : List (List Pair)) (next : ℕ) → IsAscending (pairs_of pages) next → AllByRecursion IsPage pages → ((d : List Pair) → 0 < length pages → id < first (get_or pages 0 d)) →
    AllByRecursion (λ p. id < p.0) (pairs_of pages)
all_after id [] next h full up = tt
all_after id ([] ∷ pages) next h full up = let none = full.0.0 in absurd (omega (arith, none))
all_after id ((q ∷ qs) ∷ pages) next h full up = let lt : id < q.0 = up [] (omega arith) in (lt, raised id q.0 (qs ++ pairs_of pages) h.1 (le_of_lt lt))

-- the first ids of the pages up to a place aren't above the id, and those behind are
pub stands : (pages : List (List Pair)) (m next id : ℕ) → IsAscending (pairs_of pages) next → AllByRecursion IsPage pages → (0 < m → m < length pages) →
    ((j : ℕ) (d : List Pair) → 0 < j → j ≤ m → first (get_or pages j d) ≤ id) → ((j : ℕ) (d : List Pair) → m < j → j < length pages → id < first (get_or pages j d)) → Stands pages id m
stands [] zero next id h full within low high = record { below = tt; above = tt }
stands [] (suc m) next id h full within low high = let l = within (omega arith) in absurd (omega (arith, l))
stands (page ∷ pages) zero next id h full within low high = record {
  below = tt;
  above = all_after id pages next (ascending_right page (pairs_of pages) next h) full.1 (λ d l. high 1 d (omega arith) (omega (arith, l)));
}
stands (page ∷ []) (suc m) next id h full within low high = let l = within (omega arith) in absurd (omega (arith, l))
stands (page ∷ [] ∷ pages) (suc m) next id h full within low high = let none = full.1.0.0 in absurd (omega (arith, none))
stands (page ∷ (q ∷ qs) ∷ pages) (suc m) next id h full within low high =
    let rest = stands ((q ∷ qs) ∷ pages) m next id (ascending_right page (pairs_of ((q ∷ qs) ∷ pages)) next h) full.1
    (λ z. let l = within (omega arith) in omega (arith, l)) (λ j d z le. low (suc j) d (omega arith) (omega (arith, le))) (λ j d lt l. high (suc j) d (omega (arith, lt)) (omega (arith, l))) in
    let one : suc m + 1 ≡ suc (m + 1) = omega arith in
    record {
      below = all_append (λ p. p.0 < id) page (pairs_of (take m ((q ∷ qs) ∷ pages))) (below_one page q (qs ++ pairs_of pages) next id h (low 1 [] (omega arith) (omega arith))) rest.below;
      above = rw one rest.above;
    }

-- ---- one page among all

pub page_at : (pages : List (List Pair)) (k : ℕ) (d : List Pair) → k < length pages → pairs_of pages ≡ pairs_of (take k pages) ++ (get_or pages k d ++ pairs_of (drop (k + 1) pages))
page_at [] k d l = absurd (omega (arith, l))
page_at (page ∷ pages) zero d l = refl
page_at (page ∷ pages) (suc k) d l =
    let one : suc k + 1 ≡ suc (k + 1) = omega arith in
    rw one (ap (λ ps. page ++ ps) (page_at pages k d (omega (arith, l))) ∙ sym (append_assoc page (pairs_of (take k pages)) (get_or pages k d ++ pairs_of (drop (k + 1) pages))))

pub page_set : (pages : List (List Pair)) (k : ℕ) (new : List Pair) → k < length pages → pairs_of (set pages k new) ≡ pairs_of (take k pages) ++ (new ++ pairs_of (drop (k + 1) pages))
page_set [] k new l = absurd (omega (arith, l))
page_set (page ∷ pages) zero new l = refl
page_set (page ∷ pages) (suc k) new l =
    let one : suc k + 1 ≡ suc (k + 1) = omega arith in
    rw one (ap (λ ps. page ++ ps) (page_set pages k new (omega (arith, l))) ∙ sym (append_assoc page (pairs_of (take k pages)) (new ++ pairs_of (drop (k + 1) pages))))

pub page_removed : (pages : List (List Pair)) (k : ℕ) → k < length pages → pairs_of (remove pages k) ≡ pairs_of (take k pages) ++ pairs_of (drop (k + 1) pages)
page_removed [] k l = absurd (omega (arith, l))
page_removed (page ∷ pages) zero l = refl
page_removed (page ∷ pages) (suc k) l =
    let one : suc k + 1 ≡ suc (k + 1) = omega arith in
    rw one (ap (λ ps. page ++ ps) (page_removed pages k (omega (arith, l))) ∙ sym (append_assoc page (pairs_of (take k pages)) (pairs_of (drop (k + 1) pages))))

pub full_set : (pages : List (List Pair)) (k : ℕ) (new : List Pair) → AllByRecursion IsPage pages → IsPage new → AllByRecursion IsPage (set pages k new)
full_set [] k new h one = tt
full_set (page ∷ pages) zero new h one = (one, h.1)
full_set (page ∷ pages) (suc k) new h one = (h.0, full_set pages k new h.1 one)

pub full_removed : (pages : List (List Pair)) (k : ℕ) → AllByRecursion IsPage pages → AllByRecursion IsPage (remove pages k)
full_removed [] zero h = tt
full_removed [] (suc k) h = tt
full_removed (page ∷ pages) zero h = h.1
full_removed (page ∷ pages) (suc k) h = (h.0, full_removed pages k h.1)

pub full_at : (pages : List (List Pair)) (k : ℕ) (d : List Pair) → AllByRecursion IsPage pages → k < length pages → IsPage (get_or pages k d)
full_at [] k d h l = absurd (omega (arith, l))
full_at (page ∷ pages) zero d h l = h.0
full_at (page ∷ pages) (suc k) d h l = full_at pages k d h.1 (omega (arith, l))

-- a page of pages that are laid ascends
pub page_ascends : (pages : List (List Pair)) (k : ℕ) (d : List Pair) → AreLaid pages → k < length pages → Ascends (get_or pages k d)
page_ascends pages k d laid l =
    let up = rw (page_at pages k d l) at laid.ids.up in
    record { next = laid.ids.next; up = ascending_left (get_or pages k d) (pairs_of (drop (k + 1) pages)) laid.ids.next (ascending_right (pairs_of (take k pages)) (get_or pages k d ++ pairs_of (drop (k + 1) pages)) laid.ids.next up) }

-- ---- pairs with other ids

abbrev Lacks : List Pair → ℕ → Type 0
Lacks ps id = AllByRecursion (λ q. nat_eq q.0 id ≡ false) ps

below_lacks : (ps : List Pair) (id : ℕ) → AllByRecursion (λ p. p.0 < id) ps → Lacks ps id
below_lacks [] id h = tt
below_lacks (p ∷ ps) id h = (ne_eqb p.0 id (ne_of_lt h.0), below_lacks ps id h.1)

above_lacks : (ps : List Pair) (id : ℕ) → AllByRecursion (λ p. id < p.0) ps → Lacks ps id
above_lacks [] id h = tt
above_lacks (p ∷ ps) id h = (ne_eqb p.0 id (λ e. absurd (omega (arith, h.0, e))), above_lacks ps id h.1)

named_lacks : (ps : List Pair) (id : ℕ) → Lacks ps id → named id ps ≡ []
named_lacks [] id h = refl
named_lacks (p ∷ ps) id h = rw h.0 (named_lacks ps id h.1)

has_lacks : (ps : List Pair) (id : ℕ) → Lacks ps id → has ps id ≡ false
has_lacks [] id h = refl
has_lacks (p ∷ ps) id h = rw h.0 (has_lacks ps id h.1)

put_lacks : (ps : List Pair) (id : ℕ) (row : List Value) → Lacks ps id → with_new ps id row ≡ ps
put_lacks [] id row h = refl
put_lacks (p ∷ ps) id row h = rw h.0 (ap (λ qs. p ∷ qs) (put_lacks ps id row h.1))

drop_lacks : (ps : List Pair) (id : ℕ) → Lacks ps id → without ps id ≡ ps
drop_lacks [] id h = refl
drop_lacks (p ∷ ps) id h = rw h.0 (ap (λ qs. p ∷ qs) (drop_lacks ps id h.1))

-- ---- an id among all pages, and in its page

-- pairs in three parts, of which the middle one may have the id
pub named_between : (ps page qs : List Pair) (id : ℕ) → AllByRecursion (λ p. p.0 < id) ps → AllByRecursion (λ p. id < p.0) qs → named id (ps ++ (page ++ qs)) ≡ named id page
named_between ps page qs id low high =
    let test : Pair → Bool = λ p. nat_eq p.0 id in
    filter-append test ps (page ++ qs) ∙ ap (λ rs. rs ++ filter test (page ++ qs)) (named_lacks ps id (below_lacks ps id low))
    ∙ filter-append test page qs ∙ ap (λ rs. filter test page ++ rs) (named_lacks qs id (above_lacks qs id high)) ∙ append-nil (filter test page)

pub put_between : (ps page qs : List Pair) (id : ℕ) (row : List Value) → AllByRecursion (λ p. p.0 < id) ps → AllByRecursion (λ p. id < p.0) qs →
    with_new (ps ++ (page ++ qs)) id row ≡ ps ++ (with_new page id row ++ qs)
put_between ps page qs id row low high =
    let f : Pair → Pair = λ p. cond (nat_eq p.0 id) (id, row) p in
    map-append f ps (page ++ qs) ∙ ap (λ rs. rs ++ map f (page ++ qs)) (put_lacks ps id row (below_lacks ps id low))
    ∙ ap (λ rs. ps ++ rs) (map-append f page qs ∙ ap (λ rs. map f page ++ rs) (put_lacks qs id row (above_lacks qs id high)))

pub drop_between : (ps page qs : List Pair) (id : ℕ) → AllByRecursion (λ p. p.0 < id) ps → AllByRecursion (λ p. id < p.0) qs →
    without (ps ++ (page ++ qs)) id ≡ ps ++ (without page id ++ qs)
drop_between ps page qs id low high =
    let test : Pair → Bool = λ p. not (nat_eq p.0 id) in
    filter-append test ps (page ++ qs) ∙ ap (λ rs. rs ++ filter test (page ++ qs)) (drop_lacks ps id (below_lacks ps id low))
    ∙ ap (λ rs. ps ++ rs) (filter-append test page qs ∙ ap (λ rs. filter test page ++ rs) (drop_lacks qs id (above_lacks qs id high)))

has_between : (ps page qs : List Pair) (id : ℕ) → AllByRecursion (λ p. p.0 < id) ps → AllByRecursion (λ p. id < p.0) qs → has (ps ++ (page ++ qs)) id ≡ has page id
has_between ps page qs id low high =
    let test : Pair → Bool = λ p. nat_eq p.0 id in
    list_any-append test ps (page ++ qs) ∙ ap (λ b. b || list_any test (page ++ qs)) (has_lacks ps id (below_lacks ps id low))
    ∙ list_any-append test page qs ∙ ap (λ b. list_any test page || b) (has_lacks qs id (above_lacks qs id high)) ∙ or_false (list_any test page)
  where
    or_false : (b : Bool) → (b || false) ≡ b
    or_false true = refl
    or_false false = refl

all_taken : (xs : List (List Pair)) (n : ℕ) → n ≡ length xs → take n xs ≡ xs
all_taken [] zero e = refl
all_taken [] (suc n) e = absurd (omega (arith, e))
all_taken (x ∷ xs) zero e = absurd (omega (arith, e))
all_taken (x ∷ xs) (suc n) e = ap (λ ys. x ∷ ys) (all_taken xs n (omega (arith, e)))

-- an id that is there stands in a page
pub has_page : (pages : List (List Pair)) (id k : ℕ) (d : List Pair) → Stands pages id k → k ≤ length pages → has (pairs_of pages) id ≡ true → (k < length pages) × (has (get_or pages k d) id ≡ true)
has_page pages id k d s le there =
    ⊎_elim (λ e. let no = none e in cc) (λ l. (l, sym (has_between (pairs_of (take k pages)) (get_or pages k d) (pairs_of (drop (k + 1) pages)) id s.below s.above) ∙ (rw (page_at pages k d l) at there))) (eq-or-lt_of_le le)
  where
    none : k ≡ length pages → true ≡ false
    none e = sym there ∙ has_lacks (pairs_of pages) id (below_lacks (pairs_of pages) id (subst (λ qs. AllByRecursion (λ p. p.0 < id) (pairs_of qs)) (all_taken pages k e) s.below))

-- where there is no page at the place, no row has the id
pub named_none : (pages : List (List Pair)) (id : ℕ) (k : ℕ) → Stands pages id k → k ≡ length pages → named id (pairs_of pages) ≡ []
named_none pages id k s e = named_lacks (pairs_of pages) id (below_lacks (pairs_of pages) id (subst (λ qs. AllByRecursion (λ p. p.0 < id) (pairs_of qs)) (all_taken pages k e) s.below))

-- ---- what is done to a page

pub row_put : (pages : List (List Pair)) (k i id : ℕ) (row : List Value) (d : List Pair) (e : Pair) → AreLaid pages → Stands pages id k → k < length pages → i < length (get_or pages k d) → (get_or (get_or pages k d) i e).0 ≡ id →
    pairs_of (set pages k (set (get_or pages k d) i (id, row))) ≡ with_new (pairs_of pages) id row
row_put pages k i id row d e laid s l within here =
    let page = get_or pages k d in
    let up = page_ascends pages k d laid l in
    page_set pages k (set page i (id, row)) l
    ∙ ap (λ ps. pairs_of (take k pages) ++ (ps ++ pairs_of (drop (k + 1) pages))) (put_at page up.next id row i e up.up within here)
    ∙ sym (put_between (pairs_of (take k pages)) page (pairs_of (drop (k + 1) pages)) id row s.below s.above)
    ∙ ap (λ ps. with_new ps id row) (sym (page_at pages k d l))

pub row_removed : (pages : List (List Pair)) (k i id : ℕ) (d : List Pair) (e : Pair) → AreLaid pages → Stands pages id k → k < length pages → i < length (get_or pages k d) → (get_or (get_or pages k d) i e).0 ≡ id →
    pairs_of (set pages k (remove (get_or pages k d) i)) ≡ without (pairs_of pages) id
row_removed pages k i id d e laid s l within here =
    let page = get_or pages k d in
    let up = page_ascends pages k d laid l in
    page_set pages k (remove page i) l
    ∙ ap (λ ps. pairs_of (take k pages) ++ (ps ++ pairs_of (drop (k + 1) pages))) (removed_at page up.next id i e up.up within here)
    ∙ sym (drop_between (pairs_of (take k pages)) page (pairs_of (drop (k + 1) pages)) id s.below s.above)
    ∙ ap (λ ps. without ps id) (sym (page_at pages k d l))

none_left : (page : List Pair) (i id : ℕ) (e : Pair) → length page ≡ 1 → i < length page → (get_or page i e).0 ≡ id → without page id ≡ []
none_left [] i id e one l here = absurd (omega (arith, one))
none_left (p ∷ []) zero id e one l here = rw (eq-eqb p.0 id here) refl
none_left (p ∷ []) (suc i) id e one l here = absurd (omega (arith, l))
none_left (p ∷ q ∷ page) i id e one l here = absurd (omega (arith, one))

-- the page of one row is taken out with it
pub last_removed : (pages : List (List Pair)) (k i id : ℕ) (d : List Pair) (e : Pair) → Stands pages id k → k < length pages → length (get_or pages k d) ≡ 1 → i < length (get_or pages k d) → (get_or (get_or pages k d) i e).0 ≡ id →
    pairs_of (remove pages k) ≡ without (pairs_of pages) id
last_removed pages k i id d e s l one within here =
    let page = get_or pages k d in
    page_removed pages k l
    ∙ ap (λ ps. pairs_of (take k pages) ++ (ps ++ pairs_of (drop (k + 1) pages))) (sym (none_left page i id e one within here))
    ∙ sym (drop_between (pairs_of (take k pages)) page (pairs_of (drop (k + 1) pages)) id s.below s.above)
    ∙ ap (λ ps. without ps id) (sym (page_at pages k d l))

-- a row comes last in the last page
pub row_added : (pages : List (List Pair)) (k : ℕ) (d : List Pair) (p : Pair) → k + 1 ≡ length pages → pairs_of (set pages k (get_or pages k d ++ p ∷ [])) ≡ pairs_of pages ++ p ∷ []
row_added [] k d p e = absurd (omega (arith, e))
row_added (page ∷ []) zero d p e = append-nil (page ++ p ∷ []) ∙ ap (λ ps. ps ++ p ∷ []) (sym (append-nil page))
row_added (page ∷ next ∷ pages) zero d p e = absurd (omega (arith, e))
row_added (page ∷ pages) (suc k) d p e = ap (λ ps. page ++ ps) (row_added pages k d p (omega (arith, e))) ∙ sym (append_assoc page (pairs_of pages) (p ∷ []))

pub page_added : (pages : List (List Pair)) (page : List Pair) → pairs_of (pages ++ page ∷ []) ≡ pairs_of pages ++ page
page_added pages page = flat_map-append (λ (ps : List Pair). ps) pages (page ∷ []) ∙ ap (λ ps. pairs_of pages ++ ps) (append-nil page)

-- ---- what the table promises after it

mapped_above : (n id : ℕ) (row : List Value) (ps : List Pair) → AllByRecursion (λ q. n < q.0) ps → AllByRecursion (λ q. n < q.0) (with_new ps id row)
mapped_above n id row [] h = tt
mapped_above n id row (p ∷ ps) h = (subst (λ m. n < m) (sym (same_id p id row)) h.0, mapped_above n id row ps h.1)
  where
    same_id : (q : Pair) (i : ℕ) (r : List Value) → (cond (nat_eq q.0 i) (i, r) q).0 ≡ q.0
    same_id q i r = elim (two_ways (nat_eq q.0 i)) [ inl y ↦ rw y (sym (eqb-true _ _ y)) | inr n ↦ rw n refl ]

pub ascending_with_new : (ps : List Pair) (next id : ℕ) (row : List Value) → IsAscending ps next → IsAscending (with_new ps id row) next
ascending_with_new [] next id row h = tt
ascending_with_new (p ∷ ps) next id row h =
    elim (two_ways (nat_eq p.0 id)) [
      | inl y ↦ rw y (let e = eqb-true _ _ y in (subst (λ m. m < next) e h.0, subst (λ m. AllByRecursion (λ q. m < q.0) (with_new ps id row)) e (mapped_above p.0 id row ps h.1), ascending_with_new ps next id row h.2))
      | inr n ↦ rw n (h.0, mapped_above p.0 id row ps h.1, ascending_with_new ps next id row h.2)
    ]

-- one row goes
pub one_less : (ps : List Pair) (next id : ℕ) → IsAscending ps next → has ps id ≡ true → length (without ps id) + 1 ≡ length ps
one_less [] next id h there = cc
one_less (p ∷ ps) next id h there =
    elim (two_ways (nat_eq p.0 id)) [
      | inl y ↦ rw y (ap (λ qs. length qs + 1) (drop_lacks ps id (above_lacks ps id (subst (λ m. AllByRecursion (λ q. m < q.0) ps) (eqb-true _ _ y) h.1))) ∙ omega arith)
      | inr n ↦ rw n (let less = one_less ps next id h.2 (rw n at there) in omega (arith, less))
    ]

-- ---- the row with an id in a page: where the ids below it end

none_named : (id : ℕ) (ps : List Pair) → AllByRecursion (λ (q : Pair). id < q.0) ps → named id ps ≡ []
none_named id [] h = refl
none_named id (p ∷ ps) h = let e : nat_eq p.0 id ≡ false = ne_eqb p.0 id (λ e. absurd (omega (arith, h.0, e))) in rw e (none_named id ps h.1)

split_rest : (p : Pair) (ps : List Pair) (id place : ℕ) → Splits (p ∷ ps) id (suc place) → Splits ps id place
split_rest p ps id place s = record {
  within = omega (arith, s.within);
  below = λ k d lt. s.below (suc k) d (omega (arith, lt));
  above = λ k d le l. s.above (suc k) d (omega (arith, le)) (omega (arith, l));
}

-- the row at the place where the ids below an id end is the one with the id, if there is one
pub named_here : (ps : List Pair) (next id place : ℕ) (d : Pair) → IsAscending ps next → Splits ps id place → place < length ps → (get_or ps place d).0 ≡ id →
    named id ps ≡ get_or ps place d ∷ []
named_here [] next id place d h s within here = absurd (omega (arith, within))
named_here (p ∷ ps) next id zero d h s within here =
    rw (eq-eqb p.0 id here) (ap (λ qs. p ∷ qs) (none_named id ps (subst (λ n. AllByRecursion (λ (q : Pair). n < q.0) ps) here h.1)))
named_here (p ∷ ps) next id (suc place) d h s within here =
    let e : nat_eq p.0 id ≡ false = ne_eqb p.0 id (λ e. absurd (omega (arith, s.below 0 p (omega arith), e))) in
    rw e (named_here ps next id place d h.2 (split_rest p ps id place s) (omega (arith, within)) here)

pub none_here : (ps : List Pair) (next id place : ℕ) → IsAscending ps next → Splits ps id place → ((d : Pair) → place < length ps → (get_or ps place d).0 ≢ id) →
    named id ps ≡ []
none_here [] next id place h s other = refl
none_here (p ∷ ps) next id zero h s other =
    let up : id ≤ p.0 = s.above 0 p zero-le (omega arith) in
    let ne : p.0 ≢ id = other p (omega arith) in
    let lt : id < p.0 = ⊎_elim (λ same. absurd (ne (sym same))) (λ l. l) (eq-or-lt_of_le up) in
    none_named id (p ∷ ps) (lt, raised id p.0 ps h.1 (le_of_lt lt))
none_here (p ∷ ps) next id (suc place) h s other =
    let e : nat_eq p.0 id ≡ false = ne_eqb p.0 id (λ e. absurd (omega (arith, s.below 0 p (omega arith), e))) in
    rw e (none_here ps next id place h.2 (split_rest p ps id place s) (λ d l. other d (omega (arith, l))))

-- the same of the row that was read there
pub found_here : (ps : List Pair) (next id place : ℕ) (p : Pair) → IsAscending ps next → Splits ps id place → place < length ps → p ≡ get_or ps place p → p.0 ≡ id →
    named id ps ≡ p ∷ []
found_here ps next id place p h s within read here = named_here ps next id place p h s within (ap (λ (q : Pair). q.0) (sym read) ∙ here) ∙ ap (λ q. q ∷ []) (sym read)

pub other_here : (ps : List Pair) (next id place : ℕ) (p : Pair) → IsAscending ps next → Splits ps id place → place < length ps → p ≡ get_or ps place p → p.0 ≢ id →
    named id ps ≡ []
other_here ps next id place p h s within read other =
    none_here ps next id place h s (λ d l e. other (ap (λ (q : Pair). q.0) (read ∙ get_or_default ps place p d within) ∙ e))

-- where the ids below an id that is there end stands its row
pub split_has : (ps : List Pair) (next id place : ℕ) (d : Pair) → IsAscending ps next → Splits ps id place → has ps id ≡ true → (place < length ps) × ((get_or ps place d).0 ≡ id)
split_has [] next id place d h s there = cc
split_has (p ∷ ps) next id zero d h s there =
    let up : id ≤ p.0 = s.above 0 p zero-le (omega arith) in
    elim (two_ways (nat_eq p.0 id)) [
      | inl y ↦ (omega arith, eqb-true _ _ y)
      | inr n ↦ let lacks = has_lacks ps id (above_lacks ps id (raised id p.0 ps h.1 up)) in let rest = rw n at there in absurd (no lacks rest)
    ]
  where
    no : has ps id ≡ false → has ps id ≡ true → ⊥
    no f t = cc
split_has (p ∷ ps) next id (suc place) d h s there =
    let e : nat_eq p.0 id ≡ false = ne_eqb p.0 id (λ e. absurd (omega (arith, s.below 0 p (omega arith), e))) in
    let rest = split_has ps next id place d h.2 (split_rest p ps id place s) (rw e at there) in (omega (arith, rest.0), rest.1)

-- ---- parts of all pages, and lengths

pub pages_split : (pages : List (List Pair)) (k n : ℕ) → k + n ≡ length pages → pairs_of pages ≡ pairs_of (take k pages) ++ pairs_of (take n (drop k pages))
pages_split pages zero n e = ap (λ ps. pairs_of ps) (sym (all_taken pages n (omega (arith, e))))
pages_split [] (suc k) n e = absurd (omega (arith, e))
pages_split (page ∷ pages) (suc k) n e = ap (λ ps. page ++ ps) (pages_split pages k n (omega (arith, e))) ∙ sym (append_assoc page (pairs_of (take k pages)) (pairs_of (take n (drop k pages))))

pub one_more : (ps : List Pair) (p : Pair) → length (ps ++ p ∷ []) ≡ length ps + 1
one_more [] p = omega arith
one_more (q ∷ ps) p = let rest = one_more ps p in omega (arith, rest)

pub same_length : (ps : List Pair) (id : ℕ) (row : List Value) → length (with_new ps id row) ≡ length ps
same_length [] id row = refl
same_length (p ∷ ps) id row = let rest = same_length ps id row in omega (arith, rest)

-- an id's row among all pages
pub named_page : (pages : List (List Pair)) (id k : ℕ) (d : List Pair) → Stands pages id k → k < length pages → named id (pairs_of pages) ≡ named id (get_or pages k d)
named_page pages id k d s l = ap (λ ps. named id ps) (page_at pages k d l) ∙ named_between (pairs_of (take k pages)) (get_or pages k d) (pairs_of (drop (k + 1) pages)) id s.below s.above

-- ---- the pair at a place

pub pages_dropped : (pages : List (List Pair)) (k : ℕ) (item page : List Pair) → k < length pages → item ≡ get_or pages k item → page ≡ item → pairs_of (drop k pages) ≡ page ++ pairs_of (drop (k + 1) pages)
pages_dropped pages k item page low is same =
    let d : drop k pages ≡ item ∷ drop (k + 1) pages = rw (add-one, drop-cons pages k item) (ap (λ w. w ∷ drop (suc k) pages) (sym is)) in
    ap pairs_of d ∙ ap (λ w. w ++ pairs_of (drop (k + 1) pages)) (sym same)

pub pair_here : (all page rest : List Pair) (place left : ℕ) (p : Pair) → ((d : Pair) → get_or all place d ≡ get_or (page ++ rest) left d) → length all + left ≡ place + length (page ++ rest) → left < length page → p ≡ get_or page left p →
    StandsAt all place p
pair_here all page rest place left p same long low is = (
  (let l = length-append page rest in omega (arith, long, low, l)),
  λ d. same d ∙ get_or_append_left page rest d left low ∙ get_or_default page left d p low ∙ sym is,
)

pub pair_behind : (all page rest : List Pair) (place left : ℕ) → ((d : Pair) → get_or all place d ≡ get_or (page ++ rest) left d) → length page ≤ left → (d : Pair) → get_or all place d ≡ get_or rest (left - length page) d
pair_behind all page rest place left same high d =
    let l : left ≡ length page + (left - length page) = omega (arith, high) in
    same d ∙ ap (λ n. get_or (page ++ rest) n d) l ∙ get_or-append-add page rest (left - length page) d
