-- The changes that make the rows of a table.
use Rattle.std.proofs.Common.{◌≡◌, ◌≢◌, ◌∙◌, ◌+◌, ◌-◌, ◌<◌, ◌≤◌, ◌||◌, inl, inr, ℕ, Bool, true, false, not, if◌then◌else◌, nat_eq, List, [], ◌∷◌, ◌++◌, refl, sym, ap, subst, filter, append-nil, eq-eqb, arith}
use Rattle.std.specs.List.{AllByRecursion, list_any}
use Rattle.std.proofs.lemmas.List.{append_assoc}
use Rattle.std.proofs.lemmas.List.Elements.{filter-append}
use Rattle.std.proofs.lemmas.List.Folds.{list_any-append}
use Rattle.std.proofs.lemmas.Bool.Decides.{eqb_tells}
use Rattle.cq_value.proofs.Truths.{or_true}
use Rattle.cq_value.specs.declared.change.Change.{Change}
use Rattle.cq_value.specs.declared.change.Change.TheVariants.{Add, Drop}
use Rattle.cq_value.specs.Changes.{applied, Fit, has_id}
use Rattle.cq_value.specs.Tables.{Table, Pair, IsAscending, empty_table, with_row, without_row}
use Rattle.cq_store.specs.Stores.{has_values}
use Rattle.cq_change.proofs.LogLaws.{applied_append, fit_append}
use Rattle.cq_group.proofs.Zips.{all_weaker, all_push}

-- ids from a number on that ascend, up to a next id
abbrev pub Climbs : ℕ → List Pair → ℕ → Type 0
Climbs made [] next = made ≤ next
Climbs made (p ∷ ps) next = (made ≤ p.0) × Climbs (p.0 + 1) ps next

pub climbs_low : (made : ℕ) (ps : List Pair) (next : ℕ) → Climbs made ps next → made ≤ next
climbs_low made [] next h = h
climbs_low made (p ∷ ps) next h = let rest = climbs_low (p.0 + 1) ps next h.1 in omega (arith, h.0, rest)

climbs_from : (made : ℕ) (ps : List Pair) (next : ℕ) → IsAscending ps next → AllByRecursion (λ (q : Pair). made ≤ q.0) ps → made ≤ next → Climbs made ps next
climbs_from made [] next h k low = low
climbs_from made (p ∷ ps) next h k low = (k.0, climbs_from (p.0 + 1) ps next h.2 (all_weaker (λ (q : Pair). p.0 < q.0) (λ (q : Pair). p.0 + 1 ≤ q.0) (λ q less. omega (arith, less)) ps h.1) (let less = h.0 in omega (arith, less)))

from_zero : (ps : List Pair) → AllByRecursion (λ (q : Pair). 0 ≤ q.0) ps
from_zero [] = tt
from_zero (p ∷ ps) = (omega arith, from_zero ps)

pub climbs : (ps : List Pair) (next : ℕ) → IsAscending ps next → Climbs 0 ps next
climbs ps next h = climbs_from 0 ps next h (from_zero ps) (omega arith)

-- changes that made some of the rows, whose next id is now `made`
pub record HasMade (changes : List Change) (made : ℕ) (rest all : List Pair) (next : ℕ) : Type 0 where
  pub fit : Fit empty_table changes
  pub next_made : (applied empty_table changes).next ≡ made
  pub pairs : (applied empty_table changes).pairs ++ rest ≡ all
  pub climbs : Climbs made rest next
  pub below : AllByRecursion (λ (q : Pair). q.0 < made) (applied empty_table changes).pairs

pub made_none : (all : List Pair) (next : ℕ) → IsAscending all next → HasMade [] 0 all all next
made_none all next h = record { fit = tt; next_made = refl; pairs = refl; climbs = climbs all next h; below = tt }

pub made_more : (changes : List Change) (made : ℕ) (p : Pair) (rest all : List Pair) (next : ℕ) → next ≤ 4294967296 → HasMade changes made (p ∷ rest) all next → HasMade (changes ++ Add p.0 p.1 ∷ []) (p.0 + 1) rest all next
made_more changes made p rest all next few h =
    let low = climbs_low (p.0 + 1) rest next h.climbs.1 in
    let first = h.climbs.0 in
    let now = h.next_made in
    let after : applied empty_table (changes ++ Add p.0 p.1 ∷ []) ≡ with_row (applied empty_table changes) p.0 p.1 = applied_append empty_table changes (Add p.0 p.1 ∷ []) in
    record {
      fit = fit_append empty_table changes (Add p.0 p.1 ∷ []) h.fit ((omega (arith, now, first), omega (arith, low, few)), tt);
      next_made = ap (λ (t : Table). t.next) after;
      pairs = ap (λ (t : Table). t.pairs ++ rest) after ∙ append_assoc (applied empty_table changes).pairs (p ∷ []) rest ∙ h.pairs;
      climbs = h.climbs.1;
      below = subst (λ (t : Table). AllByRecursion (λ (q : Pair). q.0 < p.0 + 1) t.pairs) (sym after)
          (all_push (λ (q : Pair). q.0 < p.0 + 1) (applied empty_table changes).pairs p (all_weaker (λ (q : Pair). q.0 < made) (λ (q : Pair). q.0 < p.0 + 1) (λ q less. omega (arith, less, first)) (applied empty_table changes).pairs h.below) (omega arith));
    }

-- an id that is given and taken out again
stays : (ps : List Pair) (n : ℕ) → AllByRecursion (λ (q : Pair). q.0 < n) ps → filter (λ (q : Pair). not (nat_eq q.0 n)) ps ≡ ps
stays [] n h = refl
stays (p ∷ ps) n h = elim (eqb_tells p.0 n) [
  | inl e ↦ absurd (let less = h.0 in let same = e.1 in omega (arith, less, same))
  | inr e ↦ (ap (λ b. if not b then p ∷ filter (λ (q : Pair). not (nat_eq q.0 n)) ps else filter (λ (q : Pair). not (nat_eq q.0 n)) ps) e.0 ∙ ap (λ qs. p ∷ qs) (stays ps n h.1))
]

pub raised_fit : (changes : List Change) (n : ℕ) → Fit empty_table changes → (applied empty_table changes).next ≤ n → n < 18446744073709551615 → Fit empty_table ((changes ++ Add n [] ∷ []) ++ Drop n ∷ [])
raised_fit changes n fit low high =
    let t = applied empty_table changes in
    let after : applied empty_table (changes ++ Add n [] ∷ []) ≡ with_row t n [] = applied_append empty_table changes (Add n [] ∷ []) in
    let there : has_id (with_row t n []) n ≡ true =
    list_any-append (λ (q : Pair). nat_eq q.0 n) t.pairs ((n, []) ∷ []) ∙ ap (λ b. list_any (λ (q : Pair). nat_eq q.0 n) t.pairs || (b || false)) (eq-eqb n n refl) ∙ or_true (list_any (λ (q : Pair). nat_eq q.0 n) t.pairs) in
    fit_append empty_table (changes ++ Add n [] ∷ []) (Drop n ∷ []) (fit_append empty_table changes (Add n [] ∷ []) fit ((low, high), tt))
    (subst (λ u. Fit u (Drop n ∷ [])) (sym after) (there, tt))

pub raised_gives : (changes : List Change) (n : ℕ) → AllByRecursion (λ (q : Pair). q.0 < n) (applied empty_table changes).pairs →
    applied empty_table ((changes ++ Add n [] ∷ []) ++ Drop n ∷ []) ≡ record { next = n + 1; pairs = (applied empty_table changes).pairs }
raised_gives changes n below =
    let t = applied empty_table changes in
    let after : applied empty_table (changes ++ Add n [] ∷ []) ≡ with_row t n [] = applied_append empty_table changes (Add n [] ∷ []) in
    let last : filter (λ (q : Pair). not (nat_eq q.0 n)) ((n, []) ∷ []) ≡ [] = ap (λ b. if not b then (n, []) ∷ [] else []) (eq-eqb n n refl) in
    let pairs : filter (λ (q : Pair). not (nat_eq q.0 n)) (t.pairs ++ (n, []) ∷ []) ≡ t.pairs =
    filter-append (λ (q : Pair). not (nat_eq q.0 n)) t.pairs ((n, []) ∷ []) ∙ (λ i. stays t.pairs n below i ++ last i) ∙ append-nil t.pairs in
    applied_append empty_table (changes ++ Add n [] ∷ []) (Drop n ∷ []) ∙ ap (λ u. without_row u n) after ∙ ap (λ ps. record { next = n + 1; pairs = ps }) pairs

-- all rows are those with no wanted values
pub all_wanted : (ps : List Pair) → filter (λ (p : Pair). has_values [] p.1) ps ≡ ps
all_wanted [] = refl
all_wanted (p ∷ ps) = ap (λ qs. p ∷ qs) (all_wanted ps)

-- changes that made all rows: as they are where the next id is that of the last row, and else with an id that is given and taken out again
pub made_all : (changes : List Change) (made : ℕ) (rest all : List Pair) (next : ℕ) → HasMade changes made rest all next → rest ≡ [] → made ≡ next →
    Fit empty_table changes × (applied empty_table changes ≡ record { next = next; pairs = all })
made_all changes made rest all next h e same = (
  h.fit,
  λ i. record { next = (h.next_made ∙ same) i; pairs = (sym (append-nil (applied empty_table changes).pairs) ∙ ap (λ ps. (applied empty_table changes).pairs ++ ps) (sym e) ∙ h.pairs) i },
)

pub raised_all : (changes : List Change) (made : ℕ) (rest all : List Pair) (next : ℕ) → next ≤ 4294967296 → HasMade changes made rest all next → rest ≡ [] → made ≢ next →
    Fit empty_table ((changes ++ Add (next - 1) [] ∷ []) ++ Drop (next - 1) ∷ []) × (applied empty_table ((changes ++ Add (next - 1) [] ∷ []) ++ Drop (next - 1) ∷ []) ≡ record { next = next; pairs = all })
raised_all changes made rest all next few h e other =
    let low = climbs_low made rest next h.climbs in
    let less : made < next = omega (arith, low, other) in
    let now = h.next_made in
    let n = next - 1 in
    let fits = raised_fit changes n h.fit (omega (arith, now, less)) (omega (arith, few)) in
    let gives = raised_gives changes n (all_weaker (λ (q : Pair). q.0 < made) (λ (q : Pair). q.0 < next - 1) (λ q below. omega (arith, below, less)) (applied empty_table changes).pairs h.below) in
    let up : next - 1 + 1 ≡ next = omega (arith, less) in
    let pairs = sym (append-nil (applied empty_table changes).pairs) ∙ ap (λ ps. (applied empty_table changes).pairs ++ ps) (sym e) ∙ h.pairs in
    (fits, gives ∙ (λ i. record { next = up i; pairs = pairs i }))
