-- Spare stores of workers, before and after a statement.
use Rattle.std.proofs.Common.{zero, suc, cond, ◌≡◌, ◌≢◌, ◌+◌, ◌<◌, ◌≤◌, inl, inr, ℕ, Bool, true, false, List, [], ◌∷◌, ◌++◌, length, filter, refl, sym, ◌∙◌, ap, subst, arith, Option, length-append, ne_eqb}
use Rattle.std.specs.Prelude.{nat_eq, ◌-◌}
use Rattle.std.specs.List.{sum_by}
use Rattle.std.proofs.lemmas.Bool.Decides.{eqb_tells}
use Rattle.std.proofs.lemmas.List.Elements.{filter-append}
use Rattle.std.proofs.lemmas.List.Sums.{sum_by-cons}
use Rattle.cq_catalog.specs.Contents.{Contents}
use Rattle.cq_tree.specs.declared.statement.Statement.{Statement}
use Rattle.cq_journal.specs.Records.{Journal}
use Rattle.cq_journal.specs.Stations.{node_of}
use Rattle.cq_planning.specs.Touched.{numbers}
use Rattle.cq_history.specs.Run.{Run}
use Rattle.cq_history.specs.Journals.{journal_in}
use Rattle.cq_history.specs.Room.{tables_in, is_on, stores_on, retired_of, free_at, stores_to, stores_from}

-- ---- sums of which one term changes

same_sum : (f h : ℕ → ℕ) (low n : ℕ) → ((g : ℕ) → low ≤ g → g < low + n → h g ≡ f g) → sum_by h (numbers low n) ≡ sum_by f (numbers low n)
same_sum f h low zero same = refl
same_sum f h low (suc n) same =
    let a : sum_by f (low ∷ numbers (low + 1) n) ≡ f low + sum_by f (numbers (low + 1) n) = sum_by-cons f low (numbers (low + 1) n) in
    let b : sum_by h (low ∷ numbers (low + 1) n) ≡ h low + sum_by h (numbers (low + 1) n) = sum_by-cons h low (numbers (low + 1) n) in
    let c : h low ≡ f low = same low (omega arith) (omega arith) in
    let d : sum_by h (numbers (low + 1) n) ≡ sum_by f (numbers (low + 1) n) = same_sum f h (low + 1) n (λ g l m. same g (omega (arith, l)) (omega (arith, m))) in
    omega (arith, a, b, c, d)

sum_but : (f h : ℕ → ℕ) (group low n : ℕ) → ((g : ℕ) → low ≤ g → g < low + n → g ≢ group → h g ≡ f g) → low ≤ group → group < low + n →
    sum_by h (numbers low n) + f group ≡ sum_by f (numbers low n) + h group
sum_but f h group low zero same l m = absurd (omega (arith, l, m))
sum_but f h group low (suc n) same l m =
    let a : sum_by f (low ∷ numbers (low + 1) n) ≡ f low + sum_by f (numbers (low + 1) n) = sum_by-cons f low (numbers (low + 1) n) in
    let b : sum_by h (low ∷ numbers (low + 1) n) ≡ h low + sum_by h (numbers (low + 1) n) = sum_by-cons h low (numbers (low + 1) n) in
    elim (eqb_tells low group) [
      | inl y ↦
          let d : sum_by h (numbers (low + 1) n) ≡ sum_by f (numbers (low + 1) n) =
          same_sum f h (low + 1) n (λ g k o. same g (omega (arith, k)) (omega (arith, o)) (λ is. (let here = y.1 in omega (arith, k, is, here)))) in
          let p : f low ≡ f group = ap f y.1 in
          let q : h low ≡ h group = ap h y.1 in
          omega (arith, a, b, d, p, q)
      | inr z ↦
          let far = z.1 in
          let c : h low ≡ f low = same low (omega arith) (omega arith) far in
          let d : sum_by h (numbers (low + 1) n) + f group ≡ sum_by f (numbers (low + 1) n) + h group =
          sum_but f h group (low + 1) n (λ g k o. same g (omega (arith, k)) (omega (arith, o))) (omega (arith, l, far)) (omega (arith, m)) in
          omega (arith, a, b, c, d)
    ]

-- ---- what a statement takes and gives

-- how many stores are spare, where each group is as the journals tell
abbrev pub spare : Run → Contents → List ℕ → List Journal → ℕ → ℕ
spare run c retired journals at = free_at run c retired (λ g. node_of (journal_in journals g)) at

-- between two numbers of spare stores of the worker at a place, a statement took and gave no more than its move may
pub record Shifts (c : Contents) (bound : Option Statement) (at before after : ℕ) : Type 0 where
  pub took : before ≤ after + stores_to c (at + 1) bound
  pub gave : after ≤ before + stores_from c (at + 1) bound

less_free : (s x y r m : ℕ) → y ≤ x + m → s - x - r ≤ (s - y - r) + m
less_free s x y r m l = omega (arith, l)

-- where each group is on the same node
pub same_free : (run : Run) (c : Contents) (retired : List ℕ) (nodes others : ℕ → ℕ) (at : ℕ) → ((g : ℕ) → g < c.groups → others g ≡ nodes g) → free_at run c retired others at ≡ free_at run c retired nodes at
same_free run c retired nodes others at same =
    ap (λ n. run.stores at - n - retired_of (at + 1) retired)
    (same_sum (λ g. cond (is_on (nodes g) (at + 1)) (length (tables_in c g)) 0) (λ g. cond (is_on (others g) (at + 1)) (length (tables_in c g)) 0) 0 c.groups
    (λ g l m. ap (λ n. cond (is_on n (at + 1)) (length (tables_in c g)) 0) (same g (omega (arith, m)))))

module _ (run : Run) (c : Contents) (old new : List Journal) where
  abbrev pub StaysAt : ℕ → Type 0
  StaysAt g = node_of (journal_in new g) ≡ node_of (journal_in old g)

  abbrev weight : List Journal → ℕ → ℕ → ℕ
  weight journals node g = cond (is_on (node_of (journal_in journals g)) node) (length (tables_in c g)) 0

  same_weight : (node g : ℕ) → StaysAt g → weight new node g ≡ weight old node g
  same_weight node g same = ap (λ n. cond (is_on n node) (length (tables_in c g)) 0) same

  pub still_spare : (retired : List ℕ) (at : ℕ) → ((g : ℕ) → g < c.groups → StaysAt g) → spare run c retired new at ≡ spare run c retired old at
  still_spare retired at same = same_free run c retired (λ g. node_of (journal_in old g)) (λ g. node_of (journal_in new g)) at same

  on_node : (m n : ℕ) → 1 ≤ m → is_on m n ≡ nat_eq m n
  on_node m n low = rw (ne_eqb m 0 (λ is. omega (arith, is, low))) refl

  -- a group went from a node to another
  module _ (group from to : ℕ) (there : group < c.groups) (was : node_of (journal_in old group) ≡ from) (is : node_of (journal_in new group) ≡ to) (low_from : 1 ≤ from) (low_to : 1 ≤ to)
      (others : (g : ℕ) → g < c.groups → g ≢ group → StaysAt g) where
    abbrev size : ℕ
    size = length (tables_in c group)

    change : (node : ℕ) → stores_on c (λ g. node_of (journal_in new g)) node + cond (nat_eq from node) size 0 ≡ stores_on c (λ g. node_of (journal_in old g)) node + cond (nat_eq to node) size 0
    change node =
        let f : weight old node group ≡ cond (nat_eq from node) size 0 = ap (λ n. cond (is_on n node) size 0) was ∙ ap (λ b. cond b size 0) (on_node from node low_from) in
        let h : weight new node group ≡ cond (nat_eq to node) size 0 = ap (λ n. cond (is_on n node) size 0) is ∙ ap (λ b. cond b size 0) (on_node to node low_to) in
        let s : sum_by (weight new node) (numbers 0 c.groups) + weight old node group ≡ sum_by (weight old node) (numbers 0 c.groups) + weight new node group =
        sum_but (weight old node) (weight new node) group 0 c.groups (λ g l m far. same_weight node g (others g (omega (arith, m)) far)) (omega arith) (omega (arith, there)) in
        omega (arith, f, h, s)

    pub moved_took : (retired : List ℕ) (at : ℕ) → spare run c retired old at ≤ spare run c retired new at + cond (nat_eq to (at + 1)) size 0
    moved_took retired at = less_free (run.stores at) _ _ (retired_of (at + 1) retired) _ (let k = change (at + 1) in omega (arith, k))

    pub moved_gave : (retired : List ℕ) (at : ℕ) → spare run c retired new at ≤ spare run c retired old at + cond (nat_eq from (at + 1)) size 0
    moved_gave retired at = less_free (run.stores at) _ _ (retired_of (at + 1) retired) _ (let k = change (at + 1) in omega (arith, k))

  -- a store of a node was retired
  more_retired : (node to : ℕ) (retired : List ℕ) → retired_of node (retired ++ to ∷ []) ≡ retired_of node retired + cond (nat_eq to node) 1 0
  more_retired node to retired =
      let a : retired_of node (retired ++ to ∷ []) ≡ length (filter (nat_eq node) retired ++ filter (nat_eq node) (to ∷ [])) = ap length (filter-append (nat_eq node) retired (to ∷ [])) in
      let b : length (filter (nat_eq node) retired ++ filter (nat_eq node) (to ∷ [])) ≡ length (filter (nat_eq node) retired) + length (filter (nat_eq node) (to ∷ [])) =
      length-append (filter (nat_eq node) retired) (filter (nat_eq node) (to ∷ [])) in
      let one : length (filter (nat_eq node) (to ∷ [])) ≡ cond (nat_eq to node) 1 0 = by_node in
      omega (arith, a, b, one)
    where
      by_node : length (filter (nat_eq node) (to ∷ [])) ≡ cond (nat_eq to node) 1 0
      by_node = elim (eqb_tells node to) [
        | inl y ↦ (let turned : nat_eq to node ≡ true = subst (λ n. nat_eq to n ≡ true) (sym y.1) (subst (λ n. nat_eq n to ≡ true) y.1 y.0) in rw (y.0, turned) refl)
        | inr z ↦ rw (z.0, ne_eqb to node (λ is. z.1 (sym is))) refl
      ]

  pub retired_took : (retired : List ℕ) (at to size : ℕ) → 1 ≤ size → ((g : ℕ) → g < c.groups → StaysAt g) → spare run c retired old at ≤ spare run c (retired ++ to ∷ []) new at + cond (nat_eq to (at + 1)) size 0
  retired_took retired at to size some same =
      let s : spare run c (retired ++ to ∷ []) new at ≡ spare run c (retired ++ to ∷ []) old at = still_spare (retired ++ to ∷ []) at same in
      let r = more_retired (at + 1) to retired in
      let most : cond (nat_eq to (at + 1)) 1 0 ≤ cond (nat_eq to (at + 1)) size 0 = by_one (nat_eq to (at + 1)) in
      omega (arith, s, r, most)
    where
      by_one : (b : Bool) → cond b 1 0 ≤ cond b size 0
      by_one true = some
      by_one false = omega arith

  pub retired_gave : (retired : List ℕ) (at to more : ℕ) → ((g : ℕ) → g < c.groups → StaysAt g) → spare run c (retired ++ to ∷ []) new at ≤ spare run c retired old at + more
  retired_gave retired at to more same =
      let s : spare run c (retired ++ to ∷ []) new at ≡ spare run c (retired ++ to ∷ []) old at = still_spare (retired ++ to ∷ []) at same in
      let r = more_retired (at + 1) to retired in
      omega (arith, s, r)
