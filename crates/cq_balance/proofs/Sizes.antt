-- The load of a node after a move, and the sum of the squares.
use Rattle.std.proofs.Common.{◌≡◌, ◌≢◌, ◌∙◌, ℕ, zero, suc, ◌+◌, ◌*◌, ◌-◌, ◌<◌, ◌≤◌, ◌⊎◌, inl, inr, Bool, true, false, if◌then◌else◌, nat_eq, List, [], ◌∷◌, refl, sym, ap, subst, eq-eqb, arith}
use Rattle.std.specs.List.{AllByRecursion, sum_by}
use Rattle.std.proofs.lemmas.List.Sums.{sum_by-cons}
use Rattle.std.proofs.lemmas.Bool.Decides.{eqb_tells}
use Rattle.cq_balance.specs.declared.load.Load.{Load}
use Rattle.cq_balance.specs.declared.load.Move.{Move}
use Rattle.cq_balance.specs.Greedy.{load_of, placed, moved, squares}
use Rattle.cq_balance.specs.Laws.{AreDistinct}

-- a size on a node, as another node sees it
abbrev pub at : ℕ → ℕ → ℕ → ℕ
at node n size = if nat_eq node n then size else 0

abbrev pub Has : List Load → Load → Type 0
Has [] l = ⊥
Has (k ∷ ks) l = (k ≡ l) ⊎ Has ks l

load_cons : (l : Load) (ls : List Load) (n : ℕ) → load_of (l ∷ ls) n ≡ at l.node n l.size + load_of ls n
load_cons l ls n = sum_by-cons (λ (k : Load). if nat_eq k.node n then k.size else 0) l ls

unmoved : (ls : List Load) (m : Move) → AllByRecursion (λ (k : Load). k.group ≢ m.group) ls → moved ls m ≡ ls
unmoved [] m h = refl
unmoved (l ∷ ls) m h = elim (eqb_tells l.group m.group) [ inl p ↦ absurd (h.0 p.1) | inr p ↦ (λ i. (if p.0 i then record l { node = m.to } else l) ∷ unmoved ls m h.1 i) ]

apart_from : (ls : List Load) (a b : ℕ) → a ≡ b → AllByRecursion (λ (k : Load). k.group ≢ a) ls → AllByRecursion (λ (k : Load). k.group ≢ b) ls
apart_from ls a b e h = subst (λ n. AllByRecursion (λ (k : Load). k.group ≢ n) ls) e h

not_among : (ls : List Load) (x l : Load) → AllByRecursion (λ (k : Load). k.group ≢ x.group) ls → Has ls l → l.group ≢ x.group
not_among [] x l h k = absurd k
not_among (y ∷ ls) x l h (inl e) = subst (λ (z : Load). z.group ≢ x.group) e h.0
not_among (y ∷ ls) x l h (inr k) = not_among ls x l h.1 k

-- what a node loses and what it gains
pub load_moved : (ls : List Load) (l : Load) (m : Move) (n : ℕ) → AreDistinct ls → Has ls l → l.group ≡ m.group →
    load_of (moved ls m) n + at l.node n l.size ≡ load_of ls n + at m.to n l.size
load_moved [] l m n d h e = absurd h
load_moved (x ∷ ls) l m n d (inl same) e =
    let group : x.group ≡ m.group = ap (λ (k : Load). k.group) same ∙ e in
    let here : placed m x ≡ record x { node = m.to } = ap (λ b. if b then record x { node = m.to } else x) (eq-eqb x.group m.group group) in
    let rest : moved ls m ≡ ls = unmoved ls m (apart_from ls x.group m.group group d.0) in
    let all : moved (x ∷ ls) m ≡ record x { node = m.to } ∷ ls = λ i. here i ∷ rest i in
    let after : load_of (moved (x ∷ ls) m) n ≡ at m.to n x.size + load_of ls n = ap (λ ks. load_of ks n) all ∙ load_cons (record x { node = m.to }) ls n in
    let before = load_cons x ls n in
    let node : at l.node n l.size ≡ at x.node n x.size = ap (λ (k : Load). at k.node n k.size) (sym same) in
    let size : at m.to n l.size ≡ at m.to n x.size = ap (λ (k : Load). at m.to n k.size) (sym same) in
    omega (arith, after, before, node, size)
load_moved (x ∷ ls) l m n d (inr k) e =
    let other : x.group ≢ m.group = λ same. not_among ls x l d.0 k (e ∙ sym same) in
    let here : placed m x ≡ x = elim (eqb_tells x.group m.group) [ inl p ↦ absurd (other p.1) | inr p ↦ ap (λ b. if b then record x { node = m.to } else x) p.0 ] in
    let after : load_of (moved (x ∷ ls) m) n ≡ at x.node n x.size + load_of (moved ls m) n = ap (λ y. load_of (y ∷ moved ls m) n) here ∙ load_cons x (moved ls m) n in
    let before = load_cons x ls n in
    let rest = load_moved ls l m n d.1 k e in
    omega (arith, after, before, rest)

-- groups stay apart, and sizes stay
distinct_each : (ls : List Load) (m : Move) (g : ℕ) → AllByRecursion (λ (k : Load). k.group ≢ g) ls → AllByRecursion (λ (k : Load). k.group ≢ g) (moved ls m)
distinct_each [] m g h = tt
distinct_each (x ∷ ls) m g h = (subst (λ n. n ≢ g) (group_stays x) h.0, distinct_each ls m g h.1)
  where
    group_stays : (x : Load) → x.group ≡ (placed m x).group
    group_stays x = by (nat_eq x.group m.group)
      where
        by : (b : Bool) → x.group ≡ (if b then record x { node = m.to } else x).group
        by true = refl
        by false = refl

pub distinct_moved : (ls : List Load) (m : Move) → AreDistinct ls → AreDistinct (moved ls m)
distinct_moved [] m d = tt
distinct_moved (x ∷ ls) m d = (by (nat_eq x.group m.group) (distinct_each ls m x.group d.0), distinct_moved ls m d.1)
  where
    by : (b : Bool) → AllByRecursion (λ (k : Load). k.group ≢ x.group) (moved ls m) → AllByRecursion (λ (k : Load). k.group ≢ (if b then record x { node = m.to } else x).group) (moved ls m)
    by true h = h
    by false h = h

pub size_stays : (m : Move) (x : Load) → (placed m x).size ≡ x.size
size_stays m x = by (nat_eq x.group m.group)
  where
    by : (b : Bool) → (if b then record x { node = m.to } else x).size ≡ x.size
    by true = refl
    by false = refl

pub sum_moved : (ls : List Load) (m : Move) → sum_by (λ (l : Load). l.size) (moved ls m) ≡ sum_by (λ (l : Load). l.size) ls
sum_moved [] m = refl
sum_moved (x ∷ ls) m =
    let after = sum_by-cons (λ (l : Load). l.size) (placed m x) (moved ls m) in
    let before = sum_by-cons (λ (l : Load). l.size) x ls in
    let one = size_stays m x in
    let rest = sum_moved ls m in
    omega (arith, after, before, one, rest)

-- a node's load is at most that of all
pub load_low : (ls : List Load) (n : ℕ) → load_of ls n ≤ sum_by (λ (l : Load). l.size) ls
load_low [] n = omega arith
load_low (x ∷ ls) n =
    let one = load_cons x ls n in
    let all = sum_by-cons (λ (l : Load). l.size) x ls in
    let part = low (nat_eq x.node n) in
    let rest = load_low ls n in
    omega (arith, one, all, part, rest)
  where
    low : (b : Bool) → (if b then x.size else 0) ≤ x.size
    low true = omega arith
    low false = omega arith

-- sums over the nodes from 1 to a number of what stands at one node
abbrev pub tally : ℕ → (ℕ → ℕ) → ℕ → ℕ
tally a v zero = 0
tally a v (suc k) = tally a v k + at a (suc k) (v (suc k))

tally_none : (a : ℕ) (v : ℕ → ℕ) (k : ℕ) → k < a → tally a v k ≡ 0
tally_none a v zero low = refl
tally_none a v (suc k) low =
    let rest = tally_none a v k (omega arith) in
    elim (eqb_tells a (suc k)) [
      | inl p ↦ absurd (omega (arith, p.1, low))
      | inr p ↦ (let here : at a (suc k) (v (suc k)) ≡ 0 = ap (λ b. if b then v (suc k) else 0) p.0 in omega (arith, rest, here))
    ]

tally_one : (a : ℕ) (v : ℕ → ℕ) (k : ℕ) → 0 < a → a ≤ k → tally a v k ≡ v a
tally_one a v zero some low = absurd (omega arith)
tally_one a v (suc k) some low = elim (eqb_tells a (suc k)) [
  | inl p ↦ (
      let none = tally_none a v k (omega (arith, p.1)) in
      let here : at a (suc k) (v (suc k)) ≡ v (suc k) = ap (λ b. if b then v (suc k) else 0) p.0 in
      let same : v a ≡ v (suc k) = ap v p.1 in
      omega (arith, none, here, same))
  | inr p ↦ (
      let rest = tally_one a v k some (omega (arith, low, p.1)) in
      let here : at a (suc k) (v (suc k)) ≡ 0 = ap (λ b. if b then v (suc k) else 0) p.0 in
      omega (arith, rest, here))
]

lost : (f g s : ℕ) → g + s ≡ f → g * g + 2 * (f * s) ≡ f * f + s * s
lost f g s e = subst (λ n. g * g + 2 * (n * s) ≡ n * n + s * s) e (let all : g * g + 2 * ((g + s) * s) ≡ (g + s) * (g + s) + s * s = omega arith in all)

gained : (f g s : ℕ) → g ≡ f + s → g * g ≡ f * f + (2 * (f * s) + s * s)
gained f g s e = subst (λ n. n * n ≡ f * f + (2 * (f * s) + s * s)) (sym e) (let all : (f + s) * (f + s) ≡ f * f + (2 * (f * s) + s * s) = omega arith in all)

-- the square of a node's load, before and after
square_moved : (from to s n f g : ℕ) → from ≢ to → g + at from n s ≡ f + at to n s →
    g * g + at from n (2 * (f * s)) ≡ f * f + at from n (s * s) + at to n (2 * (f * s) + s * s)
square_moved from to s n f g apart e = by (nat_eq from n) (nat_eq to n) (eqb_tells from n) (eqb_tells to n) e
  where
    by : (p q : Bool) → ((p ≡ true) × (from ≡ n)) ⊎ ((p ≡ false) × (from ≢ n)) → ((q ≡ true) × (to ≡ n)) ⊎ ((q ≡ false) × (to ≢ n)) →
        g + (if p then s else 0) ≡ f + (if q then s else 0) →
        g * g + (if p then 2 * (f * s) else 0) ≡ f * f + (if p then s * s else 0) + (if q then 2 * (f * s) + s * s else 0)
    by true true (inl h) (inl k) e = absurd (apart (h.1 ∙ sym k.1))
    by true true (inl h) (inr k) e = absurd (cc (k.0))
    by true true (inr h) k e = absurd (cc (h.0))
    by true false h k e = let all = lost f g s (omega (arith, e)) in omega (arith, all)
    by false true h k e = let all = gained f g s (omega (arith, e)) in omega (arith, all)
    by false false h k e = let same : g ≡ f = omega (arith, e) in subst (λ n. n * n + 0 ≡ f * f + 0 + 0) (sym same) (omega arith)

-- what the sum of the squares loses and what it gains
module _ (ls : List Load) (m : Move) (l : Load) (d : AreDistinct ls) (h : Has ls l) (group : l.group ≡ m.group) (apart : l.node ≢ m.to) where
  squares_moved : (k : ℕ) → squares (moved ls m) k + tally l.node (λ n. 2 * (load_of ls n * l.size)) k
      ≡ squares ls k + tally l.node (λ n. l.size * l.size) k + tally m.to (λ n. 2 * (load_of ls n * l.size) + l.size * l.size) k
  squares_moved zero = refl
  squares_moved (suc k) =
      let rest = squares_moved k in
      let here = square_moved l.node m.to l.size (suc k) (load_of ls (suc k)) (load_of (moved ls m) (suc k)) apart (load_moved ls l m (suc k) d h group) in
      omega (arith, rest, here)

  lower : (s f t : ℕ) → 0 < s → s + t < f → (s * s) + (2 * (t * s) + s * s) < 2 * (f * s)
  lower s f t some low = subst (λ n. (s * s) + (2 * (t * s) + s * s) < 2 * (n * s)) (let e : suc (s + t) + (f - suc (s + t)) ≡ f = omega arith in e)
      (let all : (s * s) + (2 * (t * s) + s * s) < 2 * ((suc (s + t) + (f - suc (s + t))) * s) = wide (f - suc (s + t)) in all)
    where
      wide : (d : ℕ) → (s * s) + (2 * (t * s) + s * s) < 2 * ((suc (s + t) + d) * s)
      wide d = omega arith

  pub squares_lower : (k : ℕ) → 0 < l.node → l.node ≤ k → 0 < m.to → m.to ≤ k → 0 < l.size → l.size + load_of ls m.to < load_of ls l.node → squares (moved ls m) k < squares ls k
  squares_lower k a b c e some low =
      let all = squares_moved k in
      let one = tally_one l.node (λ n. 2 * (load_of ls n * l.size)) k a b in
      let two = tally_one l.node (λ n. l.size * l.size) k a b in
      let three = tally_one m.to (λ n. 2 * (load_of ls n * l.size) + l.size * l.size) k c e in
      let less = lower l.size (load_of ls l.node) (load_of ls m.to) some low in
      omega (arith, all, one, two, three, less)
