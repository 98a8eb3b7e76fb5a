-- Rows that are put into the pile of their group one after another are divided by their groups.
use Rattle.std.proofs.Common.{◌≡◌, ℕ, zero, suc, ◌+◌, ◌<◌, ◌≤◌, Bool, true, false, cond, List, [], ◌∷◌, ◌++◌, map, filter, length, get_or, inl, inr, refl, sym, ap, ◌∙◌, arith, add-one, nat_eq}
use Rattle.std.proofs.Common.{eq-eqb}
use Rattle.std.proofs.lemmas.List.{append-nil}
use Rattle.std.proofs.lemmas.List.Elements.{filter-append}
use Rattle.cq_value.proofs.Truths.{two_ways, same_number}
use Rattle.cq_tree.specs.declared.write.ShardOp.TheVariants.{Insert}
use Rattle.cq_meaning.specs.Values.{Row}
use Rattle.cq_planning.specs.Touched.{numbers, among}
use Rattle.cq_router.specs.declared.insertion.Part.{Part}
use Rattle.cq_router.specs.declared.insertion.Pile.{Pile}
use Rattle.cq_router.proofs.NumberLaws.{other_number, turned}
use Rattle.cq_router.specs.Piles.{pile_of, piles, higher, added, as_part, part_by, parts_of}

-- ---- numbers

next_number : (n k : ℕ) → numbers n (suc k) ≡ numbers n k ++ (n + k) ∷ []
next_number n zero = let e : n + 0 ≡ n = omega arith in rw e refl
next_number n (suc k) = let e : (n + 1) + k ≡ n + suc k = omega arith in ap (λ (us : List ℕ). n ∷ us) (next_number (n + 1) k ∙ ap (λ m. numbers (n + 1) k ++ m ∷ []) e)

map_last : {X : Type 0} (f : ℕ → X) (xs : List ℕ) (x : ℕ) → map f (xs ++ x ∷ []) ≡ map f xs ++ f x ∷ []
map_last f [] x = refl
map_last f (y ∷ ys) x = ap (λ us. f y ∷ us) (map_last f ys x)

pub no_piles_push : (k : ℕ) → map (λ g. pile_of g []) (numbers 0 (k + 1)) ≡ map (λ g. pile_of g []) (numbers 0 k) ++ pile_of k [] ∷ []
no_piles_push k =
    let e : 0 + k ≡ k = omega arith in
    rw add-one (ap (map (λ g. pile_of g [])) (next_number 0 k ∙ ap (λ m. numbers 0 k ++ m ∷ []) e) ∙ map_last (λ g. pile_of g []) (numbers 0 k) k)

length_numbers : {X : Type 0} (f : ℕ → X) (n k : ℕ) → length (map f (numbers n k)) ≡ k
length_numbers f n zero = refl
length_numbers f n (suc k) = ap suc (length_numbers f (n + 1) k)

pub length_piles : (f : Row → ℕ) (n : ℕ) (rows : List Row) → length (piles f n rows) ≡ n
length_piles f n rows = length_numbers (λ g. pile_of g (filter (λ (row : Row). nat_eq (f row) g) rows)) 0 n

-- ---- one more row

-- the pile of a group
abbrev the_pile : (Row → ℕ) → List Row → ℕ → Pile
the_pile f rows g = pile_of g (filter (λ (row : Row). nat_eq (f row) g) rows)

module _ (f : Row → ℕ) (rows : List Row) (row : Row) where
  here : (g : ℕ) → f row ≡ g → higher (the_pile f rows g) row ≡ the_pile f (rows ++ row ∷ []) g
  here g e = ap (pile_of g) (sym (filter-append (λ (r : Row). nat_eq (f r) g) rows (row ∷ []) ∙ ap (λ b. filter (λ (r : Row). nat_eq (f r) g) rows ++ cond b (row ∷ []) []) (eq-eqb (f row) g e)))

  elsewhere : (g : ℕ) → f row < g → the_pile f (rows ++ row ∷ []) g ≡ the_pile f rows g
  elsewhere g less = ap (pile_of g) (filter-append (λ (r : Row). nat_eq (f r) g) rows (row ∷ []) ∙ (ap (λ b. filter (λ (r : Row). nat_eq (f r) g) rows ++ cond b (row ∷ []) []) not_there ∙ append-nil _))
    where
      not_there : nat_eq (f row) g ≡ false
      not_there = elim (two_ways (nat_eq (f row) g)) [ inl y ↦ (let e : f row ≡ g = same_number (f row) g y in absurd (omega arith)) | inr n ↦ n ]

  below : (g : ℕ) → g < f row → the_pile f (rows ++ row ∷ []) g ≡ the_pile f rows g
  below g less = ap (pile_of g) (filter-append (λ (r : Row). nat_eq (f r) g) rows (row ∷ []) ∙ (ap (λ b. filter (λ (r : Row). nat_eq (f r) g) rows ++ cond b (row ∷ []) []) not_there ∙ append-nil _))
    where
      not_there : nat_eq (f row) g ≡ false
      not_there = elim (two_ways (nat_eq (f row) g)) [ inl y ↦ (let e : f row ≡ g = same_number (f row) g y in absurd (omega arith)) | inr n ↦ n ]

  rest : (s n : ℕ) → f row < s → map (the_pile f (rows ++ row ∷ [])) (numbers s n) ≡ map (the_pile f rows) (numbers s n)
  rest s zero less = refl
  rest s (suc n) less = let more : f row < s + 1 = omega arith in λ i. elsewhere s less i ∷ rest (s + 1) n more i

  added_from : (s n k : ℕ) → f row ≡ s + k → k < n → added (map (the_pile f rows) (numbers s n)) k row ≡ map (the_pile f (rows ++ row ∷ [])) (numbers s n)
  added_from s zero k e h = absurd (omega arith)
  added_from s (suc n) zero e h = let same : f row ≡ s = omega arith in let less : f row < s + 1 = omega arith in λ i. here s same i ∷ sym (rest (s + 1) n less) i
  added_from s (suc n) (suc k) e h =
      let next : f row ≡ (s + 1) + k = omega arith in let less : s < f row = omega arith in let within : k < n = omega arith in
      λ i. sym (below s less) i ∷ added_from (s + 1) n k next within i

pub row_added : (f : Row → ℕ) (n : ℕ) (rows : List Row) (row : Row) (g : ℕ) → g ≡ f row → g < n → added (piles f n rows) g row ≡ piles f n (rows ++ row ∷ [])
row_added f n rows row g e h = let s : f row ≡ 0 + g = omega arith in added_from f rows row 0 n g s h

-- ---- the parts

abbrev has_some : List Row → Bool
has_some [] = false
has_some (row ∷ rows) = true

-- a group is one of the rows' groups where its pile has rows
touched_rows : (f : Row → ℕ) (rows : List Row) (g : ℕ) → among g (map f rows) ≡ has_some (filter (λ (row : Row). nat_eq (f row) g) rows)
touched_rows f [] g = refl
touched_rows f (row ∷ rows) g = elim (two_ways (nat_eq (f row) g)) [
  | inl y ↦ rw (turned g (f row), y) refl
  | inr n ↦ rw (turned g (f row), n) (touched_rows f rows g)
]

one_part : (table g : ℕ) (rows : List Row) (b : Bool) (F : ℕ → Part) (gs : List ℕ) → b ≡ has_some rows → F g ≡ as_part (g, Insert table rows) → part_by table g rows ++ map F gs ≡ map F (cond b (g ∷ gs) gs)
one_part table g [] b F gs e h = rw e refl
one_part table g (row ∷ rows) b F gs e h = rw e (λ i. sym h i ∷ map F gs)

pub parts_are : (f : Row → ℕ) (table : ℕ) (rows : List Row) (gs : List ℕ) →
    parts_of table (map (the_pile f rows) gs) ≡ map (λ g. as_part (g, Insert table (filter (λ (row : Row). nat_eq (f row) g) rows))) (filter (λ g. among g (map f rows)) gs)
parts_are f table rows [] = refl
parts_are f table rows (g ∷ gs) =
    ap (λ ps. part_by table g (filter (λ (row : Row). nat_eq (f row) g) rows) ++ ps) (parts_are f table rows gs)
    ∙ one_part table g (filter (λ (row : Row). nat_eq (f row) g) rows) (among g (map f rows)) (λ g. as_part (g, Insert table (filter (λ (row : Row). nat_eq (f row) g) rows))) (filter (λ g. among g (map f rows)) gs) (touched_rows f rows g) refl

-- ---- one row

pub only_row : (rows : List Row) (row : Row) → 1 ≤ length rows → length rows < 2 → row ≡ get_or rows 0 row → rows ≡ row ∷ []
only_row [] row some few is = absurd (omega arith)
only_row (r ∷ []) row some few is = ap (λ r. r ∷ []) (sym is)
only_row (r ∷ s ∷ rows) row some few is = absurd (omega arith)

module _ (f : Row → ℕ) (table : ℕ) (row : Row) where
  none_behind : (s n : ℕ) → f row < s → parts_of table (map (the_pile f (row ∷ [])) (numbers s n)) ≡ []
  none_behind s zero less = refl
  none_behind s (suc n) less = rw (other_number (f row) s (λ e. omega arith)) (none_behind (s + 1) n (omega arith))

  one_from : (s n : ℕ) → s ≤ f row → f row < s + n → part_by table (f row) (row ∷ []) ≡ parts_of table (map (the_pile f (row ∷ [])) (numbers s n))
  one_from s zero a b = absurd (omega arith)
  one_from s (suc n) a b = elim (two_ways (nat_eq (f row) s)) [
    | inl y ↦ (let e : f row ≡ s = same_number (f row) s y in rw y (λ i. as_part (e i, Insert table (row ∷ [])) ∷ sym (none_behind (s + 1) n (omega arith)) i))
    | inr m ↦ (let d : f row ≡ s → ⊥ = λ e. (let bad : true ≡ false = sym (eq-eqb (f row) s e) ∙ m in cc) in rw m (one_from (s + 1) n (omega arith) (omega arith)))
  ]

-- the part of one row is what the piles make of it
pub one_row : (f : Row → ℕ) (table n : ℕ) (row : Row) → f row < n → part_by table (f row) (row ∷ []) ≡ parts_of table (piles f n (row ∷ []))
one_row f table n row less = one_from f table row 0 n (omega arith) (omega arith)
