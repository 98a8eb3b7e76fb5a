-- The spare stores of workers, by what the statements of a block took and gave.
use Rattle.std.proofs.Common.{◌≡◌, ◌≢◌, ◌⊎◌, ◌+◌, ◌≤◌, inl, inr, ℕ, Bool, true, false, List, [], ◌∷◌, ◌++◌, filter, map, refl, sym, ◌∙◌, ap, subst, arith, eq-eqb, ne_eqb}
use Rattle.std.specs.Prelude.{nat_eq, ⊤, Option}
use Rattle.std.specs.List.{AllByRecursion, list_any, sum_by}
use Rattle.std.proofs.lemmas.Bool.{eqb-true}
use Rattle.std.proofs.lemmas.List.Elements.{filter-append}
use Rattle.std.proofs.lemmas.List.Sums.{sum_by-cons, sum_by-append}
use Rattle.cq_value.proofs.Lists.{all_weaker, all_both, all_left, all_filtered}
use Rattle.cq_value.proofs.Truths.{two_ways, and_both}
use Rattle.cq_tree.specs.declared.journal.Who.{Who}
use Rattle.cq_tree.specs.declared.statement.Statement.{Statement}
use Rattle.cq_catalog.specs.Contents.{Contents}
use Rattle.cq_answer.specs.declared.answered.Answered.{Answered}
use Rattle.cq_history.specs.Phases.{who_of, is_beside, beside_in}
use Rattle.cq_history.specs.Room.{stores_to, stores_from}
use Rattle.cq_cell.specs.Lists.{StartsWith}
use Rattle.cq_shared.specs.declared.errand.Errand.{Errand}
use Rattle.cq_shared.specs.Errands.{sent_by, took_in, gave_in, tooks, gaves}
use Rattle.cq_block_laws.specs.Serving.{statement_in, sent_for, KeepsWithin}
use Rattle.cq_block_laws.specs.Closing.{AreApart}

-- ---- sums in which a term may come in once more

abbrev pub AtMostOne : {X : Type 0} → (X → Bool) → List X → Type 0
AtMostOne t [] = ⊤
AtMostOne t (x ∷ xs) = (t x ≡ true → AllByRecursion (λ y. t y ≡ false) xs) × AtMostOne t xs

module _ {X : Type 0} (t : X → Bool) (v : ℕ) (g k : X → ℕ) (yes : (x : X) → t x ≡ true → k x ≡ v + g x) (no : (x : X) → t x ≡ false → k x ≡ g x) where
  none_more : (xs : List X) → AllByRecursion (λ x. t x ≡ false) xs → sum_by k xs ≡ sum_by g xs
  none_more [] all = refl
  none_more (x ∷ xs) all =
      let a : sum_by k (x ∷ xs) ≡ k x + sum_by k xs = sum_by-cons k x xs in
      let b : sum_by g (x ∷ xs) ≡ g x + sum_by g xs = sum_by-cons g x xs in
      let c : sum_by k xs ≡ sum_by g xs = none_more xs all.1 in
      let d : k x ≡ g x = no x all.0 in
      omega (arith, a, b, c, d)

  no_less : (xs : List X) → sum_by g xs ≤ sum_by k xs
  no_less [] = omega arith
  no_less (x ∷ xs) =
      let a : sum_by k (x ∷ xs) ≡ k x + sum_by k xs = sum_by-cons k x xs in
      let b : sum_by g (x ∷ xs) ≡ g x + sum_by g xs = sum_by-cons g x xs in
      let c : sum_by g xs ≤ sum_by k xs = no_less xs in
      let d : g x ≤ k x = elim (two_ways (t x)) [ inl y ↦ (let e : k x ≡ v + g x = yes x y in omega (arith, e)) | inr n ↦ (let e : k x ≡ g x = no x n in omega (arith, e)) ] in
      omega (arith, a, b, c, d)

  pub one_more : (xs : List X) → list_any t xs ≡ true → v + sum_by g xs ≤ sum_by k xs
  one_more [] any = absurd (cc any)
  one_more (x ∷ xs) any =
      let a : sum_by k (x ∷ xs) ≡ k x + sum_by k xs = sum_by-cons k x xs in
      let b : sum_by g (x ∷ xs) ≡ g x + sum_by g xs = sum_by-cons g x xs in
      elim (two_ways (t x)) [
        | inl y ↦ (let e : k x ≡ v + g x = yes x y in let c : sum_by g xs ≤ sum_by k xs = no_less xs in omega (arith, a, b, c, e))
        | inr n ↦ (let e : k x ≡ g x = no x n in let c : v + sum_by g xs ≤ sum_by k xs = one_more xs (let rest : list_any t xs ≡ true = rw n at any in rest) in omega (arith, a, b, c, e))
      ]

  pub at_most : (xs : List X) → AtMostOne t xs → sum_by k xs ≤ v + sum_by g xs
  at_most [] once = omega arith
  at_most (x ∷ xs) once =
      let a : sum_by k (x ∷ xs) ≡ k x + sum_by k xs = sum_by-cons k x xs in
      let b : sum_by g (x ∷ xs) ≡ g x + sum_by g xs = sum_by-cons g x xs in
      elim (two_ways (t x)) [
        | inl y ↦ (let e : k x ≡ v + g x = yes x y in let c : sum_by k xs ≡ sum_by g xs = none_more xs (once.0 y) in omega (arith, a, b, c, e))
        | inr n ↦ (let e : k x ≡ g x = no x n in let c : sum_by k xs ≤ v + sum_by g xs = at_most xs once.1 in omega (arith, a, b, c, e))
      ]

-- ---- the notes of each statement

abbrev pub notes_for : Answered → List Errand → List Errand
notes_for b notes = filter (sent_for (who_of b)) notes

-- the sum over a statement's notes
abbrev sum_for : (Errand → ℕ) → List Errand → Answered → ℕ
sum_for f notes b = sum_by f (notes_for b notes)

abbrev pub HasOwner : List Answered → Errand → Type 0
HasOwner xs n = list_any (λ (b : Answered). sent_for (who_of b) n) xs ≡ true

module _ (f : Errand → ℕ) (n : Errand) (ns : List Errand) where
  counts : (b : Answered) → sent_for (who_of b) n ≡ true → sum_for f (n ∷ ns) b ≡ f n + sum_for f ns b
  counts b y = ap (sum_by f) (takes b y) ∙ sum_by-cons f n (notes_for b ns)
    where
      takes : (b : Answered) → sent_for (who_of b) n ≡ true → notes_for b (n ∷ ns) ≡ n ∷ notes_for b ns
      takes b y = rw y refl

  leaves : (b : Answered) → sent_for (who_of b) n ≡ false → sum_for f (n ∷ ns) b ≡ sum_for f ns b
  leaves b m = ap (sum_by f) (lets b m)
    where
      lets : (b : Answered) → sent_for (who_of b) n ≡ false → notes_for b (n ∷ ns) ≡ notes_for b ns
      lets b m = rw m refl

module _ (xs : List Answered) (f : Errand → ℕ) where
  zeros : (ys : List Answered) → sum_by (sum_for f []) ys ≡ 0
  zeros [] = refl
  zeros (y ∷ ys) = let a : sum_by (sum_for f []) (y ∷ ys) ≡ 0 + sum_by (sum_for f []) ys = sum_by-cons (sum_for f []) y ys in let b = zeros ys in omega (arith, a, b)

  -- where each note is of one of the statements
  pub covered : (ns : List Errand) → AllByRecursion (HasOwner xs) ns → sum_by f ns ≤ sum_by (sum_for f ns) xs
  covered [] all = omega arith
  covered (n ∷ ns) all =
      let a : sum_by f (n ∷ ns) ≡ f n + sum_by f ns = sum_by-cons f n ns in
      let b : sum_by f ns ≤ sum_by (sum_for f ns) xs = covered ns all.1 in
      let c : f n + sum_by (sum_for f ns) xs ≤ sum_by (sum_for f (n ∷ ns)) xs = one_more (λ (b : Answered). sent_for (who_of b) n) (f n) (sum_for f ns) (sum_for f (n ∷ ns)) (counts f n ns) (leaves f n ns) xs all.0 in
      omega (arith, a, b, c)

  -- where it is of one at most
  pub shared : (ns : List Errand) → AllByRecursion (λ n. AtMostOne (λ (b : Answered). sent_for (who_of b) n) xs) ns → sum_by (sum_for f ns) xs ≤ sum_by f ns
  shared [] all = (let z : sum_by (sum_for f []) xs ≡ 0 = zeros xs in omega (arith, z))
  shared (n ∷ ns) all =
      let a : sum_by f (n ∷ ns) ≡ f n + sum_by f ns = sum_by-cons f n ns in
      let b : sum_by (sum_for f ns) xs ≤ sum_by f ns = shared ns all.1 in
      let c : sum_by (sum_for f (n ∷ ns)) xs ≤ f n + sum_by (sum_for f ns) xs = at_most (λ (b : Answered). sent_for (who_of b) n) (f n) (sum_for f ns) (sum_for f (n ∷ ns)) (counts f n ns) (leaves f n ns) xs all.0 in
      omega (arith, a, b, c)

-- ---- statements of different numbers

sent_is : (who : Who) (n : Errand) → sent_for who n ≡ true → (sent_by n ≡ who.session) × (statement_in n ≡ who.statement)
sent_is who n y =
    let both = and_both (nat_eq (sent_by n) who.session) (nat_eq (statement_in n) who.statement) y in
    (eqb-true (sent_by n) who.session both.0, eqb-true (statement_in n) who.statement both.1)

pub not_for : (who : Who) (n : Errand) → (sent_by n ≡ who.session → statement_in n ≢ who.statement) → sent_for who n ≡ false
not_for who n far = elim (two_ways (sent_for who n)) [ inl y ↦ (let is = sent_is who n y in absurd (far is.0 is.1)) | inr f ↦ f ]

one_owner : (n : Errand) (xs : List Answered) → AreApart xs → AtMostOne (λ (b : Answered). sent_for (who_of b) n) xs
one_owner n [] apart = tt
one_owner n (x ∷ xs) apart = (
  λ y. all_weaker (λ (b : Answered). x.statement ≢ b.statement) (λ (b : Answered). sent_for (who_of b) n ≡ false)
      (λ b far. not_for (who_of b) n (λ s is. (let mine = (sent_is (who_of x) n y).1 in far (sym mine ∙ is)))) xs apart.0,
  one_owner n xs apart.1,
)

all_notes : (P : Errand → Type 0) → ((n : Errand) → P n) → (ns : List Errand) → AllByRecursion P ns
all_notes P p [] = tt
all_notes P p (n ∷ ns) = (p n, all_notes P p ns)

apart_filtered : (p : Answered → Bool) (xs : List Answered) → AreApart xs → AreApart (filter p xs)
apart_filtered p [] apart = tt
apart_filtered p (x ∷ xs) apart = elim (two_ways (p x)) [
  | inl y ↦ rw y (all_filtered (λ (b : Answered). x.statement ≢ b.statement) p xs apart.0, apart_filtered p xs apart.1)
  | inr n ↦ rw n (apart_filtered p xs apart.1)
]

abbrev pub IsAmong : Answered → List Answered → Type 0
IsAmong a [] = ⊥
IsAmong a (x ∷ xs) = (x ≡ a) ⊎ IsAmong a xs

pub all_among : (P : Answered → Type 0) (a : Answered) (xs : List Answered) → IsAmong a xs → AllByRecursion P xs → P a
all_among P a [] i all = absurd i
all_among P a (x ∷ xs) (inl e) all = subst P e all.0
all_among P a (x ∷ xs) (inr i) all = all_among P a xs i all.1

-- an answer of the same number is the same
same_one : (a : Answered) (xs : List Answered) → AreApart xs → IsAmong a xs → AllByRecursion (λ (b : Answered). b.statement ≡ a.statement → b ≡ a) xs
same_one a [] apart i = tt
same_one a (x ∷ xs) apart (inl e) = (
  λ same. e,
  all_weaker (λ (b : Answered). x.statement ≢ b.statement) (λ (b : Answered). b.statement ≡ a.statement → b ≡ a) (λ b far same. absurd (far (ap (λ (v : Answered). v.statement) e ∙ sym same))) xs apart.0,
)
same_one a (x ∷ xs) apart (inr i) = (λ same. absurd (all_among (λ (b : Answered). x.statement ≢ b.statement) a xs i apart.0 same), same_one a xs apart.1 i)

-- the owner of a note that isn't a statement's own runs beside it
owner_beside : (a : Answered) (n : Errand) (xs : List Answered) → sent_for (who_of a) n ≡ false → AllByRecursion (λ (b : Answered). b.phase ≡ a.phase) xs → AllByRecursion (λ (b : Answered). b.statement ≡ a.statement → b ≡ a) xs →
    HasOwner xs n → HasOwner (filter (is_beside a) xs) n
owner_beside a n [] far phases same has = absurd (cc has)
owner_beside a n (x ∷ xs) far phases same has = elim (two_ways (sent_for (who_of x) n)) [
  | inl y ↦ rw (beside y) (rw y refl)
  | inr m ↦
      let rest : HasOwner (filter (is_beside a) xs) n = owner_beside a n xs far phases.1 same.1 (let h : HasOwner xs n = rw m at has in h) in
      elim (two_ways (is_beside a x)) [ inl b ↦ rw (b, m) rest | inr o ↦ rw o rest ]
]
  where
    other : sent_for (who_of x) n ≡ true → x.statement ≢ a.statement
    other y e = (let bad : true ≡ false = sym y ∙ ap (λ (v : Answered). sent_for (who_of v) n) (same.0 e) ∙ far in cc bad)

    beside : sent_for (who_of x) n ≡ true → is_beside a x ≡ true
    beside y = rw (eq-eqb x.phase a.phase phases.0, ne_eqb x.statement a.statement (other y)) refl

-- ---- what may be found

sum_weaker : (f g : Answered → ℕ) (xs : List Answered) → AllByRecursion (λ (b : Answered). f b ≤ g b) xs → sum_by f xs ≤ sum_by g xs
sum_weaker f g [] all = omega arith
sum_weaker f g (x ∷ xs) all =
    let a : sum_by f (x ∷ xs) ≡ f x + sum_by f xs = sum_by-cons f x xs in
    let b : sum_by g (x ∷ xs) ≡ g x + sum_by g xs = sum_by-cons g x xs in
    let c = sum_weaker f g xs all.1 in
    let d = all.0 in
    omega (arith, a, b, c, d)

sum_both : (f g : Answered → ℕ) (xs : List Answered) → sum_by (λ (b : Answered). f b + g b) xs ≡ sum_by f xs + sum_by g xs
sum_both f g [] = refl
sum_both f g (x ∷ xs) =
    let a : sum_by f (x ∷ xs) ≡ f x + sum_by f xs = sum_by-cons f x xs in
    let b : sum_by g (x ∷ xs) ≡ g x + sum_by g xs = sum_by-cons g x xs in
    let c : sum_by (λ (b : Answered). f b + g b) (x ∷ xs) ≡ (f x + g x) + sum_by (λ (b : Answered). f b + g b) xs = sum_by-cons (λ (b : Answered). f b + g b) x xs in
    let d = sum_both f g xs in
    omega (arith, a, b, c, d)

sum_bound : (f : Option Statement → ℕ) (xs : List Answered) → sum_by f (map (λ (b : Answered). b.bound) xs) ≡ sum_by (λ (b : Answered). f b.bound) xs
sum_bound f [] = refl
sum_bound f (x ∷ xs) =
    let a : sum_by f (x.bound ∷ map (λ (b : Answered). b.bound) xs) ≡ f x.bound + sum_by f (map (λ (b : Answered). b.bound) xs) = sum_by-cons f x.bound (map (λ (b : Answered). b.bound) xs) in
    let b : sum_by (λ (b : Answered). f b.bound) (x ∷ xs) ≡ f x.bound + sum_by (λ (b : Answered). f b.bound) xs = sum_by-cons (λ (b : Answered). f b.bound) x xs in
    let c = sum_bound f xs in
    omega (arith, a, b, c)

-- the statements beside, with those of phases before, are no fewer
beside_more : (f : Option Statement → ℕ) (a : Answered) (before block : List Answered) → sum_by (λ (b : Answered). f b.bound) (filter (is_beside a) block) ≤ sum_by f (beside_in (before ++ block) a)
beside_more f a before block =
    let e : sum_by f (beside_in (before ++ block) a) ≡ sum_by (λ (b : Answered). f b.bound) (filter (is_beside a) (before ++ block)) = sum_bound f (filter (is_beside a) (before ++ block)) in
    let s : sum_by (λ (b : Answered). f b.bound) (filter (is_beside a) (before ++ block)) ≡ sum_by (λ (b : Answered). f b.bound) (filter (is_beside a) before ++ filter (is_beside a) block) =
    ap (sum_by (λ (b : Answered). f b.bound)) (filter-append (is_beside a) before block) in
    let p : sum_by (λ (b : Answered). f b.bound) (filter (is_beside a) before ++ filter (is_beside a) block) ≡ sum_by (λ (b : Answered). f b.bound) (filter (is_beside a) before) + sum_by (λ (b : Answered). f b.bound) (filter (is_beside a) block) =
    sum_by-append (λ (b : Answered). f b.bound) (filter (is_beside a) before) (filter (is_beside a) block) in
    omega (arith, e, s, p)

module _ (c : Contents) (node : ℕ) (a : Answered) (before block : List Answered) (all some : List Errand) (begins : StartsWith all some)
    (owned : AllByRecursion (HasOwner block) all) (within : AllByRecursion (λ (b : Answered). KeepsWithin c node b.bound (notes_for b all)) block)
    (apart : AreApart block) (there : IsAmong a block) (phases : AllByRecursion (λ (b : Answered). b.phase ≡ a.phase) block) (early : AllByRecursion (λ n. sent_for (who_of a) n ≡ false) some) where
  abbrev others : List Answered
  others = filter (is_beside a) block

  owners : AllByRecursion (HasOwner others) some
  owners = all_both (λ n. sent_for (who_of a) n ≡ false) (HasOwner block) (HasOwner others) (λ n far has. owner_beside a n block far phases (same_one a block apart there) has) some early
      (all_left (HasOwner block) some begins.0 (subst (AllByRecursion (HasOwner block)) (sym begins.1) owned))

  single : (n : Errand) → AtMostOne (λ (b : Answered). sent_for (who_of b) n) others
  single n = one_owner n others (apart_filtered (is_beside a) block apart)

  -- a statement's notes begin with those that it had made by then
  so_far : (b : Answered) → StartsWith (notes_for b all) (notes_for b some)
  so_far b = (notes_for b begins.0, sym (filter-append (sent_for (who_of b)) some begins.0) ∙ ap (notes_for b) begins.1)

  bounded : AllByRecursion (λ (b : Answered). KeepsWithin c node b.bound (notes_for b all)) others
  bounded = all_filtered (λ (b : Answered). KeepsWithin c node b.bound (notes_for b all)) (is_beside a) block within

  pub no_more_taken : tooks some ≤ gaves some + sum_by (stores_to c node) (beside_in (before ++ block) a)
  no_more_taken =
      let t : sum_by took_in some ≤ sum_by (sum_for took_in some) others = covered others took_in some owners in
      let g : sum_by (sum_for gave_in some) others ≤ sum_by gave_in some = shared others gave_in some (all_notes (λ n. AtMostOne (λ (b : Answered). sent_for (who_of b) n) others) single some) in
      let w : sum_by (sum_for took_in some) others ≤ sum_by (λ (b : Answered). sum_for gave_in some b + stores_to c node b.bound) others =
      sum_weaker (sum_for took_in some) (λ (b : Answered). sum_for gave_in some b + stores_to c node b.bound) others
      (all_weaker (λ (b : Answered). KeepsWithin c node b.bound (notes_for b all)) (λ (b : Answered). sum_for took_in some b ≤ sum_for gave_in some b + stores_to c node b.bound) (λ b k. k.took (notes_for b some) (so_far b)) others bounded) in
      let s : sum_by (λ (b : Answered). sum_for gave_in some b + stores_to c node b.bound) others ≡ sum_by (sum_for gave_in some) others + sum_by (λ (b : Answered). stores_to c node b.bound) others =
      sum_both (sum_for gave_in some) (λ (b : Answered). stores_to c node b.bound) others in
      let m : sum_by (λ (b : Answered). stores_to c node b.bound) others ≤ sum_by (stores_to c node) (beside_in (before ++ block) a) = beside_more (stores_to c node) a before block in
      omega (arith, t, g, w, s, m)

  pub no_more_given : gaves some ≤ tooks some + sum_by (stores_from c node) (beside_in (before ++ block) a)
  no_more_given =
      let t : sum_by gave_in some ≤ sum_by (sum_for gave_in some) others = covered others gave_in some owners in
      let g : sum_by (sum_for took_in some) others ≤ sum_by took_in some = shared others took_in some (all_notes (λ n. AtMostOne (λ (b : Answered). sent_for (who_of b) n) others) single some) in
      let w : sum_by (sum_for gave_in some) others ≤ sum_by (λ (b : Answered). sum_for took_in some b + stores_from c node b.bound) others =
      sum_weaker (sum_for gave_in some) (λ (b : Answered). sum_for took_in some b + stores_from c node b.bound) others
      (all_weaker (λ (b : Answered). KeepsWithin c node b.bound (notes_for b all)) (λ (b : Answered). sum_for gave_in some b ≤ sum_for took_in some b + stores_from c node b.bound) (λ b k. k.gave (notes_for b some) (so_far b)) others bounded) in
      let s : sum_by (λ (b : Answered). sum_for took_in some b + stores_from c node b.bound) others ≡ sum_by (sum_for took_in some) others + sum_by (λ (b : Answered). stores_from c node b.bound) others =
      sum_both (sum_for took_in some) (λ (b : Answered). stores_from c node b.bound) others in
      let m : sum_by (λ (b : Answered). stores_from c node b.bound) others ≤ sum_by (stores_from c node) (beside_in (before ++ block) a) = beside_more (stores_from c node) a before block in
      omega (arith, t, g, w, s, m)
