-- Groups that are turned one after another.
use Rattle.std.proofs.Common.{◌≡◌, ◌≢◌, ◌⊎◌, inl, inr, ℕ, zero, suc, ◌<◌, List, [], ◌∷◌, ◌++◌, length, refl, sym, ◌∙◌, ap, subst, arith, Some, slice_get}
use Rattle.std.proofs.Math.ListN.{set}
use Rattle.std.proofs.lemmas.Bool.Decides.{eqb_tells}
use Rattle.std.proofs.lemmas.List.{length-set}
use Rattle.std.proofs.lemmas.Option.{same_Some}
use Rattle.std.specs.List.{AllByRecursion}
use Rattle.cq_value.proofs.Lists.{all_more}
use Rattle.cq_history.proofs.Lists.{got_below}
use Rattle.cq_group.specs.declared.group.GroupState.{GroupState}
use Rattle.cq_reach.specs.Staging.{InBoth, TurnsOne, IsApart, AreApart, Turned}

-- a list in which one item is exchanged
got_set : {X : Type 0} (xs : List X) (k : ℕ) (a : X) → k < length xs → slice_get (set xs k a) k ≡ Some a
got_set [] k a h = absurd (omega (arith, h))
got_set (x ∷ xs) zero a h = refl
got_set (x ∷ xs) (suc k) a h = got_set xs k a (omega (arith, h))

got_other : {X : Type 0} (xs : List X) (k : ℕ) (a : X) (j : ℕ) → j ≢ k → slice_get (set xs k a) j ≡ slice_get xs j
got_other [] k a j n = refl
got_other (y ∷ xs) zero a zero n = absurd (n refl)
got_other (y ∷ xs) zero a (suc j) n = refl
got_other (y ∷ xs) (suc k) a zero n = refl
got_other (y ∷ xs) (suc k) a (suc j) n = got_other xs k a j (λ e. n (ap suc e))

-- ---- one group

module _ {X : Type 0} where
  pub one_set : (place : ℕ) (P : GroupState X → GroupState X → Type 0) (groups : List (GroupState X)) (g h : GroupState X) → slice_get groups place ≡ Some g → P g h → TurnsOne place P groups (set groups place h)
  one_set place P groups g h there holds = record {
    count = length-set groups place h;
    one = record { before = g; after = h; was = there; is = got_set groups place h (got_below groups place g there); holds = holds };
    others = λ i n. got_other groups place h i n;
  }

  pub both_weaker : (P Q : GroupState X → GroupState X → Type 0) → ((g h : GroupState X) → P g h → Q g h) → (place : ℕ) (old new : List (GroupState X)) → InBoth old new place P → InBoth old new place Q
  both_weaker P Q f place old new b = record { before = b.before; after = b.after; was = b.was; is = b.is; holds = f b.before b.after b.holds }

  pub one_weaker : (P Q : GroupState X → GroupState X → Type 0) → ((g h : GroupState X) → P g h → Q g h) → (place : ℕ) (old new : List (GroupState X)) → TurnsOne place P old new → TurnsOne place Q old new
  one_weaker P Q f place old new t = record { count = t.count; one = both_weaker P Q f place old new t.one; others = t.others }

  pub both_twice : (P Q R : GroupState X → GroupState X → Type 0) → ((g m h : GroupState X) → P g m → Q m h → R g h) → (place : ℕ) (old mid new : List (GroupState X)) →
      InBoth old mid place P → InBoth mid new place Q → InBoth old new place R
  both_twice P Q R f place old mid new p q =
      let same : q.before ≡ p.after = same_Some q.before p.after (sym q.was ∙ p.is) in
      record { before = p.before; after = q.after; was = p.was; is = q.is; holds = f p.before p.after q.after p.holds (subst (λ (m : GroupState X). Q m q.after) same q.holds) }

  pub one_twice : (P Q R : GroupState X → GroupState X → Type 0) → ((g m h : GroupState X) → P g m → Q m h → R g h) → (place : ℕ) (old mid new : List (GroupState X)) →
      TurnsOne place P old mid → TurnsOne place Q mid new → TurnsOne place R old new
  one_twice P Q R f place old mid new s t = record {
    count = t.count ∙ s.count;
    one = both_twice P Q R f place old mid new s.one t.one;
    others = λ i n. t.others i n ∙ s.others i n;
  }

  -- a group before and after: it was turned, or it is as it was
  pub one_at : (P : GroupState X → GroupState X → Type 0) (place : ℕ) (old new : List (GroupState X)) → TurnsOne place P old new → (i : ℕ) (g h : GroupState X) → slice_get old i ≡ Some g → slice_get new i ≡ Some h →
      ((i ≡ place) × P g h) ⊎ ((i ≢ place) × (h ≡ g))
  one_at P place old new t i g h s n = elim (eqb_tells i place) [
    | inl y ↦
        let b = t.one in
        let first : b.before ≡ g = same_Some b.before g (sym b.was ∙ sym (ap (slice_get old) y.1) ∙ s) in
        let last : b.after ≡ h = same_Some b.after h (sym b.is ∙ sym (ap (slice_get new) y.1) ∙ n) in
        inl (y.1, subst (λ (v : GroupState X). P g v) last (subst (λ (v : GroupState X). P v b.after) first b.holds))
    | inr z ↦ inr (z.1, same_Some h g (sym n ∙ t.others i z.1 ∙ s))
  ]

-- ---- several groups

module _ {A : Type 0} (at : A → ℕ) where
  pub apart_less : (i : ℕ) (items : List A) (a : A) → IsApart at i (items ++ a ∷ []) → IsApart at i items × (i ≢ at a)
  apart_less i [] a h = (tt, h.0)
  apart_less i (b ∷ items) a h = let more = apart_less i items a h.1 in ((h.0, more.0), more.1)

  -- each place in the order of a list of items has its own
  pub apart_last : (items : List A) (a : A) (rest : List A) → AreApart at (items ++ a ∷ rest) → IsApart at (at a) items
  apart_last [] a rest h = tt
  apart_last (b ∷ items) a rest h = ((λ e. among items h.0 (sym e)), apart_last items a rest h.1)
    where
      among : (items : List A) → IsApart at (at b) (items ++ a ∷ rest) → at b ≢ at a
      among [] k = k.0
      among (c ∷ items) k = among items k.1

  pub apart_front : (items rest : List A) → AreApart at (items ++ rest) → AreApart at items
  apart_front [] rest h = tt
  apart_front (b ∷ items) rest h = (only items h.0, apart_front items rest h.1)
    where
      only : (items : List A) → IsApart at (at b) (items ++ rest) → IsApart at (at b) items
      only [] k = tt
      only (c ∷ items) k = (k.0, only items k.1)

module _ {X A : Type 0} (at : A → ℕ) where
  pub turned_none : (P : A → GroupState X → GroupState X → Type 0) (groups : List (GroupState X)) → Turned at P [] groups groups
  turned_none P groups = record { count = refl; each = tt; others = λ i a. refl }

  each_still : (P : A → GroupState X → GroupState X → Type 0) (place : ℕ) (old mid new : List (GroupState X)) (items : List A) → IsApart at place items → ((i : ℕ) → i ≢ place → slice_get new i ≡ slice_get mid i) →
      AllByRecursion (λ (a : A). InBoth old mid (at a) (P a)) items → AllByRecursion (λ (a : A). InBoth old new (at a) (P a)) items
  each_still P place old mid new [] h others e = tt
  each_still P place old mid new (a ∷ items) h others e =
      let b = e.0 in
      (record { before = b.before; after = b.after; was = b.was; is = others (at a) (λ s. h.0 (sym s)) ∙ b.is; holds = b.holds }, each_still P place old mid new items h.1 others e.1)

  -- one more group
  pub turned_more : (P : A → GroupState X → GroupState X → Type 0) (items : List A) (a : A) (old mid new : List (GroupState X)) → Turned at P items old mid → TurnsOne (at a) (P a) mid new → IsApart at (at a) items →
      Turned at P (items ++ a ∷ []) old new
  turned_more P items a old mid new t s apart =
      let b = s.one in
      record {
        count = s.count ∙ t.count;
        each = all_more (λ (a : A). InBoth old new (at a) (P a)) items a (each_still P (at a) old mid new items apart s.others t.each)
            (record { before = b.before; after = b.after; was = sym (t.others (at a) apart) ∙ b.was; is = b.is; holds = b.holds });
        others = λ i h. let p = apart_less at i items a h in s.others i p.1 ∙ t.others i p.0;
      }

  -- two turns of the same groups
  pub turned_twice : (P Q R : A → GroupState X → GroupState X → Type 0) → ((a : A) (g m h : GroupState X) → P a g m → Q a m h → R a g h) → (items : List A) (old mid new : List (GroupState X)) →
      Turned at P items old mid → Turned at Q items mid new → Turned at R items old new
  turned_twice P Q R f items old mid new s t = record {
    count = t.count ∙ s.count;
    each = both items s.each t.each;
    others = λ i h. t.others i h ∙ s.others i h;
  }
    where
      both : (some : List A) → AllByRecursion (λ (a : A). InBoth old mid (at a) (P a)) some → AllByRecursion (λ (a : A). InBoth mid new (at a) (Q a)) some → AllByRecursion (λ (a : A). InBoth old new (at a) (R a)) some
      both [] p q = tt
      both (a ∷ some) p q = (both_twice (P a) (Q a) (R a) (f a) (at a) old mid new p.0 q.0, both some p.1 q.1)

  find : (P : A → GroupState X → GroupState X → Type 0) (old new : List (GroupState X)) (i : ℕ) (items : List A) → AllByRecursion (λ (a : A). InBoth old new (at a) (P a)) items →
      IsApart at i items ⊎ ((a : A) × (i ≡ at a) × InBoth old new (at a) (P a))
  find P old new i [] e = inl tt
  find P old new i (a ∷ items) e = elim (eqb_tells i (at a)) [
    | inl y ↦ inr (a, y.1, e.0)
    | inr z ↦ elim (find P old new i items e.1) [ inl p ↦ inl (z.1, p) | inr q ↦ inr q ]
  ]

  -- a group before and after: it was turned, or it is as it was
  pub turned_at : (P : A → GroupState X → GroupState X → Type 0) (items : List A) (old new : List (GroupState X)) → Turned at P items old new → (i : ℕ) (g h : GroupState X) →
      slice_get old i ≡ Some g → slice_get new i ≡ Some h → ((a : A) × (i ≡ at a) × P a g h) ⊎ (IsApart at i items × (h ≡ g))
  turned_at P items old new t i g h s n = elim (find P old new i items t.each) [
    | inl apart ↦ inr (apart, same_Some h g (sym n ∙ t.others i apart ∙ s))
    | inr q ↦
        let b = q.2 in
        let first : b.before ≡ g = same_Some b.before g (sym b.was ∙ sym (ap (slice_get old) q.1) ∙ s) in
        let last : b.after ≡ h = same_Some b.after h (sym b.is ∙ sym (ap (slice_get new) q.1) ∙ n) in
        inl (q.0, q.1, subst (λ (v : GroupState X). P q.0 g v) last (subst (λ (v : GroupState X). P q.0 v b.after) first b.holds))
  ]
