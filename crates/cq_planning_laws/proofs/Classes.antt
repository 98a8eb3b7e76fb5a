-- Two columns have the same first column exactly where equalities connect them.
use Rattle.std.proofs.Common.{◌≡◌, ◌⊎◌, inl, inr, ℕ, min, max, List, [], ◌∷◌, fold, Bool, true, false, cond, nat_eq, refl, sym, ◌∙◌, ap, subst, arith, if◌then◌else◌}
use Rattle.cq_value.proofs.Truths.{same_number}
use Rattle.cq_meaning.specs.Lists.{Has}
use Rattle.cq_planning.specs.Classes.{merged, itself, first_of_class, Connected, paired, alone, turned, chained}
use Rattle.cq_planning_laws.specs.Laws.{ClassesConnect}

met : (u v : ℕ) → (if nat_eq u (max u v) then min u v else u) ≡ (if nat_eq v (max u v) then min u v else v)
met u v = grind arith

-- one first column stays one
kept : (es : List (ℕ × ℕ)) (first : ℕ → ℕ) (a b : ℕ) → first a ≡ first b → fold merged first es a ≡ fold merged first es b
kept [] first a b e = e
kept (x ∷ es) first a b e = kept es (merged first x) a b (ap (λ z. if nat_eq z (max (first x.0) (first x.1)) then min (first x.0) (first x.1) else z) e)

together : (es : List (ℕ × ℕ)) (first : ℕ → ℕ) (a b : ℕ) → Has es (a, b) → fold merged first es a ≡ fold merged first es b
together [] first a b h = absurd h
together (x ∷ es) first a b (inl e) = subst (λ p. fold merged first (x ∷ es) p.0 ≡ fold merged first (x ∷ es) p.1) e (kept es (merged first x) x.0 x.1 (met (first x.0) (first x.1)))
together (x ∷ es) first a b (inr h) = together es (merged first x) a b h

one_first : (pairs : List (ℕ × ℕ)) {x y : ℕ} → Connected pairs x y → first_of_class pairs x ≡ first_of_class pairs y
one_first pairs (paired {a} {b} h) = together pairs itself a b h
one_first pairs alone = refl
one_first pairs (turned p) = sym (one_first pairs p)
one_first pairs (chained p q) = one_first pairs p ∙ one_first pairs q

module _ (all : List (ℕ × ℕ)) where
  relinked : (c z u v : ℕ) → Connected all c z → Connected all u v → Connected all c (if nat_eq z (max u v) then min u v else z)
  relinked c z u v cz uv = pick (nat_eq z (max u v)) refl
    where
      lesser : (m n : ℕ) → ((max m n ≡ n) × (min m n ≡ m)) ⊎ ((max m n ≡ m) × (min m n ≡ n))
      lesser m n = grind arith

      pick : (b : Bool) → nat_eq z (max u v) ≡ b → Connected all c (cond b (min u v) z)
      pick false is = cz
      pick true is = elim (lesser u v) [
        | inl l ↦ (let e : z ≡ v = same_number z (max u v) is ∙ l.0 in subst (Connected all c) (sym l.1) (chained (subst (Connected all c) e cz) (turned uv)))
        | inr l ↦ (let e : z ≡ u = same_number z (max u v) is ∙ l.0 in subst (Connected all c) (sym l.1) (chained (subst (Connected all c) e cz) uv))
      ]

  linked : (es : List (ℕ × ℕ)) (first : ℕ → ℕ) → ((p : ℕ × ℕ) → Has es p → Connected all p.0 p.1) → ((x : ℕ) → Connected all x (first x)) → (x : ℕ) → Connected all x (fold merged first es x)
  linked [] first given h x = h x
  linked (e ∷ es) first given h x = linked es (merged first e) (λ p k. given p (inr k))
      (λ y. relinked y (first y) (first e.0) (first e.1) (h y) (chained (turned (h e.0)) (chained (given e (inl refl)) (h e.1)))) x

  to_first : (x : ℕ) → Connected all x (first_of_class all x)
  to_first x = linked all itself (λ p k. paired k) (λ y. alone) x

pub classes_connect : ClassesConnect
classes_connect pairs x y = (
  λ e. chained (to_first pairs x) (turned (subst (Connected pairs y) (sym e) (to_first pairs y))),
  λ p. one_first pairs p,
)
