-- Values in ascending order: they are those that were given, each once, and no other list is that.
use Rattle.std.proofs.Common.{◌≡◌, ◌⊎◌, inl, inr, Bool, true, false, List, [], ◌∷◌, refl, sym, ◌∙◌, ap, subst}
use Rattle.std.specs.List.{AllByRecursion}
use Rattle.std.specs.declared.cmp.Ordering.{Ordering}
use Rattle.std.specs.declared.cmp.Ordering.TheVariants.{Less, Equal, Greater}
use Rattle.std.specs.Ordering.{is_eq, is_lt, ordering_reverse}
use Rattle.cq_value.proofs.Truths.{two_ways}
use Rattle.cq_value.specs.declared.value.Value.{Value}
use Rattle.cq_value.specs.Order.{value_cmp}
use Rattle.cq_value.proofs.OrderLaws.{value_cmp_same, value_cmp_total}
use Rattle.cq_meaning.specs.Lists.{Has}
use Rattle.cq_meaning.specs.Values.{same_value}
use Rattle.cq_meaning.proofs.RowLaws.{value_exact}
use Rattle.cq_planning.specs.ValueSets.{put_value, ascending, IsAscending}

-- ---- the order of two values

pub one_of : (v w : Value) → same_value v w ≡ true → v ≡ w
one_of v w y = value_exact v w (of (value_cmp v w) y)
  where
    of : (o : Ordering) → is_eq o ≡ true → o ≡ Equal
    of Less e = cc
    of Equal e = refl
    of Greater e = cc

below : (v w : Value) → is_lt (value_cmp v w) ≡ true → value_cmp v w ≡ Less
below v w y = of (value_cmp v w) y
  where
    of : (o : Ordering) → is_lt o ≡ true → o ≡ Less
    of Less e = refl
    of Equal e = cc
    of Greater e = cc

above : (v w : Value) → same_value v w ≡ false → is_lt (value_cmp v w) ≡ false → value_cmp w v ≡ Less
above v w n m = value_cmp_total.antisymm w v ∙ ap ordering_reverse (of (value_cmp v w) n m)
  where
    of : (o : Ordering) → is_eq o ≡ false → is_lt o ≡ false → o ≡ Greater
    of Less e f = cc
    of Equal e f = cc
    of Greater e f = refl

-- ---- what is among ascending values

put_here : (v : Value) (ws : List Value) → Has (put_value v ws) v
put_here v [] = inl refl
put_here v (w ∷ ws) = elim (two_ways (same_value v w)) [
  | inl y ↦ rw y (inl (sym (one_of v w y)))
  | inr n ↦ rw n (elim (two_ways (is_lt (value_cmp v w))) [ inl l ↦ rw l (inl refl) | inr m ↦ rw m (inr (put_here v ws)) ])
]

mapped : {A B D : Type 0} → (B → D) → A ⊎ B → A ⊎ D
mapped f (inl a) = inl a
mapped f (inr b) = inr (f b)

put_kept : (v u : Value) (ws : List Value) → Has ws u → Has (put_value v ws) u
put_kept v u [] h = absurd h
put_kept v u (w ∷ ws) h = elim (two_ways (same_value v w)) [
  | inl y ↦ rw y h
  | inr n ↦ rw n (elim (two_ways (is_lt (value_cmp v w))) [ inl l ↦ rw l (inr h) | inr m ↦ rw m (mapped (put_kept v u ws) h) ])
]

swapped : {A B D : Type 0} → A ⊎ (B ⊎ D) → B ⊎ (A ⊎ D)
swapped (inl a) = inr (inl a)
swapped (inr (inl b)) = inl b
swapped (inr (inr d)) = inr (inr d)

put_only : (v u : Value) (ws : List Value) → Has (put_value v ws) u → (v ≡ u) ⊎ Has ws u
put_only v u [] h = h
put_only v u (w ∷ ws) h = elim (two_ways (same_value v w)) [
  | inl y ↦ (let k : Has (w ∷ ws) u = rw y at h in inr k)
  | inr n ↦ elim (two_ways (is_lt (value_cmp v w))) [
    | inl l ↦ (let k : Has (v ∷ (w ∷ ws)) u = rw (n, l) at h in k)
    | inr m ↦ (let k : Has (w ∷ put_value v ws) u = rw (n, m) at h in swapped (mapped (put_only v u ws) k))
  ]
]

-- a value among some is among them in ascending order
pub has_ascending : (v : Value) (vs : List Value) → Has vs v → Has (ascending vs) v
has_ascending v [] h = absurd h
has_ascending v (w ∷ vs) (inl e) = subst (Has (put_value w (ascending vs))) e (put_here w (ascending vs))
has_ascending v (w ∷ vs) (inr h) = put_kept w v (ascending vs) (has_ascending v vs h)

-- and no other value is
pub ascending_has : (v : Value) (vs : List Value) → Has (ascending vs) v → Has vs v
ascending_has v [] h = h
ascending_has v (w ∷ vs) h = mapped (ascending_has v vs) (put_only w v (ascending vs) h)

-- ---- they ascend

abbrev IsAbove : Value → Value → Type 0
IsAbove v w = value_cmp v w ≡ Less

all_above : (v w : Value) → IsAbove v w → (ws : List Value) → AllByRecursion (IsAbove w) ws → AllByRecursion (IsAbove v) ws
all_above v w l [] h = tt
all_above v w l (x ∷ ws) h = (value_cmp_total.trans v w x l h.0, all_above v w l ws h.1)

put_above : (u v : Value) (ws : List Value) → IsAbove u v → AllByRecursion (IsAbove u) ws → AllByRecursion (IsAbove u) (put_value v ws)
put_above u v [] l h = (l, tt)
put_above u v (w ∷ ws) l h = elim (two_ways (same_value v w)) [
  | inl y ↦ rw y h
  | inr n ↦ rw n (elim (two_ways (is_lt (value_cmp v w))) [ inl k ↦ rw k (l, h) | inr m ↦ rw m (h.0, put_above u v ws l h.1) ])
]

put_ascends : (v : Value) (ws : List Value) → IsAscending ws → IsAscending (put_value v ws)
put_ascends v [] h = (tt, tt)
put_ascends v (w ∷ ws) h = elim (two_ways (same_value v w)) [
  | inl y ↦ rw y h
  | inr n ↦ rw n (elim (two_ways (is_lt (value_cmp v w))) [
    | inl l ↦ rw l ((below v w l, all_above v w (below v w l) ws h.0), h)
    | inr m ↦ rw m (put_above w v ws (above v w n m) h.0, put_ascends v ws h.1)
  ])
]

pub ascends : (vs : List Value) → IsAscending (ascending vs)
ascends [] = tt
ascends (v ∷ vs) = put_ascends v (ascending vs) (ascends vs)

-- ---- one list

not_above_itself : (v : Value) → IsAbove v v → ⊥
not_above_itself v l = let same : value_cmp v v ≡ Equal = (value_cmp_same v v).1 refl in let bad : Less ≡ Equal = sym l ∙ same in cc

each_above : (v : Value) (ws : List Value) (x : Value) → AllByRecursion (IsAbove v) ws → Has ws x → IsAbove v x
each_above v [] x h k = absurd k
each_above v (w ∷ ws) x h (inl e) = subst (IsAbove v) e h.0
each_above v (w ∷ ws) x h (inr k) = each_above v ws x h.1 k

-- ascending lists with the same values are one list
pub one_ascending : (vs ws : List Value) → IsAscending vs → IsAscending ws → ((x : Value) → Has vs x → Has ws x) → ((x : Value) → Has ws x → Has vs x) → vs ≡ ws
one_ascending [] [] a b f g = refl
one_ascending [] (w ∷ ws) a b f g = absurd (g w (inl refl))
one_ascending (v ∷ vs) [] a b f g = absurd (f v (inl refl))
one_ascending (v ∷ vs) (w ∷ ws) a b f g =
    let first : v ≡ w = firsts (f v (inl refl)) (g w (inl refl)) in
    λ i. first i ∷ one_ascending vs ws a.1 b.1 (λ x h. rest v w vs ws first a.0 (f x (inr h)) h) (λ x h. rest w v ws vs (sym first) b.0 (g x (inr h)) h) i
  where
    firsts : Has (w ∷ ws) v → Has (v ∷ vs) w → v ≡ w
    firsts (inl e) k = sym e
    firsts (inr h) (inl e) = e
    firsts (inr h) (inr k) = absurd (not_above_itself v (value_cmp_total.trans v w v (each_above v vs w a.0 k) (each_above w ws v b.0 h)))

    rest : (v w : Value) (vs ws : List Value) → v ≡ w → AllByRecursion (IsAbove v) vs → {x : Value} → Has (w ∷ ws) x → Has vs x → Has ws x
    rest v w vs ws e above {x} (inl s) h = absurd (not_above_itself v (subst (IsAbove v) (sym s ∙ sym e) (each_above v vs x above h)))
    rest v w vs ws e above (inr k) h = k
