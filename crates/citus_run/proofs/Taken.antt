-- What is collected of a list's iterator.
use Rattle.std.proofs.Common.{◌≡◌, ◌+◌, List, [], ◌∷◌, ◌++◌, length, drop, Some, None, Option, Ok, Err, Result, refl, sym, ◌∙◌, ap, arith, append-nil, length-append}
use Rattle.std.specs.Prelude.{IfOk}
use Rattle.std.specs.Option.{option_to_list}
use Rattle.std.specs.Iterator.{Yields, Drains, DrainsIf}
use Rattle.std.specs.Vec.Iter.{into_iter_items, into_iter_len, into_iter_steps}
use Rattle.std.specs.declared.vec.IntoIter.{IntoIter}

pub ok_so : {T E : Type 0} (P Q : T → Type 0) (r : Result T E) → ((x : T) → P x → Q x) → IfOk r P → IfOk r Q
ok_so P Q (Ok x) f h = f x h
ok_so P Q (Err e) f h = tt

empty : {X : Type 0} (xs : List X) → length xs ≡ 0 → xs ≡ []
empty [] h = refl
empty (x ∷ xs) h = absurd (omega (arith, h))

module _ {X A : Type 0} where
  taken_front : (s : IntoIter X A) (xs : List X) (t : IntoIter X A) → Yields into_iter_steps s xs t → into_iter_items s ≡ xs ++ into_iter_items t
  taken_front s [] t y = ap into_iter_items y
  taken_front s (x ∷ xs) t y = y.1.0 ∙ ap (λ ys. x ∷ ys) (taken_front y.0 xs t y.2)

  taken_len : (s : IntoIter X A) (xs : List X) (t : IntoIter X A) → Yields into_iter_steps s xs t → into_iter_len t + length xs ≡ into_iter_len s
  taken_len s [] t y = omega (arith, ap into_iter_len y)
  taken_len s (x ∷ xs) t y = omega (arith, y.1.1, taken_len y.0 xs t y.2)

  pub drained : (W : Type 0) (s : IntoIter X A) (xs : List X) → DrainsIf into_iter_steps W s xs → W → Drains into_iter_steps s xs
  drained W s xs d w = let e = d.2 w in (e.0, (d.0, d.1, e.1))

  -- all of them
  all_taken : (s : IntoIter X A) (xs : List X) → into_iter_len s ≡ length (into_iter_items s) → Drains into_iter_steps s xs → xs ≡ into_iter_items s
  all_taken s xs own d =
      let t = d.1.0 in
      let front = taken_front s xs t d.1.1 in
      let left : length (into_iter_items t) ≡ 0 = omega (arith, own, taken_len s xs t d.1.1, ap length front, length-append xs (into_iter_items t), d.1.2.0) in
      sym (front ∙ ap (λ ys. xs ++ ys) (empty (into_iter_items t) left) ∙ append-nil xs)

  -- all but the first
  pub all_behind : (old new : IntoIter X A) (r : Option X) (xs : List X) → into_iter_items old ≡ option_to_list r ++ into_iter_items new → into_iter_steps old r new
      → into_iter_len old ≡ length (into_iter_items old) → Drains into_iter_steps new xs → xs ≡ drop 1 (into_iter_items old)
  all_behind old new None xs items step own d =
      let left : into_iter_items old ≡ [] = empty (into_iter_items old) (omega (arith, own, step.0)) in
      all_taken new xs (omega (arith, step.0, step.1, own, ap length items)) d ∙ sym items ∙ left ∙ ap (drop 1) (sym left)
  all_behind old new (Some x) xs items step own d = all_taken new xs (omega (arith, step.1, own, ap length items)) d ∙ ap (drop 1) (sym items)
