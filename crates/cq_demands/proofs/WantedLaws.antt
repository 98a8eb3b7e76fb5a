-- What a WHERE demands where AND joins two conditions.
use Rattle.std.proofs.Common.{◌≡◌, ℕ, List, [], ◌∷◌, ◌++◌, Result, Ok, Err, OnOk, refl, sym, ap, ◌∙◌}
use Rattle.cq_value.specs.declared.value.Value.{Value}
use denote.Hole.Carrier.{hidden}
use Rattle.cq_tree.specs.declared.expression.Cond.{Cond, And}
use Rattle.cq_tree.specs.declared.expression.Cond.TheBlock.{hidden-the_row-Cond-0}
use Rattle.cq_demands.specs.Demands.{demands}

demands_and : (a b : Cond) → demands (And a b) ≡ demands a ++ demands b
unfolding hidden-the_row-Cond-0 hidden
demands_and a b = refl

append_twice : {X : Type 0} (xs ys zs : List X) → (xs ++ ys) ++ zs ≡ xs ++ (ys ++ zs)
append_twice [] ys zs = refl
append_twice (x ∷ xs) ys zs = ap (λ l. x ∷ l) (append_twice xs ys zs)

-- first what the one demands is put behind the rest, and then what the other does
pub both_put : {T E : Type 0} (r : Result T E) (old mid new : List (ℕ × Value)) (c a b : Cond) → c ≡ And a b → mid ≡ old ++ demands a → OnOk r (new ≡ mid ++ demands b) → OnOk r (new ≡ old ++ demands c)
both_put (Ok x) old mid new c a b is first second =
    second ∙ ap (λ (v : List (ℕ × Value)). v ++ demands b) first ∙ append_twice old (demands a) (demands b) ∙ ap (λ (v : List (ℕ × Value)). old ++ v) (sym (demands_and a b) ∙ ap demands (sym is))
both_put (Err e) old mid new c a b is first second = tt
