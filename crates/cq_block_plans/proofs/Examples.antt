-- Relations that aren't firm: what leaves matters to what stays.
use Rattle.std.proofs.Common.{◌≡◌, ℕ, List, [], ◌∷◌, true, false, Option, None, Some, refl}
use Rattle.std.specs.List.{list_any}
use Rattle.cq_tree.specs.declared.expression.Expr.{Column}
use Rattle.cq_planning.specs.Classes.{first_of_class}
use Rattle.cq_planning.specs.Components.{is_loose}
use Rattle.cq_planning.specs.Pushable.{pushable_over}
use Rattle.cq_planning.specs.Relations.{Distribution, Relation, distributions, is_left_in_block, is_plain}
use Rattle.cq_outline.specs.declared.outline.Leaving.TheVariants.{Alone}
use Rattle.cq_outline.specs.Leaving.{leaves}
use Rattle.cq_pushdown_laws.specs.Pushed.{are_pushed}
use Rattle.cq_block_plans.specs.Firm.{settled_all}

abbrev at : ℕ → Option Distribution
at x = Some (record { column = x; colocation = 0 })

abbrev plain : ℕ → Option Distribution → Relation
plain start d = record { start = start; distribution = d; outer = None }

abbrev right : ℕ → ℕ → ℕ → Relation
right start x y = record { start = start; distribution = at y; outer = Some (record { left = 0; equalities = (x, y) ∷ [] }) }

-- `ref LEFT JOIN r0 ON ref.x = r0.k LEFT JOIN r1 ON ref.k = r1.k, t WHERE ref.k = t.k`, where ref has the columns k and x
abbrev chain : List Relation
chain = plain 0 None ∷ (right 2 1 2 ∷ (right 3 0 3 ∷ (plain 4 (at 4) ∷ [])))

abbrev chain_class : ℕ → ℕ
chain_class = first_of_class ((0, 4) ∷ [])

-- r0 leaves, and r1 stays and is co-located
r0_leaves : leaves Alone chain (right 2 1 2) ≡ true
r0_leaves = refl

none_loose : list_any (is_loose chain_class chain) chain ≡ false
none_loose = refl

-- but pushdown makes no tasks of what stays: r1 has nothing distributed on its left side then
chain_unpushed : are_pushed chain_class (settled_all Alone chain) (distributions is_plain (settled_all Alone chain)) ≡ false
chain_unpushed = refl

-- and such a subquery can be pushed down by r1's column, which may be NULL in each group
chain_pushable : pushable_over chain_class chain (distributions (is_left_in_block chain) chain) (distributions is_plain chain) false [] (Column 3 ∷ []) None 0
    ≡ Some (record { output = 0; column = 3; colocation = 0 })
chain_pushable = refl

-- `ref LEFT JOIN r0 ON ref.k = r0.k JOIN t ON ref.k = t.k LEFT JOIN r1 ON r0.k = r1.k`
abbrev bridge : List Relation
bridge = plain 0 None ∷ (right 1 0 1 ∷ (plain 2 (at 2) ∷ (right 3 1 3 ∷ [])))

abbrev bridge_class : ℕ → ℕ
bridge_class = first_of_class ((0, 2) ∷ [])

-- r1 is co-located by r0 alone, which leaves
bridge_firm : list_any (is_loose bridge_class bridge) bridge ≡ false
bridge_firm = refl

bridge_loose : list_any (is_loose bridge_class (settled_all Alone bridge)) (settled_all Alone bridge) ≡ true
bridge_loose = refl
