-- The groups that a write needs.
use Rattle.std.specs.Prelude.{◌≡◌, ◌≤◌, ◌+◌, ⊤, ℕ, true, List, [], ◌∷◌}
use Rattle.std.specs.List.{AllByRecursion}
use Rattle.cq_tree.specs.declared.expression.Cond.{Cond}
use Rattle.cq_tree.specs.declared.write.ShardOp.{ShardOp}
use Rattle.cq_tree.specs.declared.write.ShardOp.TheVariants.{Insert, Update, Remove}
use Rattle.cq_meaning.specs.Values.{Row, column}
use Rattle.cq_meaning.specs.Expressions.{keeps}
use Rattle.cq_meaning.specs.Effects.{table_of}
use Rattle.cq_catalog.specs.Contents.{Contents}
use Rattle.cq_catalog.specs.Placement.{place_at, colocation_at, HasShard, group_of}
use Rattle.cq_catalog.specs.declared.info.Place.{Place}
use Rattle.cq_catalog.specs.declared.info.Place.TheVariants.{Local, Distributed, Reference}
use Rattle.cq_planning.specs.Touched.{among}

-- groups in ascending order, each once
abbrev pub IsAscendingFrom : ℕ → List ℕ → Type 0
IsAscendingFrom low [] = ⊤
IsAscendingFrom low (g ∷ gs) = (low ≤ g) × IsAscendingFrom (g + 1) gs

-- the rows that WHERE keeps are of touched groups
abbrev pub RowsReach : Contents → List ℕ → ℕ → Place → Cond → Type 0
RowsReach c touched table Local filter_ = ⊥
RowsReach c touched table (Distributed at colocation first_shard) filter_ = (row : Row) → keeps filter_ [] row ≡ true → among (group_of c table (column row at)) touched ≡ true
RowsReach c touched table (Reference group shard) filter_ = among group touched ≡ true

-- the rows that are inserted are of touched groups
abbrev pub RowsAreOf : Contents → List ℕ → ℕ → Place → List Row → Type 0
RowsAreOf c touched table Local rows = ⊥
RowsAreOf c touched table (Distributed at colocation first_shard) rows = AllByRecursion (λ (row : Row). among (group_of c table (column row at)) touched ≡ true) rows
RowsAreOf c touched table (Reference group shard) rows = AllByRecursion (λ (row : Row). among group touched ≡ true) rows

-- the rows that a write inserts or keeps are of touched groups
abbrev pub Reaches : Contents → List ℕ → Place → ShardOp → Type 0
Reaches c touched place (Insert table rows) = RowsAreOf c touched table place rows
Reaches c touched place (Update table filter_ sets) = RowsReach c touched table place filter_
Reaches c touched place (Remove table filter_) = RowsReach c touched table place filter_

-- groups of a write's table, in ascending order, of which are all rows that the write inserts or keeps
pub record IsTouchedBy (c : Contents) (touched : List ℕ) (op : ShardOp) : Type 0 where
  pub ascending : IsAscendingFrom 0 touched
  pub own : (g : ℕ) → among g touched ≡ true → HasShard (colocation_at c (table_of op)) (place_at c (table_of op)) g
  pub reaches : Reaches c touched (place_at c (table_of op)) op
