-- What a read of a shard group enters, and what it tells.
use Rattle.std.specs.Prelude.{◌≡◌, ⊤, ℕ, List, [], ◌∷◌, map, filter, Result, Ok, Err}
use Rattle.std.specs.List.{AllByRecursion}
use Rattle.cq_value.specs.declared.value.Value.{Value}
use Rattle.cq_meaning.specs.Values.{Row, Tables}
use Rattle.cq_tree.specs.declared.failure.StoreFailure.{StoreFailure}
use Rattle.cq_tree.specs.declared.journal.EntryKind.{EntryKind}
use Rattle.cq_tree.specs.declared.journal.EntryKind.TheVariants.{Read}
use Rattle.cq_demands.specs.JoinDemands.{Wants, narrow}
use Rattle.cq_store.specs.Stores.{has_values}
use Rattle.cq_history.specs.Faults.{node_read}
use Rattle.cq_group.specs.declared.group.GroupError.{GroupError}
use Rattle.cq_group.specs.declared.group.GroupError.TheVariants.{Worker, Memory}
use Rattle.cq_reach.specs.Seen.{Seen, HasTable, captured, IsNear, FailsIn}
use Rattle.cq_reach.specs.Outlook.{Outlook, Meets}

-- it has these tables, and can be read with this near node
pub record CanRead (near : ℕ) (tables : List ℕ) (s : Seen) : Type 0 where
  pub there : AllByRecursion (HasTable s) tables
  pub on : IsNear near s

-- its entry, which it hasn't after an error
abbrev pub read_kinds : {V : Type 0} → Result V GroupError → List EntryKind
read_kinds (Ok v) = Read ∷ []
read_kinds (Err e) = []

-- a store failed on the node on which the group is read
pub record FailsRead (near : ℕ) (f : StoreFailure) (s : Seen) : Type 0 where
  pub fails : FailsIn s f
  pub on : f.node ≡ node_read near s.journal

-- what its error tells
abbrev pub TellsError : ℕ → GroupError → Seen → Type 0
TellsError near (Worker f) s = FailsRead near f s
TellsError near Memory s = ⊤

-- what a read of tables tells: their rows that have what is wanted
abbrev pub TellsTables : List ℕ → Wants → ℕ → Result Tables GroupError → Seen → Type 0
TellsTables tables wants near (Ok seen) s = seen ≡ narrow wants (map (captured s) tables)
TellsTables tables wants near (Err e) s = TellsError near e s

-- what a read of one table tells: its rows that have each of these values
abbrev pub TellsRows : ℕ → List (ℕ × Value) → ℕ → Result (List Row) GroupError → Seen → Type 0
TellsRows table wanted near (Ok rows) s = rows ≡ filter (has_values wanted) (captured s table).1
TellsRows table wanted near (Err e) s = TellsError near e s

-- where an error names a store, this holds of it
abbrev pub IfFailed : (StoreFailure → Type 0) → GroupError → Type 0
IfFailed P (Worker f) = P f
IfFailed P Memory = ⊤
