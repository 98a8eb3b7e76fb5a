-- The keys by which tasks can compute a query.
use Rattle.std.specs.Prelude.{ℕ, List, if◌then◌else◌, Option, None, Some}
use Rattle.cq_tree.specs.declared.query.Query.{Query}
use Rattle.cq_repart.specs.declared.tables.Key.{Key}
use Rattle.cq_repartition_laws.specs.Keys.{keys_of, is_parted}

-- those of a query's tables, where tasks can compute it by the class
abbrev pub keys_if_parted : ℕ → Query → Option (List Key)
keys_if_parted class q = if is_parted class q then Some (keys_of class q) else None
