-- What the task of a bucket reads, and how the tables of a FROM are spread over the buckets.
use Rattle.std.specs.Prelude.{ℕ, ℤ, List, ◌++◌, length, true, Option, None, Some}
use Rattle.cq_tree.specs.declared.query.FromTree.{FromTree, Table}
use Rattle.cq_meaning.specs.Values.{Tables}
use Rattle.cq_task_laws.specs.Tasks.{Side}
use Rattle.cq_catalog.specs.Ranges.{index_in}
use Rattle.cq_pushdown_laws.specs.Tables.{uncut}
use Rattle.cq_repart.specs.Buckets.{key_token}
use Rattle.cq_repart.specs.Splits.{key_of, beside_in, own_in}
use Rattle.cq_repart.specs.declared.tables.Key.{Key}

-- the tables that aren't split, and its bucket of each that is
abbrev pub bucket_tables : List Key → List ℤ → Tables → ℕ → Tables
bucket_tables keys ends db i = beside_in keys db ++ own_in keys ends db i

-- the place of the bucket of a row with this token in its key. Where the key is NULL the row is in no bucket
abbrev pub place_by : List ℤ → Option ℤ → ℕ
place_by ends (Some token) = index_in ends token
place_by ends None = length ends

-- a table with a key is cut by the buckets of its rows
abbrev pub side_by : List ℤ → Option ℕ → Side
side_by ends (Some key) = record { cut = true; home = λ row. place_by ends (key_token key row) }
side_by ends None = uncut

-- how a relation of a FROM is spread over the buckets
abbrev pub side_of : List Key → List ℤ → FromTree → Side
side_of keys ends (Table t n) = side_by ends (key_of keys t)
side_of keys ends _ = uncut
