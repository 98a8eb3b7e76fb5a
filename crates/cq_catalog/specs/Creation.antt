-- A new table.
use Rattle.std.specs.Prelude.{ℕ, Bool, List, [], ◌∷◌, ◌++◌, take, length, Option, Some, None, option_map, bytes_eq, if◌then◌else◌, nat_lt, is_some}
use Rattle.std.specs.List.{list_any}
use Rattle.cq_value.specs.declared.schema.Column.{Column}
use Rattle.cq_catalog.specs.Contents.{Contents, number_of}
use Rattle.cq_catalog.specs.Refusals.{first_of}
use Rattle.cq_catalog.specs.declared.info.Place.TheVariants.{Local}
use Rattle.cq_catalog.specs.declared.error.Limited.TheVariants.{Columns, Tables}
use Rattle.cq_catalog.specs.declared.error.CatalogError.{CatalogError}
use Rattle.cq_catalog.specs.declared.error.CatalogError.TheVariants.{NameTaken, Limit}

-- the first column whose name stands before it
abbrev pub repeated_after : List Column → List Column → Option (List ℕ)
repeated_after before [] = None
repeated_after before (c ∷ cs) = if list_any (λ (b : Column). bytes_eq b.name c.name) before then Some c.name else repeated_after (before ++ c ∷ []) cs

abbrev pub refusal_if : Bool → CatalogError → Option CatalogError
refusal_if applies e = if applies then Some e else None

-- a table's name is taken first, then its columns are read one by one, at most 64, and then the table is counted
abbrev pub creation_refusal : Contents → List ℕ → List Column → Option CatalogError
creation_refusal c name columns = first_of
    (refusal_if (is_some (number_of c.tables name)) (NameTaken name)
    ∷ option_map NameTaken (repeated_after [] (take 64 columns))
    ∷ refusal_if (nat_lt 64 (length columns)) (Limit Columns 64)
    ∷ refusal_if (nat_lt 63 (length c.tables)) (Limit Tables 64)
    ∷ [])

-- the catalogue with one more table, a local one
abbrev pub with_table : Contents → List ℕ → List Column → List ℕ → Contents
with_table c name columns key = record c { tables = c.tables ++ record { name = name; columns = columns; key = key; place = Local } ∷ [] }
