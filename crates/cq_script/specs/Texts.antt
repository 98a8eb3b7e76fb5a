-- The texts of answers, and the last line of a run that stops early.
use Rattle.std.specs.Prelude.{ℕ, Bool, true, false, List, [], ◌∷◌, ◌++◌, length, map, flat_map, codes, decimal, nat_eq, if◌then◌else◌}
use Rattle.std.specs.Fmt.{signed_decimal}
use Rattle.std.specs.List.{join_with_byte}
use Rattle.csv.specs.Writing.{default_writer, row_text}
use Rattle.csv.specs.declared.writer.WriterBuilder.{WriterBuilder}
use Rattle.cq_value.specs.declared.value.Value.{Value}
use Rattle.cq_value.specs.declared.value.Value.TheVariants as values
use Rattle.cq_answer.specs.declared.answer.Answer.{Answer}
use Rattle.cq_answer.specs.declared.answer.Answer.TheVariants.{Tag, Table, Failed}
use Rattle.cq_answer.specs.declared.answer.Tag.{Tag as Done}
use Rattle.cq_answer.specs.declared.answer.Tag.TheVariants.{CreateTable, Insert, Update, Delete, Copy, Setting}
use Rattle.cq_answer.specs.declared.fault.Fault.{Fault}
use Rattle.cq_answer.specs.declared.fault.Fault.TheVariants as faults
use Rattle.cq_answer.specs.declared.fault.What.{What}
use Rattle.cq_answer.specs.declared.fault.What.TheVariants as limits
use Rattle.cq_tree.specs.declared.unsupported.Unsupported.{Unsupported}
use Rattle.cq_tree.specs.declared.unsupported.Unsupported.TheVariants as plans
use Rattle.cq_script.specs.declared.fatal.Fatal.{Fatal}
use Rattle.cq_script.specs.declared.fatal.Fatal.TheVariants as ends

-- a byte of a text: a backslash stands before a backslash (92), a bar (124) and the n that a newline (10) becomes
unfoldable pub escaped_byte : ℕ → List ℕ
escaped_byte b = if nat_eq b 92 then codes "\\\\" else if nat_eq b 124 then codes "\\|" else if nat_eq b 10 then codes "\\n" else b ∷ []

unfoldable pub escaped : List ℕ → List ℕ
escaped text = flat_map escaped_byte text

unfoldable pub value_text : Value → List ℕ
value_text values.Null = codes "\\N"
value_text (values.Int n) = signed_decimal n
value_text (values.Text text) = escaped text

-- the fields with a bar between each two
unfoldable pub fields_line : List (List ℕ) → List ℕ
fields_line fields = join_with_byte 124 fields ++ codes "\n"

unfoldable pub row_line : List Value → List ℕ
row_line row = fields_line (map value_text row)

unfoldable pub count_line : ℕ → List ℕ
count_line n = if nat_eq n 1 then codes "(1 row)\n" else codes "(" ++ decimal n ++ codes " rows)\n"

unfoldable pub what_text : What → List ℕ
what_text limits.Depth = codes "depth"
what_text limits.Relations = codes "relations"
what_text limits.Blocks = codes "blocks"
what_text limits.Columns = codes "columns"
what_text limits.Outputs = codes "outputs"
what_text limits.Keys = codes "keys"
what_text limits.Tables = codes "tables"
what_text limits.Groups = codes "groups"
what_text limits.Rows = codes "rows"
what_text limits.Ids = codes "ids"

unfoldable pub unsupported_text : Unsupported → List ℕ
unsupported_text plans.NeedsRepartition = codes "U1 join needs repartition"
unsupported_text plans.NoEquality = codes "U2 no equality between distributed tables"
unsupported_text plans.OuterJoin = codes "U3 outer join is not co-located"
unsupported_text plans.LimitWithoutOrder = codes "U4 limit without full order"
unsupported_text plans.DistributionColumn = codes "U5 distribution column can't change"
unsupported_text (plans.NoDistributionValue row) = codes "U6 no distribution value in row " ++ decimal row

-- a name is escaped as a text of a table, so that a fault is one line
abbrev pub fault_text : Fault → List ℕ
fault_text (faults.OpenQuote at) = codes "1 open quote at " ++ decimal at
fault_text (faults.BadCharacter at) = codes "2 bad character at " ++ decimal at
fault_text (faults.NumberTooLarge at) = codes "3 number too large at " ++ decimal at
fault_text (faults.Syntax at) = codes "4 syntax at " ++ decimal at
fault_text (faults.NameTaken name) = codes "5 name taken: " ++ escaped name
fault_text (faults.UnknownTable name) = codes "6 no such table: " ++ escaped name
fault_text (faults.UnknownColumn name) = codes "7 no such column: " ++ escaped name
fault_text (faults.AlreadyDistributed name) = codes "8 already distributed: " ++ escaped name
fault_text (faults.KeyLacksColumn name) = codes "9 primary key lacks the distribution column: " ++ escaped name
fault_text (faults.OutOfRange value least greatest) = codes "10 out of range: " ++ signed_decimal value ++ codes " not in " ++ signed_decimal least ++ codes " to " ++ signed_decimal greatest
fault_text faults.ColocationDiffers = codes "11 co-location differs"
fault_text (faults.Unknown at) = codes "12 unknown name at " ++ decimal at
fault_text (faults.Ambiguous at) = codes "13 ambiguous name at " ++ decimal at
fault_text (faults.Type at) = codes "14 type at " ++ decimal at
fault_text (faults.NotGrouped at) = codes "15 not grouped at " ++ decimal at
fault_text (faults.TooWide at) = codes "16 too wide at " ++ decimal at
fault_text (faults.WrongCount at) = codes "17 wrong count of values at " ++ decimal at
fault_text (faults.Divisor at) = codes "18 divisor at " ++ decimal at
fault_text (faults.KeyColumn at) = codes "19 key column at " ++ decimal at
fault_text (faults.Subquery at) = codes "19 subquery at " ++ decimal at
fault_text (faults.LocalTable at) = codes "19 local table at " ++ decimal at
fault_text (faults.GroupedJoin at) = codes "19 grouped join at " ++ decimal at
fault_text (faults.Worker failure) = codes "20 worker " ++ decimal failure.node ++ codes " shard " ++ decimal failure.shard ++ codes " faults " ++ decimal failure.before ++ codes " to " ++ decimal failure.after
fault_text (faults.Retired failure) = codes "20 worker " ++ decimal failure.node ++ codes " shard " ++ decimal failure.shard ++ codes " faults " ++ decimal failure.before ++ codes " to " ++ decimal failure.after
fault_text (faults.Moving by) = codes "21 moving by " ++ decimal by.session ++ codes "." ++ decimal by.statement
fault_text (faults.SameNode node) = codes "22 same node " ++ decimal node
fault_text (faults.NotThere node) = codes "23 not there, on node " ++ decimal node
fault_text faults.Memory = codes "24 out of memory"
fault_text (faults.NoShard shard) = codes "25 no shard " ++ decimal shard
fault_text (faults.NoRoom node free needed) = codes "26 no room on node " ++ decimal node ++ codes ": " ++ decimal free ++ codes " free, " ++ decimal needed ++ codes " needed"
fault_text (faults.Columns row found) = codes "27 columns in row " ++ decimal row ++ codes ": " ++ decimal found
fault_text (faults.Value row column) = codes "28 value in row " ++ decimal row ++ codes " column " ++ decimal column
fault_text (faults.Encoding row) = codes "29 encoding in row " ++ decimal row
fault_text faults.Duplicate = codes "30 duplicate key"
fault_text faults.ValueOutOfRange = codes "31 value out of range"
fault_text faults.NotInBlock = codes "32 not in a block"
fault_text (faults.Limit what number) = codes "33 limit " ++ what_text what ++ codes " " ++ decimal number
fault_text (faults.NoNode node) = codes "34 no node " ++ decimal node
fault_text (faults.Unsupported why) = unsupported_text why

unfoldable pub tag_text : Done → List ℕ
tag_text CreateTable = codes "CREATE TABLE"
tag_text (Insert n) = codes "INSERT 0 " ++ decimal n
tag_text (Update n) = codes "UPDATE " ++ decimal n
tag_text (Delete n) = codes "DELETE " ++ decimal n
tag_text (Copy n) = codes "COPY " ++ decimal n
tag_text Setting = codes "SET"

unfoldable pub text_of : Answer → List ℕ
text_of (Tag tag) = tag_text tag ++ codes "\n"
text_of (Table names rows) = fields_line (map escaped names) ++ flat_map row_line rows ++ count_line (length rows)
text_of (Failed fault) = codes "ERROR " ++ fault_text fault ++ codes "\n"

-- as CSV is written (RFC 4180, by the kit's writer), rows of any lengths
abbrev pub csv_writer : WriterBuilder
csv_writer = record default_writer { flexible = true }

unfoldable pub csv_line : List (List ℕ) → List ℕ
csv_line fields = row_text csv_writer fields

-- NULL is an empty field
unfoldable pub csv_value : Value → List ℕ
csv_value values.Null = []
csv_value (values.Int n) = signed_decimal n
csv_value (values.Text text) = text

-- a table has a line of its names and one of each row, and no count
unfoldable pub csv_table : List (List ℕ) → List (List Value) → List ℕ
csv_table names rows = csv_line names ++ flat_map (λ row. csv_line (map csv_value row)) rows

-- with tables in CSV, or without
unfoldable pub text_under : Bool → Answer → List ℕ
text_under false answer = text_of answer
text_under true (Tag tag) = text_of (Tag tag)
text_under true (Table names rows) = csv_table names rows
text_under true (Failed fault) = text_of (Failed fault)

-- the line before the answers of a session of a block
unfoldable pub session_line : ℕ → List ℕ
session_line session = codes "-- session " ++ decimal session ++ codes "\n"

-- the last line of a run that stops early
unfoldable pub fatal_line : Fatal → List ℕ
fatal_line ends.Usage = codes "FATAL usage\n"
fatal_line ends.Read = codes "FATAL read\n"
fatal_line ends.LimitBytes = codes "FATAL limit bytes 16777216\n"
fatal_line ends.LimitStatements = codes "FATAL limit statements 20000\n"
fatal_line ends.LimitSessions = codes "FATAL limit sessions 8\n"
fatal_line (ends.Line line) = codes "FATAL directive at line " ++ decimal line ++ codes "\n"
