-- The refusals of a text and of its data are those of reading, which name no store.
use Rattle.std.proofs.Common.{◌≡◌, ℕ, zero, suc, Bool, true, false, if◌then◌else◌, List, length, subst, refl, Ok, Err, Result, None, Some, Option, slice_get}
use Rattle.std.specs.Prelude.{IfErr}
use Rattle.cq_token.specs.declared.token.Token.{Token}
use Rattle.cq_token.specs.declared.error.LexError.{LexError}
use Rattle.cq_token.specs.declared.error.LexError.TheVariants as lexing
use Rattle.cq_token.specs.Tokens.{tokens}
use Rattle.cq_grammar.specs.declared.statement.Ast.{Ast}
use Rattle.cq_grammar.specs.Verdicts.{Complaint, syntax, depth, verdict}
use Rattle.cq_tree.specs.declared.statement.Statement.{Statement}
use Rattle.cq_catalog.specs.declared.info.TableInfo.{TableInfo}
use Rattle.cq_reading.specs.declared.error.BindError.{BindError}
use Rattle.cq_reading.specs.declared.error.BindError.TheVariants as binding
use Rattle.cq_reading.specs.Statements.{reading}
use Rattle.cq_answer.specs.declared.answer.Answer.{Answer}
use Rattle.cq_answer.specs.declared.answer.Answer.TheVariants as answer
use Rattle.cq_answer.specs.declared.fault.Fault.{Fault}
use Rattle.cq_answer.specs.declared.fault.Fault.TheVariants as fault
use Rattle.cq_answer.specs.Faults.{fault_of_lexing}
use Rattle.cq_reading.specs.declared.error.Limited.{Limited as BindLimit}
use Rattle.cq_reading.specs.declared.error.Limited.TheVariants as bind_limit
use Rattle.cq_reading.specs.Faults.{what_of_bind, fault_of_bind}
use Rattle.cq_statement.specs.Blocks.{may_be_in_block}
use Rattle.cq_statement.specs.Reading.{fault_of_complaint, of_verdict, of_tokens, tree_of, in_block, of_reading, of_tree, reading_of, reading_in_block}
use Rattle.cq_statement.specs.Finding.{Reads}
use Rattle.cq_history.specs.Faults.{NamesNoStore, is_limit_of_texts, IsOfReading}
use Rattle.cq_cluster.specs.Accounts.{NamesNone}
use Rattle.cq_coordinator.proofs.Naming.{none_named}
use Rattle.cq_copy.specs.declared.error.CopyError.{CopyError}
use Rattle.cq_copy.specs.declared.error.CopyError.TheVariants as copying
use Rattle.cq_copy.specs.Rows.{Row}
use Rattle.cq_copy.specs.Data.{rows_of}
use Rattle.cq_session.specs.Responses.{fault_of_copy, insertion, insertion_into, with_data, reading_for, reading_with}
use Rattle.cq_session.proofs.Copies.{by_cases}

lexing_named : (e : LexError) → IsOfReading (fault_of_lexing e)
unfolding fault_of_lexing
lexing_named (lexing.OpenQuote at) = refl
lexing_named (lexing.BadCharacter at) = refl
lexing_named (lexing.TooLarge at) = refl
lexing_named lexing.Memory = refl

complaint_named : (c : Complaint) → IsOfReading (fault_of_complaint c)
complaint_named (syntax at) = refl
complaint_named depth = refl

limit_named : (l : BindLimit) → is_limit_of_texts (what_of_bind l) ≡ true
unfolding what_of_bind
limit_named bind_limit.Relations = refl
limit_named bind_limit.Blocks = refl
limit_named bind_limit.Columns = refl
limit_named bind_limit.Outputs = refl
limit_named bind_limit.Keys = refl
limit_named bind_limit.Tables = refl

binding_named : (e : BindError) → IsOfReading (fault_of_bind e)
unfolding fault_of_bind
binding_named (binding.NameTaken name) = refl
binding_named (binding.UnknownTable name) = refl
binding_named (binding.UnknownColumn name) = refl
binding_named (binding.OutOfRange value least greatest) = refl
binding_named (binding.Unknown at) = refl
binding_named (binding.Ambiguous at) = refl
binding_named (binding.Type at) = refl
binding_named (binding.NotGrouped at) = refl
binding_named (binding.TooWide at) = refl
binding_named (binding.WrongCount at) = refl
binding_named (binding.Divisor at) = refl
binding_named (binding.KeyColumn at) = refl
binding_named (binding.Subquery at) = refl
binding_named (binding.LocalTable at) = refl
binding_named (binding.GroupedJoin at) = refl
binding_named (binding.Value row column) = refl
binding_named (binding.Limit limited number) = limit_named limited
binding_named binding.Memory = refl

-- what is refused, is for a fault of reading
abbrev FailsInReading : {A : Type 0} → Result A Fault → Type 0
FailsInReading r = IfErr r IsOfReading

reading_named : (r : Result Statement BindError) → FailsInReading (of_reading r)
reading_named (Ok s) = tt
reading_named (Err e) = binding_named e

verdict_named : (v : Result Ast Complaint) → FailsInReading (of_verdict v)
verdict_named (Ok a) = tt
verdict_named (Err c) = complaint_named c

tokens_named : (r : Result (List Token) LexError) (end : ℕ) → FailsInReading (of_tokens r end)
tokens_named (Ok ts) end = verdict_named (verdict ts end)
tokens_named (Err e) end = lexing_named e

text_named : (text : List ℕ) → FailsInReading (tree_of text)
unfolding tree_of
text_named text = tokens_named (tokens text) (length text)

allowed_named : (a : Ast) (may : Bool) → FailsInReading (if may then Ok a else Err fault.NotInBlock)
allowed_named a true = tt
allowed_named a false = refl

block_named : (tree : Result Ast Fault) → FailsInReading tree → FailsInReading (in_block tree)
block_named (Ok a) h = allowed_named a (may_be_in_block a)
block_named (Err f) h = h

tree_named : (tables : List TableInfo) (tree : Result Ast Fault) → FailsInReading tree → FailsInReading (of_tree tables tree)
tree_named tables (Ok a) h = reading_named (reading tables a)
tree_named tables (Err f) h = h

pub session_named : (session : ℕ) (text : List ℕ) (tables : List TableInfo) → FailsInReading (reading_for session text tables)
unfolding reading_of reading_in_block
session_named zero text tables = tree_named tables (tree_of text) (text_named text)
session_named (suc session) text tables = tree_named tables (in_block (tree_of text)) (block_named (tree_of text) (text_named text))

-- and so it is for a COPY's data

copy_named : (e : CopyError) → IsOfReading (fault_of_copy e)
copy_named (copying.Columns row found) = refl
copy_named (copying.BadValue row column) = refl
copy_named (copying.Encoding row) = refl
copy_named copying.Memory = refl

rows_named : (table : ℕ) (r : Result (List Row) CopyError) → FailsInReading (insertion table r)
rows_named table (Ok rows) = tt
rows_named table (Err e) = copy_named e

table_named : (o : Option TableInfo) (table : ℕ) (columns : List ℕ) (csv header : Bool) (bytes : List ℕ) → FailsInReading (insertion_into o table columns csv header bytes)
table_named None table columns csv header bytes = refl
table_named (Some t) table columns csv header bytes = rows_named table (rows_of bytes t columns csv header)

data_named : (bytes : List ℕ) (tables : List TableInfo) (read : Result Statement Fault) → FailsInReading read → FailsInReading (with_data bytes tables read)
data_named bytes tables = by_cases bytes tables (λ (r w : Result Statement Fault). FailsInReading r → FailsInReading w) (λ table columns csv header h. table_named (slice_get tables table) table columns csv header bytes) (λ r none h. h)

-- a text or its data is refused for a fault of reading
pub unread_is_of_reading : (f : Fault) (session : ℕ) (text bytes : List ℕ) (tables : List TableInfo) → Reads (reading_with session text bytes tables) (Err f) → IsOfReading f
unread_is_of_reading fault.Memory session text bytes tables reads = refl
unread_is_of_reading f session text bytes tables reads =
    subst (λ (r : Result Statement Fault). FailsInReading r) reads (data_named bytes tables (reading_for session text tables) (session_named session text tables))

pub reading_names_none : (f : Fault) → IsOfReading f → NamesNoStore f
reading_names_none (fault.Worker failure) is = absurd (cc is)
reading_names_none (fault.Retired failure) is = absurd (cc is)
reading_names_none f is = refl

-- so it names no store
pub unread_names_none : (f : Fault) (session : ℕ) (text bytes : List ℕ) (tables : List TableInfo) → Reads (reading_with session text bytes tables) (Err f) → NamesNoStore f
unread_names_none f session text bytes tables reads = reading_names_none f (unread_is_of_reading f session text bytes tables reads)

-- so does the answer to a text that isn't bound
pub unread_named : (a : Answer) (f : Fault) (session : ℕ) (text bytes : List ℕ) (tables : List TableInfo) → a ≡ answer.Failed f → Reads (reading_with session text bytes tables) (Err f) → NamesNone a
unread_named a f session text bytes tables is reads = none_named a f is (unread_names_none f session text bytes tables reads)
