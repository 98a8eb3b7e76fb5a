-- What a statement's text is read as over the tables that there are.
use Rattle.std.specs.Prelude.{ℕ, List, length, if◌then◌else◌, Result, Ok, Err}
use Rattle.cq_token.specs.declared.token.Token.{Token}
use Rattle.cq_token.specs.declared.error.LexError.{LexError}
use Rattle.cq_token.specs.Tokens.{tokens}
use Rattle.cq_tree.specs.declared.statement.Statement.{Statement}
use Rattle.cq_catalog.specs.declared.info.TableInfo.{TableInfo}
use Rattle.cq_grammar.specs.declared.statement.Ast.{Ast}
use Rattle.cq_grammar.specs.Statements.{max_depth}
use Rattle.cq_grammar.specs.Verdicts.{Complaint, syntax, depth, verdict}
use Rattle.cq_parse.specs.declared.error.ParseError.{ParseError}
use Rattle.cq_parse.specs.declared.error.ParseError.TheVariants as parsing
use Rattle.cq_reading.specs.declared.error.BindError.{BindError}
use Rattle.cq_reading.specs.Statements.{reading}
use Rattle.cq_answer.specs.declared.fault.What.TheVariants.{Depth}
use Rattle.cq_answer.specs.declared.fault.Fault.{Fault}
use Rattle.cq_answer.specs.declared.fault.Fault.TheVariants as fault
use Rattle.cq_answer.specs.Faults.{fault_of_lexing, what_of_parsing}
use Rattle.cq_reading.specs.Faults.{fault_of_bind}
use Rattle.cq_statement.specs.Blocks.{may_be_in_block}

-- the fault of tokens that are no statement
abbrev pub fault_of_complaint : Complaint → Fault
fault_of_complaint (syntax at) = fault.Syntax at
fault_of_complaint depth = fault.Limit Depth max_depth

-- the same of the parser's error
abbrev pub fault_of_parsing : ParseError → Fault
fault_of_parsing (parsing.Syntax at) = fault.Syntax at
fault_of_parsing (parsing.Limit limit number) = fault.Limit (what_of_parsing limit) number
fault_of_parsing parsing.Memory = fault.Memory

-- ---- the tree of a text

-- by the grammar's verdict
abbrev pub of_verdict : Result Ast Complaint → Result Ast Fault
of_verdict (Ok a) = Ok a
of_verdict (Err c) = Err (fault_of_complaint c)

-- by the tokens of a text that ends at `end`
abbrev pub of_tokens : Result (List Token) LexError → ℕ → Result Ast Fault
of_tokens (Ok ts) end = of_verdict (verdict ts end)
of_tokens (Err e) end = Err (fault_of_lexing e)

-- the tree that a text spells, or why it spells none: first what its bytes show, and then what its tokens do
unfoldable pub tree_of : List ℕ → Result Ast Fault
tree_of text = of_tokens (tokens text) (length text)

-- a tree where it may stand in a block
abbrev pub in_block : Result Ast Fault → Result Ast Fault
in_block (Ok a) = if may_be_in_block a then Ok a else Err fault.NotInBlock
in_block (Err f) = Err f

-- ---- what it stands for

-- by what the walk over the tree gives
abbrev pub of_reading : Result Statement BindError → Result Statement Fault
of_reading (Ok s) = Ok s
of_reading (Err e) = Err (fault_of_bind e)

-- by the tree
abbrev pub of_tree : List TableInfo → Result Ast Fault → Result Statement Fault
of_tree tables (Ok a) = of_reading (reading tables a)
of_tree tables (Err f) = Err f

-- The bound statement that a text stands for, or why it is refused: first what the text shows, and then what its tree does over the
-- tables.
unfoldable pub reading_of : List ℕ → List TableInfo → Result Statement Fault
reading_of text tables = of_tree tables (tree_of text)

-- The same in a block, where a statement that may not stand there is refused behind its text, before the tables are asked.
unfoldable pub reading_in_block : List ℕ → List TableInfo → Result Statement Fault
reading_in_block text tables = of_tree tables (in_block (tree_of text))
