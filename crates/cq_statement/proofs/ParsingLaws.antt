-- What the lexer's, the parser's and the binder's answers make of a reading.
use Rattle.std.proofs.Common.{◌≡◌, ◌∙◌, ℕ, true, false, List, length, ap, sym, subst, Result, Ok, Err, refl}
use Rattle.cq_token.specs.declared.token.Token.{Token}
use Rattle.cq_token.specs.declared.error.LexError.{LexError}
use Rattle.cq_token.specs.declared.error.LexError.TheVariants as lexing
use Rattle.cq_token.specs.Tokens.{tokens, Gives as Lexes}
use Rattle.cq_tree.specs.declared.statement.Statement.{Statement}
use Rattle.cq_tree.specs.declared.limit.What.{What}
use Rattle.cq_tree.specs.declared.limit.What.TheVariants as limits
use Rattle.cq_catalog.specs.declared.info.TableInfo.{TableInfo}
use Rattle.cq_grammar.specs.declared.statement.Ast.{Ast}
use Rattle.cq_grammar.specs.Statements.{max_depth}
use Rattle.cq_grammar.specs.Verdicts.{verdict}
use Rattle.cq_parse.specs.declared.error.ParseError.{ParseError}
use Rattle.cq_parse.specs.declared.error.ParseError.TheVariants as parsing
use Rattle.cq_parse.specs.Outcomes.{Gives}
use Rattle.cq_reading.specs.declared.error.BindError.{BindError}
use Rattle.cq_reading.specs.declared.error.BindError.TheVariants as binding
use Rattle.cq_reading.specs.Outcomes.{Gives as Binds}
use Rattle.cq_reading.specs.Statements.{reading}
use Rattle.cq_answer.specs.declared.fault.What.TheVariants.{Depth}
use Rattle.cq_answer.specs.declared.fault.Fault.{Fault}
use Rattle.cq_answer.specs.declared.fault.Fault.TheVariants as fault
use Rattle.cq_answer.specs.Faults.{fault_of_lexing, what_of_parsing}
use Rattle.cq_reading.specs.Faults.{fault_of_bind}
use Rattle.cq_statement.specs.Finding.{Reads}
use Rattle.cq_statement.specs.Blocks.{may_be_in_block}
use Rattle.cq_statement.specs.Reading.{fault_of_parsing, of_verdict, of_tokens, tree_of, in_block, of_reading, of_tree, reading_of, reading_in_block}

abbrev refused : Fault → Result Ast Fault
refused f = Err f

-- a text without tokens
pub lexed_err : (text : List ℕ) (e : LexError) → Lexes (Err e) (tokens text) → Reads (tree_of text) (Err (fault_of_lexing e))
unfolding tree_of fault_of_lexing
lexed_err text (lexing.OpenQuote at) g = ap (λ ts. of_tokens ts (length text)) (g (λ e. cc))
lexed_err text (lexing.BadCharacter at) g = ap (λ ts. of_tokens ts (length text)) (g (λ e. cc))
lexed_err text (lexing.TooLarge at) g = ap (λ ts. of_tokens ts (length text)) (g (λ e. cc))
lexed_err text lexing.Memory g = tt

same_limit : (limit : What) (number : ℕ) → limit ≡ limits.Depth → number ≡ max_depth → refused (fault.Limit Depth max_depth) ≡ refused (fault.Limit (what_of_parsing limit) number)
unfolding what_of_parsing
same_limit limit number w n = sym (rw (w, n) refl)

-- a text whose tokens are no statement
pub parsed_err : (text : List ℕ) (ts : List Token) (e : ParseError) → tokens text ≡ Ok ts → Gives (verdict ts (length text)) (Err e) → Reads (tree_of text) (Err (fault_of_parsing e))
unfolding tree_of
parsed_err text ts (parsing.Syntax at) lexed g = ap (λ f. of_tokens f (length text)) lexed ∙ ap of_verdict g
parsed_err text ts (parsing.Limit limit number) lexed g = ap (λ f. of_tokens f (length text)) lexed ∙ ap of_verdict g.0 ∙ same_limit limit number g.1 g.2
parsed_err text ts parsing.Memory lexed g = tt

-- and one whose tokens are one
pub parsed_ok : (text : List ℕ) (ts : List Token) (a : Ast) → tokens text ≡ Ok ts → verdict ts (length text) ≡ Ok a → tree_of text ≡ Ok a
unfolding tree_of
parsed_ok text ts a lexed g = ap (λ f. of_tokens f (length text)) lexed ∙ ap of_verdict g

-- a tree in a block
pub stands : (tree : Result Ast Fault) (a : Ast) → tree ≡ Ok a → may_be_in_block a ≡ true → in_block tree ≡ Ok a
stands tree a is may = ap in_block is ∙ rw may refl

pub is_barred : (tree : Result Ast Fault) (a : Ast) → tree ≡ Ok a → may_be_in_block a ≡ false → in_block tree ≡ Err fault.NotInBlock
is_barred tree a is not = ap in_block is ∙ rw not refl

pub unspelled_in_block : (tree : Result Ast Fault) (f : Fault) → Reads tree (Err f) → Reads (in_block tree) (Err f)
unspelled_in_block tree fault.Memory h = tt
unspelled_in_block tree f h = ap in_block h

-- a text without a tree is refused for that
unspelled : (tables : List TableInfo) (tree : Result Ast Fault) (f : Fault) → Reads tree (Err f) → Reads (of_tree tables tree) (Err f)
unspelled tables tree fault.Memory h = tt
unspelled tables tree f h = ap (of_tree tables) h

pub unread : (text : List ℕ) (tables : List TableInfo) (f : Fault) → Reads (tree_of text) (Err f) → Reads (reading_of text tables) (Err f)
unfolding reading_of
unread text tables f h = unspelled tables (tree_of text) f h

pub unread_in_block : (text : List ℕ) (tables : List TableInfo) (f : Fault) → Reads (in_block (tree_of text)) (Err f) → Reads (reading_in_block text tables) (Err f)
unfolding reading_in_block
unread_in_block text tables f h = unspelled tables (in_block (tree_of text)) f h

-- and one with a tree stands for what that does
spelled : (tables : List TableInfo) (tree : Result Ast Fault) (a : Ast) (r : Result Statement Fault) → tree ≡ Ok a → Reads (of_reading (reading tables a)) r → Reads (of_tree tables tree) r
spelled tables tree a r is h = subst (λ (t : Result Ast Fault). Reads (of_tree tables t) r) (sym is) h

pub read_by : (text : List ℕ) (tables : List TableInfo) (a : Ast) (r : Result Statement Fault) → tree_of text ≡ Ok a → Reads (of_reading (reading tables a)) r → Reads (reading_of text tables) r
unfolding reading_of
read_by text tables a r is h = spelled tables (tree_of text) a r is h

pub read_by_in_block : (text : List ℕ) (tables : List TableInfo) (a : Ast) (r : Result Statement Fault) → in_block (tree_of text) ≡ Ok a → Reads (of_reading (reading tables a)) r → Reads (reading_in_block text tables) r
unfolding reading_in_block
read_by_in_block text tables a r is h = spelled tables (in_block (tree_of text)) a r is h

-- a tree that is refused
pub bound_err : (r : Result Statement BindError) (e : BindError) → Binds r (Err e) → Reads (of_reading r) (Err (fault_of_bind e))
unfolding fault_of_bind
bound_err r (binding.NameTaken name) g = ap of_reading (g (λ e. cc))
bound_err r (binding.UnknownTable name) g = ap of_reading (g (λ e. cc))
bound_err r (binding.UnknownColumn name) g = ap of_reading (g (λ e. cc))
bound_err r (binding.OutOfRange value least greatest) g = ap of_reading (g (λ e. cc))
bound_err r (binding.Unknown at) g = ap of_reading (g (λ e. cc))
bound_err r (binding.Ambiguous at) g = ap of_reading (g (λ e. cc))
bound_err r (binding.Type at) g = ap of_reading (g (λ e. cc))
bound_err r (binding.NotGrouped at) g = ap of_reading (g (λ e. cc))
bound_err r (binding.TooWide at) g = ap of_reading (g (λ e. cc))
bound_err r (binding.WrongCount at) g = ap of_reading (g (λ e. cc))
bound_err r (binding.Divisor at) g = ap of_reading (g (λ e. cc))
bound_err r (binding.KeyColumn at) g = ap of_reading (g (λ e. cc))
bound_err r (binding.Subquery at) g = ap of_reading (g (λ e. cc))
bound_err r (binding.LocalTable at) g = ap of_reading (g (λ e. cc))
bound_err r (binding.GroupedJoin at) g = ap of_reading (g (λ e. cc))
bound_err r (binding.Value row column) g = ap of_reading (g (λ e. cc))
bound_err r (binding.Limit limited number) g = ap of_reading (g (λ e. cc))
bound_err r binding.Memory g = tt
