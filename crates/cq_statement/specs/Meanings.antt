-- What the reading of a text means by the grammar alone, with no reader in it.
use Rattle.std.specs.Prelude.{◌≡◌, ◌⊎◌, ℕ, false, List, length, Result, Ok, Err}
use Rattle.cq_token.specs.declared.token.Token.{Token}
use Rattle.cq_token.specs.declared.error.LexError.TheVariants as lexing
use Rattle.cq_token.specs.Tokens.{tokens}
use Rattle.cq_tree.specs.declared.statement.Statement.{Statement}
use Rattle.cq_catalog.specs.declared.info.TableInfo.{TableInfo}
use Rattle.cq_grammar.specs.declared.statement.Ast.{Ast}
use Rattle.cq_grammar.specs.Statements.{max_depth, GoesDeep}
use Rattle.cq_grammar.specs.Verdicts.{Accepted, RefusedAt}
use Rattle.cq_reading.specs.declared.error.BindError.{BindError}
use Rattle.cq_reading.specs.Statements.{reading}
use Rattle.cq_answer.specs.declared.fault.What.TheVariants.{Depth}
use Rattle.cq_answer.specs.declared.fault.Fault.{Fault}
use Rattle.cq_answer.specs.declared.fault.Fault.TheVariants as fault
use Rattle.cq_reading.specs.Faults.{fault_of_bind}
use Rattle.cq_statement.specs.Blocks.{may_be_in_block}

-- the text's tokens spell a statement of the grammar that this is over the tables: a bound statement, or a refusal of the walk
pub record IsTree (text : List ℕ) (tables : List TableInfo) (is : Result Statement BindError) : Type 0 where
  pub found : List Token
  pub lexed : tokens text ≡ Ok found
  pub tree : Ast
  pub spelled : Accepted tree found
  pub reads : reading tables tree ≡ is

-- the walk over the text's tree refuses it for this
abbrev pub IsRefused : List ℕ → List TableInfo → Fault → Type 0
IsRefused text tables f = (e : BindError) × IsTree text tables (Err e) × (fault_of_bind e ≡ f)

-- the text's tokens spell no statement, and this is where they go wrong
pub record IsWrong (text : List ℕ) (at : ℕ) : Type 0 where
  pub found : List Token
  pub lexed : tokens text ≡ Ok found
  pub refused : RefusedAt found (length text) at

-- a token of the text is too deep
pub record IsDeep (text : List ℕ) (limit : ℕ) : Type 0 where
  pub found : List Token
  pub lexed : tokens text ≡ Ok found
  pub limits : limit ≡ max_depth
  pub place : ℕ
  pub deep : GoesDeep found place

-- the statement that the text is, or the cause of its fault
abbrev pub Means : List ℕ → List TableInfo → Result Statement Fault → Type 0
Means text tables (Ok s) = IsTree text tables (Ok s)
Means text tables (Err (fault.OpenQuote at)) = tokens text ≡ Err (lexing.OpenQuote at)
Means text tables (Err (fault.BadCharacter at)) = tokens text ≡ Err (lexing.BadCharacter at)
Means text tables (Err (fault.NumberTooLarge at)) = tokens text ≡ Err (lexing.TooLarge at)
Means text tables (Err (fault.Syntax at)) = IsWrong text at
Means text tables (Err (fault.Limit Depth limit)) = IsDeep text limit
Means text tables (Err f) = IsRefused text tables f

-- ---- in a parallel block

-- the text's tokens spell a statement of the grammar that may not stand in a block
pub record IsBarred (text : List ℕ) : Type 0 where
  pub found : List Token
  pub lexed : tokens text ≡ Ok found
  pub tree : Ast
  pub spelled : Accepted tree found
  pub barred : may_be_in_block tree ≡ false

-- a statement that may not stand in a block is refused there, and any other text means what it does outside
abbrev pub MeansInBlock : List ℕ → List TableInfo → Result Statement Fault → Type 0
MeansInBlock text tables r = (IsBarred text × (r ≡ Err fault.NotInBlock)) ⊎ ((IsBarred text → ⊥) × Means text tables r)
