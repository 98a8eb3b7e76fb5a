-- What a whole text is: a statement, or why and where it is none.
use Rattle.std.specs.Prelude.{◌≡◌, ◌⊎◌, ◌≤◌, ℕ, ◌-◌, List, [], ◌∷◌, length, take, drop, Option, Some, None, Result, Ok, Err}
use Rattle.cq_token.specs.declared.token.Token.{Token}
use Rattle.cq_grammar.specs.declared.statement.Ast.{Ast}
use Rattle.cq_grammar.specs.Statements.{Written, Shallow, BeginsOne, GoesWrong}
use Rattle.cq_grammar.specs.Conditions.{misplaced, miscalled}
use Rattle.cq_grammar.specs.Read.{Fault, bad, deep}
use Rattle.cq_grammar.specs.Reading.{written}

-- the tokens spell this statement, within the limit of depth and with each word and argument in its place
pub record Accepted (a : Ast) (ts : List Token) : Type 0 where
  pub shallow : Shallow a ts
  pub placed : misplaced ts ≡ None
  pub called : miscalled a ≡ None

-- the place of the first token, or that of the text's end
abbrev pub place : List Token → ℕ → ℕ
place [] end = end
place (t ∷ ts) end = t.start

-- here stands the first token that, with those before it, begins no statement, or the text's end; none of those before is too deep
pub record WrongAt (ts : List Token) (end at : ℕ) : Type 0 where
  pub before : ℕ
  pub wrong : GoesWrong ts before
  pub placed : misplaced (take before ts) ≡ None
  pub here : at ≡ place (drop before ts) end

-- the first tokens begin a statement, but have a word that may not stand here
pub record MisplacedAt (ts : List Token) (at : ℕ) : Type 0 where
  pub before : ℕ
  pub inside : before ≤ length ts
  pub fits : BeginsOne Written (take before ts)
  pub here : misplaced (take before ts) ≡ Some at

-- the tokens spell a call, whose name stands here, with arguments that it doesn't take
pub record MiscalledAt (ts : List Token) (at : ℕ) : Type 0 where
  pub statement : Ast
  pub spelled : Written statement ts
  pub placed : misplaced ts ≡ None
  pub here : miscalled statement ≡ Some at

-- where the text is refused
abbrev pub RefusedAt : List Token → ℕ → ℕ → Type 0
RefusedAt ts end at = WrongAt ts end at ⊎ (MisplacedAt ts at ⊎ MiscalledAt ts at)

-- ---- the same by the reader

pub data Complaint : Type 0 where
  syntax : ℕ → Complaint
  depth : Complaint

-- the tokens that the reader left
abbrev pub left_of : Result Ast Fault → List Token
left_of (Ok a) = []
left_of (Err (bad r)) = r
left_of (Err (deep r)) = r

abbrev pub called : Ast → Option ℕ → Result Ast Complaint
called a None = Ok a
called a (Some at) = Err (syntax at)

abbrev pub by_grammar : Result Ast Fault → ℕ → Result Ast Complaint
by_grammar (Ok a) end = called a (miscalled a)
by_grammar (Err (bad r)) end = Err (syntax (place r end))
by_grammar (Err (deep r)) end = Err depth

abbrev pub unless_misplaced : Option ℕ → Result Ast Complaint → Result Ast Complaint
unless_misplaced None verdict = verdict
unless_misplaced (Some at) verdict = Err (syntax at)

-- a misplaced word among the tokens that were read goes first
abbrev pub judged : Result Ast Fault → List Token → ℕ → Result Ast Complaint
judged read ts end = unless_misplaced (misplaced (take (length ts - length (left_of read)) ts)) (by_grammar read end)

-- the statement that the tokens spell, or why they spell none; the text ends at `end`
unfoldable pub verdict : List Token → ℕ → Result Ast Complaint
verdict ts end = judged (written ts) ts end
