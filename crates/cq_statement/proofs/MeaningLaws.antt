-- The reading of a text is what the grammar makes of it.
use Rattle.std.proofs.Common.{◌≡◌, ◌⊎◌, inl, inr, ℕ, List, length, Result, Ok, Err, refl, sym, ◌∙◌, ap, subst}
use Rattle.cq_value.proofs.Truths.{two_ways}
use Rattle.cq_token.specs.declared.token.Token.{Token}
use Rattle.cq_token.specs.declared.error.LexError.{LexError}
use Rattle.cq_token.specs.declared.error.LexError.TheVariants as lexing
use Rattle.cq_token.specs.Tokens.{tokens}
use Rattle.cq_tree.specs.declared.statement.Statement.{Statement}
use Rattle.cq_catalog.specs.declared.info.TableInfo.{TableInfo}
use Rattle.cq_grammar.specs.declared.statement.Ast.{Ast}
use Rattle.cq_grammar.specs.Verdicts.{Complaint, syntax, depth, Accepted, verdict}
use Rattle.cq_grammar.proofs.Whole.{accepted, accepts, refused, deep as too_deep}
use Rattle.cq_grammar.proofs.Alone.{refuses, deepens}
use Rattle.cq_reading.specs.declared.error.BindError.{BindError}
use Rattle.cq_reading.specs.declared.error.BindError.TheVariants as binding
use Rattle.cq_reading.specs.declared.error.Limited.TheVariants as limited
use Rattle.cq_reading.specs.Statements.{reading}
use Rattle.cq_answer.specs.declared.fault.What.TheVariants.{Depth}
use Rattle.cq_answer.specs.declared.fault.Fault.{Fault}
use Rattle.cq_answer.specs.declared.fault.Fault.TheVariants as fault
use Rattle.cq_answer.specs.Faults.{fault_of_lexing}
use Rattle.cq_reading.specs.Faults.{what_of_bind, fault_of_bind}
use Rattle.cq_statement.specs.Blocks.{may_be_in_block}
use Rattle.cq_statement.specs.Meanings.{IsTree, IsRefused, Means, IsBarred, MeansInBlock}
use Rattle.cq_statement.specs.Reading.{fault_of_complaint, of_verdict, of_tokens, tree_of, in_block, of_reading, of_tree, reading_of, reading_in_block}
use Rattle.cq_statement.proofs.LexingLaws.{never_memory}
use Rattle.cq_statement.proofs.ParsingLaws.{parsed_ok}

refusal_means : (text : List ℕ) (tables : List TableInfo) (e : BindError) → IsTree text tables (Err e) → Means text tables (Err (fault_of_bind e))
unfolding fault_of_bind what_of_bind
refusal_means text tables (binding.NameTaken name) t = (binding.NameTaken name, t, refl)
refusal_means text tables (binding.UnknownTable name) t = (binding.UnknownTable name, t, refl)
refusal_means text tables (binding.UnknownColumn name) t = (binding.UnknownColumn name, t, refl)
refusal_means text tables (binding.OutOfRange value least greatest) t = (binding.OutOfRange value least greatest, t, refl)
refusal_means text tables (binding.Unknown at) t = (binding.Unknown at, t, refl)
refusal_means text tables (binding.Ambiguous at) t = (binding.Ambiguous at, t, refl)
refusal_means text tables (binding.Type at) t = (binding.Type at, t, refl)
refusal_means text tables (binding.NotGrouped at) t = (binding.NotGrouped at, t, refl)
refusal_means text tables (binding.TooWide at) t = (binding.TooWide at, t, refl)
refusal_means text tables (binding.WrongCount at) t = (binding.WrongCount at, t, refl)
refusal_means text tables (binding.Divisor at) t = (binding.Divisor at, t, refl)
refusal_means text tables (binding.KeyColumn at) t = (binding.KeyColumn at, t, refl)
refusal_means text tables (binding.Subquery at) t = (binding.Subquery at, t, refl)
refusal_means text tables (binding.LocalTable at) t = (binding.LocalTable at, t, refl)
refusal_means text tables (binding.GroupedJoin at) t = (binding.GroupedJoin at, t, refl)
refusal_means text tables (binding.Value row column) t = (binding.Value row column, t, refl)
refusal_means text tables (binding.Limit limited.Relations number) t = (binding.Limit limited.Relations number, t, refl)
refusal_means text tables (binding.Limit limited.Blocks number) t = (binding.Limit limited.Blocks number, t, refl)
refusal_means text tables (binding.Limit limited.Columns number) t = (binding.Limit limited.Columns number, t, refl)
refusal_means text tables (binding.Limit limited.Outputs number) t = (binding.Limit limited.Outputs number, t, refl)
refusal_means text tables (binding.Limit limited.Keys number) t = (binding.Limit limited.Keys number, t, refl)
refusal_means text tables (binding.Limit limited.Tables number) t = (binding.Limit limited.Tables number, t, refl)
refusal_means text tables binding.Memory t = (binding.Memory, t, refl)

reading_of_tree : (text : List ℕ) (tables : List TableInfo) (r : Result Statement BindError) → IsTree text tables r → Means text tables (of_reading r)
reading_of_tree text tables (Ok s) t = t
reading_of_tree text tables (Err e) t = refusal_means text tables e t

tree_means : (text : List ℕ) (tables : List TableInfo) (ts : List Token) → tokens text ≡ Ok ts → (v : Result Ast Complaint) → verdict ts (length text) ≡ v → Means text tables (of_tree tables (of_verdict v))
tree_means text tables ts lexed (Ok a) is = reading_of_tree text tables (reading tables a) (record { found = ts; lexed = lexed; tree = a; spelled = accepted ts (length text) a is; reads = refl })
tree_means text tables ts lexed (Err (syntax at)) is = record { found = ts; lexed = lexed; refused = refused ts (length text) at is }
tree_means text tables ts lexed (Err depth) is = let d = too_deep ts (length text) is in record { found = ts; lexed = lexed; limits = refl; place = d.0; deep = d.1 }

tokens_mean : (text : List ℕ) (tables : List TableInfo) (ts : Result (List Token) LexError) → tokens text ≡ ts → Means text tables (of_tree tables (of_tokens ts (length text)))
unfolding fault_of_lexing
tokens_mean text tables (Ok ts) lexed = tree_means text tables ts lexed (verdict ts (length text)) refl
tokens_mean text tables (Err (lexing.OpenQuote at)) lexed = lexed
tokens_mean text tables (Err (lexing.BadCharacter at)) lexed = lexed
tokens_mean text tables (Err (lexing.TooLarge at)) lexed = lexed
tokens_mean text tables (Err lexing.Memory) lexed = absurd (never_memory text lexed)

pub reading_means : (text : List ℕ) (tables : List TableInfo) → Means text tables (reading_of text tables)
unfolding reading_of tree_of
reading_means text tables = tokens_mean text tables (tokens text) refl

-- ---- a text means one thing

abbrev faulty : Fault → Result Statement Fault
faulty f = Err f

spelled_once : (text : List ℕ) (ts : List Token) (a : Ast) → tokens text ≡ Ok ts → Accepted a ts → tree_of text ≡ Ok a
spelled_once text ts a lexed spelled = parsed_ok text ts a lexed (accepts ts (length text) a spelled)

tree_reads : (text : List ℕ) (tables : List TableInfo) (r : Result Statement BindError) → IsTree text tables r → reading_of text tables ≡ of_reading r
unfolding reading_of
tree_reads text tables r t = ap (of_tree tables) (spelled_once text t.found t.tree t.lexed t.spelled) ∙ ap of_reading t.reads

complaint_reads : (text : List ℕ) (tables : List TableInfo) (ts : List Token) (c : Complaint) → tokens text ≡ Ok ts → verdict ts (length text) ≡ Err c → reading_of text tables ≡ Err (fault_of_complaint c)
unfolding reading_of tree_of
complaint_reads text tables ts c lexed is = ap (λ f. of_tree tables (of_tokens f (length text))) lexed ∙ ap (λ v. of_tree tables (of_verdict v)) is

unlexed_reads : (text : List ℕ) (tables : List TableInfo) (e : LexError) → tokens text ≡ Err e → reading_of text tables ≡ Err (fault_of_lexing e)
unfolding reading_of tree_of
unlexed_reads text tables e is = ap (λ f. of_tree tables (of_tokens f (length text))) is

refusal_reads : (text : List ℕ) (tables : List TableInfo) (f : Fault) → IsRefused text tables f → reading_of text tables ≡ faulty f
refusal_reads text tables f r = tree_reads text tables (Err r.0) r.1 ∙ ap faulty r.2

-- What a text means is its reading, and nothing else.
pub means_one : (text : List ℕ) (tables : List TableInfo) (r : Result Statement Fault) → Means text tables r → reading_of text tables ≡ r
unfolding fault_of_lexing
means_one text tables (Ok s) m = tree_reads text tables (Ok s) m
means_one text tables (Err (fault.OpenQuote at)) m = unlexed_reads text tables (lexing.OpenQuote at) m
means_one text tables (Err (fault.BadCharacter at)) m = unlexed_reads text tables (lexing.BadCharacter at) m
means_one text tables (Err (fault.NumberTooLarge at)) m = unlexed_reads text tables (lexing.TooLarge at) m
means_one text tables (Err (fault.Syntax at)) m = complaint_reads text tables m.found (syntax at) m.lexed (refuses m.found (length text) at m.refused)
means_one text tables (Err (fault.Limit Depth limit)) m =
    complaint_reads text tables m.found depth m.lexed (deepens m.found (length text) m.place m.deep) ∙ ap (λ n. faulty (fault.Limit Depth n)) (sym m.limits)
means_one text tables (Err f) m = refusal_reads text tables f m

-- ---- in a parallel block

-- a tree of a text is spelled by the text's tokens
spelled_by : (text : List ℕ) (a : Ast) → tree_of text ≡ Ok a → (ts : List Token) × (tokens text ≡ Ok ts) × Accepted a ts
unfolding tree_of
spelled_by text a is = by_tokens (tokens text) refl is
  where
    by_verdict : (ts : List Token) (v : Result Ast Complaint) → verdict ts (length text) ≡ v → of_verdict v ≡ Ok a → Accepted a ts
    by_verdict ts (Ok b) given is = accepted ts (length text) a (given ∙ cc is)
    by_verdict ts (Err c) given is = absurd (cc is)

    by_tokens : (found : Result (List Token) LexError) → tokens text ≡ found → of_tokens found (length text) ≡ Ok a → (ts : List Token) × (tokens text ≡ Ok ts) × Accepted a ts
    by_tokens (Ok ts) lexed is = (ts, lexed, by_verdict ts (verdict ts (length text)) refl is)
    by_tokens (Err e) lexed is = absurd (cc is)

same_tree : (a b : Ast) → Path (Result Ast Fault) (Ok a) (Ok b) → a ≡ b
same_tree a b e = cc

-- a text is barred from a block, or it has its tree there
abbrev IsJudged : List ℕ → Result Ast Fault → Type 0
IsJudged text tree = (IsBarred text × (in_block tree ≡ Err fault.NotInBlock)) ⊎ ((IsBarred text → ⊥) × (in_block tree ≡ tree))

judged : (text : List ℕ) (tree : Result Ast Fault) → tree_of text ≡ tree → IsJudged text tree
judged text (Err f) is = inr (λ b. absurd (cc (spelled_once text b.found b.tree b.lexed b.spelled, is)), refl)
judged text (Ok a) is = elim (two_ways (may_be_in_block a)) [
  | inl may ↦
      inr (λ b. let same = same_tree a b.tree (sym is ∙ spelled_once text b.found b.tree b.lexed b.spelled) in absurd (cc (may, b.barred, ap may_be_in_block same)), rw may refl)
  | inr not ↦ (let s = spelled_by text a is in inl (record { found = s.0; lexed = s.1; tree = a; spelled = s.2; barred = not }, rw not refl))
]

pub block_means : (text : List ℕ) (tables : List TableInfo) → MeansInBlock text tables (reading_in_block text tables)
unfolding reading_in_block reading_of
block_means text tables = elim (judged text (tree_of text) refl) [
  | inl x ↦ inl (x.0, ap (of_tree tables) x.1)
  | inr y ↦ inr (y.0, subst (λ (t : Result Ast Fault). Means text tables (of_tree tables t)) (sym y.1) (reading_means text tables))
]

-- What a text means in a block is its reading there, and nothing else.
pub block_means_one : (text : List ℕ) (tables : List TableInfo) (r : Result Statement Fault) → MeansInBlock text tables r → reading_in_block text tables ≡ r
unfolding reading_in_block reading_of
block_means_one text tables r (inl m) = elim (judged text (tree_of text) refl) [
  | inl x ↦ ap (of_tree tables) x.1 ∙ sym m.1
  | inr y ↦ absurd (y.0 m.0)
]
block_means_one text tables r (inr m) = elim (judged text (tree_of text) refl) [
  | inl x ↦ absurd (m.0 x.0)
  | inr y ↦ ap (of_tree tables) y.1 ∙ means_one text tables r m.1
]
