-- What the rules of expressions keep, where what may stand deeper does.
use Rattle.std.proofs.Common.{◌≡◌, ℕ, ◌+◌, List, [], ◌∷◌, ◌++◌, codes, map, true, false, inl, inr, Option, Some, None, is_some, refl, sym, ◌∙◌, ap, subst, rules}
use Rattle.std.proofs.lemmas.List.{append-nil}
use Rattle.cq_token.specs.declared.token.Token.{Token}
use Rattle.cq_token.specs.declared.token.TokenKind.TheVariants as token
use Rattle.cq_token.specs.declared.sign.Sign.TheVariants as s
use Rattle.cq_grammar.specs.Types.{Kind, Name, Expr, Test-F, Chained, Added, Multiplied, NullTest, Select}
use Rattle.cq_grammar.specs.declared.kind.Kind.TheVariants as k
use Rattle.cq_grammar.specs.declared.expr.Expr.TheVariants as e
use Rattle.cq_grammar.specs.declared.expr.Aggregate.TheVariants as aggregates
use Rattle.cq_grammar.specs.declared.expr.Test.{Test, out-Test, the_lemmas}
use Rattle.cq_grammar.specs.declared.expr.Test.TheVariants as tests
use Rattle.cq_grammar.specs.Words.{of, same_kind}
use Rattle.cq_grammar.specs.Lang.{Lang}
use Rattle.cq_grammar.specs.Terminals.{The}
use Rattle.cq_grammar.specs.Grammar as g
use Rattle.cq_grammar.specs.declared.rule.Rule.TheVariants.{Or as or_, And as and_, Not as not_, Term as term_, Unary as unary_}
use Rattle.cq_grammar.specs.Grammar.{Deeper, expr, select, Tree, digits}
use Rattle.cq_grammar.specs.Nodes as node
use Rattle.cq_grammar.specs.Spelling.{
  Kinds,
  word,
  sign,
  named,
  if_written,
  if_some_behind,
  in_a_row,
  each_behind,
  commas,
  add_sign,
  multiply_sign,
  comparison_sign,
  aggregate_word,
  null_test_spelling,
  expr_spelling,
  test_spelling,
  added_spelling,
  arm_spelling,
  chained_spelling,
  multiplied_spelling,
  select_spelling,
}
use Rattle.cq_grammar.specs.Bare.{
  Layer,
  bare_name,
  bare_null_test,
  if_any,
  bare_expr,
  bare_test,
  bare_added,
  bare_arm,
  bare_chained,
  bare_multiplied,
  bare_select,
}
use Rattle.cq_grammar.proofs.Spelled.{
  spelled-Or,
  spelled-And,
  spelled-Not,
  spelled-Is,
  spelled-Compare,
  spelled-Tested,
  spelled-Sum,
  spelled-Product,
  spelled-Signed,
  spelled-Number,
  spelled-Quoted,
  spelled-Null,
  spelled-Column,
  spelled-ColumnOf,
  spelled-Group,
  spelled-Case,
  spelled-Coalesce,
  spelled-CountAll,
  spelled-Aggregate,
  spelled-InSelect,
  spelled-InList,
  spelled-Between,
  spelled-Chained,
  spelled-Added,
  spelled-Multiplied,
  spelled-Arm,
}
use Rattle.cq_grammar.proofs.Bared.{
  bare-Or,
  bare-And,
  bare-Not,
  bare-Is,
  bare-Compare,
  bare-Tested,
  bare-Sum,
  bare-Product,
  bare-Signed,
  bare-Number,
  bare-Quoted,
  bare-Null,
  bare-Column,
  bare-ColumnOf,
  bare-Group,
  bare-Case,
  bare-Coalesce,
  bare-CountAll,
  bare-Aggregate,
  bare-InSelect,
  bare-InList,
  bare-Between,
  bare-Chained,
  bare-Added,
  bare-Multiplied,
  bare-Arm,
}
use Rattle.cq_grammar.proofs.Letters.{says_word, says_sign}
use Rattle.cq_grammar.proofs.Terms.{the_word, the_sign, some_keeps, a_name_keeps, a_column_name_keeps, number_keeps, quoted_keeps}
use Rattle.cq_grammar.proofs.Keeping.{
  Keeps,
  made_keeps,
  made_of_phrases,
  both_keeps,
  either_keeps,
  optional_keeps,
  many_keeps,
  behind_keeps,
  several_keeps,
  commas_keep,
  each_is,
  if_known,
}

abbrev pub KeepsThe : Kind → Kinds → Type 0
KeepsThe i said = Keeps (λ at. said) (λ at. 0) (The i)

pub comma : KeepsThe k.Comma (sign s.Comma)
comma = the_sign s.Comma

pub opening : KeepsThe k.Open (sign s.Open)
opening = the_sign s.Open

pub closing : KeepsThe k.Close (sign s.Close)
closing = the_sign s.Close

pub dot : KeepsThe k.Dot (sign s.Dot)
dot = the_sign s.Dot

pub star : KeepsThe k.Star (sign s.Star)
star = the_sign s.Star

pub null : KeepsThe k.Null (word (codes "null"))
unfolding of same_kind
null = the_word k.Null (codes "null") refl refl refl refl

when : KeepsThe k.When (word (codes "when"))
unfolding of same_kind
when = the_word k.When (codes "when") refl refl refl refl

then_ : KeepsThe k.Then (word (codes "then"))
unfolding of same_kind
then_ = the_word k.Then (codes "then") refl refl refl refl

else_ : KeepsThe k.Else (word (codes "else"))
unfolding of same_kind
else_ = the_word k.Else (codes "else") refl refl refl refl

case_ : KeepsThe k.Case (word (codes "case"))
unfolding of same_kind
case_ = the_word k.Case (codes "case") refl refl refl refl

end : KeepsThe k.End (word (codes "end"))
unfolding of same_kind
end = the_word k.End (codes "end") refl refl refl refl

coalesce_ : KeepsThe k.Coalesce (word (codes "coalesce"))
unfolding of same_kind
coalesce_ = the_word k.Coalesce (codes "coalesce") refl refl refl refl

count_ : KeepsThe k.Count (word (codes "count"))
unfolding of same_kind
count_ = the_word k.Count (codes "count") refl refl refl refl

pub not : KeepsThe k.Not (word (codes "not"))
unfolding of same_kind
not = the_word k.Not (codes "not") refl refl refl refl

in_ : KeepsThe k.In (word (codes "in"))
unfolding of same_kind
in_ = the_word k.In (codes "in") refl refl refl refl

between : KeepsThe k.Between (word (codes "between"))
unfolding of same_kind
between = the_word k.Between (codes "between") refl refl refl refl

and : KeepsThe k.And (word (codes "and"))
unfolding of same_kind
and = the_word k.And (codes "and") refl refl refl refl

or : KeepsThe k.Or (word (codes "or"))
unfolding of same_kind
or = the_word k.Or (codes "or") refl refl refl refl

is_ : KeepsThe k.Is (word (codes "is"))
unfolding of same_kind
is_ = the_word k.Is (codes "is") refl refl refl refl

add_signs : Keeps (λ c. sign (add_sign (node.add_operator c.0))) (λ c. (c.0, 0)) (Rattle.cq_grammar.specs.Terminals.Some-of node.add_signs)
add_signs = some_keeps node.add_signs (λ i. token.Sign (add_sign (node.add_operator i))) (says_sign s.Plus, (says_sign s.Minus, tt))

multiply_signs : Keeps (λ c. sign (multiply_sign (node.multiply_operator c.0))) (λ c. (c.0, 0)) (Rattle.cq_grammar.specs.Terminals.Some-of node.multiply_signs)
multiply_signs = some_keeps node.multiply_signs (λ i. token.Sign (multiply_sign (node.multiply_operator i))) (says_sign s.Star, (says_sign s.Slash, (says_sign s.Percent, tt)))

comparison_signs : Keeps (λ c. sign (comparison_sign (node.comparison_operator c.0))) (λ c. (c.0, 0)) (Rattle.cq_grammar.specs.Terminals.Some-of node.comparison_signs)
comparison_signs =
    some_keeps node.comparison_signs (λ i. token.Sign (comparison_sign (node.comparison_operator i)))
    (says_sign s.Equal, (says_sign s.NotEqual, (says_sign s.Less, (says_sign s.LessOrEqual, (says_sign s.Greater, (says_sign s.GreaterOrEqual, tt))))))

aggregate_words : Keeps (λ c. word (aggregate_word (node.aggregate_function c.0))) (λ c. (c.0, 0)) (Rattle.cq_grammar.specs.Terminals.Some-of node.aggregate_words)
unfolding of same_kind
aggregate_words =
    some_keeps node.aggregate_words (λ i. token.Name (aggregate_word (node.aggregate_function i)))
    (says_word k.Sum (codes "sum") refl refl refl refl, (says_word k.Min (codes "min") refl refl refl refl, (says_word k.Max (codes "max") refl refl refl refl, tt)))

-- ---- nodes

-- a word that may be left out is there, or not
pub written_known : {A : Type 0} (w : Kinds) (o : Option A) → if_known (λ at. w) o ≡ if_written (is_some o) w
written_known w None = refl
written_known w (Some at) = refl

abbrev pub no_place : ℕ → ℕ
no_place at = 0

pub still_some : {A : Type 0} (v : A → A) (o : Option A) → is_some o ≡ is_some (if_any v o)
still_some v None = refl
still_some v (Some at) = refl

pub behind_known : {A : Type 0} (w : A → Kinds) (front : Kinds) (o : Option A) → if_known (λ a. front ++ w a) o ≡ if_some_behind front (if_any w o)
behind_known w front None = refl
behind_known w front (Some a) = refl

column_spelled : (name : Name) (more : Option Name) → named name ++ if_known (λ c. sign s.Dot ++ named c) more ≡ expr_spelling (node.column_of name more)
column_spelled name None = append-nil (named name) ∙ sym (spelled-Column name)
column_spelled name (Some c) = sym (spelled-ColumnOf name c)

column_bare : (name : Name) (more : Option Name) → bare_expr (node.column_of name more) ≡ node.column_of (bare_name name) (if_any bare_name more)
column_bare name None = bare-Column name
column_bare name (Some c) = bare-ColumnOf name c

abbrev counted_spelled : Option Expr → Kinds
counted_spelled None = sign s.Star
counted_spelled (Some a) = expr_spelling a

count_spelled : (at : ℕ) (o : Option Expr) → word (codes "count") ++ (sign s.Open ++ (counted_spelled o ++ sign s.Close)) ≡ expr_spelling (node.count_of_rows at o)
count_spelled at None = sym (spelled-CountAll at)
count_spelled at (Some a) = sym (spelled-Aggregate aggregates.Count a at)

count_bare : (at : ℕ) (o : Option Expr) → bare_expr (node.count_of_rows at o) ≡ node.count_of_rows 0 (if_any bare_expr o)
count_bare at None = bare-CountAll at
count_bare at (Some a) = bare-Aggregate aggregates.Count a at

product_spelled : (first : Expr) (more : List Multiplied) → expr_spelling first ++ in_a_row (map multiplied_spelling more) ≡ expr_spelling (node.product_of first more)
product_spelled first [] = append-nil (expr_spelling first)
product_spelled first (a ∷ more) = sym (spelled-Product first (a ∷ more))

product_bare : (first : Expr) (more : List Multiplied) → bare_expr (node.product_of first more) ≡ node.product_of (bare_expr first) (map bare_multiplied more)
product_bare first [] = refl
product_bare first (a ∷ more) = bare-Product first (a ∷ more)

sum_spelled : (first : Expr) (more : List Added) → expr_spelling first ++ in_a_row (map added_spelling more) ≡ expr_spelling (node.sum_of first more)
sum_spelled first [] = append-nil (expr_spelling first)
sum_spelled first (a ∷ more) = sym (spelled-Sum first (a ∷ more))

sum_bare : (first : Expr) (more : List Added) → bare_expr (node.sum_of first more) ≡ node.sum_of (bare_expr first) (map bare_added more)
sum_bare first [] = refl
sum_bare first (a ∷ more) = bare-Sum first (a ∷ more)

nulls_spelled : (first : Expr) (more : List NullTest) → expr_spelling first ++ in_a_row (map null_test_spelling more) ≡ expr_spelling (node.null_tests first more)
nulls_spelled first [] = append-nil (expr_spelling first)
nulls_spelled first (a ∷ more) = sym (spelled-Is first (a ∷ more))

nulls_bare : (first : Expr) (more : List NullTest) → bare_expr (node.null_tests first more) ≡ node.null_tests (bare_expr first) (map bare_null_test more)
nulls_bare first [] = refl
nulls_bare first (a ∷ more) = bare-Is first (a ∷ more)

chain_spelled : (make : Expr → List Chained → Expr) (w : Kinds)
    → ((first : Expr) (rest : List Chained) → expr_spelling (make first rest) ≡ expr_spelling first ++ each_behind w (map chained_spelling rest))
    → (first : Expr) (more : List Chained) → expr_spelling first ++ in_a_row (map (λ c. w ++ chained_spelling c) more) ≡ expr_spelling (node.chain make first more)
chain_spelled make w is first [] = append-nil (expr_spelling first)
chain_spelled make w is first (a ∷ more) = ap (λ r. expr_spelling first ++ r) (each_is w chained_spelling (a ∷ more)) ∙ sym (is first (a ∷ more))

chain_bare : (make : Expr → List Chained → Expr) → ((first : Expr) (rest : List Chained) → bare_expr (make first rest) ≡ make (bare_expr first) (map bare_chained rest))
    → (first : Expr) (more : List Chained) → bare_expr (node.chain make first more) ≡ node.chain make (bare_expr first) (map bare_chained more)
chain_bare make is first [] = refl
chain_bare make is first (a ∷ more) = is first (a ∷ more)

-- what IN asks, without IN and the brackets
abbrev what_of : Layer Test-F → Kinds
what_of (Test-F.InSelect inner) = select_spelling inner
what_of (Test-F.InList parts) = commas (map expr_spelling parts)
what_of (Test-F.Between low high) = []

abbrev what_spelling : Test → Kinds
what_spelling t = what_of (out-Test t)

what-InSelect : (inner : Select) → select_spelling inner ≡ what_spelling (tests.InSelect inner)
what-InSelect inner = search (rules, the_lemmas)

what-InList : (parts : List Expr) → commas (map expr_spelling parts) ≡ what_spelling (tests.InList parts)
what-InList parts = search (rules, the_lemmas)

abbrev Bracketed : Test → Type 0
Bracketed test = word (codes "in") ++ (sign s.Open ++ (what_spelling test ++ sign s.Close)) ≡ test_spelling test

bracketed-InSelect : (inner : Select) → Bracketed (tests.InSelect inner)
bracketed-InSelect inner = ap (λ r. word (codes "in") ++ (sign s.Open ++ (r ++ sign s.Close))) (sym (what-InSelect inner)) ∙ sym (spelled-InSelect inner)

bracketed-InList : (parts : List Expr) → Bracketed (tests.InList parts)
bracketed-InList parts = ap (λ r. word (codes "in") ++ (sign s.Open ++ (r ++ sign s.Close))) (sym (what-InList parts)) ∙ sym (spelled-InList parts)

abbrev Asked : Type 0
Asked = Option ℕ × (ℕ × Test)

abbrev asked_spelling : Asked → Kinds
asked_spelling c = if_known (λ at. word (codes "not")) c.0 ++ test_spelling c.1.1

abbrev asked_bare : Asked → Asked
asked_bare c = (if_any (λ at. 0) c.0, (0, bare_test c.1.1))

tested_spelled : (operand : Expr) (o : Option Asked) → expr_spelling operand ++ if_known asked_spelling o ≡ expr_spelling (node.tested operand o)
tested_spelled operand None = append-nil (expr_spelling operand)
tested_spelled operand (Some (n, (at, test))) =
    ap (λ r. expr_spelling operand ++ (r ++ test_spelling test)) (written_known (word (codes "not")) n) ∙ sym (spelled-Tested operand (is_some n) test (node.first_place n at))

tested_bare : (operand : Expr) (o : Option Asked) → bare_expr (node.tested operand o) ≡ node.tested (bare_expr operand) (if_any asked_bare o)
tested_bare operand None = refl
tested_bare operand (Some (None, (at, test))) = bare-Tested operand false test at
tested_bare operand (Some (Some n, (at, test))) = bare-Tested operand true test n

abbrev Compared : Type 0
Compared = (Kind × ℕ) × Expr

compared_spelled : (left : Expr) (o : Option Compared)
    → expr_spelling left ++ if_known (λ c. sign (comparison_sign (node.comparison_operator c.0.0)) ++ expr_spelling c.1) o ≡ expr_spelling (node.compared left o)
compared_spelled left None = append-nil (expr_spelling left)
compared_spelled left (Some ((i, at), right)) = sym (spelled-Compare left (node.comparison_operator i) right at)

compared_bare : (left : Expr) (o : Option Compared) → bare_expr (node.compared left o) ≡ node.compared (bare_expr left) (if_any (λ c. ((c.0.0, 0), bare_expr c.1)) o)
compared_bare left None = refl
compared_bare left (Some ((i, at), right)) = bare-Compare left (node.comparison_operator i) right at

-- ---- rules

abbrev pub spelling_of : (d : Deeper) → Tree d → Kinds
spelling_of (expr rule) = expr_spelling
spelling_of select = select_spelling

abbrev pub bare_of : (d : Deeper) → Tree d → Tree d
bare_of (expr rule) = bare_expr
bare_of select = bare_select

abbrev pub ExprKeeps : Lang Expr → Type 0
ExprKeeps = Keeps expr_spelling bare_expr

module _ (lower : ℕ → (d : Deeper) → Lang (Tree d)) (m : (n : ℕ) (d : Deeper) → Keeps (spelling_of d) (bare_of d) (lower n d)) where
  literal_keeps : ExprKeeps (g.literal lower)
  unfolding g.literal
  literal_keeps =
      either_keeps (made_keeps expr_spelling bare_expr (λ n. e.Number n.value n.at) number_keeps (λ n. sym (spelled-Number n.value n.at)) (λ n. bare-Number n.value n.at))
      (either_keeps (made_keeps expr_spelling bare_expr (λ t. e.Quoted t.text t.at) quoted_keeps (λ t. sym (spelled-Quoted t.text t.at)) (λ t. bare-Quoted t.text t.at))
      (made_keeps expr_spelling bare_expr (λ at. e.Null at) null (λ at. sym (spelled-Null at)) (λ at. bare-Null at)))

  column_keeps : ExprKeeps (g.column lower)
  unfolding g.column
  column_keeps =
      made_keeps expr_spelling bare_expr (λ (name, more). node.column_of name more) (both_keeps a_name_keeps (optional_keeps (behind_keeps dot a_column_name_keeps)))
      (λ c. column_spelled c.0 c.1) (λ c. column_bare c.0 c.1)

  group_keeps : ExprKeeps (g.group lower)
  unfolding g.group
  group_keeps =
      made_keeps expr_spelling bare_expr (λ (at, (inner, _)). e.Group inner at) (both_keeps opening (both_keeps (m 1 (expr or_)) closing))
      (λ c. sym (spelled-Group c.1.0 c.0)) (λ c. bare-Group c.1.0 c.0)

  arm_keeps : Keeps arm_spelling bare_arm (g.arm lower)
  unfolding g.arm
  arm_keeps =
      made_keeps arm_spelling bare_arm node.arm (both_keeps (behind_keeps when (m 1 (expr or_))) (behind_keeps then_ (m 1 (expr or_))))
      (λ c. sym (spelled-Arm c.0 c.1)) (λ c. bare-Arm c.0 c.1)

  case_keeps : ExprKeeps (g.case lower)
  unfolding g.case g.otherwise
  case_keeps =
      made_keeps expr_spelling bare_expr (λ (at, (arms, (otherwise, end))). e.Case arms otherwise at)
      (both_keeps case_ (both_keeps (several_keeps (λ i. arm_keeps)) (both_keeps (optional_keeps (behind_keeps else_ (m 1 (expr or_)))) end)))
      (λ c. ap (λ r. word (codes "case") ++ (in_a_row (map arm_spelling c.1.0) ++ (r ++ word (codes "end")))) (behind_known expr_spelling (word (codes "else")) c.1.1.0)
      ∙ sym (spelled-Case c.1.0 c.1.1.0 c.0))
      (λ c. bare-Case c.1.0 c.1.1.0 c.0)

  coalesce_keeps : ExprKeeps (g.coalesce lower)
  unfolding g.coalesce
  coalesce_keeps =
      made_keeps expr_spelling bare_expr (λ (at, (_, (items, _))). e.Coalesce items at)
      (both_keeps coalesce_ (both_keeps opening (both_keeps (commas_keep comma (λ i. m 1 (expr or_))) closing)))
      (λ c. sym (spelled-Coalesce c.1.1.0 c.0)) (λ c. bare-Coalesce c.1.1.0 c.0)

  counted_keeps : Keeps counted_spelled (if_any bare_expr) (g.counted lower)
  unfolding g.counted
  counted_keeps =
      either_keeps (made_keeps counted_spelled (if_any bare_expr) (λ star. None) star (λ at. refl) (λ at. refl))
      (made_keeps counted_spelled (if_any bare_expr) Some (m 1 (expr or_)) (λ a. refl) (λ a. refl))

  count_keeps : ExprKeeps (g.count lower)
  unfolding g.count
  count_keeps =
      made_keeps expr_spelling bare_expr (λ (at, (_, (argument, _))). node.count_of_rows at argument) (both_keeps count_ (both_keeps opening (both_keeps counted_keeps closing)))
      (λ c. count_spelled c.0 c.1.1.0) (λ c. count_bare c.0 c.1.1.0)

  aggregate_keeps : ExprKeeps (g.aggregate lower)
  unfolding g.aggregate
  aggregate_keeps =
      made_keeps expr_spelling bare_expr (λ ((word, at), (_, (argument, _))). e.Aggregate (node.aggregate_function word) argument at)
      (both_keeps aggregate_words (both_keeps opening (both_keeps (m 1 (expr or_)) closing)))
      (λ c. sym (spelled-Aggregate (node.aggregate_function c.0.0) c.1.1.0 c.0.1)) (λ c. bare-Aggregate (node.aggregate_function c.0.0) c.1.1.0 c.0.1)

  atom_keeps : ExprKeeps (g.atom lower)
  unfolding g.atom
  atom_keeps =
      either_keeps literal_keeps (either_keeps column_keeps (either_keeps group_keeps (either_keeps case_keeps
      (either_keeps coalesce_keeps (either_keeps count_keeps aggregate_keeps)))))

  signed_keeps : ExprKeeps (g.signed lower)
  unfolding g.signed
  signed_keeps =
      made_keeps expr_spelling bare_expr (λ ((sign, at), inner). e.Signed (node.add_operator sign) inner at) (both_keeps add_signs (m 1 (expr unary_)))
      (λ c. sym (spelled-Signed (node.add_operator c.0.0) c.1 c.0.1)) (λ c. bare-Signed (node.add_operator c.0.0) c.1 c.0.1)

  pub unary_keeps : ExprKeeps (g.unary lower)
  unfolding g.unary
  unary_keeps = either_keeps signed_keeps atom_keeps

  multiplied_keeps : (i : ℕ) → Keeps multiplied_spelling bare_multiplied (g.multiplied lower i)
  unfolding g.multiplied
  multiplied_keeps i =
      made_keeps multiplied_spelling bare_multiplied node.multiplied (both_keeps multiply_signs (m i (expr unary_)))
      (λ c. sym (spelled-Multiplied (node.multiply_operator c.0.0) c.1 c.0.1)) (λ c. bare-Multiplied (node.multiply_operator c.0.0) c.1 c.0.1)

  pub term_keeps : ExprKeeps (g.term lower)
  unfolding g.term
  term_keeps =
      made_keeps expr_spelling bare_expr (λ (first, more). node.product_of first more) (both_keeps unary_keeps (many_keeps multiplied_keeps 1))
      (λ c. product_spelled c.0 c.1) (λ c. product_bare c.0 c.1)

  added_keeps : (i : ℕ) → Keeps added_spelling bare_added (g.added lower i)
  unfolding g.added
  added_keeps i =
      made_keeps added_spelling bare_added node.added (both_keeps add_signs (m i (expr term_)))
      (λ c. sym (spelled-Added (node.add_operator c.0.0) c.1 c.0.1)) (λ c. bare-Added (node.add_operator c.0.0) c.1 c.0.1)

  sum_keeps : ExprKeeps (g.sum lower)
  unfolding g.sum
  sum_keeps =
      made_keeps expr_spelling bare_expr (λ (first, more). node.sum_of first more) (both_keeps term_keeps (many_keeps added_keeps 1))
      (λ c. sum_spelled c.0 c.1) (λ c. sum_bare c.0 c.1)

  -- ---- conditions

  in_what_keeps : Keeps what_spelling bare_test (g.in_what lower)
  unfolding g.in_what
  in_what_keeps =
      either_keeps (made_keeps what_spelling bare_test tests.InSelect (m 1 select) what-InSelect bare-InSelect)
      (made_keeps what_spelling bare_test tests.InList (commas_keep comma (λ i. m (1 + digits i) (expr or_))) what-InList bare-InList)

  in_what_bracketed : (test : Test) (ts : List Token) → g.in_what lower test ts → Bracketed test
  unfolding g.in_what
  in_what_bracketed test ts (inl p) = subst Bracketed (sym p.is) (bracketed-InSelect p.from)
  in_what_bracketed test ts (inr p) = subst Bracketed (sym p.is) (bracketed-InList p.from)

  abbrev TestKeeps : Lang (ℕ × Test) → Type 0
  TestKeeps = Keeps (λ c. test_spelling c.1) (λ c. (0, bare_test c.1))

  in_test_keeps : TestKeeps (g.in_test lower)
  unfolding g.in_test
  in_test_keeps =
      made_of_phrases (λ c. test_spelling c.1) (λ c. (0, bare_test c.1)) (λ (at, (_, (what, _))). (at, what))
      (both_keeps in_ (both_keeps opening (both_keeps in_what_keeps closing)))
      (λ c ts p. in_what_bracketed c.1.1.0 p.right.right.front p.right.right.left) (λ c. refl)

  between_test_keeps : TestKeeps (g.between_test lower)
  unfolding g.between_test
  between_test_keeps =
      made_keeps (λ c. test_spelling c.1) (λ c. (0, bare_test c.1)) (λ (at, (low, high)). (at, tests.Between low high))
      (both_keeps between (both_keeps sum_keeps (behind_keeps and sum_keeps)))
      (λ c. sym (spelled-Between c.1.0 c.1.1)) (λ c. ap (λ t. (0, t)) (bare-Between c.1.0 c.1.1))

  test_keeps : Keeps asked_spelling asked_bare (g.test lower)
  unfolding g.test
  test_keeps = both_keeps (optional_keeps not) (either_keeps in_test_keeps between_test_keeps)

  tested_keeps : ExprKeeps (g.tested lower)
  unfolding g.tested
  tested_keeps =
      made_keeps expr_spelling bare_expr (λ (operand, asked). node.tested operand asked) (both_keeps sum_keeps (optional_keeps test_keeps))
      (λ c. tested_spelled c.0 c.1) (λ c. tested_bare c.0 c.1)

  comparison_keeps : ExprKeeps (g.comparison lower)
  unfolding g.comparison
  comparison_keeps =
      made_keeps expr_spelling bare_expr (λ (left, more). node.compared left more) (both_keeps tested_keeps (optional_keeps (both_keeps comparison_signs tested_keeps)))
      (λ c. compared_spelled c.0 c.1) (λ c. compared_bare c.0 c.1)

  null_test_keeps : Keeps null_test_spelling bare_null_test (g.null_test lower)
  unfolding g.null_test
  null_test_keeps =
      made_keeps null_test_spelling bare_null_test node.null_test (both_keeps is_ (both_keeps (optional_keeps not) null))
      (λ c. ap (λ r. word (codes "is") ++ (r ++ word (codes "null"))) (written_known (word (codes "not")) c.1.0))
      (λ c. ap (λ b. record { negated = b; at = 0 }) (still_some no_place c.1.0))

  is_keeps : ExprKeeps (g.is lower)
  unfolding g.is
  is_keeps =
      made_keeps expr_spelling bare_expr (λ (first, more). node.null_tests first more) (both_keeps comparison_keeps (many_keeps (λ i. null_test_keeps) 0))
      (λ c. nulls_spelled c.0 c.1) (λ c. nulls_bare c.0 c.1)

  pub negation_keeps : ExprKeeps (g.negation lower)
  unfolding g.negation
  negation_keeps =
      either_keeps (made_keeps expr_spelling bare_expr (λ (at, inner). e.Not inner at) (both_keeps not (m 1 (expr not_))) (λ c. sym (spelled-Not c.1 c.0)) (λ c. bare-Not c.1 c.0))
      is_keeps

  and_part_keeps : (i : ℕ) → Keeps (λ c. word (codes "and") ++ chained_spelling c) bare_chained (g.and_part lower i)
  unfolding g.and_part
  and_part_keeps i =
      made_keeps (λ c. word (codes "and") ++ chained_spelling c) bare_chained node.chained (both_keeps and (m (digits i) (expr not_)))
      (λ c. ap (λ r. word (codes "and") ++ r) (sym (spelled-Chained c.1 c.0))) (λ c. bare-Chained c.1 c.0)

  pub and_chain_keeps : ExprKeeps (g.and_chain lower)
  unfolding g.and_chain
  and_chain_keeps =
      made_keeps expr_spelling bare_expr (λ (first, more). node.chain e.And first more) (both_keeps negation_keeps (many_keeps and_part_keeps 1))
      (λ c. chain_spelled e.And (word (codes "and")) spelled-And c.0 c.1) (λ c. chain_bare e.And bare-And c.0 c.1)

  or_part_keeps : (i : ℕ) → Keeps (λ c. word (codes "or") ++ chained_spelling c) bare_chained (g.or_part lower i)
  unfolding g.or_part
  or_part_keeps i =
      made_keeps (λ c. word (codes "or") ++ chained_spelling c) bare_chained node.chained (both_keeps or (m (digits i) (expr and_)))
      (λ c. ap (λ r. word (codes "or") ++ r) (sym (spelled-Chained c.1 c.0))) (λ c. bare-Chained c.1 c.0)

  pub or_chain_keeps : ExprKeeps (g.or_chain lower)
  unfolding g.or_chain
  or_chain_keeps =
      made_keeps expr_spelling bare_expr (λ (first, more). node.chain e.Or first more) (both_keeps and_chain_keeps (many_keeps or_part_keeps 1))
      (λ c. chain_spelled e.Or (word (codes "or")) spelled-Or c.0 c.1) (λ c. chain_bare e.Or bare-Or c.0 c.1)
