-- What a step of the reader leaves is shorter than what it was given: the measure of each loop.
use Rattle.std.proofs.Common.{◌≡◌, ℕ, ◌+◌, ◌<◌, ◌≤◌, List, length, true, false, inl, inr, Ok, refl, ap, arith, length-append}
use Rattle.cq_token.specs.declared.token.Token.{Token}
use Rattle.cq_grammar.specs.declared.kind.Kind.TheVariants as k
use Rattle.cq_grammar.specs.Types.{Name, Expr, Chained, Added, Multiplied, Arm, NullTest, Item, From, Join, OrderKey, CommonTable, ColumnDef, RowValues}
use Rattle.cq_grammar.specs.Types.{SetClause, CopyOption, Argument}
use Rattle.cq_grammar.specs.Words.{of, starts, names}
use Rattle.cq_grammar.specs.Lang.{Lang}
use Rattle.cq_grammar.specs.Grammar as grammar
use Rattle.cq_grammar.specs.Grammar.{digits, Deeper, expr, or_, Tree}
use Rattle.cq_grammar.specs.Read.{Reader, both, and_then, comma_item}
use Rattle.cq_grammar.specs.Descent as descent
use Rattle.cq_grammar.specs.Reading as reading
use Rattle.cq_grammar.proofs.Laws.{within, went_ok, ok_same, nonempty, true_false}
use Rattle.cq_grammar.proofs.Shapes.{Shape, Ruled, word}
use Rattle.cq_grammar.proofs.Expressions as expression
use Rattle.cq_grammar.proofs.Expressions.{deeper}
use Rattle.cq_grammar.proofs.Selects as selects
use Rattle.cq_grammar.proofs.Columns as columns
use Rattle.cq_grammar.proofs.Commands as command
use Rattle.cq_grammar.proofs.Depths.{below}

-- a rule's law is known
abbrev Read_by : {A : Type 0} → Reader A → Lang A → Lang A → Shape → Type 0
Read_by p P W s = Ruled (Unit {0}) within p P W s

module _ {A : Type 0} {p : Reader A} {P W : Lang A} {s : Shape} (l : Read_by p P W s) (fine : s.fine ≡ true) where
  -- no step gives tokens back
  pub not_longer : (ts : List Token) (a : A) (r : List Token) → p ts ≡ Ok (a, r) → length r ≤ length ts
  not_longer ts a r e = let d = (l.lawful tt fine).sound ts a r e in omega (arith, ap length d.whole, length-append d.front r)

  -- a rule whose phrases aren't empty takes a token
  pub shorter : s.empty ≡ false → (ts : List Token) (a : A) (r : List Token) → p ts ≡ Ok (a, r) → length r < length ts
  shorter filled ts a r e =
      let law = l.lawful tt fine in
      let d = law.sound ts a r e in
      let some : starts (of s.firsts) d.front ≡ true = elim (l.opens a d.front (law.sub a d.front d.phrase)) [
        | inl u ↦ u
        | inr u ↦ true_false u.0 filled
      ] in
      let long : 1 ≤ length d.front = nonempty (of s.firsts) d.front some in
      omega (arith, ap length d.whole, length-append d.front r)

-- an item behind a comma
pub comma_shorter : {A : Type 0} (p : ℕ → Reader A) {P W : Lang A} {s : Shape} (i : ℕ) → Read_by (p i) P W s → s.fine ≡ true
    → (ts : List Token) (a : A) (r : List Token) → comma_item (descent.the k.Comma) p i ts ≡ Ok (a, r) → length r < length ts
comma_shorter p i l fine ts a r e =
    let pair = went_ok (both (descent.the k.Comma) (p i) ts) (λ c r. Ok (c.1, r)) (a, r) e in
    let sign = went_ok (descent.the k.Comma ts) (λ c r. and_then (p i r) (λ b s. Ok ((c, b), s))) (pair.value, pair.rest) pair.first in
    let item = went_ok (p i sign.rest) (λ b s. Ok ((sign.value, b), s)) (pair.value, pair.rest) sign.second in
    let one : length sign.rest < length ts = shorter (word {S = Unit {0}} {H = within} k.Comma) refl refl ts sign.value sign.rest sign.first in
    let two : length item.rest ≤ length sign.rest = not_longer l fine sign.rest item.value item.rest item.first in
    omega (arith, one, two, ap (λ w. length w.1) (ok_same item.second), ap (λ w. length w.1) (ok_same pair.second))

-- ---- statements without expressions

pub name_shorter : (i : ℕ) (ts : List Token) (a : Name) (r : List Token) → comma_item (descent.the k.Comma) (λ _. descent.named names) i ts ≡ Ok (a, r) → length r < length ts
name_shorter i = comma_shorter (λ _. descent.named names) i expression.name refl

pub column_def_shorter : (i : ℕ) (ts : List Token) (a : ColumnDef) (r : List Token) → comma_item (descent.the k.Comma) (λ _. reading.column_def) i ts ≡ Ok (a, r) → length r < length ts
column_def_shorter i = comma_shorter (λ _. reading.column_def) i columns.column_def refl

pub copy_option_shorter : (i : ℕ) (ts : List Token) (a : CopyOption) (r : List Token) → comma_item (descent.the k.Comma) (λ _. reading.copy_option) i ts ≡ Ok (a, r) → length r < length ts
copy_option_shorter i = comma_shorter (λ _. reading.copy_option) i command.copy_option refl

pub argument_shorter : (i : ℕ) (ts : List Token) (a : Argument) (r : List Token) → comma_item (descent.the k.Comma) (λ _. reading.argument) i ts ≡ Ok (a, r) → length r < length ts
argument_shorter i = comma_shorter (λ _. reading.argument) i command.argument refl

-- ---- where depth `left` is left

module _ (left : ℕ) where
  abbrev R : ℕ → (d : Deeper) → Reader (Tree d)
  R = descent.below left

  abbrev P : ℕ → (d : Deeper) → Lang (Tree d)
  P = grammar.below left

  abbrev W : ℕ → (d : Deeper) → Lang (Tree d)
  W _ = grammar.upto (left + 2)

  lower : (n : ℕ) (d : Deeper) → Read_by (R n d) (P n d) (W n d) (deeper d)
  lower = below left (left + 2) (omega arith)

  pub arm_shorter : (ts : List Token) (a : Arm) (r : List Token) → descent.arm R ts ≡ Ok (a, r) → length r < length ts
  arm_shorter = shorter (expression.arm (Unit {0}) within R P W lower) refl refl

  pub multiplied_shorter : (i : ℕ) (ts : List Token) (a : Multiplied) (r : List Token) → descent.multiplied R i ts ≡ Ok (a, r) → length r < length ts
  multiplied_shorter i = shorter (expression.multiplied (Unit {0}) within R P W lower i) refl refl

  pub added_shorter : (i : ℕ) (ts : List Token) (a : Added) (r : List Token) → descent.added R i ts ≡ Ok (a, r) → length r < length ts
  added_shorter i = shorter (expression.added (Unit {0}) within R P W lower i) refl refl

  pub null_test_shorter : (ts : List Token) (a : NullTest) (r : List Token) → descent.null_test R ts ≡ Ok (a, r) → length r < length ts
  null_test_shorter = shorter (expression.null_test (Unit {0}) within R P W lower) refl refl

  pub and_part_shorter : (i : ℕ) (ts : List Token) (a : Chained) (r : List Token) → descent.and_part R i ts ≡ Ok (a, r) → length r < length ts
  and_part_shorter i = shorter (expression.and_part (Unit {0}) within R P W lower i) refl refl

  pub or_part_shorter : (i : ℕ) (ts : List Token) (a : Chained) (r : List Token) → descent.or_part R i ts ≡ Ok (a, r) → length r < length ts
  or_part_shorter i = shorter (expression.or_part (Unit {0}) within R P W lower i) refl refl

  pub join_shorter : (ts : List Token) (a : Join) (r : List Token) → descent.join R ts ≡ Ok (a, r) → length r < length ts
  join_shorter = shorter (selects.join (Unit {0}) within R P W lower) refl refl

  -- ---- items behind a comma

  pub expression_shorter : (i : ℕ) (ts : List Token) (a : Expr) (r : List Token) → comma_item (descent.the k.Comma) (λ _. R 1 (expr or_)) i ts ≡ Ok (a, r) → length r < length ts
  expression_shorter i = comma_shorter (λ _. R 1 (expr or_)) i (lower 1 (expr or_)) refl

  pub in_item_shorter : (i : ℕ) (ts : List Token) (a : Expr) (r : List Token) → comma_item (descent.the k.Comma) (λ before. R (1 + digits before) (expr or_)) i ts ≡ Ok (a, r) → length r < length ts
  in_item_shorter i = comma_shorter (λ before. R (1 + digits before) (expr or_)) i (lower (1 + digits i) (expr or_)) refl

  pub select_item_shorter : (i : ℕ) (ts : List Token) (a : Item) (r : List Token) → comma_item (descent.the k.Comma) (λ _. descent.select_item R) i ts ≡ Ok (a, r) → length r < length ts
  select_item_shorter i = comma_shorter (λ _. descent.select_item R) i (selects.select_item (Unit {0}) within R P W lower) refl

  pub from_item_shorter : (i : ℕ) (ts : List Token) (a : From) (r : List Token) → comma_item (descent.the k.Comma) (λ _. descent.from_item R) i ts ≡ Ok (a, r) → length r < length ts
  from_item_shorter i = comma_shorter (λ _. descent.from_item R) i (selects.from_item (Unit {0}) within R P W lower) refl

  -- a key of GROUP BY
  pub condition_shorter : (i : ℕ) (ts : List Token) (a : Expr) (r : List Token) → comma_item (descent.the k.Comma) (λ _. descent.or_chain R) i ts ≡ Ok (a, r) → length r < length ts
  condition_shorter i = comma_shorter (λ _. descent.or_chain R) i (expression.or_chain (Unit {0}) within R P W lower) refl

  pub order_key_shorter : (i : ℕ) (ts : List Token) (a : OrderKey) (r : List Token) → comma_item (descent.the k.Comma) (λ _. descent.order_key R) i ts ≡ Ok (a, r) → length r < length ts
  order_key_shorter i = comma_shorter (λ _. descent.order_key R) i (selects.order_key (Unit {0}) within R P W lower) refl

  pub row_values_shorter : (i : ℕ) (ts : List Token) (a : RowValues) (r : List Token) → comma_item (descent.the k.Comma) (λ _. reading.row_values R) i ts ≡ Ok (a, r) → length r < length ts
  row_values_shorter i = comma_shorter (λ _. reading.row_values R) i (command.row_values (Unit {0}) within R P W lower) refl

  pub set_clause_shorter : (i : ℕ) (ts : List Token) (a : SetClause) (r : List Token) → comma_item (descent.the k.Comma) (λ _. reading.set_clause R) i ts ≡ Ok (a, r) → length r < length ts
  set_clause_shorter i = comma_shorter (λ _. reading.set_clause R) i (command.set_clause (Unit {0}) within R P W lower) refl

  pub common_table_shorter : (i : ℕ) (ts : List Token) (a : CommonTable) (r : List Token) → comma_item (descent.the k.Comma) (λ _. reading.common_table R) i ts ≡ Ok (a, r) → length r < length ts
  common_table_shorter i = comma_shorter (λ _. reading.common_table R) i (command.common_table (Unit {0}) within R P W lower) refl
