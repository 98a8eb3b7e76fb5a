-- What stands in a lower grammar stands in a higher.
use Rattle.std.proofs.Common.{ℕ, zero, suc, ◌+◌, ◌≤◌, List, [], ◌∷◌, inl, inr, arith}
use Rattle.cq_token.specs.declared.token.Token.{Token}
use Rattle.cq_grammar.specs.Lang.{Lang, Both, Either, Made, Many, Optional, Behind, Several}
use Rattle.cq_grammar.specs.Terminals.{Commas}
use Rattle.cq_grammar.specs.Grammar as grammar
use Rattle.cq_grammar.specs.Grammar.{digits, Deeper, expr, select, Tree, or_, and_, not_, term_, unary_, phrase, upto}
use Rattle.cq_grammar.specs.Statements as statements

abbrev pub Sub : {A : Type 0} → Lang A → Lang A → Type 0
Sub {A} P Q = (a : A) (x : List Token) → P a x → Q a x

same : {A : Type 0} (P : Lang A) → Sub P P
same P a x w = w

made : {A B : Type 0} (f : A → B) {P Q : Lang A} → Sub P Q → Sub (Made f P) (Made f Q)
made f s b x w = record { from = w.from; is = w.is; phrase = s w.from x w.phrase }

both : {A B : Type 0} {P Q : Lang A} {V W : Lang B} → Sub P Q → Sub V W → Sub (Both P V) (Both Q W)
both s t c x w = record { front = w.front; back = w.back; whole = w.whole; left = s c.0 w.front w.left; right = t c.1 w.back w.right }

either : {A : Type 0} {P Q V W : Lang A} → Sub P Q → Sub V W → Sub (Either P V) (Either Q W)
either s t a x (inl w) = inl (s a x w)
either s t a x (inr w) = inr (t a x w)

many : {A : Type 0} {P Q : ℕ → Lang A} → ((i : ℕ) → Sub (P i) (Q i)) → (i : ℕ) → Sub (Many P i) (Many Q i)
many s i [] x w = w
many s i (a ∷ more) x w = (w.0, w.1, w.2, s i a w.0 w.3, many s (suc i) more w.1 w.4)

-- what stands behind a token
after : {A B : Type 0} {R : Lang A} {P Q : Lang B} → Sub P Q → Sub (Both R P) (Both R Q)
after {R = R} s = both (same R) s

-- the same, and the token isn't kept
behind : {A B : Type 0} {R : Lang A} {P Q : Lang B} → Sub P Q → Sub (Behind R P) (Behind R Q)
behind s = made _ (after s)

-- what a token stands behind
ended : {A B : Type 0} {R : Lang B} {P Q : Lang A} → Sub P Q → Sub (Both P R) (Both Q R)
ended {R = R} s = both s (same R)

maybe : {A : Type 0} {P Q : Lang A} → Sub P Q → Sub (Optional P) (Optional Q)
maybe s = either (made _ s) (same _)

commas : {A : Type 0} {P Q : ℕ → Lang A} → ((i : ℕ) → Sub (P i) (Q i)) → Sub (Commas P) (Commas Q)
commas s = made _ (both (s 0) (many (λ i. behind (s i)) 1))

several : {A : Type 0} {P Q : ℕ → Lang A} → ((i : ℕ) → Sub (P i) (Q i)) → Sub (Several P) (Several Q)
several s = made _ (both (s 0) (many s 1))

module _ (P Q : ℕ → (d : Deeper) → Lang (Tree d)) (s : (n : ℕ) (d : Deeper) → Sub (P n d) (Q n d)) where
  literal : Sub (grammar.literal P) (grammar.literal Q)
  unfolding grammar.literal
  literal = same _

  column : Sub (grammar.column P) (grammar.column Q)
  unfolding grammar.column
  column = same _

  group : Sub (grammar.group P) (grammar.group Q)
  unfolding grammar.group
  group = made _ (after (ended (s 1 (expr or_))))

  arm : Sub (grammar.arm P) (grammar.arm Q)
  unfolding grammar.arm
  arm = made _ (both (behind (s 1 (expr or_))) (behind (s 1 (expr or_))))

  otherwise : Sub (grammar.otherwise P) (grammar.otherwise Q)
  unfolding grammar.otherwise
  otherwise = maybe (behind (s 1 (expr or_)))

  case : Sub (grammar.case P) (grammar.case Q)
  unfolding grammar.case
  case = made _ (after (both (several (λ _. arm)) (ended otherwise)))

  coalesce : Sub (grammar.coalesce P) (grammar.coalesce Q)
  unfolding grammar.coalesce
  coalesce = made _ (after (after (ended (commas (λ _. s 1 (expr or_))))))

  counted : Sub (grammar.counted P) (grammar.counted Q)
  unfolding grammar.counted
  counted = either (same _) (made _ (s 1 (expr or_)))

  count : Sub (grammar.count P) (grammar.count Q)
  unfolding grammar.count
  count = made _ (after (after (ended counted)))

  aggregate : Sub (grammar.aggregate P) (grammar.aggregate Q)
  unfolding grammar.aggregate
  aggregate = made _ (after (after (ended (s 1 (expr or_)))))

  atom : Sub (grammar.atom P) (grammar.atom Q)
  unfolding grammar.atom
  atom = either literal (either column (either group (either case (either coalesce (either count aggregate)))))

  signed : Sub (grammar.signed P) (grammar.signed Q)
  unfolding grammar.signed
  signed = made _ (after (s 1 (expr unary_)))

  unary : Sub (grammar.unary P) (grammar.unary Q)
  unfolding grammar.unary
  unary = either signed atom

  multiplied : (i : ℕ) → Sub (grammar.multiplied P i) (grammar.multiplied Q i)
  unfolding grammar.multiplied
  multiplied i = made _ (after (s i (expr unary_)))

  term : Sub (grammar.term P) (grammar.term Q)
  unfolding grammar.term
  term = made _ (both unary (many multiplied 1))

  added : (i : ℕ) → Sub (grammar.added P i) (grammar.added Q i)
  unfolding grammar.added
  added i = made _ (after (s i (expr term_)))

  sum : Sub (grammar.sum P) (grammar.sum Q)
  unfolding grammar.sum
  sum = made _ (both term (many added 1))

  in_what : Sub (grammar.in_what P) (grammar.in_what Q)
  unfolding grammar.in_what
  in_what = either (made _ (s 1 select)) (made _ (commas (λ i. s (1 + digits i) (expr or_))))

  in_test : Sub (grammar.in_test P) (grammar.in_test Q)
  unfolding grammar.in_test
  in_test = made _ (after (after (ended in_what)))

  between_test : Sub (grammar.between_test P) (grammar.between_test Q)
  unfolding grammar.between_test
  between_test = made _ (after (both sum (behind sum)))

  test : Sub (grammar.test P) (grammar.test Q)
  unfolding grammar.test
  test = after (either in_test between_test)

  tested : Sub (grammar.tested P) (grammar.tested Q)
  unfolding grammar.tested
  tested = made _ (both sum (maybe test))

  comparison : Sub (grammar.comparison P) (grammar.comparison Q)
  unfolding grammar.comparison
  comparison = made _ (both tested (maybe (after tested)))

  null_test : Sub (grammar.null_test P) (grammar.null_test Q)
  unfolding grammar.null_test
  null_test = same _

  is : Sub (grammar.is P) (grammar.is Q)
  unfolding grammar.is
  is = made _ (both comparison (many (λ _. null_test) 0))

  negation : Sub (grammar.negation P) (grammar.negation Q)
  unfolding grammar.negation
  negation = either (made _ (after (s 1 (expr not_)))) is

  and_part : (i : ℕ) → Sub (grammar.and_part P i) (grammar.and_part Q i)
  unfolding grammar.and_part
  and_part i = made _ (after (s (digits i) (expr not_)))

  and_chain : Sub (grammar.and_chain P) (grammar.and_chain Q)
  unfolding grammar.and_chain
  and_chain = made _ (both negation (many and_part 1))

  or_part : (i : ℕ) → Sub (grammar.or_part P i) (grammar.or_part Q i)
  unfolding grammar.or_part
  or_part i = made _ (after (s (digits i) (expr and_)))

  or_chain : Sub (grammar.or_chain P) (grammar.or_chain Q)
  unfolding grammar.or_chain
  or_chain = made _ (both and_chain (many or_part 1))

  all_of : Sub (grammar.all_of P) (grammar.all_of Q)
  unfolding grammar.all_of
  all_of = same _

  output : Sub (grammar.output P) (grammar.output Q)
  unfolding grammar.output
  output = made _ (ended or_chain)

  select_item : Sub (grammar.select_item P) (grammar.select_item Q)
  unfolding grammar.select_item
  select_item = either (same _) (either all_of output)

  alias : Sub (grammar.alias P) (grammar.alias Q)
  unfolding grammar.alias
  alias = same _

  table : Sub (grammar.table P) (grammar.table Q)
  unfolding grammar.table
  table = made _ (after (maybe alias))

  subquery : Sub (grammar.subquery P) (grammar.subquery Q)
  unfolding grammar.subquery
  subquery = made _ (after (both (s 1 select) (after alias)))

  relation : Sub (grammar.relation P) (grammar.relation Q)
  unfolding grammar.relation
  relation = either table subquery

  on : Sub (grammar.on P) (grammar.on Q)
  unfolding grammar.on
  on = behind or_chain

  inner_join : Sub (grammar.inner_join P) (grammar.inner_join Q)
  unfolding grammar.inner_join
  inner_join = made _ (after (after (both relation on)))

  left_join : Sub (grammar.left_join P) (grammar.left_join Q)
  unfolding grammar.left_join
  left_join = made _ (after (after (after (both relation on))))

  cross_join : Sub (grammar.cross_join P) (grammar.cross_join Q)
  unfolding grammar.cross_join
  cross_join = made _ (after (behind relation))

  join : Sub (grammar.join P) (grammar.join Q)
  unfolding grammar.join
  join = either inner_join (either left_join cross_join)

  from_item : Sub (grammar.from_item P) (grammar.from_item Q)
  unfolding grammar.from_item
  from_item = made _ (both relation (many (λ _. join) 0))

  filter : Sub (grammar.filter P) (grammar.filter Q)
  unfolding grammar.filter
  filter = maybe (behind or_chain)

  group_by : Sub (grammar.group_by P) (grammar.group_by Q)
  unfolding grammar.group_by
  group_by = made _ (after (behind (commas (λ _. or_chain))))

  having : Sub (grammar.having P) (grammar.having Q)
  unfolding grammar.having
  having = made _ (after or_chain)

  order_key : Sub (grammar.order_key P) (grammar.order_key Q)
  unfolding grammar.order_key
  order_key = made _ (ended or_chain)

  order_by : Sub (grammar.order_by P) (grammar.order_by Q)
  unfolding grammar.order_by
  order_by = made _ (maybe (behind (behind (commas (λ _. order_key)))))

  limit : Sub (grammar.limit P) (grammar.limit Q)
  unfolding grammar.limit
  limit = same _

  offset : Sub (grammar.offset P) (grammar.offset Q)
  unfolding grammar.offset
  offset = same _

  select_list : Sub (grammar.select_list P) (grammar.select_list Q)
  unfolding grammar.select_list
  select_list = after (after (commas (λ _. select_item)))

  selection : Sub (grammar.selection P) (grammar.selection Q)
  unfolding grammar.selection
  selection = both select_list (both (behind (commas (λ _. from_item))) filter)

  grouping : Sub (grammar.grouping P) (grammar.grouping Q)
  unfolding grammar.grouping
  grouping = both (maybe group_by) (maybe having)

  ordering : Sub (grammar.ordering P) (grammar.ordering Q)
  unfolding grammar.ordering
  ordering = both order_by (both limit offset)

  selected : Sub (grammar.selected P) (grammar.selected Q)
  unfolding grammar.selected
  selected = made _ (both selection (both grouping ordering))

  pub deeper : (d : Deeper) → Sub (phrase P d) (phrase Q d)
  deeper (expr or_) = or_chain
  deeper (expr and_) = and_chain
  deeper (expr not_) = negation
  deeper (expr term_) = term
  deeper (expr unary_) = unary
  deeper select = selected

  row_values : Sub (statements.row_values P) (statements.row_values Q)
  unfolding statements.row_values
  row_values = made _ (after (ended (commas (λ _. s 1 (expr or_)))))

  insert : Sub (statements.insert P) (statements.insert Q)
  unfolding statements.insert
  insert = made _ (after (after (after (behind (commas (λ _. row_values))))))

  set_clause : Sub (statements.set_clause P) (statements.set_clause Q)
  unfolding statements.set_clause
  set_clause = made _ (after (behind or_chain))

  update : Sub (statements.update P) (statements.update Q)
  unfolding statements.update
  update = made _ (after (after (both (behind (commas (λ _. set_clause))) filter)))

  delete : Sub (statements.delete P) (statements.delete Q)
  unfolding statements.delete
  delete = made _ (after (after filter))

  common_table : Sub (statements.common_table P) (statements.common_table Q)
  unfolding statements.common_table
  common_table = made _ (after (after (ended (s 1 select))))

  common_tables : Sub (statements.common_tables P) (statements.common_tables Q)
  unfolding statements.common_tables
  common_tables = made _ (maybe (behind (commas (λ _. common_table))))

  query : Sub (statements.query P) (statements.query Q)
  unfolding statements.query
  query = made _ (both common_tables selected)

  explain : Sub (statements.explain P) (statements.explain Q)
  unfolding statements.explain
  explain = made _ (after query)

  pub statement : Sub (statements.statement P) (statements.statement Q)
  unfolding statements.statement
  statement = either (same _) (either insert (either update (either delete (either (same _) (either (same _) (either explain (either (same _) (made _ query))))))))

pub sub_upto : (n m : ℕ) → n ≤ m → (d : Deeper) → Sub (upto n d) (upto m d)
sub_upto zero m h d a x w = absurd w
sub_upto (suc n) zero h d a x w = absurd (omega arith)
sub_upto (suc n) (suc m) h d a x w = deeper (λ _. upto n) (λ _. upto m) (λ _ c. sub_upto n m (omega arith) c) d a x w

-- a statement of a height is one of each greater height
pub sub_statement : (n m : ℕ) → n ≤ m → Sub (statements.statement (λ _. upto n)) (statements.statement (λ _. upto m))
sub_statement n m h = statement (λ _. upto n) (λ _. upto m) (λ _ d. sub_upto n m h d)

-- the same of what is too deep
pub sub_below : (P Q : (d : Deeper) → Lang (Tree d)) → ((d : Deeper) → Sub (P d) (Q d)) → (left n : ℕ) (d : Deeper) → Sub (grammar.below_or P left n d) (grammar.below_or Q left n d)
sub_below P Q s zero n d = s d
sub_below P Q s (suc left) zero d = s d
sub_below P Q s (suc left) (suc zero) d = deeper (grammar.below_or P left) (grammar.below_or Q left) (sub_below P Q s left) d
sub_below P Q s (suc left) (suc (suc n)) d = sub_below P Q s left (suc n) d
