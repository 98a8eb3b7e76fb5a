-- The reader accepts the grammar of selects, rule by rule.
use Rattle.std.proofs.Common.{◌≡◌, ℕ, List, [], ◌∷◌, ◌++◌, Bool, true, false, inl, inr, refl, ◌∙◌, ap, ap₂, ◌&&◌, ◌||◌}
use Rattle.cq_value.proofs.Truths.{both_true}
use Rattle.cq_token.specs.declared.token.Token.{Token}
use Rattle.cq_grammar.specs.declared.kind.Kind.{Kind}
use Rattle.cq_grammar.specs.declared.kind.Kind.TheVariants as k
use Rattle.cq_grammar.specs.Words.{kind, of, starts, same_kind, names}
use Rattle.cq_grammar.specs.Lang.{Lang, Both, Made, Optional}
use Rattle.cq_grammar.specs.Terminals.{The, Commas}
use Rattle.cq_grammar.specs.Nodes as node
use Rattle.cq_grammar.specs.Grammar as grammar
use Rattle.cq_grammar.specs.Grammar.{Deeper, expr, select, Tree, or_, and_, not_, term_, unary_}
use Rattle.cq_grammar.specs.Read.{Reader, Test, sees_two, sees_three, tail}
use Rattle.cq_grammar.specs.Descent as descent
use Rattle.cq_grammar.specs.Descent.{conditions, firsts, aliases, inner_words, join_words}
use Rattle.cq_grammar.proofs.Laws.{Mode, Clear, among_starts, apart_starts, regroup, true_false}
use Rattle.cq_grammar.proofs.Tokens.{token_of}
use Rattle.cq_grammar.proofs.Laws.{first_of_kinds}
use Rattle.cq_grammar.proofs.Sets.{outside, of_among, of_apart, of_in, starts_in}
use Rattle.cq_grammar.proofs.Shapes.{Ruled, Avoids, after, seen, ◌then◌, either, maybe, some_of_these, second, word, commas, comma, clear_by, stated, rule, option, plain_rule}
use Rattle.cq_grammar.proofs.Ahead.{OpensBy, ClearBy, three_grows, three_settles, by_sight}
use Rattle.cq_grammar.proofs.Begun.{all_of_so, output_so, column_atom}
use Rattle.cq_grammar.proofs.Expressions.{or_goes, from_goes, select_goes, deeper, number, name, column_name, some_of, or_chain}

-- ---- a name, a dot and `*`

three_of_odd : (a b c : Bool) → (a && (b || c)) ≡ false → (a && c) ≡ false
three_of_odd false b c h = refl
three_of_odd true true c h = let bad : true ≡ false = h in absurd (cc)
three_of_odd true false c h = h

module _ (W : ℕ → (d : Deeper) → Lang (Tree d)) where
  all_of_opens : OpensBy (sees_three names (k.Dot ∷ []) (k.Star ∷ [])) (grammar.all_of W)
  unfolding grammar.all_of
  all_of_opens v y w =
      let back = w.phrase.right.phrase in
      ap (sees_three names (k.Dot ∷ []) (k.Star ∷ [])) (w.phrase.whole ∙ ap₂ (λ i j. i ++ j) w.phrase.left.phrase.alone (back.whole ∙ ap₂ (λ i j. i ++ j) back.left.phrase.alone back.right.phrase.alone))
      ∙ both_true (of names (kind w.phrase.left.from)) _ w.phrase.left.phrase.kind
      (both_true (of (k.Dot ∷ []) (kind back.left.from)) (of (k.Star ∷ []) (kind back.right.from)) back.left.phrase.kind back.right.phrase.kind)

module _ (S : Type 0) (H : Mode) (r : ℕ → (d : Deeper) → Reader (Tree d)) (P W : ℕ → (d : Deeper) → Lang (Tree d)) (lower : (n : ℕ) (d : Deeper) → Ruled S H (r n d) (P n d) (W n d) (deeper d)) where
  all_of : Ruled S H (descent.all_of r) (grammar.all_of P) (grammar.all_of W) (rule names [])
  unfolding grammar.all_of descent.all_of of same_kind
  all_of = stated (seen _ (name then second (word k.Dot) (word k.Star))) _ refl

  pub condition : Ruled S H (descent.or_chain r) (grammar.or_chain P) (grammar.or_chain W) (plain_rule conditions or_goes)
  condition = or_chain S H r P W lower

  pub output : Ruled S H (descent.output r) (grammar.output P) (grammar.output W) (plain_rule conditions (k.As ∷ or_goes))
  unfolding grammar.output descent.output of same_kind
  output = stated (seen _ (condition then maybe (k.As ∷ []) (second (word k.As) column_name) refl)) _ refl

  output_clear : ClearBy (sees_three names (k.Dot ∷ []) (k.Star ∷ [])) (grammar.output W) (of (k.As ∷ or_goes))
  unfolding of same_kind
  output_clear v y m w sm =
      three_of_odd (starts (of names) (y ++ m)) (starts (of (k.Open ∷ [])) (tail (y ++ m))) _
      (output.plain refl v y m w (among_starts (of after) (of (k.As ∷ or_goes)) (of_among after (k.As ∷ or_goes) refl) m sm))

  pub select_item : Ruled S H (descent.select_item r) (grammar.select_item P) (grammar.select_item W) (rule (k.Star ∷ conditions) (k.As ∷ or_goes))
  unfolding grammar.select_item descent.select_item of same_kind
  select_item = stated (either (k.Star ∷ []) (seen _ (word k.Star)) (by_sight all_of output refl refl _ (three_grows names (k.Dot ∷ []) (k.Star ∷ [])) (all_of_opens W) output_clear
      (three_settles names (k.Dot ∷ []) (k.Star ∷ []) _ (token_of k.Dot) (first_of_kinds k.Dot []) (all_of_so P))
      (three_settles names (k.Dot ∷ []) (k.Star ∷ []) _ (token_of k.Dot) (first_of_kinds k.Dot []) (λ t u is_name dot. output_so P (column_atom P t u is_name dot)))) refl) _ refl

  -- ---- relations

  alias : Ruled S H (descent.alias r) (grammar.alias P) (grammar.alias W) (rule aliases [])
  unfolding grammar.alias descent.alias of same_kind
  alias = stated (maybe (k.As ∷ []) (word k.As) refl then name) _ refl

  table : Ruled S H (descent.table r) (grammar.table P) (grammar.table W) (rule names aliases)
  unfolding grammar.table descent.table of same_kind
  table = stated (seen _ (name then maybe aliases alias refl)) _ refl

  subquery : Ruled S H (descent.subquery r) (grammar.subquery P) (grammar.subquery W) (rule (k.Open ∷ []) [])
  unfolding grammar.subquery descent.subquery of same_kind
  subquery = stated (seen _ (word k.Open then lower 1 select then word k.Close then alias)) _ refl

  relation : Ruled S H (descent.relation r) (grammar.relation P) (grammar.relation W) (rule (k.Open ∷ names) aliases)
  unfolding grammar.relation descent.relation of same_kind
  relation = stated (either names table subquery refl) _ refl

  on : Ruled S H (descent.on r) (grammar.on P) (grammar.on W) (rule (k.On ∷ []) or_goes)
  unfolding grammar.on descent.on of same_kind
  on = stated (second (word k.On) condition) _ refl

  inner_join : Ruled S H (descent.inner_join r) (grammar.inner_join P) (grammar.inner_join W) (rule inner_words or_goes)
  unfolding grammar.inner_join descent.inner_join of same_kind
  inner_join = stated (seen _ (maybe (k.Inner ∷ []) (word k.Inner) refl then word k.Join then relation then on)) _ refl

  left_join : Ruled S H (descent.left_join r) (grammar.left_join P) (grammar.left_join W) (rule (k.Left ∷ []) or_goes)
  unfolding grammar.left_join descent.left_join of same_kind
  left_join = stated (seen _ (word k.Left then maybe (k.Outer ∷ []) (word k.Outer) refl then word k.Join then relation then on)) _ refl

  cross_join : Ruled S H (descent.cross_join r) (grammar.cross_join P) (grammar.cross_join W) (rule (k.Cross ∷ []) aliases)
  unfolding grammar.cross_join descent.cross_join of same_kind
  cross_join = stated (seen _ (word k.Cross then second (word k.Join) relation)) _ refl

  pub join : Ruled S H (descent.join r) (grammar.join P) (grammar.join W) (rule join_words (aliases ++ or_goes))
  unfolding grammar.join descent.join of same_kind
  join = stated (either inner_words inner_join (either (k.Left ∷ []) left_join cross_join refl) refl) _ refl

  pub from_item : Ruled S H (descent.from_item r) (grammar.from_item P) (grammar.from_item W) (rule (k.Open ∷ names) from_goes)
  unfolding grammar.from_item descent.from_item of same_kind
  from_item = stated (seen _ (relation then some_of_these join_words (λ _. join) refl 0)) _ refl

  -- ---- the parts of a select

  pub filter : Ruled S H (descent.filter r) (grammar.filter P) (grammar.filter W) (option (k.Where ∷ []) (k.Where ∷ or_goes))
  unfolding grammar.filter descent.filter of same_kind
  filter = stated (maybe (k.Where ∷ []) (second (word k.Where) condition) refl) _ refl

  group_by : Ruled S H (descent.group_by r) (grammar.group_by P) (grammar.group_by W) (rule (k.Group ∷ []) (k.Comma ∷ or_goes))
  unfolding grammar.group_by descent.group_by of same_kind
  group_by = stated (seen _ (word k.Group then second (word k.By) (commas (λ _. condition)))) _ refl

  having : Ruled S H (descent.having r) (grammar.having P) (grammar.having W) (rule (k.Having ∷ []) or_goes)
  unfolding grammar.having descent.having of same_kind
  having = stated (seen _ (word k.Having then condition)) _ refl

  pub order_key : Ruled S H (descent.order_key r) (grammar.order_key P) (grammar.order_key W) (rule conditions (k.Asc ∷ k.Desc ∷ or_goes))
  unfolding grammar.order_key descent.order_key of same_kind
  order_key = stated (seen _ (condition then maybe node.direction_words (some_of _ _) refl)) _ refl

  order_by : Ruled S H (descent.order_by r) (grammar.order_by P) (grammar.order_by W) (option (k.Order ∷ []) (k.Order ∷ k.Comma ∷ k.Asc ∷ k.Desc ∷ or_goes))
  unfolding grammar.order_by descent.order_by of same_kind
  order_by = stated (seen _ (maybe (k.Order ∷ []) (second (word k.Order) (second (word k.By) (commas (λ _. order_key)))) refl)) _ refl

  limit : Ruled S H (descent.limit r) (grammar.limit P) (grammar.limit W) (option (k.Limit ∷ []) (k.Limit ∷ []))
  unfolding grammar.limit descent.limit of same_kind
  limit = stated (maybe (k.Limit ∷ []) (second (word k.Limit) number) refl) _ refl

  offset : Ruled S H (descent.offset r) (grammar.offset P) (grammar.offset W) (option (k.Offset ∷ []) (k.Offset ∷ []))
  unfolding grammar.offset descent.offset of same_kind
  offset = stated (maybe (k.Offset ∷ []) (second (word k.Offset) number) refl) _ refl

  select_list : Ruled S H (descent.select_list r) (grammar.select_list P) (grammar.select_list W) (rule (k.Select ∷ []) (k.Comma ∷ k.As ∷ or_goes))
  unfolding grammar.select_list descent.select_list of same_kind
  select_list = stated (word k.Select then maybe (k.Distinct ∷ []) (word k.Distinct) refl then commas (λ _. select_item)) _ refl

  selection : Ruled S H (descent.selection r) (grammar.selection P) (grammar.selection W) (rule (k.Select ∷ []) (k.Where ∷ k.Comma ∷ from_goes))
  unfolding grammar.selection descent.selection of same_kind
  selection = stated (select_list then second (word k.From) (commas (λ _. from_item)) then filter) _ refl

  grouping : Ruled S H (descent.grouping r) (grammar.grouping P) (grammar.grouping W) (option (k.Group ∷ k.Having ∷ []) (k.Group ∷ k.Having ∷ k.Comma ∷ or_goes))
  unfolding grammar.grouping descent.grouping of same_kind
  grouping = stated (maybe (k.Group ∷ []) group_by refl then maybe (k.Having ∷ []) having refl) _ refl

  ordering : Ruled S H (descent.ordering r) (grammar.ordering P) (grammar.ordering W)
      (option (k.Order ∷ k.Limit ∷ k.Offset ∷ []) (k.Offset ∷ k.Limit ∷ k.Order ∷ k.Comma ∷ k.Asc ∷ k.Desc ∷ or_goes))
  unfolding grammar.ordering descent.ordering of same_kind
  ordering = stated (order_by then limit then offset) _ refl

  pub selected : Ruled S H (descent.selected r) (grammar.selected P) (grammar.selected W) (rule (k.Select ∷ []) select_goes)
  unfolding grammar.selected descent.selected of same_kind
  selected = stated (seen _ (selection then grouping then ordering)) _ refl

-- ---- no select begins as a call

-- the name of a function and `(`
abbrev call_test : Test
call_test = sees_two (k.Call ∷ []) (k.Open ∷ [])

two_of_odd : (a b c d : Bool) → (c ≡ true → a ≡ true) → (a && (b || d)) ≡ false → (c && b) ≡ false
two_of_odd a b false d sub h = refl
two_of_odd true true true d sub h = h
two_of_odd true false true d sub h = refl
two_of_odd false b true d sub h = let bad : false ≡ true = sub refl in absurd (cc)

both_avoids : {A B : Type 0} (test : Test) {Q : Lang A} {V : Lang B} → Avoids test Q after → Clear (of after) V (of after) → Avoids test (Both Q V) after
both_avoids test c d a y m w sm = ap test (ap (λ i. i ++ m) w.whole ∙ regroup w.front w.back m) ∙ c a.0 w.front (w.back ++ m) w.left (d a.1 w.back m w.right sm)

made_avoids : {A B : Type 0} (test : Test) (f : A → B) {Q : Lang A} → Avoids test Q after → Avoids test (Made f Q) after
made_avoids test f c b y m w sm = c w.from y m w.phrase sm

-- what begins with another token
others : (a b fs : List Kind) (y : List Token) → starts (of fs) y ≡ true → outside a fs ≡ true → sees_two a b y ≡ false
others a b fs y is out = ap (λ i. i && starts (of b) (tail y)) (apart_starts (of fs) (of a) (of_apart fs a out) y is)

module _ (S : Type 0) (H : Mode) (r : ℕ → (d : Deeper) → Reader (Tree d)) (P W : ℕ → (d : Deeper) → Lang (Tree d)) (lower : (n : ℕ) (d : Deeper) → Ruled S H (r n d) (P n d) (W n d) (deeper d)) where
  item_no_call : Avoids call_test (grammar.select_item W) after
  unfolding grammar.select_item grammar.all_of of same_kind
  item_no_call a y m (inl w) sm = ap (λ i. call_test (i ++ m)) w.phrase.phrase.alone ∙ others (k.Call ∷ []) (k.Open ∷ []) (k.Star ∷ []) (w.phrase.from ∷ m) w.phrase.phrase.kind refl
  item_no_call a y m (inr (inl w)) sm =
      let back = w.phrase.right.phrase in
      ap (λ i. call_test (i ++ m)) (w.phrase.whole ∙ ap₂ (λ i j. i ++ j) w.phrase.left.phrase.alone (back.whole ∙ ap (λ i. i ++ back.back) back.left.phrase.alone))
      ∙ no_second (of (k.Call ∷ []) (kind w.phrase.left.from)) _ (of_apart (k.Dot ∷ []) (k.Open ∷ []) refl (kind back.left.from) back.left.phrase.kind)
    where
      no_second : (a b : Bool) → b ≡ false → (a && b) ≡ false
      no_second true b h = h
      no_second false b h = refl
  item_no_call a y m (inr (inr w)) sm =
      two_of_odd (starts (of names) (y ++ m)) (starts (of (k.Open ∷ [])) (tail (y ++ m))) (starts (of (k.Call ∷ [])) (y ++ m)) _
      (starts_in (of (k.Call ∷ [])) (of names) (of_in (k.Call ∷ []) names refl) (y ++ m)) ((output S H r P W lower).plain refl a y m w sm)

  items_no_call : Avoids call_test (Commas (λ _. grammar.select_item W)) after
  unfolding of same_kind
  items_no_call = made_avoids call_test _ (both_avoids call_test item_no_call
      (clear_by after after (some_of_these comma (λ i. second (word k.Comma) (select_item S H r P W lower)) refl 1) refl (λ _ j h. h)))

  list_no_call : Avoids call_test (Both (Optional (The k.Distinct)) (Commas (λ _. grammar.select_item W))) after
  unfolding of same_kind
  list_no_call a y m w sm = ap call_test (ap (λ i. i ++ m) w.whole ∙ regroup w.front w.back m) ∙ by w.left
    where
      by : Optional (The k.Distinct) a.0 w.front → call_test (w.front ++ (w.back ++ m)) ≡ false
      by (inl d) = ap (λ i. call_test (i ++ (w.back ++ m))) d.phrase.phrase.alone ∙ others (k.Call ∷ []) (k.Open ∷ []) (k.Distinct ∷ []) (d.phrase.from ∷ (w.back ++ m)) d.phrase.phrase.kind refl
      by (inr n) = ap (λ i. call_test (i ++ (w.back ++ m))) n.none ∙ items_no_call a.1 w.back m w.right sm

  select_no_call : Avoids (sees_three (k.Select ∷ []) (k.Call ∷ []) (k.Open ∷ [])) (grammar.select_list W) after
  unfolding grammar.select_list
  select_no_call a y m w sm =
      ap (sees_three (k.Select ∷ []) (k.Call ∷ []) (k.Open ∷ [])) (ap (λ i. i ++ m) (w.whole ∙ ap (λ i. i ++ w.back) w.left.phrase.alone))
      ∙ no_second (of (k.Select ∷ []) (kind w.left.from)) _ (list_no_call a.1 w.back m w.right sm)
    where
      no_second : (a b : Bool) → b ≡ false → (a && b) ≡ false
      no_second true b h = h
      no_second false b h = refl

  pub selected_no_call : Avoids (sees_three (k.Select ∷ []) (k.Call ∷ []) (k.Open ∷ [])) (grammar.selected W) after
  unfolding grammar.selected grammar.selection of same_kind
  selected_no_call =
      let test = sees_three (k.Select ∷ []) (k.Call ∷ []) (k.Open ∷ []) in
      made_avoids test _ (both_avoids test (both_avoids test select_no_call
      (clear_by after after (second (word k.From) (commas (λ _. from_item S H r P W lower)) then filter S H r P W lower) refl (λ is. true_false is refl)))
      (clear_by after after (grouping S H r P W lower then ordering S H r P W lower) refl (λ _ j h. h)))
