-- The reader accepts the grammar of expressions, rule by rule.
use Rattle.std.proofs.Common.{◌≡◌, ℕ, ◌+◌, List, [], ◌∷◌, ◌++◌, Bool, true, false, Option, inl, inr, refl, ◌∙◌, ap, ap₂, ◌&&◌, ◌||◌}
use Rattle.cq_value.proofs.Truths.{right_false}
use Rattle.cq_token.specs.declared.token.Token.{Token}
use Rattle.cq_grammar.specs.declared.kind.Kind.{Kind}
use Rattle.cq_grammar.specs.declared.kind.Kind.TheVariants as k
use Rattle.cq_grammar.specs.Words.{kind, of, starts, same_kind, names, column_names}
use Rattle.cq_grammar.specs.Lang.{Lang, Optional, Behind}
use Rattle.cq_grammar.specs.Terminals.{The, Some-of, Commas, kind_at, name_of, count_of, quoted_of}
use Rattle.cq_grammar.specs.Terminals as terminal
use Rattle.cq_grammar.specs.Nodes as node
use Rattle.cq_grammar.specs.Grammar as grammar
use Rattle.cq_grammar.specs.Grammar.{digits, Deeper, expr, select, Tree, or_, and_, not_, term_, unary_}
use Rattle.cq_grammar.specs.declared.name.Name.{Name}
use Rattle.cq_grammar.specs.Read.{Reader, tail}
use Rattle.cq_grammar.proofs.Laws.{Mode, among_starts}
use Rattle.cq_grammar.proofs.Sets.{of_among, of_apart}
use Rattle.cq_grammar.specs.Descent as descent
use Rattle.cq_grammar.specs.Descent.{literals, atoms, unaries, conditions, firsts, aliases, tested_words, inner_words, join_words}
use Rattle.cq_grammar.proofs.Shapes.{Shape, Ruled, odd, after, one_shape, token, seen, ◌then◌, either, maybe, some_of_these, second, word, one_or_more, commas, stated, rule, option, plain_rule, deeper_rule}

-- ---- the kinds that make a phrase longer

abbrev pub term_goes : List Kind
term_goes = node.multiply_signs ++ after

abbrev pub sum_goes : List Kind
sum_goes = node.add_signs ++ term_goes

abbrev pub tested_goes : List Kind
tested_goes = tested_words ++ sum_goes

abbrev pub comparison_goes : List Kind
comparison_goes = node.comparison_signs ++ tested_goes

abbrev pub is_goes : List Kind
is_goes = k.Is ∷ comparison_goes

abbrev pub and_goes : List Kind
and_goes = k.And ∷ is_goes

abbrev pub or_goes : List Kind
or_goes = k.Or ∷ and_goes

abbrev pub from_goes : List Kind
from_goes = join_words ++ aliases ++ or_goes

abbrev pub select_goes : List Kind
select_goes = k.Offset ∷ k.Limit ∷ k.Order ∷ k.Asc ∷ k.Desc ∷ k.Having ∷ k.Group ∷ k.Where ∷ k.Comma ∷ from_goes

abbrev pub goes : Deeper → List Kind
goes (expr or_) = or_goes
goes (expr and_) = and_goes
goes (expr not_) = is_goes
goes (expr term_) = term_goes
goes (expr unary_) = after
goes select = select_goes

abbrev pub deeper : Deeper → Shape
deeper d = deeper_rule (firsts d) (goes d)

-- ---- tokens

module _ {S : Type 0} {H : Mode} where
  pub number : Ruled S H descent.a_number terminal.a_number terminal.a_number (one_shape (k.Number ∷ []))
  unfolding descent.a_number
  number = seen count_of (token k.Number [])

  pub quoted : Ruled S H descent.a_quoted terminal.a_quoted terminal.a_quoted (one_shape (k.Quoted ∷ []))
  unfolding descent.a_quoted
  quoted = seen quoted_of (token k.Quoted [])

  pub name : Ruled S H (descent.named names) terminal.a_name terminal.a_name (one_shape names)
  unfolding descent.named
  name = seen name_of (token _ _)

  pub column_name : Ruled S H (descent.named column_names) terminal.a_column_name terminal.a_column_name (one_shape column_names)
  unfolding descent.named
  column_name = seen name_of (token _ _)

  pub some_of : (j : Kind) (ks : List Kind) → Ruled S H (descent.some_of (j ∷ ks)) (Some-of (j ∷ ks)) (Some-of (j ∷ ks)) (one_shape (j ∷ ks))
  unfolding descent.some_of
  some_of j ks = seen kind_at (token j ks)

-- ---- a name, and what may stand behind it

name_plain : (t : Token) (rest : List Token) → starts (of (k.Open ∷ [])) rest ≡ false → (starts (of (k.Dot ∷ [])) rest && starts (of (k.Star ∷ [])) (tail rest)) ≡ false → odd (t ∷ rest) ≡ false
name_plain t rest h d = right_false (of names (kind t)) _ (ap (λ i. i || (starts (of (k.Dot ∷ [])) rest && starts (of (k.Star ∷ [])) (tail rest))) h ∙ d)

behind_name : (t : Token) (c : Option Name) (z m : List Token) → Optional (Behind (The k.Dot) terminal.a_column_name) c z → starts (of after) m ≡ false → odd (t ∷ (z ++ m)) ≡ false
unfolding of same_kind
behind_name t c z m (inr n) sm = ap (λ i. odd (t ∷ (i ++ m))) n.none ∙ name_plain t m (among_starts (of (k.Open ∷ [])) (of after) (of_among (k.Open ∷ []) after refl) m sm)
    (ap (λ i. i && starts (of (k.Star ∷ [])) (tail m)) (among_starts (of (k.Dot ∷ [])) (of after) (of_among (k.Dot ∷ []) after refl) m sm))
behind_name t c z m (inl w) sm =
    let dot = w.phrase.phrase.left.phrase in
    let column = w.phrase.phrase.right.phrase in
    let e : z ≡ w.phrase.phrase.left.from ∷ w.phrase.phrase.right.from ∷ [] = w.phrase.phrase.whole ∙ ap₂ (λ i j. i ++ j) dot.alone column.alone in
    ap (λ i. odd (t ∷ (i ++ m))) e ∙ name_plain t (w.phrase.phrase.left.from ∷ w.phrase.phrase.right.from ∷ m) (of_apart (k.Dot ∷ []) (k.Open ∷ []) refl (kind w.phrase.phrase.left.from) dot.kind)
    (right_false (of (k.Dot ∷ []) (kind w.phrase.phrase.left.from)) _ (of_apart column_names (k.Star ∷ []) refl (kind w.phrase.phrase.right.from) column.kind))

module _ (S : Type 0) (H : Mode) (r : ℕ → (d : Deeper) → Reader (Tree d)) (P W : ℕ → (d : Deeper) → Lang (Tree d)) (lower : (n : ℕ) (d : Deeper) → Ruled S H (r n d) (P n d) (W n d) (deeper d)) where
  -- ---- what stands alone

  pub literal : Ruled S H (descent.literal r) (grammar.literal P) (grammar.literal W) (plain_rule literals [])
  unfolding grammar.literal descent.literal of same_kind
  literal = stated (either (k.Number ∷ []) (seen _ number) (either (k.Quoted ∷ []) (seen _ quoted) (seen _ (word k.Null)) refl) refl) _ refl

  group : Ruled S H (descent.group r) (grammar.group P) (grammar.group W) (plain_rule (k.Open ∷ []) [])
  unfolding grammar.group descent.group of same_kind
  group = stated (seen _ (word k.Open then lower 1 (expr or_) then word k.Close)) _ refl

  pub arm : Ruled S H (descent.arm r) (grammar.arm P) (grammar.arm W) (rule (k.When ∷ []) or_goes)
  unfolding grammar.arm descent.arm of same_kind
  arm = stated (seen _ (second (word k.When) (lower 1 (expr or_)) then second (word k.Then) (lower 1 (expr or_)))) _ refl

  otherwise : Ruled S H (descent.otherwise r) (grammar.otherwise P) (grammar.otherwise W) (option (k.Else ∷ []) (k.Else ∷ or_goes))
  unfolding grammar.otherwise descent.otherwise of same_kind
  otherwise = stated (maybe (k.Else ∷ []) (second (word k.Else) (lower 1 (expr or_))) refl) _ refl

  case : Ruled S H (descent.case r) (grammar.case P) (grammar.case W) (plain_rule (k.Case ∷ []) [])
  unfolding grammar.case descent.case of same_kind
  case = stated (seen _ (word k.Case then one_or_more (k.When ∷ []) (λ _. arm) refl then otherwise then word k.End)) _ refl

  coalesce : Ruled S H (descent.coalesce r) (grammar.coalesce P) (grammar.coalesce W) (plain_rule (k.Coalesce ∷ []) [])
  unfolding grammar.coalesce descent.coalesce of same_kind
  coalesce = stated (seen _ (word k.Coalesce then word k.Open then commas (λ _. lower 1 (expr or_)) then word k.Close)) _ refl

  counted : Ruled S H (descent.counted r) (grammar.counted P) (grammar.counted W) (deeper_rule (k.Star ∷ conditions) or_goes)
  unfolding grammar.counted descent.counted of same_kind
  counted = stated (either (k.Star ∷ []) (seen _ (word k.Star)) (seen _ (lower 1 (expr or_))) refl) _ refl

  count : Ruled S H (descent.count r) (grammar.count P) (grammar.count W) (plain_rule (k.Count ∷ []) [])
  unfolding grammar.count descent.count of same_kind
  count = stated (seen _ (word k.Count then word k.Open then counted then word k.Close)) _ refl

  aggregate : Ruled S H (descent.aggregate r) (grammar.aggregate P) (grammar.aggregate W) (plain_rule node.aggregate_words [])
  unfolding grammar.aggregate descent.aggregate of same_kind
  aggregate = stated (seen _ (some_of _ _ then word k.Open then lower 1 (expr or_) then word k.Close)) _ refl

  column : Ruled S H (descent.column r) (grammar.column P) (grammar.column W) (plain_rule names after)
  unfolding grammar.column descent.column of same_kind
  column =
      let c = stated (seen (λ (name, more). node.column_of name more) (name then maybe (k.Dot ∷ []) (second (word k.Dot) column_name) refl)) (rule names after) refl in
      record {
        some = c.some;
        full = c.full;
        none = c.none;
        opens = c.opens;
        plain = λ _ a y m w sm.
            ap odd (ap (λ i. i ++ m) (w.phrase.whole ∙ ap (λ i. i ++ w.phrase.back) w.phrase.left.phrase.alone))
            ∙ behind_name w.phrase.left.from w.from.1 w.phrase.back m w.phrase.right sm;
        lawful = c.lawful;
      }

  pub atom : Ruled S H (descent.atom r) (grammar.atom P) (grammar.atom W) (plain_rule atoms after)
  unfolding grammar.atom descent.atom of same_kind
  atom = stated (either literals literal (either names column (either (k.Open ∷ []) group (either (k.Case ∷ []) case (either (k.Coalesce ∷ []) coalesce
      (either (k.Count ∷ []) count aggregate refl) refl) refl) refl) refl) refl) _ refl

  -- ---- signs

  signed : Ruled S H (descent.signed r) (grammar.signed P) (grammar.signed W) (plain_rule node.add_signs after)
  unfolding grammar.signed descent.signed of same_kind
  signed = stated (seen _ (some_of _ _ then lower 1 (expr unary_))) _ refl

  pub unary : Ruled S H (descent.unary r) (grammar.unary P) (grammar.unary W) (plain_rule unaries after)
  unfolding grammar.unary descent.unary of same_kind
  unary = stated (either node.add_signs signed atom refl) _ refl

  pub multiplied : (i : ℕ) → Ruled S H (descent.multiplied r i) (grammar.multiplied P i) (grammar.multiplied W i) (rule node.multiply_signs after)
  unfolding grammar.multiplied descent.multiplied of same_kind
  multiplied i = stated (seen _ (some_of _ _ then lower i (expr unary_))) _ refl

  pub term : Ruled S H (descent.term r) (grammar.term P) (grammar.term W) (plain_rule unaries term_goes)
  unfolding grammar.term descent.term of same_kind
  term = stated (seen _ (unary then some_of_these node.multiply_signs multiplied refl 1)) _ refl

  pub added : (i : ℕ) → Ruled S H (descent.added r i) (grammar.added P i) (grammar.added W i) (rule node.add_signs term_goes)
  unfolding grammar.added descent.added of same_kind
  added i = stated (seen _ (some_of _ _ then lower i (expr term_))) _ refl

  pub sum : Ruled S H (descent.sum r) (grammar.sum P) (grammar.sum W) (plain_rule unaries sum_goes)
  unfolding grammar.sum descent.sum of same_kind
  sum = stated (seen _ (term then some_of_these node.add_signs added refl 1)) _ refl

  -- ---- conditions

  in_what : Ruled S H (descent.in_what r) (grammar.in_what P) (grammar.in_what W) (deeper_rule (k.Select ∷ conditions) (k.Comma ∷ select_goes))
  unfolding grammar.in_what descent.in_what of same_kind
  in_what = stated (either (k.Select ∷ []) (seen _ (lower 1 select)) (seen _ (commas (λ i. lower (1 + digits i) (expr or_)))) refl) _ refl

  in_test : Ruled S H (descent.in_test r) (grammar.in_test P) (grammar.in_test W) (rule (k.In ∷ []) [])
  unfolding grammar.in_test descent.in_test of same_kind
  in_test = stated (seen _ (word k.In then word k.Open then in_what then word k.Close)) _ refl

  between_test : Ruled S H (descent.between_test r) (grammar.between_test P) (grammar.between_test W) (rule (k.Between ∷ []) sum_goes)
  unfolding grammar.between_test descent.between_test of same_kind
  between_test = stated (seen _ (word k.Between then sum then second (word k.And) sum)) _ refl

  test : Ruled S H (descent.test r) (grammar.test P) (grammar.test W) (rule tested_words sum_goes)
  unfolding grammar.test descent.test of same_kind
  test = stated (maybe (k.Not ∷ []) (word k.Not) refl then either (k.In ∷ []) in_test between_test refl) _ refl

  tested : Ruled S H (descent.tested r) (grammar.tested P) (grammar.tested W) (plain_rule unaries tested_goes)
  unfolding grammar.tested descent.tested of same_kind
  tested = stated (seen _ (sum then maybe tested_words test refl)) _ refl

  comparison : Ruled S H (descent.comparison r) (grammar.comparison P) (grammar.comparison W) (plain_rule unaries comparison_goes)
  unfolding grammar.comparison descent.comparison of same_kind
  comparison = stated (seen _ (tested then maybe node.comparison_signs (some_of _ _ then tested) refl)) _ refl

  pub null_test : Ruled S H (descent.null_test r) (grammar.null_test P) (grammar.null_test W) (rule (k.Is ∷ []) [])
  unfolding grammar.null_test descent.null_test of same_kind
  null_test = stated (seen _ (word k.Is then maybe (k.Not ∷ []) (word k.Not) refl then word k.Null)) _ refl

  is : Ruled S H (descent.is r) (grammar.is P) (grammar.is W) (plain_rule unaries is_goes)
  unfolding grammar.is descent.is of same_kind
  is = stated (seen _ (comparison then some_of_these (k.Is ∷ []) (λ _. null_test) refl 0)) _ refl

  pub negation : Ruled S H (descent.negation r) (grammar.negation P) (grammar.negation W) (plain_rule conditions is_goes)
  unfolding grammar.negation descent.negation of same_kind
  negation = stated (either (k.Not ∷ []) (seen _ (word k.Not then lower 1 (expr not_))) is refl) _ refl

  pub and_part : (i : ℕ) → Ruled S H (descent.and_part r i) (grammar.and_part P i) (grammar.and_part W i) (rule (k.And ∷ []) is_goes)
  unfolding grammar.and_part descent.and_part of same_kind
  and_part i = stated (seen _ (word k.And then lower (digits i) (expr not_))) _ refl

  pub and_chain : Ruled S H (descent.and_chain r) (grammar.and_chain P) (grammar.and_chain W) (plain_rule conditions and_goes)
  unfolding grammar.and_chain descent.and_chain of same_kind
  and_chain = stated (seen _ (negation then some_of_these (k.And ∷ []) and_part refl 1)) _ refl

  pub or_part : (i : ℕ) → Ruled S H (descent.or_part r i) (grammar.or_part P i) (grammar.or_part W i) (rule (k.Or ∷ []) and_goes)
  unfolding grammar.or_part descent.or_part of same_kind
  or_part i = stated (seen _ (word k.Or then lower (digits i) (expr and_))) _ refl

  pub or_chain : Ruled S H (descent.or_chain r) (grammar.or_chain P) (grammar.or_chain W) (plain_rule conditions or_goes)
  unfolding grammar.or_chain descent.or_chain of same_kind
  or_chain = stated (seen _ (and_chain then some_of_these (k.Or ∷ []) or_part refl 1)) _ refl
