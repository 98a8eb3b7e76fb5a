-- What the rules of SELECT keep, where what may stand deeper does; and so at any depth.
use Rattle.std.proofs.Common.{◌≡◌, ℕ, zero, suc, List, [], ◌∷◌, ◌++◌, codes, map, Option, Some, None, is_some, inl, inr, refl, sym, ◌∙◌, ap, subst}
use Rattle.std.proofs.lemmas.List.{append-nil}
use Rattle.cq_token.specs.declared.token.Token.{Token}
use Rattle.cq_token.specs.declared.token.TokenKind.TheVariants as token
use Rattle.cq_token.specs.declared.sign.Sign.TheVariants as s
use Rattle.cq_grammar.specs.Types.{Kind, Name, Expr, Count, Relation, roll-From, roll-GroupBy, roll-Having, OrderKey, roll-Select}
use Rattle.cq_grammar.specs.declared.kind.Kind.TheVariants as k
use Rattle.cq_grammar.specs.declared.rule.Rule.TheVariants.{Or as or_, And as and_, Not as not_, Term as term_, Unary as unary_}
use Rattle.cq_grammar.specs.declared.query.Item.TheVariants as items
use Rattle.cq_grammar.specs.declared.query.Relation.TheVariants as relations
use Rattle.cq_grammar.specs.declared.query.Join.TheVariants as joins
use Rattle.cq_grammar.specs.Words.{of, same_kind}
use Rattle.cq_grammar.specs.Lang.{Lang, Made, Optional, Behind}
use Rattle.cq_grammar.specs.Terminals.{Some-of, Commas}
use Rattle.cq_grammar.specs.Grammar as g
use Rattle.cq_grammar.specs.Grammar.{Deeper, expr, select, Tree, below, upto}
use Rattle.cq_grammar.specs.Nodes as node
use Rattle.cq_grammar.specs.Spelling.{Kinds, word, sign, named, number, if_some, list_behind, direction_word, count_spelling, expr_spelling, item_spelling, join_spelling, relation_spelling, from_spelling, group_by_spelling, having_spelling, order_key_spelling, select_spelling}
use Rattle.cq_grammar.specs.Bare.{
  bare_name,
  bare_count,
  if_any,
  bare_expr,
  bare_item,
  bare_join,
  bare_relation,
  bare_from,
  bare_group_by,
  bare_having,
  bare_order_key,
  bare_select,
}
use Rattle.cq_grammar.proofs.Spelled.{
  spelled-All,
  spelled-AllOf,
  spelled-Value,
  spelled-Inner,
  spelled-Left,
  spelled-Cross,
  spelled-Table,
  spelled-TableAs,
  spelled-Subquery,
  spelled-From,
  spelled-GroupBy,
  spelled-Having,
  spelled-OrderKey,
  spelled-Select,
}
use Rattle.cq_grammar.proofs.Bared.{
  bare-All,
  bare-AllOf,
  bare-Value,
  bare-Inner,
  bare-Left,
  bare-Cross,
  bare-Table,
  bare-TableAs,
  bare-Subquery,
  bare-From,
  bare-GroupBy,
  bare-Having,
  bare-OrderKey,
  bare-Select,
}
use Rattle.cq_grammar.proofs.Letters.{says_word}
use Rattle.cq_grammar.proofs.Terms.{the_word, some_keeps, a_name_keeps, a_column_name_keeps, number_keeps}
use Rattle.cq_grammar.proofs.Keeping.{
  Keeps,
  made_keeps,
  made_of_phrases,
  both_keeps,
  either_keeps,
  optional_keeps,
  empty_keeps,
  many_keeps,
  behind_keeps,
  commas_keep,
  if_known,
}
use Rattle.cq_grammar.proofs.SpelledExpressions.{
  KeepsThe,
  comma,
  opening,
  closing,
  dot,
  star,
  written_known,
  no_place,
  still_some,
  behind_known,
  spelling_of,
  bare_of,
  or_chain_keeps,
  and_chain_keeps,
  negation_keeps,
  term_keeps,
  unary_keeps,
}

pub as_ : KeepsThe k.As (word (codes "as"))
unfolding of same_kind
as_ = the_word k.As (codes "as") refl refl refl refl

pub select_ : KeepsThe k.Select (word (codes "select"))
unfolding of same_kind
select_ = the_word k.Select (codes "select") refl refl refl refl

distinct : KeepsThe k.Distinct (word (codes "distinct"))
unfolding of same_kind
distinct = the_word k.Distinct (codes "distinct") refl refl refl refl

pub from_ : KeepsThe k.From (word (codes "from"))
unfolding of same_kind
from_ = the_word k.From (codes "from") refl refl refl refl

pub where_ : KeepsThe k.Where (word (codes "where"))
unfolding of same_kind
where_ = the_word k.Where (codes "where") refl refl refl refl

group : KeepsThe k.Group (word (codes "group"))
unfolding of same_kind
group = the_word k.Group (codes "group") refl refl refl refl

by : KeepsThe k.By (word (codes "by"))
unfolding of same_kind
by = the_word k.By (codes "by") refl refl refl refl

having : KeepsThe k.Having (word (codes "having"))
unfolding of same_kind
having = the_word k.Having (codes "having") refl refl refl refl

order : KeepsThe k.Order (word (codes "order"))
unfolding of same_kind
order = the_word k.Order (codes "order") refl refl refl refl

limit : KeepsThe k.Limit (word (codes "limit"))
unfolding of same_kind
limit = the_word k.Limit (codes "limit") refl refl refl refl

offset : KeepsThe k.Offset (word (codes "offset"))
unfolding of same_kind
offset = the_word k.Offset (codes "offset") refl refl refl refl

inner : KeepsThe k.Inner (word (codes "inner"))
unfolding of same_kind
inner = the_word k.Inner (codes "inner") refl refl refl refl

left : KeepsThe k.Left (word (codes "left"))
unfolding of same_kind
left = the_word k.Left (codes "left") refl refl refl refl

outer : KeepsThe k.Outer (word (codes "outer"))
unfolding of same_kind
outer = the_word k.Outer (codes "outer") refl refl refl refl

cross : KeepsThe k.Cross (word (codes "cross"))
unfolding of same_kind
cross = the_word k.Cross (codes "cross") refl refl refl refl

join : KeepsThe k.Join (word (codes "join"))
unfolding of same_kind
join = the_word k.Join (codes "join") refl refl refl refl

pub on : KeepsThe k.On (word (codes "on"))
unfolding of same_kind
on = the_word k.On (codes "on") refl refl refl refl

direction_words : Keeps (λ c. word (direction_word (node.direction_of c.0))) (λ c. (c.0, 0)) (Some-of node.direction_words)
unfolding of same_kind
direction_words =
    some_keeps node.direction_words (λ i. token.Name (direction_word (node.direction_of i)))
    (says_word k.Asc (codes "asc") refl refl refl refl, (says_word k.Desc (codes "desc") refl refl refl refl, tt))

-- ---- nodes

pub maybe_spelled : {A : Type 0} (w : A → Kinds) (o : Option A) → if_known w o ≡ if_some (if_any w o)
maybe_spelled w None = refl
maybe_spelled w (Some a) = refl

abbrev alias_spelling : Option ℕ × Name → Kinds
alias_spelling c = if_known (λ at. word (codes "as")) c.0 ++ named c.1

abbrev alias_bare : Option ℕ × Name → Option ℕ × Name
alias_bare c = (if_any no_place c.0, bare_name c.1)

relation_spelled : (name : Name) (o : Option (Option ℕ × Name)) → named name ++ if_known alias_spelling o ≡ relation_spelling (node.relation_of name o)
relation_spelled name None = append-nil (named name) ∙ sym (spelled-Table name)
relation_spelled name (Some (w, alias)) =
    ap (λ r. named name ++ (r ++ named alias)) (written_known (word (codes "as")) w) ∙ sym (spelled-TableAs name (is_some w) alias)

relation_bare : (name : Name) (o : Option (Option ℕ × Name)) → bare_relation (node.relation_of name o) ≡ node.relation_of (bare_name name) (if_any alias_bare o)
relation_bare name None = bare-Table name
relation_bare name (Some (None, alias)) = bare-TableAs name _ alias
relation_bare name (Some (Some w, alias)) = bare-TableAs name _ alias

abbrev joined_on : Relation → Expr → Kinds
joined_on relation on = word (codes "join") ++ (relation_spelling relation ++ (word (codes "on") ++ expr_spelling on))

inner_bare : (w : Option ℕ) (at : ℕ) (relation : Relation) (on : Expr)
    → bare_join (joins.Inner (is_some w) relation on (node.first_place w at)) ≡ joins.Inner (is_some (if_any no_place w)) (bare_relation relation) (bare_expr on) (node.first_place (if_any no_place w) 0)
inner_bare None at relation on = bare-Inner _ relation on at
inner_bare (Some w) at relation on = bare-Inner _ relation on w

order_key_spelled : (key : Expr) (o : Option (Kind × ℕ))
    → expr_spelling key ++ if_known (λ c. word (direction_word (node.direction_of c.0))) o ≡ order_key_spelling (node.order_key (key, o))
order_key_spelled key None = sym (spelled-OrderKey key None)
order_key_spelled key (Some (i, at)) = sym (spelled-OrderKey key (Some (node.direction_of i)))

order_key_bare : (key : Expr) (o : Option (Kind × ℕ)) → bare_order_key (node.order_key (key, o)) ≡ node.order_key (bare_expr key, if_any (λ c. (c.0, 0)) o)
order_key_bare key None = bare-OrderKey key None
order_key_bare key (Some (i, at)) = bare-OrderKey key (Some (node.direction_of i))

pub count_known : (front : List ℕ) (o : Option Count) → if_known (λ c. word front ++ number c.value) o ≡ count_spelling front o
count_known front None = refl
count_known front (Some c) = refl

-- the same, spelled by a name of its own
pub phrases_keep_as : {A : Type 0} {w : A → Kinds} {v : A → A} {P : Lang A} (x : A → Kinds) → ((a : A) (ts : List Token) → P a ts → w a ≡ x a) → Keeps w v P → Keeps x v P
phrases_keep_as x is m = record { spells = λ a ts p. m.spells a ts p ∙ is a ts p; moves = λ a ts p us e. m.moves a ts p us e }

pub keeps_as : {A : Type 0} {w : A → Kinds} {v : A → A} {P : Lang A} (x : A → Kinds) → ((a : A) → w a ≡ x a) → Keeps w v P → Keeps x v P
keeps_as x is m = phrases_keep_as x (λ a ts p. is a) m

-- ---- lists that may be left out

-- a list of one at least
abbrev pub IsSome : {A : Type 0} → List A → Type 0
IsSome [] = ⊥
IsSome (a ∷ more) = Unit {0}

pub commas_some : {A : Type 0} (P : ℕ → Lang A) (l : List A) (ts : List Token) → Commas P l ts → IsSome l
commas_some P l ts p = subst (λ l. IsSome l) (sym p.is) tt

-- phrases of one at least, or nothing
pub or_none_keeps : {A : Type 0} {w : List A → Kinds} {v : A → A} {P : Lang (List A)} (x : List A → Kinds) → ((l : List A) (ts : List Token) → P l ts → IsSome l)
    → x [] ≡ [] → ((a : A) (more : List A) → w (a ∷ more) ≡ x (a ∷ more)) → Keeps w (map v) P → Keeps x (map v) (Made node.or_none (Optional P))
or_none_keeps {A = A} {w = w} {v = v} {P = P} x some none is m =
    made_of_phrases x (map v) node.or_none (optional_keeps m) spelled bare
  where
    same : (l : List A) → IsSome l → w l ≡ x l
    same [] h = absurd h
    same (a ∷ more) h = is a more

    spelled : (o : Option (List A)) (ts : List Token) → Optional P o ts → if_known w o ≡ x (node.or_none o)
    spelled None ts p = sym none
    spelled (Some l) ts (inl p) = let e : l ≡ p.from = cc p.is in same l (some l ts (subst (λ i. P i ts) (sym e) p.phrase))
    spelled (Some l) ts (inr p) = absurd (cc p.is)

    bare : (o : Option (List A)) → map v (node.or_none o) ≡ node.or_none (if_any (map v) o)
    bare None = refl
    bare (Some l) = refl

pub behind_some : {A B : Type 0} (P : Lang A) (Q : Lang (List B)) → ((l : List B) (ts : List Token) → Q l ts → IsSome l) → (l : List B) (ts : List Token) → Behind P Q l ts → IsSome l
behind_some P Q some l ts p = subst (λ i. IsSome i) (sym p.is) (some p.from.1 p.phrase.back p.phrase.right)

-- ---- rules

module _ (lower : ℕ → (d : Deeper) → Lang (Tree d)) (m : (n : ℕ) (d : Deeper) → Keeps (spelling_of d) (bare_of d) (lower n d)) where
  all_of_keeps : Keeps item_spelling bare_item (g.all_of lower)
  unfolding g.all_of
  all_of_keeps =
      made_keeps item_spelling bare_item (λ (name, star). items.AllOf name) (both_keeps a_name_keeps (behind_keeps dot star))
      (λ c. sym (spelled-AllOf c.0)) (λ c. bare-AllOf c.0)

  output_keeps : Keeps item_spelling bare_item (g.output lower)
  unfolding g.output
  output_keeps =
      made_keeps item_spelling bare_item (λ (value, name). items.Value value name) (both_keeps (or_chain_keeps lower m) (optional_keeps (behind_keeps as_ a_column_name_keeps)))
      (λ c. ap (λ r. expr_spelling c.0 ++ r) (behind_known named (word (codes "as")) c.1) ∙ sym (spelled-Value c.0 c.1)) (λ c. bare-Value c.0 c.1)

  select_item_keeps : Keeps item_spelling bare_item (g.select_item lower)
  unfolding g.select_item
  select_item_keeps =
      either_keeps (made_keeps item_spelling bare_item items.All star (λ at. sym (spelled-All at)) (λ at. bare-All at)) (either_keeps all_of_keeps output_keeps)

  alias_keeps : Keeps alias_spelling alias_bare (g.alias lower)
  unfolding g.alias
  alias_keeps = both_keeps (optional_keeps as_) a_name_keeps

  relation_keeps : Keeps relation_spelling bare_relation (g.relation lower)
  unfolding g.relation g.table g.subquery
  relation_keeps =
      either_keeps
      (made_keeps relation_spelling bare_relation (λ (name, alias). node.relation_of name alias) (both_keeps a_name_keeps (optional_keeps alias_keeps))
      (λ c. relation_spelled c.0 c.1) (λ c. relation_bare c.0 c.1))
      (made_keeps relation_spelling bare_relation (λ (at, (inner, (_, (word, name)))). relations.Subquery inner (is_some word) name at)
      (both_keeps opening (both_keeps (m 1 select) (both_keeps closing alias_keeps)))
      (λ c. ap (λ r. sign s.Open ++ (select_spelling c.1.0 ++ (sign s.Close ++ (r ++ named c.1.1.1.1)))) (written_known (word (codes "as")) c.1.1.1.0)
      ∙ sym (spelled-Subquery c.1.0 (is_some c.1.1.1.0) c.1.1.1.1 c.0))
      (λ c. bare-Subquery c.1.0 (is_some c.1.1.1.0) c.1.1.1.1 c.0 ∙ ap (λ b. relations.Subquery (bare_select c.1.0) b (bare_name c.1.1.1.1) 0) (still_some no_place c.1.1.1.0)))

  on_keeps : Keeps (λ a. word (codes "on") ++ expr_spelling a) bare_expr (g.on lower)
  unfolding g.on
  on_keeps = behind_keeps on (or_chain_keeps lower m)

  join_keeps : Keeps join_spelling bare_join (g.join lower)
  unfolding g.join g.inner_join g.left_join g.cross_join
  join_keeps =
      either_keeps
      (made_keeps join_spelling bare_join (λ (word, (at, (right, on))). joins.Inner (is_some word) right on (node.first_place word at))
      (both_keeps (optional_keeps inner) (both_keeps join (both_keeps relation_keeps on_keeps)))
      (λ c. ap (λ r. r ++ joined_on c.1.1.0 c.1.1.1) (written_known (word (codes "inner")) c.0) ∙ sym (spelled-Inner (is_some c.0) c.1.1.0 c.1.1.1 (node.first_place c.0 c.1.0)))
      (λ c. inner_bare c.0 c.1.0 c.1.1.0 c.1.1.1))
      (either_keeps
      (made_keeps join_spelling bare_join (λ (at, (word, (_, (right, on)))). joins.Left (is_some word) right on at)
      (both_keeps left (both_keeps (optional_keeps outer) (both_keeps join (both_keeps relation_keeps on_keeps))))
      (λ c. ap (λ r. word (codes "left") ++ (r ++ joined_on c.1.1.1.0 c.1.1.1.1)) (written_known (word (codes "outer")) c.1.0)
      ∙ sym (spelled-Left (is_some c.1.0) c.1.1.1.0 c.1.1.1.1 c.0))
      (λ c. bare-Left (is_some c.1.0) c.1.1.1.0 c.1.1.1.1 c.0 ∙ ap (λ b. joins.Left b (bare_relation c.1.1.1.0) (bare_expr c.1.1.1.1) 0) (still_some no_place c.1.0)))
      (made_keeps join_spelling bare_join (λ (at, right). joins.Cross right at) (both_keeps cross (behind_keeps join relation_keeps))
      (λ c. sym (spelled-Cross c.1 c.0)) (λ c. bare-Cross c.1 c.0)))

  from_item_keeps : Keeps from_spelling bare_from (g.from_item lower)
  unfolding g.from_item
  from_item_keeps =
      made_keeps from_spelling bare_from (λ (first, joins). roll-From (record { first = first; joins = joins })) (both_keeps relation_keeps (many_keeps (λ i. join_keeps) 0))
      (λ c. sym (spelled-From c.0 c.1)) (λ c. bare-From c.0 c.1)

  pub filter_keeps : Keeps (λ o. if_known (λ a. word (codes "where") ++ expr_spelling a) o) (if_any bare_expr) (g.filter lower)
  unfolding g.filter
  filter_keeps = optional_keeps (behind_keeps where_ (or_chain_keeps lower m))

  group_by_keeps : Keeps group_by_spelling bare_group_by (g.group_by lower)
  unfolding g.group_by
  group_by_keeps =
      made_keeps group_by_spelling bare_group_by (λ (at, keys). roll-GroupBy (record { keys = keys; at = at }))
      (both_keeps group (behind_keeps by (commas_keep comma (λ i. or_chain_keeps lower m)))) (λ c. sym (spelled-GroupBy c.1 c.0)) (λ c. bare-GroupBy c.1 c.0)

  having_keeps : Keeps having_spelling bare_having (g.having lower)
  unfolding g.having
  having_keeps =
      made_keeps having_spelling bare_having (λ (at, condition). roll-Having (record { condition = condition; at = at })) (both_keeps having (or_chain_keeps lower m))
      (λ c. sym (spelled-Having c.1 c.0)) (λ c. bare-Having c.1 c.0)

  order_key_keeps : Keeps order_key_spelling bare_order_key (g.order_key lower)
  unfolding g.order_key
  order_key_keeps =
      made_keeps order_key_spelling bare_order_key node.order_key (both_keeps (or_chain_keeps lower m) (optional_keeps direction_words))
      (λ c. order_key_spelled c.0 c.1) (λ c. order_key_bare c.0 c.1)

  abbrev ordered : List OrderKey → Kinds
  ordered l = list_behind (word (codes "order") ++ word (codes "by")) (map order_key_spelling l)

  order_by_keeps : Keeps ordered (map bare_order_key) (g.order_by lower)
  unfolding g.order_by
  order_by_keeps =
      or_none_keeps ordered (behind_some _ _ (behind_some _ _ (commas_some _))) refl (λ a more. refl)
      (behind_keeps order (behind_keeps by (commas_keep comma (λ i. order_key_keeps))))

  limit_keeps : Keeps (count_spelling (codes "limit")) (if_any bare_count) (g.limit lower)
  unfolding g.limit
  limit_keeps = keeps_as (count_spelling (codes "limit")) (count_known (codes "limit")) (optional_keeps (behind_keeps limit number_keeps))

  offset_keeps : Keeps (count_spelling (codes "offset")) (if_any bare_count) (g.offset lower)
  unfolding g.offset
  offset_keeps = keeps_as (count_spelling (codes "offset")) (count_known (codes "offset")) (optional_keeps (behind_keeps offset number_keeps))

  pub selected_keeps : Keeps select_spelling bare_select (g.selected lower)
  unfolding g.selected g.selection g.select_list g.grouping g.ordering
  selected_keeps =
      made_keeps select_spelling bare_select
      (λ (((at, (distinct, items)), (from, filter)), ((groups, having), (order, (limit, offset)))). roll-Select (record {
        distinct = is_some distinct;
        items = items;
        from = from;
        filter = filter;
        groups = groups;
        having = having;
        order = order;
        limit = limit;
        offset = offset;
        at = at;
      }))
      (both_keeps
      (both_keeps (both_keeps select_ (both_keeps (optional_keeps distinct) (commas_keep comma (λ i. select_item_keeps))))
      (both_keeps (behind_keeps from_ (commas_keep comma (λ i. from_item_keeps))) filter_keeps))
      (both_keeps (both_keeps (optional_keeps group_by_keeps) (optional_keeps having_keeps)) (both_keeps order_by_keeps (both_keeps limit_keeps offset_keeps))))
      (λ c. rw (
        written_known (word (codes "distinct")) c.0.0.1.0,
        behind_known expr_spelling (word (codes "where")) c.0.1.1,
        maybe_spelled group_by_spelling c.1.0.0,
        maybe_spelled having_spelling c.1.0.1,
      )
      (sym (spelled-Select (is_some c.0.0.1.0) c.0.0.1.1 c.0.1.0 c.0.1.1 c.1.0.0 c.1.0.1 c.1.1.0 c.1.1.1.0 c.1.1.1.1 c.0.0.0)))
      (λ c. bare-Select (is_some c.0.0.1.0) c.0.0.1.1 c.0.1.0 c.0.1.1 c.1.0.0 c.1.0.1 c.1.1.0 c.1.1.1.0 c.1.1.1.1 c.0.0.0
      ∙ ap (λ b. roll-Select (record {
        distinct = b;
        items = map bare_item c.0.0.1.1;
        from = map bare_from c.0.1.0;
        filter = if_any bare_expr c.0.1.1;
        groups = if_any bare_group_by c.1.0.0;
        having = if_any bare_having c.1.0.1;
        order = map bare_order_key c.1.1.0;
        limit = if_any bare_count c.1.1.1.0;
        offset = if_any bare_count c.1.1.1.1;
        at = 0;
      })) (still_some no_place c.0.0.1.0))

  -- ---- what may stand deeper

  phrase_keeps : (d : Deeper) → Keeps (spelling_of d) (bare_of d) (g.phrase lower d)
  phrase_keeps (expr or_) = or_chain_keeps lower m
  phrase_keeps (expr and_) = and_chain_keeps lower m
  phrase_keeps (expr not_) = negation_keeps lower m
  phrase_keeps (expr term_) = term_keeps lower m
  phrase_keeps (expr unary_) = unary_keeps lower m
  phrase_keeps select = selected_keeps

pub below_keeps : (left n : ℕ) (d : Deeper) → Keeps (spelling_of d) (bare_of d) (below left n d)
below_keeps zero n d = empty_keeps (spelling_of d) (bare_of d)
below_keeps (suc left) zero d = empty_keeps (spelling_of d) (bare_of d)
below_keeps (suc left) (suc zero) d = phrase_keeps (below left) (below_keeps left) d
below_keeps (suc left) (suc (suc n)) d = below_keeps left (suc n) d

pub upto_keeps : (height : ℕ) (d : Deeper) → Keeps (spelling_of d) (bare_of d) (upto height d)
upto_keeps zero d = empty_keeps (spelling_of d) (bare_of d)
upto_keeps (suc height) d = phrase_keeps (λ n. upto height) (λ n. upto_keeps height) d
