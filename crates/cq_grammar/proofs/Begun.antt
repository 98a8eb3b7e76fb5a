-- Some phrases, and what they begin with.
use Rattle.std.proofs.Common.{◌≡◌, ℕ, List, [], ◌∷◌, ◌++◌, true, inl, inr, Some, None, refl, sym, append_assoc}
use Rattle.cq_token.specs.declared.token.Token.{Token}
use Rattle.cq_grammar.specs.declared.kind.Kind.{Kind}
use Rattle.cq_grammar.specs.declared.kind.Kind.TheVariants as k
use Rattle.cq_grammar.specs.Words.{kind, of, names}
use Rattle.cq_grammar.specs.Lang.{Lang, One, Both, Either, Made, Optional, Behind}
use Rattle.cq_grammar.specs.Terminals.{The, Commas, a_name, name_of, place_of}
use Rattle.cq_grammar.specs.Grammar as grammar
use Rattle.cq_grammar.specs.Grammar.{Deeper, expr, select, Tree, or_, and_, not_, term_, unary_}
use Rattle.cq_grammar.proofs.Laws.{Begins, one_some}
use Rattle.cq_grammar.proofs.Tokens.{token_of}
use Rattle.cq_grammar.proofs.Laws.{first_of_kinds}

-- ---- parts

pub sees_so : {A B : Type 0} (f : A → B) {W : Lang A} {before : List Token} → Begins W before → Begins (Made f W) before
sees_so f b = record { value = f b.value; more = b.more; phrase = record { from = b.value; is = refl; phrase = b.phrase } }

pub left_so : {A : Type 0} {W V : Lang A} {before : List Token} → Begins W before → Begins (Either W V) before
left_so b = record { value = b.value; more = b.more; phrase = inl b.phrase }

pub right_so : {A : Type 0} {W V : Lang A} {before : List Token} → Begins V before → Begins (Either W V) before
right_so b = record { value = b.value; more = b.more; phrase = inr b.phrase }

-- some phrase of V stands behind
pub first_so : {A B : Type 0} {W : Lang A} {V : Lang B} {before : List Token} → Begins W before → Begins V [] → Begins (Both W V) before
first_so {before = before} b z = record {
  value = (b.value, z.value);
  more = b.more ++ z.more;
  phrase = record { front = before ++ b.more; back = z.more; whole = sym (append_assoc before b.more z.more); left = b.phrase; right = z.phrase };
}

-- nothing stands behind
pub alone_so : {A B : Type 0} {W : Lang A} {V : Lang B} {before : List Token} → Begins W before → (b : B) → V b [] → Begins (Both W V) before
alone_so b c n = first_so b (record { value = c; more = []; phrase = n })

-- nothing stands before
pub second_so : {A B : Type 0} {W : Lang A} {V : Lang B} {before : List Token} (a : A) → W a [] → Begins V before → Begins (Both W V) before
second_so {before = before} a n b = record { value = (a, b.value); more = b.more; phrase = record { front = []; back = before ++ b.more; whole = refl; left = n; right = b.phrase } }

-- a token stands before
pub behind_so : {A B : Type 0} (f : Token → A) (ks : List Kind) {V : Lang B} {before : List Token} (t : Token) → of ks (kind t) ≡ true → Begins V before → Begins (Both (Made f (One ks)) V) (t ∷ before)
behind_so f ks {before = before} t in_ b = record {
  value = (f t, b.value);
  more = b.more;
  phrase = record { front = t ∷ []; back = before ++ b.more; whole = refl; left = record { from = t; is = refl; phrase = record { kind = in_; alone = refl } }; right = b.phrase };
}

pub one_so : (ks : List Kind) (t : Token) → of ks (kind t) ≡ true → Begins (One ks) (t ∷ [])
one_so ks t in_ = record { value = t; more = []; phrase = record { kind = in_; alone = refl } }

pub none_so : {A : Type 0} {P : Lang A} → Optional P None []
none_so = inr (record { is = refl; none = refl })

pub the_so : (j : Kind) → Begins (The j) []
the_so j = sees_so place_of (one_some j [])

pub name_so : Begins a_name []
name_so = sees_so name_of (one_some _ _)

module _ (W : ℕ → (d : Deeper) → Lang (Tree d)) where
  pub number_atom : Begins (grammar.atom W) []
  unfolding grammar.atom grammar.literal
  number_atom = left_so (left_so (sees_so _ (sees_so _ (one_some k.Number []))))

  -- a name, and another behind a dot
  pub column_atom : (t u : Token) → of names (kind t) ≡ true → of (k.Dot ∷ []) (kind u) ≡ true → Begins (grammar.atom W) (t ∷ u ∷ [])
  unfolding grammar.atom grammar.column
  column_atom t u is_name dot = right_so (left_so (sees_so _ (behind_so name_of names t is_name (left_so (sees_so Some (sees_so _ (behind_so place_of (k.Dot ∷ []) u dot (sees_so name_of (one_some _ _)))))))))

  pub name_atom : (t : Token) → of names (kind t) ≡ true → Begins (grammar.atom W) (t ∷ [])
  unfolding grammar.atom grammar.column
  name_atom t is_name = right_so (left_so (sees_so _ (alone_so (sees_so name_of (one_so names t is_name)) None none_so)))

  pub unary_so : {before : List Token} → Begins (grammar.atom W) before → Begins (grammar.unary W) before
  unfolding grammar.unary
  unary_so b = right_so b

  pub term_so : {before : List Token} → Begins (grammar.atom W) before → Begins (grammar.term W) before
  unfolding grammar.term
  term_so b = sees_so _ (alone_so (unary_so b) [] refl)

  pub negation_so : {before : List Token} → Begins (grammar.atom W) before → Begins (grammar.negation W) before
  unfolding grammar.negation grammar.is grammar.comparison grammar.tested grammar.sum
  negation_so b = right_so (sees_so _ (alone_so (sees_so _ (alone_so (sees_so _ (alone_so (sees_so _ (alone_so (term_so b) [] refl)) None none_so)) None none_so)) [] refl))

  pub and_so : {before : List Token} → Begins (grammar.atom W) before → Begins (grammar.and_chain W) before
  unfolding grammar.and_chain
  and_so b = sees_so _ (alone_so (negation_so b) [] refl)

  pub or_so : {before : List Token} → Begins (grammar.atom W) before → Begins (grammar.or_chain W) before
  unfolding grammar.or_chain
  or_so b = sees_so _ (alone_so (and_so b) [] refl)

  pub output_so : {before : List Token} → Begins (grammar.atom W) before → Begins (grammar.output W) before
  unfolding grammar.output
  output_so b = sees_so _ (alone_so (or_so b) None none_so)

  pub all_of_so : (t u : Token) → of names (kind t) ≡ true → of (k.Dot ∷ []) (kind u) ≡ true → Begins (grammar.all_of W) (t ∷ u ∷ [])
  unfolding grammar.all_of
  all_of_so t u is_name dot = sees_so _ (behind_so name_of names t is_name (sees_so _ (behind_so place_of (k.Dot ∷ []) u dot (the_so k.Star))))

  pub from_so : Begins (Behind (The k.From) (Commas (λ _. grammar.from_item W))) []
  unfolding grammar.from_item grammar.relation grammar.table
  from_so = sees_so _ (first_so (the_so k.From) (sees_so _ (alone_so (sees_so _ (alone_so (left_so (sees_so _ (alone_so name_so None none_so))) [] refl)) [] refl)))

  -- a select with this item first
  pub selected_so : {before : List Token} (t : Token) → of (k.Select ∷ []) (kind t) ≡ true → Begins (grammar.select_item W) before → Begins (grammar.selected W) (t ∷ before)
  unfolding grammar.selected grammar.selection grammar.select_list grammar.filter grammar.grouping grammar.ordering grammar.order_by grammar.limit grammar.offset
  selected_so t is_select item =
      let list = sees_so _ (alone_so item [] refl) in
      let head = behind_so place_of (k.Select ∷ []) t is_select (second_so None none_so list) in
      sees_so _ (first_so (first_so head (alone_so from_so None none_so))
      (second_so (None, None) (record { front = []; back = []; whole = refl; left = none_so; right = none_so })
      (second_so [] (record { from = None; is = refl; phrase = none_so }) (second_so None none_so (record { value = None; more = []; phrase = none_so })))))

  pub star_item : Begins (grammar.select_item W) []
  unfolding grammar.select_item
  star_item = left_so (sees_so _ (the_so k.Star))

  pub name_item : (t : Token) → of names (kind t) ≡ true → Begins (grammar.select_item W) (t ∷ [])
  unfolding grammar.select_item
  name_item t is_name = right_so (right_so (output_so (name_atom t is_name)))

  select_token : Begins (grammar.selected W) []
  select_token =
      let b = selected_so (token_of k.Select) (first_of_kinds k.Select []) star_item in
      record { value = b.value; more = token_of k.Select ∷ b.more; phrase = b.phrase }

  pub phrase_so : (d : Deeper) → Begins (grammar.phrase W d) []
  phrase_so (expr or_) = or_so number_atom
  phrase_so (expr and_) = and_so number_atom
  phrase_so (expr not_) = negation_so number_atom
  phrase_so (expr term_) = term_so number_atom
  phrase_so (expr unary_) = unary_so number_atom
  phrase_so select = select_token
