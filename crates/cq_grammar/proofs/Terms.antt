-- What single tokens keep.
use Rattle.std.proofs.Common.{◌≡◌, ℕ, List, [], ◌∷◌, Bool, true, false, not, ◌&&◌, refl, sym, ◌∙◌, ap}
use Rattle.cq_value.proofs.Truths.{and_left, and_right, not_true}
use Rattle.cq_token.specs.declared.token.Token.{Token}
use Rattle.cq_token.specs.declared.token.TokenKind.{TokenKind}
use Rattle.cq_token.specs.declared.token.TokenKind.TheVariants as token
use Rattle.cq_token.specs.declared.sign.Sign.{Sign}
use Rattle.cq_grammar.specs.declared.kind.Kind.{Kind}
use Rattle.cq_grammar.specs.declared.kind.Kind.TheVariants as k
use Rattle.cq_grammar.specs.Words.{kind, kind_of, kind_of_sign, of, same_kind, names, column_names, text_of, number_of, reserved_words, other_words}
use Rattle.cq_grammar.specs.Lang.{One, Made}
use Rattle.cq_grammar.specs.Terminals.{The, Some-of, place_of, kind_at, name_of, count_of, quoted_of, a_name, a_column_name, a_number, a_quoted}
use Rattle.cq_grammar.specs.Spelling.{word, sign, named, number, quoted}
use Rattle.cq_grammar.specs.Bare.{bare_name, bare_count}
use Rattle.cq_grammar.proofs.Letters.{OfEach, of_each, Says, says_word, says_sign, only, no_words, sign_kinds, sign_only, sign_among, word_no_sign, true_false}
use Rattle.cq_grammar.proofs.Keeping.{Keeps, one_keeps}

this_one : (i : Kind) (t : Token) → of (i ∷ []) (kind t) ≡ true → kind t ≡ i
this_one i t h = of_each (λ j. j ≡ i) (i ∷ []) (refl, tt) (kind t) h

pub the_keeps : (i : Kind) (said : TokenKind) → Says i said → Keeps (λ at. said ∷ []) (λ at. 0) (The i)
the_keeps i said says = one_keeps (λ at. said ∷ []) (λ at. 0) place_of (i ∷ []) (λ t h. ap (λ j. j ∷ []) (says t.kind (this_one i t h))) (λ t u e. refl)

pub the_word : (i : Kind) (w : List ℕ) → only i w reserved_words ≡ true → only i w other_words ≡ true → same_kind k.Name i ≡ false → of no_words i ≡ false
    → Keeps (λ at. word w) (λ at. 0) (The i)
the_word i w r o n out = the_keeps i (token.Name w) (says_word i w r o n out)

pub the_sign : (a : Sign) → Keeps (λ at. sign a) (λ at. 0) (The (kind_of_sign a))
the_sign a = the_keeps (kind_of_sign a) (token.Sign a) (says_sign a)

pub some_keeps : (ks : List Kind) (w : Kind → TokenKind) → OfEach (λ j. Says j (w j)) ks → Keeps (λ c. w c.0 ∷ []) (λ c. (c.0, 0)) (Some-of ks)
some_keeps ks w all =
    one_keeps (λ c. w c.0 ∷ []) (λ c. (c.0, 0)) kind_at ks
    (λ t h. ap (λ j. j ∷ []) (of_each (λ j. Says j (w j)) ks all (kind t) h t.kind refl)) (λ t u e. ap (λ j. (kind_of j, 0)) e)

-- ---- names

-- these are kinds of words
abbrev pub are_words : List Kind → Bool
are_words [] = true
are_words (j ∷ js) = not (of no_words j) && are_words js

each_word : (ks : List Kind) → are_words ks ≡ true → OfEach (λ j. of no_words j ≡ false) ks
each_word [] h = tt
each_word (j ∷ js) h = (not_true (of no_words j) (and_left _ _ h), each_word js (and_right _ _ h))

token_of : TokenKind → Token
token_of j = record { kind = j; start = 0; end = 0 }

named_by : (j : TokenKind) → of no_words (kind_of j) ≡ false → j ≡ token.Name (text_of (token_of j))
unfolding kind_of of same_kind token_of
named_by (token.Name letters) h = refl
named_by (token.Number n) h = true_false h
named_by (token.Text content) h = true_false h
named_by (token.Sign a) h = true_false (sym (sign_among a) ∙ h)

pub name_keeps : (ks : List Kind) → are_words ks ≡ true → Keeps named bare_name (Made name_of (One ks))
unfolding token_of
name_keeps ks words =
    one_keeps named bare_name name_of ks
    (λ t h. ap (λ j. j ∷ []) (named_by t.kind (of_each (λ j. of no_words j ≡ false) ks (each_word ks words) (kind t) h)))
    (λ t u e. ap (λ j. bare_name (name_of (token_of j))) e)

pub a_name_keeps : Keeps named bare_name a_name
unfolding of same_kind
a_name_keeps = name_keeps names refl

pub a_column_name_keeps : Keeps named bare_name a_column_name
unfolding of same_kind
a_column_name_keeps = name_keeps column_names refl

-- ---- numbers and texts

numbered_by : (j : TokenKind) → kind_of j ≡ k.Number → j ≡ token.Number (number_of (token_of j))
unfolding kind_of token_of of same_kind
numbered_by (token.Name letters) h = true_false (sym (ap (of no_words) h) ∙ word_no_sign letters)
numbered_by (token.Number n) h = refl
numbered_by (token.Text content) h = true_false (ap (of (k.Quoted ∷ [])) h)
numbered_by (token.Sign a) h = true_false (sym (sign_only a) ∙ ap (of sign_kinds) h)

quoted_by : (j : TokenKind) → kind_of j ≡ k.Quoted → j ≡ token.Text (text_of (token_of j))
unfolding kind_of token_of of same_kind
quoted_by (token.Name letters) h = true_false (sym (ap (of no_words) h) ∙ word_no_sign letters)
quoted_by (token.Number n) h = true_false (ap (of (k.Number ∷ [])) h)
quoted_by (token.Text content) h = refl
quoted_by (token.Sign a) h = true_false (sym (sign_only a) ∙ ap (of sign_kinds) h)

pub number_keeps : Keeps (λ c. number c.value) bare_count a_number
unfolding token_of
number_keeps =
    one_keeps (λ c. number c.value) bare_count count_of (k.Number ∷ []) (λ t h. ap (λ j. j ∷ []) (numbered_by t.kind (this_one k.Number t h)))
    (λ t u e. ap (λ j. bare_count (count_of (token_of j))) e)

pub quoted_keeps : Keeps (λ c. quoted c.text) bare_name a_quoted
unfolding token_of
quoted_keeps =
    one_keeps (λ c. quoted c.text) bare_name quoted_of (k.Quoted ∷ []) (λ t h. ap (λ j. j ∷ []) (quoted_by t.kind (this_one k.Quoted t h)))
    (λ t u e. ap (λ j. bare_name (quoted_of (token_of j))) e)
