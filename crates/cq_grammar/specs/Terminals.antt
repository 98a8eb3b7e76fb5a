-- The tokens that rules are made of, each with what a tree keeps of it.
use Rattle.std.specs.Prelude.{ℕ, List, [], ◌∷◌}
use Rattle.cq_token.specs.declared.token.Token.{Token}
use Rattle.cq_grammar.specs.declared.kind.Kind.{Kind}
use Rattle.cq_grammar.specs.declared.kind.Kind.TheVariants as k
use Rattle.cq_grammar.specs.declared.name.Name.{Name}
use Rattle.cq_grammar.specs.declared.query.Count.{Count}
use Rattle.cq_grammar.specs.Words.{kind, names, column_names, text_of, number_of}
use Rattle.cq_grammar.specs.Lang.{Lang, One, Made, Many, Behind, ◌then◌}

-- one token of this kind, of which the place is kept
abbrev pub place_of : Token → ℕ
place_of t = t.start

abbrev pub The : Kind → Lang ℕ
The k = Made place_of (One (k ∷ []))

-- one token of these kinds, of which the kind and the place are kept
abbrev pub kind_at : Token → Kind × ℕ
kind_at t = (kind t, t.start)

abbrev pub Some-of : List Kind → Lang (Kind × ℕ)
Some-of ks = Made kind_at (One ks)

abbrev pub name_of : Token → Name
name_of t = record { text = text_of t; at = t.start }

-- the name of a table, a column or a function
abbrev pub a_name : Lang Name
a_name = Made name_of (One names)

-- the name of a column behind a dot or AS
abbrev pub a_column_name : Lang Name
a_column_name = Made name_of (One column_names)

abbrev pub count_of : Token → Count
count_of t = record { value = number_of t; at = t.start }

abbrev pub a_number : Lang Count
a_number = Made count_of (One (k.Number ∷ []))

abbrev pub quoted_of : Token → Name
quoted_of t = record { text = text_of t; at = t.start }

-- a text between quotes, kept as its content and its place
abbrev pub a_quoted : Lang Name
a_quoted = Made quoted_of (One (k.Quoted ∷ []))

-- phrases with commas between: the first of P 0, the next of P 1, and so on
abbrev pub Commas : {A : Type 0} → (ℕ → Lang A) → Lang (List A)
Commas P = Made (λ (first, more). first ∷ more) (P 0 then Many (λ i. Behind (The k.Comma) (P i)) 1)
