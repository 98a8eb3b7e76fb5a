-- What a statement keeps beside the grammar hangs on what its tokens say, and not on their places.
use Rattle.std.proofs.Common.{◌≡◌, ℕ, suc, List, [], ◌∷◌, length, map, filter, Bool, true, false, not, ◌&&◌, ◌||◌, nat_le, if◌then◌else◌, bytes_eq, Option, Some, None, is_none, refl, sym, ◌∙◌, ap, ap₂}
use Rattle.std.specs.List.{list_any, list_all}
use Rattle.cq_value.proofs.Lists.{none_is}
use Rattle.cq_token.specs.declared.token.Token.{Token}
use Rattle.cq_token.specs.declared.token.TokenKind.{TokenKind}
use Rattle.cq_grammar.specs.Types.{Kind, Name, Ast, Literal, Argument}
use Rattle.cq_grammar.specs.declared.kind.Kind.TheVariants as k
use Rattle.cq_grammar.specs.declared.statement.Ast.TheVariants as ast
use Rattle.cq_grammar.specs.declared.statement.Literal.TheVariants as literals
use Rattle.cq_grammar.specs.Words.{kind, same_kind}
use Rattle.cq_grammar.specs.Conditions.{
  second_primary,
  Options,
  no_options,
  refused_at,
  seen_with,
  refused_option,
  behind_from,
  misplaced,
  Form,
  text,
  number,
  has_form,
  Signature,
  signatures,
  is_named,
  fits_places,
  fits_name,
  fits,
  takes,
  miscalled,
}
use Rattle.cq_grammar.specs.Verdicts.{Accepted}
use Rattle.cq_grammar.specs.Spelling.{spelling}
use Rattle.cq_grammar.specs.Bare.{bare_name, bare_literal, bare_argument, if_any, bare}
use Rattle.cq_grammar.proofs.Keeping.{kinds_of}
use Rattle.cq_grammar.proofs.SpelledStatements.{shallow_keeps}

-- ---- words in their places

-- the token at place 0
abbrev unplaced : TokenKind → Token
unplaced i = record { kind = i; start = 0; end = 0 }

abbrev moved : List Token → List Token
moved ts = map unplaced (kinds_of ts)

abbrev Still : Option ℕ → Option ℕ → Type 0
Still a b = is_none a ≡ is_none b

primary_step : (p seen : Bool) (at : ℕ) (a b c d : Option ℕ) → Still a b → Still c d
    → Still (if p then (if seen then Some at else a) else c) (if p then (if seen then Some 0 else b) else d)
primary_step true true at a b c d e f = refl
primary_step true false at a b c d e f = e
primary_step false seen at a b c d e f = f

primary_moved : (seen : Bool) (ts : List Token) → Still (second_primary seen ts) (second_primary seen (moved ts))
primary_moved seen [] = refl
primary_moved seen (t ∷ ts) = primary_step (same_kind (kind t) k.Primary) seen t.start _ _ _ _ (primary_moved true ts) (primary_moved seen ts)

abbrev unplaced_options : Options → Options
unplaced_options o = record { format = o.format; csv = o.csv; text = o.text; header = if_any (λ at. 0) o.header }

none_any : {A : Type 0} (v : A → A) (o : Option A) → is_none o ≡ is_none (if_any v o)
none_any v None = refl
none_any v (Some a) = refl

if_still : (p : Bool) (a b : ℕ) → Still (if p then Some a else None) (if p then Some b else None)
if_still true a b = refl
if_still false a b = refl

or_still : (p : Bool) (o : Option ℕ) → Still (if p then None else o) (if p then None else if_any (λ at. 0) o)
or_still true o = refl
or_still false o = none_any (λ at. 0) o

refused_still : (i : Kind) (at : ℕ) (seen : Options) → Still (refused_at i at seen) (refused_at i 0 (unplaced_options seen))
refused_still k.Format at seen = if_still seen.format at 0
refused_still k.Header at seen =
    if_still (seen.text || not (is_none seen.header)) at 0
    ∙ ap (λ b. is_none {T = ℕ} (if seen.text || not b then Some 0 else None)) (none_any (λ at. 0) seen.header)
refused_still k.Text at seen = none_any (λ at. 0) seen.header
refused_still k.Close at seen = or_still seen.csv seen.header
refused_still _ at seen = refl

seen_still : (i : Kind) (at : ℕ) (seen : Options) → unplaced_options (seen_with i at seen) ≡ seen_with i 0 (unplaced_options seen)
seen_still k.Format at seen = refl
seen_still k.Csv at seen = refl
seen_still k.Text at seen = refl
seen_still k.Header at seen = refl
seen_still _ at seen = refl

option_step : (t : Token) (ts : List Token) (seen : Options) (a b : Option ℕ) → refused_at (kind t) t.start seen ≡ a → refused_at (kind t) 0 (unplaced_options seen) ≡ b → Still a b
    → Still (refused_option (seen_with (kind t) t.start seen) ts) (refused_option (seen_with (kind t) 0 (unplaced_options seen)) (moved ts))
    → Still (refused_option seen (t ∷ ts)) (refused_option (unplaced_options seen) (moved (t ∷ ts)))
option_step t ts seen None None e f same more = rw (e, f) more
option_step t ts seen (Some a) (Some b) e f same more = rw (e, f) refl
option_step t ts seen None (Some b) e f same more = absurd (cc same)
option_step t ts seen (Some a) None e f same more = absurd (cc same)

option_moved : (ts : List Token) (seen : Options) → Still (refused_option seen ts) (refused_option (unplaced_options seen) (moved ts))
option_moved [] seen = refl
option_moved (t ∷ ts) seen =
    option_step t ts seen _ _ refl refl (refused_still (kind t) t.start seen)
    (option_moved ts (seen_with (kind t) t.start seen) ∙ ap (λ o. is_none (refused_option o (moved ts))) (seen_still (kind t) t.start seen))

behind_step : (p : Bool) (ts : List Token) → moved (behind_from ts) ≡ behind_from (moved ts) → moved (if p then ts else behind_from ts) ≡ (if p then moved ts else behind_from (moved ts))
behind_step true ts e = refl
behind_step false ts e = e

behind_moved : (ts : List Token) → moved (behind_from ts) ≡ behind_from (moved ts)
behind_moved [] = refl
behind_moved (t ∷ ts) = behind_step (same_kind (kind t) k.From) ts (behind_moved ts)

misplaced_step : (p q : Bool) (a b c d : Option ℕ) → Still a b → Still c d → Still (if p then a else (if q then c else None)) (if p then b else (if q then d else None))
misplaced_step true q a b c d e f = e
misplaced_step false true a b c d e f = f
misplaced_step false false a b c d e f = refl

misplaced_moved : (ts : List Token) → Still (misplaced ts) (misplaced (moved ts))
unfolding misplaced
misplaced_moved [] = refl
misplaced_moved (t ∷ ts) =
    misplaced_step (same_kind (kind t) k.Create) (same_kind (kind t) k.Copy) _ _ _ _ (primary_moved false ts)
    (option_moved (behind_from ts) no_options ∙ ap (λ l. is_none (refused_option no_options l)) (behind_moved ts))

pub placed_again : (ts us : List Token) → kinds_of ts ≡ kinds_of us → misplaced ts ≡ None → misplaced us ≡ None
placed_again ts us e h =
    none_is (misplaced us) (misplaced_moved us ∙ (ap (λ l. is_none (misplaced (map unplaced l))) (sym e) ∙ (sym (misplaced_moved ts) ∙ ap is_none h)))

-- ---- arguments

has_form_bare : (f : Form) (l : Literal) → has_form f l ≡ has_form f (bare_literal l)
has_form_bare text (literals.Quoted content at) = refl
has_form_bare text (literals.Number value at) = refl
has_form_bare number (literals.Quoted content at) = refl
has_form_bare number (literals.Number value at) = refl

named_bare : (name : List ℕ) (n : Option Name) (v : Literal) → is_named name (record { name = n; value = v }) ≡ is_named name (record { name = if_any bare_name n; value = bare_literal v })
named_bare name None v = refl
named_bare name (Some n) v = refl

all_bare : (f : Argument → Bool) → ((a : Argument) → f a ≡ f (bare_argument a)) → (l : List Argument) → list_all f l ≡ list_all f (map bare_argument l)
all_bare f same [] = refl
all_bare f same (a ∷ l) = ap₂ (λ b c. b && c) (same a) (all_bare f same l)

places_bare : (forms : List Form) (l : List Argument) → fits_places forms l ≡ fits_places forms (map bare_argument l)
places_bare [] l = all_bare (λ a. not (is_none a.name)) (λ a. ap not (none_any bare_name a.name)) l
places_bare (f ∷ forms) [] = refl
places_bare (f ∷ forms) (a ∷ l) =
    ap₂ (λ b c. b && c) (none_any bare_name a.name) (ap₂ (λ b c. b && c) (has_form_bare f a.value) (places_bare forms l))

count_step : (b : Bool) (a c : Argument) (l m : List Argument) → length l ≡ length m → length (if b then a ∷ l else l) ≡ length (if b then c ∷ m else m)
count_step true a c l m e = ap suc e
count_step false a c l m e = e

count_bare : (f : Argument → Bool) → ((a : Argument) → f a ≡ f (bare_argument a)) → (l : List Argument) → length (filter f l) ≡ length (filter f (map bare_argument l))
count_bare f same [] = refl
count_bare f same (a ∷ l) =
    count_step (f a) a (bare_argument a) (filter f l) (filter f (map bare_argument l)) (count_bare f same l)
    ∙ ap (λ b. length (if b then bare_argument a ∷ filter f (map bare_argument l) else filter f (map bare_argument l))) (same a)

name_bare : (l : List Argument) (p : List ℕ × Form) → fits_name l p ≡ fits_name (map bare_argument l) p
name_bare l (name, form) =
    ap₂ (λ b c. b && c)
    (all_bare (λ a. not (is_named name a) || has_form form a.value) (λ a. ap₂ (λ b c. not b || c) (named_bare name a.name a.value) (has_form_bare form a.value)) l)
    (ap (λ n. nat_le n 1) (count_bare (is_named name) (λ a. named_bare name a.name a.value) l))

same_all : {A : Type 0} (f h : A → Bool) → ((a : A) → f a ≡ h a) → (l : List A) → list_all f l ≡ list_all h l
same_all f h same [] = refl
same_all f h same (a ∷ l) = ap₂ (λ b c. b && c) (same a) (same_all f h same l)

same_any : {A : Type 0} (f h : A → Bool) → ((a : A) → f a ≡ h a) → (l : List A) → list_any f l ≡ list_any h l
same_any f h same [] = refl
same_any f h same (a ∷ l) = ap₂ (λ b c. b || c) (same a) (same_any f h same l)

fits_bare : (l : List Argument) (s : Signature) → fits l s ≡ fits (map bare_argument l) s
fits_bare l s = ap₂ (λ b c. b && c) (places_bare s.placed l) (same_all (fits_name l) (fits_name (map bare_argument l)) (name_bare l) s.named)

takes_bare : (function : List ℕ) (l : List Argument) → takes function l ≡ takes function (map bare_argument l)
unfolding takes
takes_bare function l =
    same_any (λ (s : Signature). bytes_eq s.function function && fits l s) (λ (s : Signature). bytes_eq s.function function && fits (map bare_argument l) s)
    (λ s. ap (λ b. bytes_eq s.function function && b) (fits_bare l s)) signatures

called_step : (p : Bool) (a b : ℕ) → Still (if p then None else Some a) (if p then None else Some b)
called_step true a b = refl
called_step false a b = refl

miscalled_bare : (a : Ast) → Still (miscalled a) (miscalled (bare a))
unfolding bare
miscalled_bare (ast.Create name columns key at) = refl
miscalled_bare (ast.Insert table columns rows at) = refl
miscalled_bare (ast.Update table sets kept at) = refl
miscalled_bare (ast.Delete table kept at) = refl
miscalled_bare (ast.Copy table columns spelled options at) = refl
miscalled_bare (ast.Set space name spelled value at) = refl
miscalled_bare (ast.Explain query at) = refl
miscalled_bare (ast.Call function arguments at) =
    called_step (takes function.text arguments) function.at 0 ∙ ap (λ b. is_none {T = ℕ} (if b then None else Some 0)) (takes_bare function.text arguments)
miscalled_bare (ast.Query query) = refl

pub called_again : (a b : Ast) → bare a ≡ bare b → miscalled a ≡ None → miscalled b ≡ None
called_again a b e h =
    none_is (miscalled b) (miscalled_bare b ∙ (ap (λ i. is_none (miscalled i)) (sym e) ∙ (sym (miscalled_bare a) ∙ ap is_none h)))

-- ---- whole statements

-- an accepted statement's tokens are its spelling
pub accepted_spelled : (a : Ast) (ts : List Token) → Accepted a ts → kinds_of ts ≡ spelling a
accepted_spelled a ts p = shallow_keeps.spells a ts p.shallow

-- tokens that say the same spell it again but for its places
pub accepted_again : (a : Ast) (ts us : List Token) → Accepted a ts → kinds_of ts ≡ kinds_of us → (b : Ast) × Accepted b us × (bare b ≡ bare a)
accepted_again a ts us p e =
    let l = shallow_keeps.moves a ts p.shallow us e in
    (l.0, record { shallow = l.1; placed = placed_again ts us e p.placed; called = called_again a l.0 l.2 p.called }, sym l.2)
