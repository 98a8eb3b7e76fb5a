-- What is printed is read again.
use Rattle.std.proofs.Common.{◌≡◌, ℕ, List, [], ◌∷◌, map, Result, Ok, Err, IfOk, refl, sym, ◌∙◌, ap, ap₂, subst}
use Rattle.std.specs.List.{AllByRecursion}
use Rattle.cq_token.specs.declared.token.Token.{Token}
use Rattle.cq_token.specs.declared.token.TokenKind.{TokenKind}
use Rattle.cq_token.specs.declared.token.TokenKind.TheVariants as token
use Rattle.cq_token.specs.declared.error.LexError.{LexError}
use Rattle.cq_token.specs.declared.printer.Word.{Word}
use Rattle.cq_token.specs.Tokens.{tokens}
use Rattle.cq_token.specs.Printed.{IsKind, printed, kinds}
use Rattle.cq_token.proofs.Again.{printed_kinds}
use Rattle.cq_grammar.specs.declared.statement.Ast.{Ast}
use Rattle.cq_grammar.specs.Verdicts.{Accepted}
use Rattle.cq_grammar.specs.Spelling.{Kinds, spelling}
use Rattle.cq_grammar.specs.Bare.{bare}
use Rattle.cq_grammar.proofs.Keeping.{kinds_of}
use Rattle.cq_grammar.proofs.Placing.{accepted_spelled, accepted_again}
use Rattle.cq_print.specs.Cases.{word_of}

same_kind : (i : TokenKind) → (word_of i).kind ≡ i
same_kind (token.Name name) = refl
same_kind (token.Number n) = refl
same_kind (token.Text content) = refl
same_kind (token.Sign sign) = refl

same_kinds : (l : Kinds) → map (λ w. w.kind) (map word_of l) ≡ l
same_kinds [] = refl
same_kinds (i ∷ l) = ap₂ (λ j m. j ∷ m) (same_kind i) (same_kinds l)

each_kind : (ts : List Token) → AllByRecursion (λ t. IsKind t.kind) ts → AllByRecursion (λ w. IsKind w.kind) (map word_of (kinds_of ts))
each_kind [] all = tt
each_kind (t ∷ ts) all = (subst IsKind (sym (same_kind t.kind)) all.0, each_kind ts all.1)

-- tokens that were read, with these kinds
pub record Reads (o : Result (List Token) LexError) (l : Kinds) : Type 0 where
  pub read : List Token
  pub is : o ≡ Ok read
  pub same : l ≡ kinds_of read

reads : (o : Result (List Token) LexError) (l : Kinds) → kinds o ≡ Ok l → Reads o l
reads (Ok us) l h = let e : kinds_of us ≡ l = cc h in record { read = us; is = refl; same = sym e }
reads (Err e) l h = absurd (cc h)

abbrev pub ReadAgain : Ast → List ℕ → Type 0
ReadAgain a text = (b : Ast) × (us : List Token) × (tokens text ≡ Ok us) × Accepted b us × (bare b ≡ bare a)

pub read_again : (a : Ast) (ts : List Token) → Accepted a ts → AllByRecursion (λ t. IsKind t.kind) ts → ReadAgain a (printed (map word_of (spelling a)))
read_again a ts p all =
    let spelled = accepted_spelled a ts p in
    let fits : AllByRecursion (λ w. IsKind w.kind) (map word_of (spelling a)) = subst (λ l. AllByRecursion (λ w. IsKind w.kind) (map word_of l)) spelled (each_kind ts all) in
    let r = reads (tokens (printed (map word_of (spelling a)))) (spelling a) (printed_kinds (map word_of (spelling a)) fits ∙ ap Ok (same_kinds (spelling a))) in
    let m = accepted_again a ts r.read p (spelled ∙ r.same) in
    (m.0, r.read, r.is, m.1, m.2)

pub if_ok : {T E : Type 0} {P Q : T → Type 0} (o : Result T E) → ((t : T) → P t → Q t) → IfOk o P → IfOk o Q
if_ok (Ok t) f p = f t p
if_ok (Err e) f p = p
