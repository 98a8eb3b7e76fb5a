-- What the reader's verdict says by the grammar.
use Rattle.std.proofs.Common.{◌≡◌, ◌≢◌, ℕ, List, Result, Ok, Err, IfOk, refl, sym, ap, ap₂, ◌∙◌}
use Rattle.cq_token.specs.declared.token.Token.{Token}
use Rattle.cq_tree.specs.declared.limit.What.{What}
use Rattle.cq_tree.specs.declared.limit.What.TheVariants as limits
use Rattle.cq_grammar.specs.declared.statement.Ast.{Ast}
use Rattle.cq_grammar.specs.Statements.{max_depth, GoesDeep}
use Rattle.cq_grammar.specs.Verdicts.{Complaint, syntax, depth, verdict, Accepted, RefusedAt}
use Rattle.cq_grammar.proofs.Whole.{accepted, accepts, refused, deep}
use Rattle.cq_grammar.proofs.Alone.{refuses, deepens}
use Rattle.cq_parse.specs.Outcomes.{Gives}
use Rattle.cq_parse.specs.declared.error.ParseError.{ParseError}
use Rattle.cq_parse.specs.declared.error.ParseError.TheVariants as errors

abbrev answered : Result Ast ParseError → Result Ast ParseError
answered r = r

abbrev judged : Result Ast Complaint → Result Ast Complaint
judged v = v

module _ (ts : List Token) (end : ℕ) where
  pub gives_ok : (r : Result Ast ParseError) → Gives (verdict ts end) r → IfOk r (λ a. Accepted a ts)
  gives_ok (Ok a) g = accepted ts end a g
  gives_ok (Err e) g = tt

  -- another verdict than a statement's
  no_statement : (a : Ast) (c : Complaint) → Accepted a ts → verdict ts end ≡ Err c → ⊥
  no_statement a c spelled is = let h : judged (Ok a) ≡ Err c = sym (accepts ts end a spelled) ∙ is in cc

  pub gives_accepts : (r : Result Ast ParseError) → Gives (verdict ts end) r → (a : Ast) → Accepted a ts → r ≢ Err errors.Memory → r ≡ Ok a
  gives_accepts (Ok b) g a spelled some = let h : judged (Ok b) ≡ Ok a = sym g ∙ accepts ts end a spelled in let k : b ≡ a = cc in ap (λ i. answered (Ok i)) k
  gives_accepts (Err (errors.Syntax at)) g a spelled some = absurd (no_statement a (syntax at) spelled g)
  gives_accepts (Err (errors.Limit what number)) g a spelled some = absurd (no_statement a depth spelled g.0)
  gives_accepts (Err errors.Memory) g a spelled some = absurd (some refl)

  pub gives_syntax : (r : Result Ast ParseError) → Gives (verdict ts end) r → (at : ℕ) → r ≡ Err (errors.Syntax at) → RefusedAt ts end at
  gives_syntax (Ok b) g at is = absurd (let h : answered (Ok b) ≡ Err (errors.Syntax at) = is in cc)
  gives_syntax (Err (errors.Syntax there)) g at is = refused ts end at (g ∙ ap (λ i. judged (Err (syntax i))) (let h : answered (Err (errors.Syntax there)) ≡ Err (errors.Syntax at) = is in let k : there ≡ at = cc in k))
  gives_syntax (Err (errors.Limit what number)) g at is = absurd (let h : answered (Err (errors.Limit what number)) ≡ Err (errors.Syntax at) = is in cc)
  gives_syntax (Err errors.Memory) g at is = absurd (let h : answered (Err errors.Memory) ≡ Err (errors.Syntax at) = is in cc)

  pub gives_limit : (r : Result Ast ParseError) → Gives (verdict ts end) r → (what : What) (number : ℕ) → r ≡ Err (errors.Limit what number) → (what ≡ limits.Depth) × (number ≡ max_depth) × (n : ℕ) × GoesDeep ts n
  gives_limit (Ok b) g what number is = absurd (let h : answered (Ok b) ≡ Err (errors.Limit what number) = is in cc)
  gives_limit (Err (errors.Syntax there)) g what number is = absurd (let h : answered (Err (errors.Syntax there)) ≡ Err (errors.Limit what number) = is in cc)
  gives_limit (Err (errors.Limit of count)) g what number is =
      let h : answered (Err (errors.Limit of count)) ≡ Err (errors.Limit what number) = is in
      let k : of ≡ what = cc in
      let m : count ≡ number = cc in
      let d = deep ts end g.0 in
      (sym k ∙ g.1, sym m ∙ g.2, d.0, d.1)
  gives_limit (Err errors.Memory) g what number is = absurd (let h : answered (Err errors.Memory) ≡ Err (errors.Limit what number) = is in cc)

  pub gives_refuses : (r : Result Ast ParseError) → Gives (verdict ts end) r → (at : ℕ) → RefusedAt ts end at → r ≢ Err errors.Memory → r ≡ Err (errors.Syntax at)
  gives_refuses (Ok b) g at w some = absurd (let h : judged (Ok b) ≡ Err (syntax at) = sym g ∙ refuses ts end at w in cc)
  gives_refuses (Err (errors.Syntax there)) g at w some =
      let h : judged (Err (syntax there)) ≡ Err (syntax at) = sym g ∙ refuses ts end at w in
      let k : there ≡ at = cc in ap (λ i. answered (Err (errors.Syntax i))) k
  gives_refuses (Err (errors.Limit what number)) g at w some = absurd (let h : judged (Err depth) ≡ Err (syntax at) = sym g.0 ∙ refuses ts end at w in cc)
  gives_refuses (Err errors.Memory) g at w some = absurd (some refl)

  pub gives_deepens : (r : Result Ast ParseError) → Gives (verdict ts end) r → (n : ℕ) → GoesDeep ts n → r ≢ Err errors.Memory → r ≡ Err (errors.Limit limits.Depth max_depth)
  gives_deepens (Ok b) g n d some = absurd (let h : judged (Ok b) ≡ Err depth = sym g ∙ deepens ts end n d in cc)
  gives_deepens (Err (errors.Syntax there)) g n d some = absurd (let h : judged (Err (syntax there)) ≡ Err depth = sym g ∙ deepens ts end n d in cc)
  gives_deepens (Err (errors.Limit what number)) g n d some = ap₂ (λ i j. answered (Err (errors.Limit i j))) g.1 g.2
  gives_deepens (Err errors.Memory) g n d some = absurd (some refl)
