-- The tokens that the reader of a whole text leaves behind.
use Rattle.std.proofs.Common.{◌≡◌, ℕ, ◌-◌, length, take, Option, subst, List, Result, Ok, Err, refl, sym, ap, ◌∙◌}
use Rattle.cq_token.specs.declared.token.Token.{Token}
use Rattle.cq_grammar.specs.declared.error.Refusal.{Refusal}
use Rattle.cq_grammar.specs.declared.error.Refusal.TheVariants.{Syntax, Depth, Memory}
use Rattle.cq_grammar.specs.declared.statement.Ast.{Ast}
use Rattle.cq_grammar.specs.Conditions.{miscalled, misplaced}
use Rattle.cq_grammar.specs.Read.{Fault}
use Rattle.cq_grammar.specs.Verdicts.{Complaint, left_of, place, syntax, by_grammar, called, unless_misplaced, judged}
use Rattle.cq_tree.specs.declared.limit.What.TheVariants as limits
use Rattle.cq_parse.specs.declared.error.ParseError.{ParseError}
use Rattle.cq_parse.specs.declared.error.ParseError.TheVariants as errors
use Rattle.cq_parse.specs.Outcomes.{Gives, ReadsAll}

syntax_known : Syntax ≡ Memory → ⊥
syntax_known e = cc

depth_known : Depth ≡ Memory → ⊥
depth_known e = cc

pub left_is : (outcome : Result Ast Fault) (read : Result Ast Refusal) (left : List Token) → ReadsAll outcome read left → (read ≡ Err Memory → ⊥) → left_of outcome ≡ left
left_is outcome (Ok a) left reads known = ap left_of reads.0 ∙ sym reads.1
left_is outcome (Err Syntax) left reads known = ap left_of (reads syntax_known)
left_is outcome (Err Depth) left reads known = ap left_of (reads depth_known)
left_is outcome (Err Memory) left reads known = absurd (known refl)

pub syntax_given : (outcome : Result Ast Fault) (left : List Token) (end at : ℕ) → ReadsAll outcome (Err Syntax) left → at ≡ place left end → Gives (by_grammar outcome end) (Err (errors.Syntax at))
syntax_given outcome left end at reads here = ap (λ o. by_grammar o end) (reads syntax_known) ∙ ap (λ p. Err (syntax p)) (sym here)

pub depth_given : (outcome : Result Ast Fault) (left : List Token) (end : ℕ) → ReadsAll outcome (Err Depth) left → Gives (by_grammar outcome end) (Err (errors.Limit limits.Depth 64))
depth_given outcome left end reads = (ap (λ o. by_grammar o end) (reads depth_known), refl, refl)

pub ok_given : (outcome : Result Ast Fault) (a : Ast) (left : List Token) (end : ℕ) (result : Result Ast ParseError) → ReadsAll outcome (Ok a) left → Gives (called a (miscalled a)) result → Gives (by_grammar outcome end) result
ok_given outcome a left end result reads gives = subst (λ (o : Result Ast Fault). Gives (by_grammar o end) result) (sym reads.0) gives

pub memory_given : (verdict : Result Ast Complaint) (result : Result Ast ParseError) → result ≡ Err errors.Memory → Gives verdict result
memory_given verdict result is = subst (λ (r : Result Ast ParseError). Gives verdict r) (sym is) tt

-- the misplaced word was looked for in the tokens that the reader read
known_given : (outcome : Result Ast Fault) (read : Result Ast Refusal) (left ts : List Token) (end : ℕ) (m : Option ℕ) (result : Result Ast ParseError) → ReadsAll outcome read left
    → (read ≡ Err Memory → ⊥) → m ≡ misplaced (take (length ts - length left) ts) → Gives (unless_misplaced m (by_grammar outcome end)) result → Gives (judged outcome ts end) result
known_given outcome read left ts end m result reads known is gives =
    let same : m ≡ misplaced (take (length ts - length (left_of outcome)) ts) = is ∙ ap (λ l. misplaced (take (length ts - length l) ts)) (sym (left_is outcome read left reads known)) in
    subst (λ (w : Option ℕ). Gives (unless_misplaced w (by_grammar outcome end)) result) same gives

ok_known : (a : Ast) → Ok a ≡ Err Memory → ⊥
ok_known a e = cc

abbrev pub refusal : Refusal → Result Ast Refusal
refusal e = Err e

err_known : (e : Refusal) → (e ≡ Memory → ⊥) → refusal e ≡ refusal Memory → ⊥
err_known e other is = let same : e ≡ Memory = cc in other same

pub whole_given : (outcome : Result Ast Fault) (read : Result Ast Refusal) (left ts : List Token) (end : ℕ) (m : Option ℕ) (result : Result Ast ParseError) → ReadsAll outcome read left
    → m ≡ misplaced (take (length ts - length left) ts) → Gives (unless_misplaced m (by_grammar outcome end)) result → (read ≡ Err Memory → result ≡ Err errors.Memory) → Gives (judged outcome ts end) result
whole_given outcome (Ok a) left ts end m result reads is gives memory = known_given outcome (Ok a) left ts end m result reads (ok_known a) is gives
whole_given outcome (Err Syntax) left ts end m result reads is gives memory = known_given outcome (Err Syntax) left ts end m result reads (err_known Syntax syntax_known) is gives
whole_given outcome (Err Depth) left ts end m result reads is gives memory = known_given outcome (Err Depth) left ts end m result reads (err_known Depth depth_known) is gives
whole_given outcome (Err Memory) left ts end m result reads is gives memory = memory_given (judged outcome ts end) result (memory refl)
