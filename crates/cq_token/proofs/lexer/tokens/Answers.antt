use Rattle.std.proofs.Common.{◌≡◌, ◌≢◌, ◌∙◌, ◌+◌, ◌-◌, ◌≤◌, length, drop, take, ap, sym, subst, arith, Ok, Err, false}
use Rattle.cq_token.specs.declared.error.LexError.TheVariants.{Memory}
use Rattle.cq_token.specs.declared.token.Token.{Token}
use Rattle.cq_token.specs.declared.token.Piece.{Piece}
use Rattle.cq_token.specs.declared.token.Piece.TheVariants.{Skip, Token as Found}
use Rattle.cq_token.specs.Tokens.{tokens, tokens_from, IsWithin}
use Rattle.cq_token.proofs.Steps.{put_all, put_one, at_end, past_skip, past_token, turn, in_text, stops, IsPiece}
use Rattle.cq_token.specs.Spans.{InOrder}
use Rattle.cq_token.proofs.Made.{tokens_made}
use Rattle.cq_token.proofs.Laws.{tokens_cut, in_order}
use Rattle.cq_token.proofs.lexer.tokens.Goals as goal

pub returns-in_err-more-clause-value : goal.returns-in_err-more-clause-value
returns-in_err-more-clause-value c =
    let text = c.args.text.now in
    let at = c.text.at in
    let e = c.in_err-more.field-0.0 in
    stops c.from_residual-in_err-more.result (tokens text) e c.from_residual-in_err-more.ensures.0 c.from_residual-in_err-more.ensures.1 (λ (ne : e ≢ Memory).
    c.text.invariant.0 ∙ ap (put_all c.text.found) (turn at text (Err e) c.text-test.true (λ b rest h. c.in_err-more.ensures.value b rest h ne)))

pub text-preserved-in-Skip : goal.text-preserved-in-Skip
text-preserved-in-Skip c =
    let text = c.args.text.now in
    let at = c.text.at in
    let more = c.in-Skip.more in
    let bytes = take (length text - at) (drop at text) in
    let is : IsPiece at bytes (Ok (Skip more)) = subst (λ (p : Piece). IsPiece at bytes (Ok p)) c.in-Skip.is c.in_ok-more.ensures.value in
    let within : more ≤ length bytes - 1 = subst (λ (p : Piece). IsWithin (length bytes - 1) (Ok p)) c.in-Skip.is c.in_ok-more.ensures.within in
    let le = in_text at more text c.text-test.true within in
    (c.text.invariant.0 ∙ ap (put_all c.text.found) (past_skip at more text c.text-test.true le is), le)

pub text-preserved : goal.text-preserved
text-preserved c =
    let text = c.args.text.now in
    let at = c.text.at in
    let more = c.in-Token.more in
    let bytes = take (length text - at) (drop at text) in
    let token : Token = record { kind = c.in-Token.kind; start = at; end = at + 1 + more } in
    let after = tokens_from 0 (at + (1 + more)) (drop (at + (1 + more)) text) in
    let is : IsPiece at bytes (Ok (Found c.in-Token.kind more)) = subst (λ (p : Piece). IsPiece at bytes (Ok p)) c.in-Token.is c.in_ok-more.ensures.value in
    let within : more ≤ length bytes - 1 = subst (λ (p : Piece). IsWithin (length bytes - 1) (Ok p)) c.in-Token.is c.in_ok-more.ensures.within in
    let le = in_text at more text c.text-test.true within in
    let pushed = c.in_ok-put-in-Token.ensures.ok in (
      c.text.invariant.0 ∙ ap (put_all c.text.found) (past_token at more c.in-Token.kind text c.text-test.true le is)
          ∙ put_one c.text.found token after ∙ ap (λ l. put_all l after) (sym pushed),
      le,
    )

pub returns-clause-value : goal.returns-clause-value
returns-clause-value c = c.text.invariant.0 ∙ at_end c.text.found c.text.at c.args.text.now (omega arith)

pub returns-clause-cut : goal.returns-clause-cut
returns-clause-cut c = tokens_cut c.args.text.now c.text.found (c.text.invariant.0 ∙ at_end c.text.found c.text.at c.args.text.now (omega arith))

pub returns-clause-order : goal.returns-clause-order
returns-clause-order c =
    let text = c.args.text.now in
    let all : 0 + length text ≡ length text = omega arith in
    let h = tokens_cut text c.text.found (c.text.invariant.0 ∙ at_end c.text.found c.text.at text (omega arith)) in
    subst (InOrder 0 c.text.found) all (in_order false 0 text c.text.found h)

pub returns-clause-kinds : goal.returns-clause-kinds
returns-clause-kinds c = tokens_made c.args.text.now c.text.found (c.text.invariant.0 ∙ at_end c.text.found c.text.at c.args.text.now (omega arith))
