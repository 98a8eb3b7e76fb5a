use Rattle.std.proofs.Common.{◌∙◌, true, subst, sym, ap, List, ℕ}
use Rattle.std.proofs.lemmas.Str.{IsUtf8-string_bytes}
use Rattle.std.specs.Str.{IsUtf8}
use Rattle.cq_token.proofs.Texts.{answer, good_text, bad_text}
use Rattle.cq_token.proofs.piece.closed.Goals as goal

pub returns-in-Ok-clause-value : goal.returns-in-Ok-clause-value
returns-in-Ok-clause-value c =
    let same = ap (λ v. v.items) c.in-Ok.ensures.ok in
    let good = subst IsUtf8 same (IsUtf8-string_bytes c.in-Ok.text) in
    sym (ap (λ (t : List ℕ). answer c.args.at t c.args.more true) (c.in_ok-of_string-in-Ok.ensures ∙ same) ∙ good_text c.args.at c.args.more c.args.content.items good)

pub returns-clause-value : goal.returns-clause-value
returns-clause-value c = λ _. sym (bad_text c.args.at c.args.more c.args.content.items c.in-Err.ensures.succeeds)
