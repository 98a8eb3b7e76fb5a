use Rattle.std.proofs.Common.{◌≡◌, ◌∙◌, ◌++◌, Some, None, string_bytes, flat_map, ap, sym, arith}
use Rattle.std.proofs.lemmas.Str.Pattern.{split_parts}
use Rattle.cq_token.specs.Printed.{doubled}
use Rattle.cq_token.proofs.Doubled.{plain, pushed, utf8_after, on_ok}
use Rattle.cq_token.proofs.printer.push_doubled.Goals as goal

pub quotes-preserved : goal.quotes-preserved
quotes-preserved c =
    let before = c.in-Some.before.now in
    let after = c.in-Some.after.now in
    let rest = c.quotes.rest.now in
    let parts = split_parts 39 rest (Some (c.in-Some.before, c.in-Some.after)) c.in-Some.ensures.cases (omega arith) in (
      pushed (string_bytes c.quotes.out) (string_bytes c.push.new.out) (string_bytes c.push-in-Some.new.out) before after rest c.in_ok-push.ensures c.in_ok-push-2.ensures parts.0 parts.1
          ∙ c.quotes.invariant.0,
      utf8_after before after rest c.quotes.invariant.1 parts.0,
    )

pub returns : goal.returns
returns c =
    let rest = c.quotes.rest.now in
    let none = split_parts 39 rest None c.in_default.ensures.cases (omega arith) in
    on_ok c.push-2.result (string_bytes c.push-2.new.out ≡ string_bytes c.quotes.out ++ rest) (string_bytes c.push-2.new.out ≡ string_bytes c.args.out.now ++ flat_map doubled c.args.text.now)
    (λ e. e ∙ ap (λ l. string_bytes c.quotes.out ++ l) (sym (plain rest none)) ∙ c.quotes.invariant.0) c.push-2.ensures
