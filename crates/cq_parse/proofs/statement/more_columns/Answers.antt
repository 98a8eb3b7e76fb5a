use Rattle.std.proofs.Common.{rules, arith, ◌+◌, ◌-◌, Ok, Err, sym, ◌∙◌}
use Rattle.cq_parse.specs.Limit.{behind_comma, column_item}
use Rattle.cq_parse_steps.proofs.Turns.{refused, read_on, many_stop, many_end}
use Rattle.cq_parse.proofs.statement.more_columns.Goals as goal
use Rattle.cq_parse.proofs.statement.more_columns.Goals.{else-columns-test, then-columns-test+then-not-sees_two}

pub returns-in_err-next : goal.returns-in_err-next
returns-in_err-next c =
    let s = c.columns in
    let on = sym c.sees_two.ensures ∙ c.if-not-sees_two.false in
    let e = c.in_err-next.field-0.0 in
    let fact = refused behind_comma column_item _ s.found (1 + s._turn) (c.len-turn-end.result - s._turn) s.parser e c.column_item.new.parser s.invariant (omega arith) on (c.in_err-next.ensures (1 + s._turn)) in
    search (rules, fact)

pub columns-preserved : goal.columns-preserved
columns-preserved c =
    let s = c.columns in
    let on = sym c.sees_two.ensures ∙ c.if-not-sees_two.false in
    read_on behind_comma column_item _ s.found c.put.new.self (1 + s._turn) _ (c.len-turn-end.result - s._turn) _ s.parser c.in_ok-next.next c.column_item.new.parser
    s.invariant (omega arith) on (c.in_ok-next.ensures (1 + s._turn)) c.in_ok-put.ensures.ok (omega arith) (omega arith)

pub returns : goal.returns
returns c =
    let s = c.columns in
    elim c.columns-test.branch [
      | else-columns-test w ↦ s.invariant ∙ many_end behind_comma column_item s.found (1 + s._turn) (c.len-turn-end.result - s._turn) s.parser (omega arith)
      | then-columns-test+then-not-sees_two w ↦ s.invariant ∙ many_stop behind_comma column_item s.found (1 + s._turn) (c.len-turn-end.result - s._turn) s.parser (sym w.sees_two.ensures ∙ w.if-not-sees_two.true)
    ]
