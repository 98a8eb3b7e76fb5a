use Rattle.std.proofs.Common.{rules, arith, ◌+◌, ◌-◌, Ok, Err, sym, ◌∙◌}
use Rattle.cq_grammar.specs.Read.{sees}
use Rattle.cq_parse_steps.proofs.Turns.{refused, read_on, many_stop, many_end}
use Rattle.cq_parse_steps.proofs.lists.more.Goals as goal
use Rattle.cq_parse_steps.proofs.lists.more.Goals.{else-items-test, then-items-test+then-not-sees}

pub returns-in_err-next : goal.returns-in_err-next
returns-in_err-next g c = λ p follows.
    let s = c.items in
    let on = sym c.sees.ensures ∙ c.if-not-sees.false in
    let e = c.in_err-next.field-0.0 in
    let reads = follows _ _ (c.args.start + s.turn) (Err e) (omega arith) c.in_err-next.ensures in
    let fact = refused (sees c.args.kinds.now) p _ s.found (c.args.start + s.turn) (c.len-turn-end.result - s.turn) s.parser e c.item.new.arg2 (s.invariant p follows) (omega arith) on reads in
    search (rules, fact)

pub items-preserved : goal.items-preserved
items-preserved g c = λ p follows.
    let s = c.items in
    let on = sym c.sees.ensures ∙ c.if-not-sees.false in
    let reads = follows _ _ (c.args.start + s.turn) (Ok c.in_ok-next.next) (omega arith) c.in_ok-next.ensures in
    read_on (sees c.args.kinds.now) p _ s.found c.put.new.self (c.args.start + s.turn) _ (c.len-turn-end.result - s.turn) _ s.parser c.in_ok-next.next c.item.new.arg2
    (s.invariant p follows) (omega arith) on reads c.in_ok-put.ensures.ok (omega arith) (omega arith)

pub returns : goal.returns
returns g c = λ p follows.
    let s = c.items in
    elim c.items-test.branch [
      | else-items-test w ↦ s.invariant p follows ∙ many_end (sees c.args.kinds.now) p s.found (c.args.start + s.turn) (c.len-turn-end.result - s.turn) s.parser (omega arith)
      | then-items-test+then-not-sees w ↦ s.invariant p follows ∙ many_stop (sees c.args.kinds.now) p s.found (c.args.start + s.turn) (c.len-turn-end.result - s.turn) s.parser (sym w.sees.ensures ∙ w.if-not-sees.true)
    ]
