use Rattle.std.proofs.Common.{None, refl}
use Rattle.cq_bind_expressions.specs.Fronts.{front_read, longest}
use Rattle.cq_bind_expressions.specs.Operands.{with_operand}
use Rattle.cq_bind_expressions.proofs.Chains.{among_within, goes_further, is_last, only_memory}
use Rattle.cq_bind_expressions.proofs.fronts.longest_front.Goals as goal

pub operands-init : goal.operands-init
operands-init g c = (refl, tt)

pub returns-in_err-search-clause-longest : goal.returns-in_err-search-clause-longest
returns-in_err-search-clause-longest g c = only_memory _ _ _ c.from_residual.ensures.1 c.in_err-search.ensures.goes_on

pub operands-preserved : goal.operands-preserved
operands-preserved g c =
    let part = g.T.Operand.part in
    let step = with_operand g.T.Operand.part g.T.Operand.joins c.args.before.now in
    let rest = c.args.rest.now in
    let all = longest c.args.keys.now part step None (front_read c.args.first c.args.found.now) rest in (
      goes_further c.args.keys.now part step rest all c.operands.i (front_read c.operands.search.front c.operands.found) c.operands.search.best
          _ _ c.in_ok-search.search c.searched.new.found c.operands.invariant.0 c.operands-test.true c.index-rest-i.is c.in_ok-search.ensures.goes_on,
      among_within rest c.operands.i c.operands.search.best c.in_ok-search.search.best c.operands.invariant.1 c.operands-test.true c.in_ok-search.ensures.within,
    )

pub returns-clause-longest : goal.returns-clause-longest
returns-clause-longest g c =
    let part = g.T.Operand.part in
    let step = with_operand g.T.Operand.part g.T.Operand.joins c.args.before.now in
    let all = longest c.args.keys.now part step None (front_read c.args.first c.args.found.now) c.args.rest.now in
    is_last c.args.keys.now part step c.args.rest.now all c.operands.i (front_read c.operands.search.front c.operands.found) c.operands.search.best c.operands.invariant.0 c.operands-test.false

pub returns-clause-within : goal.returns-clause-within
returns-clause-within g c = c.operands.invariant.1
