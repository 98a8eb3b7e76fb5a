use Rattle.std.proofs.Common.{◌≡◌, ◌&&◌, not, None, List, MatchResult, ap, sym, subst}
use Rattle.cq_tree.specs.declared.expression.Expr.{Expr}
use Rattle.cq_reading.specs.declared.error.BindError.TheVariants.{Memory}
use Rattle.cq_reading.specs.Scopes as scopes
use Rattle.cq_reading.specs.Expressions.{reads}
use Rattle.cq_reading.specs.Walk.{part_of}
use Rattle.cq_bind_expressions.specs.Fronts.{behind, front_read, longest, tried}
use Rattle.cq_bind_expressions.specs.Operands.{with_operand}
use Rattle.cq_bind_expressions.proofs.fronts.key_front.Goals as goal

pub returns-clause-longest : goal.returns-clause-longest
returns-clause-longest g c =
    let scope = c.args.scope.now in
    let rest = c.args.rest.now in
    let first = part_of c.args.first.now in
    let part = g.T.Operand.part in
    let step = with_operand g.T.Operand.part g.T.Operand.joins in
    let first_is = subst (λ f. tried (scope.grouped && not first.selects) (reads first (scopes.plain scope) f) ≡ front_read c.in_ok-first.first c.tried.new.found) c.nothing-found.ensures c.in_ok-first.ensures in
    subst (λ q. MatchResult c.longest_front.result (λ k. behind rest k ≡ longest scope.keys part (step (scopes.plain scope)) None q rest) (λ e. e ≡ Memory)) (sym first_is)
    (subst (λ before. MatchResult c.longest_front.result (λ k. behind rest k ≡ longest scope.keys part (step before) None (front_read c.in_ok-first.first c.tried.new.found) rest) (λ e. e ≡ Memory)) c.plain.ensures
    (subst (λ (keys : List Expr). MatchResult c.longest_front.result (λ k. behind rest k ≡ longest keys part (step c.plain.result) None (front_read c.in_ok-first.first c.tried.new.found) rest) (λ e. e ≡ Memory)) (ap (λ (s : scopes.Context). s.keys) c.scope.view_is) c.longest_front.ensures.longest))
