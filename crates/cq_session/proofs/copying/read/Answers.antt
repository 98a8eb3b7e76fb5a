use Rattle.std.proofs.Common.{◌≡◌, sym, subst, Ok, Err, Result}
use Rattle.std.specs.Prelude.{IfOk, IfErr}
use Rattle.cq_tree.specs.declared.statement.Statement.{Statement}
use Rattle.cq_answer.specs.declared.fault.Fault.{Fault}
use Rattle.cq_statement.specs.Finding.{Reads}
use Rattle.cq_session.specs.Responses.{is_copy, with_data}
use Rattle.cq_session.proofs.Readings.{read_computes, read_allowed, read_fault, unread_text}
use Rattle.cq_session.proofs.copying.read.Goals as goal

pub returns-in-Ok-clause-reads : goal.returns-in-Ok-clause-reads
returns-in-Ok-clause-reads c =
    let tables = c.args.catalog.now.tables in
    let is = c.in-Ok.ensures.reading in
    record {
      ok = subst (λ (x : Result Statement Fault). IfOk c.with_data.result (λ r. with_data c.args.copied.now tables x ≡ Ok r.statement)) (sym is) c.with_data.ensures.ok;
      copy = subst (λ (x : Result Statement Fault). IfOk c.with_data.result (λ r. r.is_copy ≡ is_copy x)) (sym is) c.with_data.ensures.copy;
      err = subst (λ (x : Result Statement Fault). IfErr c.with_data.result (λ f. Reads (with_data c.args.copied.now tables x) (Err f))) (sym is) c.with_data.ensures.err;
      means = c.in-Ok.ensures.means;
    }

pub returns-in-Ok-clause-computable : goal.returns-in-Ok-clause-computable
returns-in-Ok-clause-computable c = read_computes c.args.session c.args.text.now c.args.copied.now c.args.catalog.now c.with_data.result (returns-in-Ok-clause-reads c)

pub returns-in-Ok-clause-allowed : goal.returns-in-Ok-clause-allowed
returns-in-Ok-clause-allowed c = read_allowed c.args.session c.args.text.now c.args.copied.now c.args.catalog.now.tables c.with_data.result (returns-in-Ok-clause-reads c)

pub returns-in-Ok-clause-fault : goal.returns-in-Ok-clause-fault
returns-in-Ok-clause-fault c = read_fault c.args.session c.args.text.now c.args.copied.now c.args.catalog.now.tables c.with_data.result (returns-in-Ok-clause-reads c)

pub returns-in-Err-clause-fault : goal.returns-in-Err-clause-fault
returns-in-Err-clause-fault c = unread_text c.in-Err.fault c.args.session c.args.text.now c.args.catalog.now.tables c.in-Err.ensures.reading
