use Rattle.cq_bind_statements.proofs.TableLaws.{key_ok, key_err}
use Rattle.cq_bind_statements.proofs.tables.key_of.Goals as goal

pub returns-in_err-listed : goal.returns-in_err-listed
returns-in_err-listed c = key_err c.args.columns.now _ c.args.defs.now c.args.names.now _ c.from_residual.result c.as_slice.ensures c.in_err-listed.ensures c.from_residual.ensures.1

pub returns : goal.returns
returns c =
    key_ok c.args.columns.now _ c.args.defs.now c.args.names.now c.in_ok-listed.listed c.as_slice-2.result.now c.in_ok-places.places _
    c.as_slice.ensures c.in_ok-listed.ensures c.in_ok-places.ensures c.as_slice-2.ensures c.in_ok-appended.ensures
