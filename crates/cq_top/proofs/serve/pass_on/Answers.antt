use Rattle.cq_top.proofs.Passing.{refused_keeps, refused_written, refused_cut, refused_blames}
use Rattle.cq_top.proofs.serve.pass_on.Goals as goal

pub returns-in-Err-clause-written : goal.returns-in-Err-clause-written
returns-in-Err-clause-written g c = refused_written (g.K.Sink.shown c.args.sink.now) (g.K.Sink.shown c.flush.new.self) c.in-Err.error c.in-Err.ensures

pub returns-in-Err-clause-sink : goal.returns-in-Err-clause-sink
returns-in-Err-clause-sink g c = refused_keeps (g.K.Sink.shown c.args.sink.now) (g.K.Sink.shown c.flush.new.self) c.in-Err.error c.in-Err.ensures

pub returns-in-Err-clause-cut : goal.returns-in-Err-clause-cut
returns-in-Err-clause-cut g c = refused_cut c.in-Err.error c.stop_of.result c.stop_of.ensures

pub returns-in-Err-clause-blames : goal.returns-in-Err-clause-blames
returns-in-Err-clause-blames g c = refused_blames (g.K.Sink.shown c.args.sink.now) (g.K.Sink.shown c.flush.new.self) c.in-Err.error c.stop_of.result c.stop_of.ensures c.in-Err.ensures
