use Rattle.std.proofs.Common.{rules}
use Rattle.cq_script.specs.declared.cutter.Piece.TheVariants as piece
use Rattle.cq_script.specs.Directives.{with_piece, Tells}
use Rattle.cq_script.proofs.ReaderLaws.{keeps_reading}
use Rattle.cq_script.proofs.reader.Reader.take.Goals as goal

pub returns-in-Statement-clause-reading : goal.returns-in-Statement-clause-reading
returns-in-Statement-clause-reading c =
    keeps_reading c.args.self.now c.take_statement.new.self (piece.Statement c.in-Statement.line c.in-Statement.item) c.take_statement.result c.requires c.take_statement.ensures

pub returns-in-Directive-clause-reading : goal.returns-in-Directive-clause-reading
returns-in-Directive-clause-reading c =
    let p = piece.Directive c.in-Directive.line c.in-Directive.text in
    let tells : Tells (with_piece c.args.self.now p) c.args.self.now c.take_directive.new.self c.take_directive.result = search rules in
    keeps_reading c.args.self.now c.take_directive.new.self p c.take_directive.result c.requires tells
