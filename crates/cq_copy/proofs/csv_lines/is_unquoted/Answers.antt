use Rattle.std.proofs.Common.{◌≡◌, true, arith}
use Rattle.std.specs.Prelude.{is_none}
use Rattle.cq_copy.proofs.LineLaws.{none_quoted}
use Rattle.cq_copy.proofs.csv_lines.is_unquoted.Goals as goal

pub returns : goal.returns
returns c = λ e.
    let none : is_none c.memchr.result ≡ true = grind (arith, c.is_none.ensures, e) in
    none_quoted c.args.bytes.now c.memchr.result c.memchr.ensures none
