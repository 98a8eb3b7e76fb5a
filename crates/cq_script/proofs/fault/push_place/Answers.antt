use Rattle.std.proofs.Common.{rules, ◌≡◌, ◌++◌, codes, decimal}
use Rattle.std.specs.Prelude.{OnOk}
use Rattle.cq_script.proofs.TextLaws.{put_last}
use Rattle.cq_script.proofs.fault.push_place.Goals as goal

pub returns : goal.returns
returns c =
    let column : OnOk c.push_with-2.result (c.push_with-2.new.out.items ≡ c.push_with.new.out.items ++ (codes " column " ++ decimal c.args.column)) = search rules in
    put_last c.args.out.now.items (codes "28 value in row " ++ decimal c.args.row) (codes " column ") (decimal c.args.column) c.push_with.new.out.items c.push_with-2.new.out.items c.push_with-2.result c.in_ok-push_with.ensures column
