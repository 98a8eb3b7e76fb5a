use Rattle.std.proofs.Common.{◌++◌, codes}
use Rattle.std.specs.Fmt.{signed_decimal}
use Rattle.cq_script.proofs.TextLaws.{put_after, put_last}
use Rattle.cq_script.proofs.fault.push_range.Goals as goal

pub returns : goal.returns
returns c =
    let value = codes "10 out of range: " ++ signed_decimal c.args.value.now in
    let least = signed_decimal c.args.least.now in
    let two = put_after c.args.out.now.items value (codes " not in ") least c.push_signed.new.out.items c.push_signed-2.new.out.items c.in_ok-push_signed.ensures c.in_ok-push_signed-2.ensures in
    put_last c.args.out.now.items (value ++ codes " not in " ++ least) (codes " to ") (signed_decimal c.args.greatest.now) c.push_signed-2.new.out.items c.push_signed-3.new.out.items c.push_signed-3.result two c.push_signed-3.ensures
