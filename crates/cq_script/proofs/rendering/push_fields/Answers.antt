use Rattle.cq_script.proofs.TextLaws.{joined_after}
use Rattle.cq_script.proofs.rendering.push_fields.Goals as goal

pub returns-in_ok-push-in-len1-up : goal.returns-in_ok-push-in-len1-up
returns-in_ok-push-in-len1-up g c = joined_after g.F.Field.text c.args.fields.now c.first-item.result c.args.out.now.items c.push.new.out.items c.push_more.new.out.items c.push_more.result c.first-item.is c.in-len1-up.len_at_least c.in_ok-push-in-len1-up.ensures c.push_more.ensures
