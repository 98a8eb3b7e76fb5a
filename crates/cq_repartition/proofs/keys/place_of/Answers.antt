use Rattle.std.proofs.Common.{rules, ◌≡◌, ◌+◌, ◌<◌, true, false, ap, sym, ◌∙◌}
use Rattle.cq_planning.specs.Components.{is_one_class}
use Rattle.cq_shape.specs.Labels.{label}
use Rattle.cq_repartition.proofs.KeyLaws.{place_found}
use Rattle.cq_repartition.proofs.keys.place_of.Goals as goal

pub returns-then-is_one_class : goal.returns-then-is_one_class
returns-then-is_one_class c =
    let first = label c.args.labels.now in
    let leaf = c.args.leaf in
    let place = c.loop-place.place in
    let plainly : leaf.padded ≡ false = search rules in
    let below : place < leaf.columns = search rules in
    let column : c.in_ok-column.column ≡ leaf.start + place = search rules in
    let told : is_one_class first c.args.class c.in_ok-column.column ≡ true = search rules in
    place_found first c.args.class leaf place plainly below c.loop-place.invariant (ap (is_one_class first c.args.class) (sym column) ∙ told)
