use Rattle.std.proofs.Common.{◌≡◌, ℕ, ◌<◌, List, length, get_or, sym, ap, ◌∙◌, arith}
use Rattle.std.proofs.lemmas.Grind.{common_steps}
use Rattle.std.proofs.lemmas.List.Sums.{fold_more}
use Rattle.cq_planning.specs.Classes.{merged, itself}
use Rattle.cq_shape.specs.Labels.{up_to, columns_of, merged_labels}
use Rattle.cq_shape.proofs.LabelLaws.{labels_alone, length_up_to, below_alone, labels_merged, length_merged, merged_below, within}
use Rattle.cq_shape.proofs.labels.labels_of.Goals as goal

pub loop-pair-init : goal.loop-pair-init
loop-pair-init c =
    let e : c.in_ok-labels.labels ≡ up_to (columns_of c.args.pairs.now) = grind (arith, common_steps) in
    rw e (record { same = labels_alone (columns_of c.args.pairs.now); long = length_up_to (columns_of c.args.pairs.now); below = below_alone (columns_of c.args.pairs.now) })

pub loop-pair-preserved : goal.loop-pair-preserved
loop-pair-preserved c =
    let ls : List ℕ = c.loop-pair.labels in
    let pairs : List (ℕ × ℕ) = c.args.pairs.now in
    let i : ℕ = c.loop-pair.pair-index in
    let h : i < length pairs = omega arith in
    let w : ((get_or pairs i (0, 0)).0 < columns_of pairs) × ((get_or pairs i (0, 0)).1 < columns_of pairs) = within pairs i (0, 0) h in
    let long : length ls ≡ columns_of pairs = c.loop-pair.invariant.long in
    let e : c.in_ok-labels-2.labels ≡ merged_labels ls (get_or pairs i (0, 0)) = c.in_ok-labels-2.ensures in
    rw e (record {
      same = labels_merged ls (get_or pairs i (0, 0)) c.loop-pair.invariant.below (rw long w.0) (rw long w.1)
          ∙ (ap (λ first. merged first (get_or pairs i (0, 0))) c.loop-pair.invariant.same ∙ sym (fold_more merged itself pairs i (0, 0) h));
      long = length_merged ls (get_or pairs i (0, 0)) ∙ long;
      below = merged_below ls (get_or pairs i (0, 0)) c.loop-pair.invariant.below (rw long w.0) (rw long w.1);
    })
