use Rattle.std.proofs.Common.{rules, ◌≡◌, ◌<◌, ◌+◌, ◌∷◌, drop, length, sym, ◌∙◌, subst, arith}
use Rattle.std.specs.Prelude.{slice_set}
use Rattle.cq_meaning.specs.Values.{Results}
use Rattle.cq_one_plan.specs.declared.plan.Plan.{out-Plan}
use Rattle.cq_exec.specs.Executing.{Gives, Leave, HaveLarge, CanLeave}
use Rattle.cq_exec.specs.declared.captures.Captures.{Captures}
use Rattle.cq_exec.proofs.RunLaws.{ahead_of, can_more, left_more, large_more}
use Rattle.cq_exec.proofs.execution.run_blocks.Goals as goal

pub loop-block-preserved : goal.loop-block-preserved
loop-block-preserved c =
    let blocks = c.args.blocks.now in
    let i = c.loop-block.block-index in
    let l : i < length blocks = omega arith in
    let p = c.block-item.result in
    let inv = c.loop-block.invariant in
    let read = c.loop-block.read in
    let catalog = c.args.catalog.now in
    let rs = c.loop-block.results in
    let rows = c.in_ok-rows.rows in
    let more = drop (i + 1) blocks in
    let ahead : drop i blocks ≡ p ∷ more = ahead_of blocks i p l c.block-item.is in
    let given : Gives catalog read rs p rows = search rules in
    let set : slice_set rs (out-Plan p).number rows ≡ c.set.new.self = search rules in
    let again : read ≡ c.run_block.new.read = search rules in
    record {
      can = subst (λ (r : Results). CanLeave catalog c.run_block.new.read r more) set (subst (λ (x : Captures). CanLeave catalog x (slice_set rs (out-Plan p).number rows) more) again (can_more catalog read rs (drop i blocks) more p ahead inv.can rows given));
      lent = sym again ∙ inv.lent;
      left = λ after h. inv.left after (left_more catalog read rs (drop i blocks) more p ahead inv.can rows given after
          (subst (λ (r : Results). Leave catalog read r more after) (sym set) (subst (λ (x : Captures). Leave catalog x c.set.new.self more after) (sym again) h)));
      large = λ h. inv.large (large_more catalog read rs (drop i blocks) more p ahead inv.can rows given
          (subst (λ (r : Results). HaveLarge catalog read r more) (sym set) (subst (λ (x : Captures). HaveLarge catalog x c.set.new.self more) (sym again) h)));
    }
