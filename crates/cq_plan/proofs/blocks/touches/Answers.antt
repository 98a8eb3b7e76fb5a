use Rattle.std.proofs.Common.{◌≡◌, ℕ, ◌++◌, List, ap, sym, ◌∙◌}
use Rattle.std.specs.List.{flat_map}
use Rattle.cq_tree.specs.declared.query.Query.{out-Query}
use Rattle.cq_planning.specs.Occurrences.{with_ins, ins_of}
use Rattle.cq_plan.specs.Touches.{touched_alone}
use Rattle.cq_plan.proofs.BlockLaws.{touched_whole}
use Rattle.cq_plan.proofs.blocks.touches.Goals as goal

pub returns : goal.returns
returns c =
    let first : c.put_blocks.new.found ≡ flat_map (touched_alone c.args.catalog.now) (flat_map with_ins (out-Query c.args.q.now).ctes) = rw (c.new-found.ensures, c.as_slice.ensures) at c.in_ok-put_blocks.ensures in
    c.in_ok-put_ins.ensures
    ∙ (ap (λ (us : List (ℕ × List ℕ)). us ++ flat_map (touched_alone c.args.catalog.now) (ins_of c.args.q.now)) (c.in_ok-put_alone.ensures ∙ ap (λ (us : List (ℕ × List ℕ)). us ++ touched_alone c.args.catalog.now c.args.q.now) first)
    ∙ sym (touched_whole c.args.catalog.now c.args.q.now))
