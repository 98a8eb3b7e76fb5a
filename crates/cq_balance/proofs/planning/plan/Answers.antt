use Rattle.std.proofs.Common.{◌≡◌, ◌∙◌, ◌<◌, ◌≤◌, ◌++◌, ◌∷◌, [], Some, None, sym, ap, subst, append-nil, arith, rules}
use Rattle.std.specs.List.{sum_by}
use Rattle.std.proofs.lemmas.List.{append_assoc}
use Rattle.cq_balance.specs.declared.load.Load.{Load}
use Rattle.cq_balance.specs.Greedy.{next_move, moved, squares, greedy}
use Rattle.cq_balance.specs.Laws.{AreDistinct}
use Rattle.cq_balance.proofs.Sizes.{distinct_moved, sum_moved}
use Rattle.cq_balance.proofs.Steps.{next_lowers}
use Rattle.cq_balance.proofs.Ends.{greedy_step, greedy_none}
use Rattle.cq_balance.proofs.planning.plan.Goals as goal

pub loop-next-smaller : goal.loop-next-smaller
loop-next-smaller c =
    let now = c.loop-next.now.items in
    let e : next_move now c.args.nodes ≡ Some c.in-Some.next = search rules in
    let less = next_lowers now c.args.nodes c.in-Some.next c.loop-next.invariant.groups e in
    subst (λ ls. squares ls c.args.nodes < squares now c.args.nodes) (sym c.make.ensures) less

pub loop-next-preserved : goal.loop-next-preserved
loop-next-preserved c =
    let now = c.loop-next.now.items in
    let next = c.in-Some.next in
    let e : next_move now c.args.nodes ≡ Some next = search rules in
    let put : c.put.new.self ≡ c.loop-next.moves ++ next ∷ [] = search rules in
    let step = greedy_step now c.args.nodes next c.loop-next.invariant.groups e in
    subst (λ ls. record { planned : c.put.new.self ++ greedy ls c.args.nodes ≡ greedy c.in-Ok.now.items c.args.nodes; groups : AreDistinct ls; sizes : sum_by (λ (x : Load). x.size) ls ≤ 1267650600228229401496703205376 })
    (sym c.make.ensures)
    (record {
      planned =
          ap (λ ms. ms ++ greedy (moved now next) c.args.nodes) put ∙ append_assoc c.loop-next.moves (next ∷ []) (greedy (moved now next) c.args.nodes)
          ∙ ap (λ ms. c.loop-next.moves ++ ms) (sym step) ∙ c.loop-next.invariant.planned;
      groups = distinct_moved now next c.loop-next.invariant.groups;
      sizes = (let same = sum_moved now next in let low = c.loop-next.invariant.sizes in omega (arith, same, low));
    })

pub returns : goal.returns
returns c =
    let now = c.loop-next.now.items in
    let e : next_move now c.args.nodes ≡ None = search rules in
    let none = greedy_none now c.args.nodes c.loop-next.invariant.groups e in
    let copied : c.in-Ok.now.items ≡ c.args.loads.now = search rules in
    sym (append-nil c.loop-next.moves) ∙ ap (λ ms. c.loop-next.moves ++ ms) (sym none) ∙ c.loop-next.invariant.planned ∙ ap (λ ls. greedy ls c.args.nodes) copied
