use Rattle.std.proofs.Common.{◌≡◌, ◌∙◌, ◌+◌, ◌-◌, [], ◌∷◌, ◌++◌, List, sym, ap, subst, Global, arith, rules}
use Rattle.std.specs.Vec.Iter.{into_iter_items, into_iter_len}
use Rattle.std.specs.declared.vec.IntoIter.{IntoIter}
use Rattle.std.proofs.lemmas.List.{nil_from_length}
use Rattle.cq_value.specs.declared.change.Change.{Change}
use Rattle.cq_value.specs.declared.change.Change.TheVariants.{Add, Drop}
use Rattle.cq_value.specs.declared.value.Value.{Value}
use Rattle.cq_value.specs.Changes.{applied, Fit}
use Rattle.cq_value.specs.Tables.{Pair, empty_table}
use Rattle.cq_group.proofs.SnapshotLaws.{HasMade, climbs_low, made_none, made_more, made_all, raised_all}
use Rattle.cq_group.proofs.snapshot.changes_for.Goals as goal

ended : (it : IntoIter Pair Global) → into_iter_len it ≡ 0 → into_iter_items it ≡ []
ended it none = nil_from_length (into_iter_items it) (sym it.rest.ok.0 ∙ none)

pub loop-pair-init : goal.loop-pair-init
loop-pair-init c =
    let e : into_iter_items c.into_iter-pair-iterator.result ≡ c.args.pairs = c.into_iter-pair-iterator.ensures.into_iter_gives.0 ∙ c.into_vec-pair-items.ensures in
    subst (λ cs. HasMade cs 0 (into_iter_items c.into_iter-pair-iterator.result) c.args.pairs c.args.next) (sym c.new-changes.ensures)
    (subst (λ ps. HasMade [] 0 ps c.args.pairs c.args.next) (sym e) (made_none c.args.pairs c.args.next c.requires.ascends))

pub overflow_add-made : goal.overflow_add-made
overflow_add-made c =
    let e : into_iter_items c.loop-pair.pair-iterator ≡ c.in-Some.pair ∷ into_iter_items c.next.new.self = c.in-Some.ensures.steps.0 in
    let h = rw e at c.loop-pair.invariant in
    let low = climbs_low (c.in-Some.pair.0 + 1) (into_iter_items c.next.new.self) c.args.next h.climbs.1 in
    omega (arith, low, c.requires.few)

pub loop-pair-preserved : goal.loop-pair-preserved
loop-pair-preserved c =
    let e : into_iter_items c.loop-pair.pair-iterator ≡ c.in-Some.pair ∷ into_iter_items c.next.new.self = c.in-Some.ensures.steps.0 in
    let put : c.put.new.self ≡ c.loop-pair.changes ++ Add c.in-Some.pair.0 c.in-Some.pair.1 ∷ [] = search rules in
    subst (λ cs. HasMade cs (c.in-Some.pair.0 + 1) (into_iter_items c.next.new.self) c.args.pairs c.args.next) (sym put)
    (made_more c.loop-pair.changes c.loop-pair.made c.in-Some.pair (into_iter_items c.next.new.self) c.args.pairs c.args.next c.requires.few
    (subst (λ ps. HasMade c.loop-pair.changes c.loop-pair.made ps c.args.pairs c.args.next) e c.loop-pair.invariant))

pub returns-then-made-next : goal.returns-then-made-next
returns-then-made-next c =
    let rest : into_iter_items c.loop-pair.pair-iterator ≡ [] = ended c.loop-pair.pair-iterator c.in-None.ensures.steps.0 in
    let all = made_all c.loop-pair.changes c.loop-pair.made (into_iter_items c.loop-pair.pair-iterator) c.args.pairs c.args.next c.loop-pair.invariant rest c.if-made-next.true in
    record { fit = all.0; gives = all.1 }

pub returns : goal.returns
returns c =
    let rest : into_iter_items c.loop-pair.pair-iterator ≡ [] = ended c.loop-pair.pair-iterator c.in-None.ensures.steps.0 in
    let n = c.args.next - 1 in
    let first : c.put-2.new.self ≡ c.loop-pair.changes ++ Add n [] ∷ [] = c.in_ok-put-2.ensures.ok ∙ ap (λ (row : List Value). c.loop-pair.changes ++ Add n row ∷ []) (c.from_values.ensures ∙ c.new.ensures) in
    let both : c.put-3.new.self ≡ (c.loop-pair.changes ++ Add n [] ∷ []) ++ Drop n ∷ [] = c.in_ok-put-3.ensures.ok ∙ ap (λ cs. cs ++ Drop n ∷ []) first in
    let all = raised_all c.loop-pair.changes c.loop-pair.made (into_iter_items c.loop-pair.pair-iterator) c.args.pairs c.args.next c.requires.few c.loop-pair.invariant rest c.if-made-next.false in
    subst (λ (cs : List Change). record { fit : Fit empty_table cs; gives : applied empty_table cs ≡ record { next = c.args.next; pairs = c.args.pairs } }) (sym both)
    (record { fit = all.0; gives = all.1 })
