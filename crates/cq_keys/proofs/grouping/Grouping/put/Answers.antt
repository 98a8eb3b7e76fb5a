use Rattle.std.proofs.Common.{rules, ◌≡◌, [], sym, ap, ◌∙◌, get_or, arith}
use Rattle.std.proofs.lemmas.Grind.{common_steps}
use Rattle.cq_keys.specs.Keyed.{put_in_group}
use Rattle.cq_keys.proofs.PlaceLaws.{at_place, put_at_place, set_places}
use Rattle.cq_keys.proofs.grouping.Grouping.put.Goals as goal

pub index_mut-group-requires : goal.index_mut-group-requires
index_mut-group-requires c =
    let h = (at_place c.args.key c.self.inside.groups.items c.in-Some.place (record { keys = c.args.key; rows = [] }) (sym (c.self.invariant (record { row = c.args.key })) ∙ (sym c.get.ensures.value ∙ (sym c.copied.ensures ∙ c.in-Some.is)))).0 in
    grind (arith, common_steps, h)

pub invariant_of-self-in-Some-1 : goal.invariant_of-self-in-Some-1
invariant_of-self-in-Some-1 c = λ q.
    let g = c.index_mut-group.result.now in
    let is : g ≡ get_or c.self.inside.groups.items c.in-Some.place g = search rules in
    c.self.invariant q ∙ set_places q.row c.self.inside.groups.items c.in-Some.place g c.put.new.self is

pub returns-in_ok-put-in-Some : goal.returns-in_ok-put-in-Some
returns-in_ok-put-in-Some c =
    let g = c.index_mut-group.result.now in
    let is : g ≡ get_or c.self.inside.groups.items c.in-Some.place g = search rules in
    rw (c.in_ok-put-in-Some.ensures.ok)
    (sym (put_at_place c.args.key c.args.row c.self.inside.groups.items c.in-Some.place g (sym (c.self.invariant (record { row = c.args.key })) ∙ (sym c.get.ensures.value ∙ (sym c.copied.ensures ∙ c.in-Some.is))) is)
    ∙ ap (put_in_group c.args.key c.args.row) c.self.view_is)
