use Rattle.std.proofs.Common.{rules, ◌≡◌, sym, ap, ◌∙◌, get_or, [], arith}
use Rattle.std.proofs.lemmas.Grind.{common_steps}
use Rattle.cq_meaning.specs.declared.Group.{Group}
use Rattle.cq_keys.specs.Keyed.{rows_with}
use Rattle.cq_keys.proofs.PlaceLaws.{at_place, no_place}
use Rattle.cq_keys.proofs.grouping.Grouping.rows_of.Goals as goal

pub index-requires : goal.index-requires
index-requires c =
    let h = (at_place c.args.key.now.row c.self.inside.groups.items c.in-Some.place.now (record { keys = c.args.key.now.row; rows = [] }) (sym (c.self.invariant c.args.key.now) ∙ sym c.in-Some.ensures.value)).0 in
    grind (arith, common_steps, h)

pub returns-in-Some : goal.returns-in-Some
returns-in-Some c =
    let is : c.index.result.now ≡ get_or c.self.inside.groups.items c.in-Some.place.now c.index.result.now = search rules in
    c.as_slice.ensures
    ∙ (ap (λ (g : Group). g.rows) is
    ∙ (sym (at_place c.args.key.now.row c.self.inside.groups.items c.in-Some.place.now c.index.result.now (sym (c.self.invariant c.args.key.now) ∙ sym c.in-Some.ensures.value)).1
    ∙ ap (rows_with c.args.key.now.row) c.self.view_is))

pub returns-in-None : goal.returns-in-None
returns-in-None c = sym (no_place c.args.key.now.row c.self.inside.groups.items (sym (c.self.invariant c.args.key.now) ∙ sym c.in-None.ensures.value)) ∙ ap (rows_with c.args.key.now.row) c.self.view_is
