use Rattle.std.proofs.Common.{rules, ◌≡◌, sym, ap, subst, ◌∙◌, length}
use Rattle.std.specs.Prelude.{None}
use Rattle.cq_keys.specs.Keyed.{put_in_group, place_with}
use Rattle.cq_keys.proofs.PlaceLaws.{put_new_group, place_of_new}
use Rattle.cq_keys.proofs.grouping.Grouping.put_new.Goals.{in-Ok, in-Err}
use Rattle.cq_keys.proofs.grouping.Grouping.put_new.Goals as goal

pub invariant_of-self-in-Ok : goal.invariant_of-self-in-Ok
invariant_of-self-in-Ok c = λ q.
    let all = c.self.inside.groups.items in
    let none : place_with c.args.key.row all ≡ None = subst (λ gs. place_with c.args.key.row gs ≡ None) (sym c.self.view_is) c.requires in
    let new = place_of_new c.args.key.row (record { keys = c.in_ok-keys.keys; rows = c.put.new.self }) all c.in_ok-keys.ensures none q.row in
    let old = c.self.invariant q in
    let step = c.in-Ok.ensures.updates.0 q in
    let len : c.len-place.result ≡ length all = search rules in
    rw (c.in_ok-push_group.ensures.ok, new, sym old, sym len) (step)

pub returns : goal.returns
returns c = elim c.match-insert.branch [
  | in-Ok w ↦ (
      let all = c.self.inside.groups.items in
      let none : place_with c.args.key.row all ≡ None = subst (λ gs. place_with c.args.key.row gs ≡ None) (sym c.self.view_is) c.requires in
      rw (w.result-is, w.self-is, c.in_ok-push_group.ensures.ok, c.in_ok-put.ensures.ok, c.new-rows.ensures, c.in_ok-keys.ensures)
      (sym (put_new_group c.args.key.row c.args.row all none) ∙ ap (put_in_group c.args.key.row c.args.row) c.self.view_is))
  | in-Err w ↦ rw w.result-is (search rules)
]
