use Rattle.std.proofs.Common.{◌≡◌, ◌∙◌, ◌++◌, List, map, length, take, drop, sym, ap, subst, arith}
use Rattle.std.specs.Prelude.{All}
use Rattle.std.specs.List.{AllZip}
use Rattle.cq_history.proofs.Entries.{take_all}
use Rattle.cq_block.specs.Running.{HasServed, IsWaiting}
use Rattle.cq_block.proofs.Seated.{all_by_place, zip_by_place}
use Rattle.cq_block.proofs.running.run_seated.Goals as goal

pub run_all-requires-after_bounds : goal.run_all-requires-after_bounds
run_all-requires-after_bounds g c κs within =
    let site = c.args.site.now in
    let P = IsWaiting g.S.Store.state site.scene.now.catalog.now site.scene.now.nodes (map (λ z. z.shared.table_id) site.shared.now.groups.items) (map (λ z. z.shared.table_id) site.shared.now.workers.items) site.numbers.now.items in
    subst (All P) (sym c.deref_mut.ensures.value) (all_by_place P c.args.sessions.now.items c.requires)

pub returns : goal.returns
returns g c =
    let new = c.run_all.new.sessions in
    let old = c.args.sessions.now.items in
    let site = c.args.site.now in
    let R = HasServed g.S.Store.state site.scene.now.catalog.now site.scene.now.nodes site.scene.now.settings (map (λ z. z.shared.table_id) site.shared.now.groups.items) (map (λ z. z.shared.table_id) site.shared.now.workers.items) site.numbers.now.items in
    let count : length new ≡ length old = c.run_all.ensures.count ∙ ap (λ (v : List _). length v) c.deref_mut.ensures.value in
    let rest = drop (length new) old in
    let long : c.args.sessions.now.len ≡ length new = omega (arith, count, c.args.sessions.now.ok.0) in
    subst (λ v. AllZip R old v) (sym (ap (λ k. take k (new ++ rest)) long ∙ take_all new rest))
    (subst (λ v. AllZip R v new) c.deref_mut.ensures.value (zip_by_place R c.deref_mut.result.now new c.run_all.ensures.count c.run_all.ensures.served))
