use Rattle.std.proofs.Common.{rules, ◌≡◌, [], ◌∷◌, ◌++◌, sym, ap, subst, ◌∙◌, get_or, set, arith}
use Rattle.std.specs.Prelude.{None, Some, OnOk}
use Rattle.std.proofs.lemmas.Grind.{common_steps}
use Rattle.cq_queries.specs.declared.tallying.TalliedGroup.{TalliedGroup}
use Rattle.cq_queries.specs.Cells.{row_in}
use Rattle.cq_queries.specs.LentKeys.{row_of}
use Rattle.cq_queries.specs.Tallied.{unseen, grown, put_changed, place_of, found_or, CanGrow}
use Rattle.cq_queries.proofs.TalliedLaws.{at_place, put_at_place, set_places, put_missing, found_missing}
use Rattle.cq_queries.proofs.tallying.Tallying.put.Goals as goal

pub index_mut-requires : goal.index_mut-requires
index_mut-requires c =
    let new = unseen c.args.results.now c.args.aggs.now (row_of c.args.key.now) in
    let h = (at_place new c.self.inside.groups.items c.in-Some.place new (sym (c.self.invariant c.args.key.now) ∙ (sym c.get.ensures.value ∙ (sym c.copied.ensures ∙ c.in-Some.is)))).0 in
    grind (arith, common_steps, h)

pub add-requires : goal.add-requires
add-requires c =
    let new = unseen c.args.results.now c.args.aggs.now (row_of c.args.key.now) in
    let gs = c.self.inside.groups.items in
    let g = c.index_mut.result.now in
    let is : g ≡ get_or gs c.in-Some.place g = search rules in
    let placed : place_of new.keys gs ≡ Some c.in-Some.place = sym (c.self.invariant c.args.key.now) ∙ (sym c.get.ensures.value ∙ (sym c.copied.ensures ∙ c.in-Some.is)) in
    subst (CanGrow c.args.results.now (row_in c.args.row)) (ap (found_or new) (sym c.self.view_is) ∙ ((at_place new gs c.in-Some.place g placed).1 ∙ sym is)) c.requires

pub invariant_of-self : goal.invariant_of-self
invariant_of-self c = λ q.
    let gs = c.self.inside.groups.items in
    let g = c.index_mut.result.now in
    let is : g ≡ get_or gs c.in-Some.place g = search rules in
    c.self.invariant q ∙ set_places (row_of q) gs c.in-Some.place g c.add.new.self (ap (λ (x : TalliedGroup). x.keys) c.add.ensures ∙ ap (λ (x : TalliedGroup). x.keys) is)

pub returns-in-Some : goal.returns-in-Some
returns-in-Some c =
    let change = grown c.args.results.now (row_in c.args.row) in
    let new = unseen c.args.results.now c.args.aggs.now (row_of c.args.key.now) in
    let gs = c.self.inside.groups.items in
    let g = c.index_mut.result.now in
    let is : g ≡ get_or gs c.in-Some.place g = search rules in
    let placed : place_of new.keys gs ≡ Some c.in-Some.place = sym (c.self.invariant c.args.key.now) ∙ (sym c.get.ensures.value ∙ (sym c.copied.ensures ∙ c.in-Some.is)) in
    ap (λ x. set gs c.in-Some.place x) (c.add.ensures ∙ ap change is)
    ∙ (sym (put_at_place change new gs c.in-Some.place g placed) ∙ ap (put_changed change new) c.self.view_is)

pub of_row-requires : goal.of_row-requires
of_row-requires c =
    let new = unseen c.args.results.now c.args.aggs.now (row_of c.args.key.now) in
    let gs = c.self.inside.groups.items in
    let missing : place_of new.keys gs ≡ None = sym (c.self.invariant c.args.key.now) ∙ (sym c.get.ensures.value ∙ (sym c.copied.ensures ∙ c.in-None.is)) in
    let h : CanGrow c.args.results.now (row_in c.args.row) new = subst (CanGrow c.args.results.now (row_in c.args.row)) (ap (found_or new) (sym c.self.view_is) ∙ found_missing new gs missing) c.requires in
    (h.0, h.1)

pub returns-in_ok-group-in-None : goal.returns-in_ok-group-in-None
returns-in_ok-group-in-None c =
    let results = c.args.results.now in
    let aggs = c.args.aggs.now in
    let change = grown results (row_in c.args.row) in
    let new = unseen results aggs (row_of c.args.key.now) in
    let gs = c.self.inside.groups.items in
    let all = c.args.self.now in
    let group = c.in_ok-group-in-None.group in
    let missing : place_of new.keys gs ≡ None = sym (c.self.invariant c.args.key.now) ∙ (sym c.get.ensures.value ∙ (sym c.copied.ensures ∙ c.in-None.is)) in
    let made : OnOk c.put_new.result (c.put_new.new.self ≡ all ++ group ∷ []) = search rules in
    let is : group ≡ change new = c.in_ok-group-in-None.ensures ∙ ap (λ k. change (unseen results aggs k)) c.in_ok-copy-in-None.ensures in
    subst (λ us. OnOk c.put_new.result (c.put_new.new.self ≡ us))
    (ap (λ g. all ++ g ∷ []) is ∙ sym (put_missing change new all (subst (λ us. place_of new.keys us ≡ None) c.self.view_is missing))) made
