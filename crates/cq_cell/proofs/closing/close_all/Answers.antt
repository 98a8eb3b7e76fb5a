use Rattle.std.proofs.Common.{rules, ◌≡◌, ◌∙◌, ◌++◌, ◌∷◌, [], List, map, length, refl, sym, ap, subst, arith, append_assoc}
use Rattle.std.specs.List.{AllZip, AllByRecursion}
use Rattle.std.proofs.lemmas.List.{nil_from_length, append-nil}
use Rattle.std.specs.Vec.Iter.{into_iter_items}
use Rattle.cq_cell.specs.declared.passes.Pass.{Pass}
use Rattle.cq_cell.specs.Passes.{IsOver}
use Rattle.cq_cell.specs.Rows.{IsJoined}
use Rattle.cq_cell.proofs.Zips.{front_next, front_all}
use Rattle.cq_cell.proofs.Roots.{none_back, may_take, have_taken, have_ended, have_closed, rows_more, back_first, back_none}
use Rattle.cq_cell.proofs.closing.close_all.Goals as goal

pub loop-row-init : goal.loop-row-init
loop-row-init g c =
    let r = c.requires.back in record {
      rows = search rules;
      joined = (r.0, [], r.0, refl, none_back r.0 _ c.args.roots.items r.1, rw c.into_iter-row-iterator.ensures.into_iter_gives.0 r.2);
      told = ([], refl, λ histories h. tt);
    }

pub join_row-requires : goal.join_row-requires
join_row-requires g c =
    let at = c.loop-row in
    let j = at.invariant.joined in
    let b = back_first (λ r. r.items) _ j.2 (into_iter_items at.row-iterator) c.in-Some.row (into_iter_items c.next.new.self) c.in-Some.ensures.steps.0 j.5 in
    may_take j.0 j.1 b.0 _ at.roots.items c.in-Some.row.items j.4 b.3

pub loop-row-preserved : goal.loop-row-preserved
loop-row-preserved g c =
    let at = c.loop-row in
    let inv = at.invariant in
    let j = inv.joined in
    let row = c.in-Some.row in
    let later = into_iter_items c.next.new.self in
    let steps = c.in-Some.ensures.steps.0 in
    let short = ap (λ (xs : List _). length xs) steps in
    let b = back_first (λ r. r.items) _ j.2 (into_iter_items at.row-iterator) row later steps j.5 in
    let who = g.C.Content.who in
    let told = inv.told in record {
      rows = let was = inv.rows in let gone = c.in-Some.ensures.steps.1 in omega (arith, was, gone, short);
      joined = (
        j.0,
        j.1 ++ b.0 ∷ [],
        b.1,
        j.3 ∙ (ap (λ l. j.1 ++ l) b.2 ∙ sym (append_assoc j.1 (b.0 ∷ []) b.1)),
        have_taken j.0 j.1 b.0 _ at.roots.items c.join_row.new.roots.items row.items j.4 b.3 c.join_row.ensures,
        b.4,
      );
      told = (
        told.0 ++ row.items ∷ [],
        front_next (λ r. r.items) _ told.0 (into_iter_items at.row-iterator) later row told.1 steps,
        λ histories h. let t = have_ended who histories at.roots.items c.join_row.new.roots.items row.items c.join_row.ensures h in
            rows_more (λ (r : List (Pass g.row.X.Denot g.row.N.Denot)). AllZip (IsOver who) histories r) told.0 row.items (told.2 histories t.1) t.0,
      );
    }

pub close_each-requires-clause-joined : goal.close_each-requires-clause-joined
close_each-requires-clause-joined g c =
    let at = c.loop-row in
    let j = at.invariant.joined in
    let none : into_iter_items at.row-iterator ≡ [] = nil_from_length _ (sym at.invariant.rows ∙ c.in-None.ensures.steps.0) in
    let e = back_none (λ r. r.items) _ j.2 (into_iter_items at.row-iterator) none j.5 in
    let all : j.0 ≡ j.1 = j.3 ∙ (ap (λ l. j.1 ++ l) e ∙ append-nil j.1) in
    (j.0, subst (λ b. AllZip (IsJoined j.0 b) (map (λ d. (d.shared.table_id, d.shared.key)) c.args.cells.items) at.roots.items) (sym all) j.4)

pub returns : goal.returns
returns g c =
    let at = c.loop-row in
    let who = g.C.Content.who in
    let told = at.invariant.told in
    let none : into_iter_items at.row-iterator ≡ [] = nil_from_length _ (sym at.invariant.rows ∙ c.in-None.ensures.steps.0) in
    let t = have_closed who g.C.Content.stands _ at.roots.items c.close_each.result.items c.close_each.ensures in
    let news : List (List g.row.N.Denot) = map (λ (r : Pass g.row.X.Denot g.row.N.Denot). r.place.me.0.news) at.roots.items in record {
      histories = news;
      each = t.0;
      passes = subst (λ (rows : List (List (Pass g.row.X.Denot g.row.N.Denot))). AllByRecursion (λ (r : List (Pass g.row.X.Denot g.row.N.Denot)). AllZip (IsOver who) news r) rows)
          (front_all (λ r. r.items) c.args.passes.items (into_iter_items c.into_iter-row-iterator.result) (into_iter_items at.row-iterator) told.0 c.into_iter-row-iterator.ensures.into_iter_gives.0 told.1 none) (told.2 news t.1);
    }
