use Rattle.std.proofs.Common.{◌≡◌, ◌∙◌, [], ◌∷◌, ◌++◌, arith, sym, ap, refl, subst, slice_index_or, rules}
use Rattle.std.specs.List.{AllByRecursion}
use Rattle.cq_demands.specs.Demands.{rows_with}
use Rattle.cq_demands.specs.JoinDemands.{wants_at}
use Rattle.cq_group.specs.Groups.{HasTable}
use Rattle.cq_group.specs.Calls.{captured}
use Rattle.cq_group.proofs.PlaceLaws.{all_get}
use Rattle.cq_group.proofs.ReadLaws.{wanted_more, rested_none, rested_more, rested_kept, rested_has, rested_captured, rested_blames}
use Rattle.cq_group.proofs.group.GroupState.read_tables.Goals as goal

pub loop-table-init : goal.loop-table-init
loop-table-init g c = (c.new-seen.ensures, refl, rested_none g.S.Store.state c.args.self.now)

pub pick_table-requires-clause-kept : goal.pick_table-requires-clause-kept
pick_table-requires-clause-kept g c = rested_kept g.S.Store.state c.args.self.now c.loop-table.self c.requires.kept c.loop-table.invariant.1 c.loop-table.invariant.2

pub pick_table-requires-clause-there : goal.pick_table-requires-clause-there
pick_table-requires-clause-there g c =
    let table = slice_index_or c.as_slice-table-items.result.now c.loop-table.table-index 0 in
    rested_has g.S.Store.state c.args.self.now c.loop-table.self table c.loop-table.invariant.2
    (all_get (HasTable c.args.self.now) c.as_slice-table-items.result.now c.loop-table.table-index 0
    (subst (λ xs. AllByRecursion (HasTable c.args.self.now) xs) (sym c.as_slice-table-items.ensures) c.requires.there) (omega arith))

pub returns-in_err-rows-clause-same : goal.returns-in_err-rows-clause-same
returns-in_err-rows-clause-same g c = rested_more g.S.Store.state c.args.self.now c.loop-table.self c.pick_table.new.self c.loop-table.invariant.2 c.pick_table.ensures.same

pub returns-in_err-rows-clause-blame : goal.returns-in_err-rows-clause-blame
returns-in_err-rows-clause-blame g c =
    let blamed = rested_blames g.S.Store.state c.in_err-rows.field-0.0 c.args.self.now c.loop-table.self _ c.loop-table.invariant.2 c.in_err-rows.ensures.blame in
    search rules

pub returns-then-is_err-clause-same : goal.returns-then-is_err-clause-same
returns-then-is_err-clause-same g c = rested_more g.S.Store.state c.args.self.now c.loop-table.self c.pick_table.new.self c.loop-table.invariant.2 c.pick_table.ensures.same

pub loop-table-preserved : goal.loop-table-preserved
loop-table-preserved g c =
    let state = g.S.Store.state in
    let group = c.args.self.now in
    let tables = c.as_slice-table-items.result.now in
    let table = slice_index_or tables c.loop-table.table-index 0 in
    let put : c.put.new.self ≡ c.loop-table.seen ++ (table, c.in_ok-rows.rows) ∷ [] = search rules in
    let wants = c.args.wants.now in
    let wanted : c.wants_at-wanted.result.now ≡ wants_at wants table = c.wants_at-wanted.ensures ∙ ap (λ ws. wants_at ws table) c.as_slice.ensures in
    let row : c.in_ok-rows.rows ≡ rows_with (wants_at wants table) (captured group table).1 =
    c.in_ok-rows.ensures.rows ∙ (λ i. rows_with (wanted i) ((rested_captured state group c.loop-table.self table c.loop-table.invariant.1 c.loop-table.invariant.2 i).1)) in (
      put ∙ wanted_more wants (captured group) tables c.loop-table.table-index c.loop-table.seen (table, c.in_ok-rows.rows) (omega arith) c.loop-table.invariant.0 (λ i. (table, row i)),
      c.pick_table.ensures.journal ∙ c.loop-table.invariant.1,
      rested_more g.S.Store.state c.args.self.now c.loop-table.self c.pick_table.new.self c.loop-table.invariant.2 c.pick_table.ensures.same,
    )
