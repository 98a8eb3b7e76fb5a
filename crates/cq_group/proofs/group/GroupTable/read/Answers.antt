use Rattle.std.proofs.Common.{◌≡◌, ◌∙◌, length, sym, ap, eqb-true}
use Rattle.std.specs.List.{HoldsAt}
use Rattle.std.proofs.lemmas.Result.{IfOk-weaker}
use Rattle.cq_value.specs.Tables.{rows_of}
use Rattle.cq_group.proofs.KeyLaws.{none_wanted}
use Rattle.cq_group.proofs.group.GroupTable.read.Goals as goal

pub returns-then-is_empty-clause-rows : goal.returns-then-is_empty-clause-rows
returns-then-is_empty-clause-rows g c =
    let wanted = c.args.wanted.now in
    let none : length wanted ≡ 0 = ap length (sym c.as_slice.ensures) ∙ eqb-true (length c.as_slice.result.now) 0 (sym c.is_empty.ensures ∙ c.if-is_empty.true) in
    IfOk-weaker c.scan.result (λ rows. HoldsAt (λ x. rows ≡ rows_of (g.S.Store.state x).rows) c.args.self.now.stores.items c.args.place) _
    (λ rows h x. h x ∙ sym (none_wanted wanted _ none)) c.scan.ensures.rows
