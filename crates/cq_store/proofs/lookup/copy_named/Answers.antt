use Rattle.std.proofs.Common.{◌≡◌, ◌∙◌, ℕ, List, ap, filter, length, take, arith}
use Rattle.std.proofs.Math.Seq.{take-length}
use Rattle.std.specs.List.{flat_map}
use Rattle.cq_value.specs.Tables.{Pair}
use Rattle.cq_store.specs.Stores.{has_values}
use Rattle.cq_pages.specs.Pages.{named}
use Rattle.cq_store.proofs.IndexLaws.{finds_all}
use Rattle.cq_store.proofs.lookup.copy_named.Goals as goal

pub returns : goal.returns
returns c =
    let ps = c.args.rows.now.pairs in
    let f : ℕ → List Pair = λ id. filter (λ (p : Pair). has_values c.args.wanted.now p.1) (named id ps) in
    let end : c.loop-id.id-index ≡ length c.ids_of-ids.result.now = omega (arith, c.loop-id.auto.id-index-end, c.loop-id-test.false) in
    let whole : take c.loop-id.id-index c.ids_of-ids.result.now ≡ c.ids_of-ids.result.now = ap (λ k. take k c.ids_of-ids.result.now) end ∙ take-length c.ids_of-ids.result.now in
    c.loop-id.invariant ∙ ap (λ ids. flat_map f ids) (whole ∙ c.ids_of-ids.ensures)
    ∙ finds_all c.args.index.now c.args.wanted.now ps c.args.rows.now.next c.ids_ascend.ensures c.requires.holds c.requires.covers
