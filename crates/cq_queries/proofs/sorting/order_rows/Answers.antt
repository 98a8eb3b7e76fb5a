use Rattle.std.proofs.Common.{List, length, map, take, sym, ap, ◌∙◌}
use Rattle.std.proofs.lemmas.Bool.{eqb-true}
use Rattle.std.proofs.lemmas.Result.{IfOk-weaker}
use Rattle.cq_meaning.specs.Values.{Row}
use Rattle.cq_meaning.specs.Sorting.{keys_cmp, sorted, cut}
use Rattle.cq_queries.specs.declared.wanted.Top.{Top}
use Rattle.cq_queries.proofs.FirstLaws.{unkeyed}
use Rattle.cq_queries.proofs.TopLaws.{none_behind, top_alone}
use Rattle.cq_queries.proofs.sorting.order_rows.Goals as goal

pub returns-then-is_empty : goal.returns-then-is_empty
returns-then-is_empty c shown =
    let none = eqb-true (length c.args.keys.now) 0 (sym c.is_empty.ensures ∙ c.if-is_empty.true) in
    ap (cut shown c.args.limit c.args.offset) (sym (unkeyed c.args.keys.now c.args.rows none))

pub top_rows-requires : goal.top_rows-requires
top_rows-requires c =
    let top : Top = record { keys = c.args.keys; most = c.in-Some.most; behind = c.new-behind.result } in
    none_behind top c.new-behind.ensures

pub returns-in-Some : goal.returns-in-Some
returns-in-Some c =
    let all : List Row = sorted (keys_cmp c.args.keys.now) c.args.rows in
    let top : Top = record { keys = c.args.keys; most = c.in-Some.most; behind = c.new-behind.result } in
    IfOk-weaker c.top_rows.result _ _ (λ some e shown. ap (cut shown c.args.limit c.args.offset) (e ∙ top_alone top c.new-behind.ensures c.args.rows) ∙ ap (map (λ row. take shown row)) (c.in-Some.ensures all)) c.top_rows.ensures
