use Rattle.std.proofs.Common.{map, drop}
use Rattle.cq_token.specs.declared.sign.Sign.TheVariants as s
use Rattle.cq_grammar.specs.Spelling.{
  word,
  sign,
  in_a_row,
  each_behind,
  expr_spelling,
  chained_spelling,
  added_spelling,
  multiplied_spelling,
  arm_spelling,
  item_spelling,
  from_spelling,
  join_spelling,
  order_key_spelling,
}
use Rattle.cq_print.specs.Drafts.{Left}
use Rattle.cq_print.proofs.draft.Draft.+write.Given as goal

abbrev pub invariant-chained-rest : goal.invariant-chained-rest
invariant-chained-rest l = Left l.initial.self (each_behind (word l.joint) (map chained_spelling l.chained-items)) l.self (each_behind (word l.joint) (map chained_spelling (drop l.chained-index l.chained-items)))

abbrev pub invariant-added-rest : goal.invariant-added-rest
invariant-added-rest l = Left l.initial.self (in_a_row (map added_spelling l.added-items)) l.self (in_a_row (map added_spelling (drop l.added-index l.added-items)))

abbrev pub invariant-multiplied-rest : goal.invariant-multiplied-rest
invariant-multiplied-rest l = Left l.initial.self (in_a_row (map multiplied_spelling l.multiplied-items)) l.self (in_a_row (map multiplied_spelling (drop l.multiplied-index l.multiplied-items)))

abbrev pub invariant-arms-arms : goal.invariant-arms-arms
invariant-arms-arms l = Left l.initial.self (in_a_row (map arm_spelling l.arm-items)) l.self (in_a_row (map arm_spelling (drop l.arm-index l.arm-items)))

abbrev pub invariant-exprs-rest : goal.invariant-exprs-rest
invariant-exprs-rest l = Left l.initial.self (each_behind (sign s.Comma) (map expr_spelling l.rest)) l.self (each_behind (sign s.Comma) (map expr_spelling (drop l.item-index l.rest)))

abbrev pub invariant-items-rest : goal.invariant-items-rest
invariant-items-rest l = Left l.initial.self (each_behind (sign s.Comma) (map item_spelling l.rest)) l.self (each_behind (sign s.Comma) (map item_spelling (drop l.item-index l.rest)))

abbrev pub invariant-from_items-rest : goal.invariant-from_items-rest
invariant-from_items-rest l = Left l.initial.self (each_behind (sign s.Comma) (map from_spelling l.rest)) l.self (each_behind (sign s.Comma) (map from_spelling (drop l.item-index l.rest)))

abbrev pub invariant-from_item-joins : goal.invariant-from_item-joins
invariant-from_item-joins l = Left l.initial.self (in_a_row (map join_spelling l.join-items)) l.self (in_a_row (map join_spelling (drop l.join-index l.join-items)))

abbrev pub invariant-order_by-rest : goal.invariant-order_by-rest
invariant-order_by-rest l = Left l.initial.self (each_behind (sign s.Comma) (map order_key_spelling l.rest)) l.self (each_behind (sign s.Comma) (map order_key_spelling (drop l.key-index l.rest)))
