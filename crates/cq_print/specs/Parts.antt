-- The parts of a SELECT, each with what it is spelled with.
use Rattle.std.specs.Prelude.{List, ◌++◌, map, codes}
use Rattle.cq_grammar.specs.declared.query.Select.{Select, out-Select}
use Rattle.cq_grammar.specs.Spelling.{
  Kinds,
  word,
  if_written,
  if_some,
  if_some_behind,
  commas,
  list_behind,
  count_spelling,
  expr_spelling,
  item_spelling,
  from_spelling,
  group_by_spelling,
  having_spelling,
  order_key_spelling,
}
use Rattle.cq_grammar.specs.Bare.{if_any}

-- what is selected from where
abbrev pub selection_spelling : Select → Kinds
selection_spelling q =
    let s = out-Select q in
    (word (codes "select") ++ (if_written s.distinct (word (codes "distinct")) ++ commas (map item_spelling s.items)))
    ++ ((word (codes "from") ++ commas (map from_spelling s.from)) ++ if_some_behind (word (codes "where")) (if_any expr_spelling s.filter))

-- how it is grouped
abbrev pub grouping_spelling : Select → Kinds
grouping_spelling q =
    let s = out-Select q in
    if_some (if_any group_by_spelling s.groups) ++ if_some (if_any having_spelling s.having)

-- how it is ordered, and which part is kept
abbrev pub ordering_spelling : Select → Kinds
ordering_spelling q =
    let s = out-Select q in
    list_behind (word (codes "order") ++ word (codes "by")) (map order_key_spelling s.order)
    ++ (count_spelling (codes "limit") s.limit ++ count_spelling (codes "offset") s.offset)
