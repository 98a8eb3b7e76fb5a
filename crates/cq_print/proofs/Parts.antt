-- A SELECT is spelled part by part.
use Rattle.std.proofs.Common.{◌≡◌, ◌++◌, sym, ◌∙◌, ap, rules}
use Rattle.cq_grammar.specs.declared.query.Select.{Select, out-Select, roll-Select, the_lemmas}
use Rattle.cq_grammar.specs.Spelling.{select_spelling}
use Rattle.cq_grammar.proofs.Spelled.{spelled-Select}
use Rattle.cq_print.specs.Parts.{selection_spelling, grouping_spelling, ordering_spelling}

rolled : (q : Select) → q ≡ roll-Select (out-Select q)
rolled q = search (rules, the_lemmas)

pub in_parts : (q : Select) → select_spelling q ≡ selection_spelling q ++ (grouping_spelling q ++ ordering_spelling q)
in_parts q =
    let s = out-Select q in
    ap select_spelling (rolled q) ∙ spelled-Select s.distinct s.items s.from s.filter s.groups s.having s.order s.limit s.offset s.at
