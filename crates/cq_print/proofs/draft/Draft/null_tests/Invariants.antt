use Rattle.std.proofs.Common.{map, drop}
use Rattle.cq_grammar.specs.Spelling.{in_a_row, null_test_spelling}
use Rattle.cq_print.specs.Drafts.{Left}
use Rattle.cq_print.proofs.draft.Draft.null_tests.Given as goal

abbrev pub invariant-tests : goal.invariant-tests
invariant-tests l = Left l.initial.self (in_a_row (map null_test_spelling l.test-items)) l.self (in_a_row (map null_test_spelling (drop l.test-index l.test-items)))
