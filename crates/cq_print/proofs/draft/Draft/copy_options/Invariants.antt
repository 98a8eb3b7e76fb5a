use Rattle.std.proofs.Common.{map, drop}
use Rattle.cq_token.specs.declared.sign.Sign.TheVariants as s
use Rattle.cq_grammar.specs.Spelling.{sign, each_behind, copy_option_spelling}
use Rattle.cq_print.specs.Drafts.{Left}
use Rattle.cq_print.proofs.draft.Draft.copy_options.Given as goal

abbrev pub invariant-rest : goal.invariant-rest
invariant-rest l = Left l.initial.self (each_behind (sign s.Comma) (map copy_option_spelling l.rest)) l.self (each_behind (sign s.Comma) (map copy_option_spelling (drop l.option-index l.rest)))
