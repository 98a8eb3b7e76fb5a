use Rattle.std.proofs.Common.{◌≡◌, drop}
use Rattle.cq_grammar.specs.declared.kind.Kind.TheVariants.{Name}
use Rattle.cq_grammar.specs.Words.{found_in}
use Rattle.cq_parse_steps.specs.Entries.{entries}
use Rattle.cq_parse_steps.proofs.words.found_in.Given as goal

abbrev pub invariant-words : goal.invariant-words
invariant-words l = found_in (entries (drop l.known-index l.words)) Name l.word ≡ found_in (entries l.words) Name l.word
