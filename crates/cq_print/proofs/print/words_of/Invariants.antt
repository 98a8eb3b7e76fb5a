use Rattle.std.proofs.Common.{◌≡◌, map}
use Rattle.cq_print.specs.Cases as cases
use Rattle.cq_print.proofs.print.words_of.Given as goal

abbrev pub invariant-kinds : goal.invariant-kinds
invariant-kinds l = l.words ≡ map cases.word_of l.yielded
