use Rattle.std.proofs.Common.{◌≡◌, drop, bytes_eq}
use Rattle.std.specs.List.{list_any}
use Rattle.cq_print.proofs.reserved.is_one_of.Given as goal

abbrev pub invariant-words : goal.invariant-words
invariant-words l = list_any (λ word. bytes_eq word.now l.fn.name) (drop l.word-index l.words) ≡ list_any (λ word. bytes_eq word.now l.fn.name) l.words
