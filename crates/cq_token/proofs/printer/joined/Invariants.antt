use Rattle.std.proofs.Common.{◌≡◌, ◌++◌, ◌∷◌, [], take, flat_map, string_bytes}
use Rattle.cq_token.specs.Printed.{spelled}
use Rattle.cq_token.proofs.printer.joined.Given as goal

abbrev pub invariant-loop-word : goal.invariant-loop-word
invariant-loop-word l = string_bytes l.out ≡ string_bytes l.initial.out ++ flat_map (λ w. (32 ∷ []) ++ spelled w) (take l.word-index l.rest)
