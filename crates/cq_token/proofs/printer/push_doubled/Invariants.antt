use Rattle.std.proofs.Common.{◌≡◌, ◌++◌, length, flat_map, string_bytes}
use Rattle.std.specs.Str.{IsUtf8}
use Rattle.cq_token.specs.Printed.{doubled}
use Rattle.cq_token.proofs.printer.push_doubled.Given as goal

abbrev pub invariant-quotes : goal.invariant-quotes
invariant-quotes l = (string_bytes l.out ++ flat_map doubled l.rest ≡ string_bytes l.fn.out ++ flat_map doubled l.fn.text) × IsUtf8 l.rest

abbrev pub decreases-quotes : goal.decreases-quotes
decreases-quotes l = length l.rest
