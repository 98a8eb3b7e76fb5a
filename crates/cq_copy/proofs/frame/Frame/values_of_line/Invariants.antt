use Rattle.std.proofs.Common.{◌≡◌, ◌+◌, ℕ, List, Bor, drop, length, true, IfSome}
use Rattle.std.specs.Prelude.{option_map}
use Rattle.std.specs.List.{list_all}
use Rattle.cq_copy.specs.Rows.{filled, blank}
use Rattle.cq_copy.specs.Texts.{fields_by, fields_left, separator, is_simple}
use Rattle.cq_copy.proofs.RowLaws.{padded}
use Rattle.cq_copy.proofs.frame.Frame.values_of_line.Given as goal

abbrev pub invariant-loop-column : goal.invariant-loop-column
invariant-loop-column l =
    let sep = separator l.fn.self.format in
    let left = fields_left sep (option_map (λ (x : Bor (List ℕ)). x.now) l.left) in
    ((row : ℕ) → filled l.fn.self.format l.fn.self.table.now row (drop l.column-index l.fn.self.listed.now) left (padded l.fn.self.whole l.fn.self.table.now l.values)
    ≡ filled l.fn.self.format l.fn.self.table.now row l.fn.self.listed.now (fields_by sep l.fn.line) (blank l.fn.self.table.now))
    × (l.column-index + length left ≡ length (fields_by sep l.fn.line))
    × IfSome l.left (λ (x : Bor (List ℕ)). list_all is_simple x.now ≡ true)
    × (l.fn.self.whole ≡ true → length l.values ≡ l.column-index)
