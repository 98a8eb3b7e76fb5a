use Rattle.std.proofs.Common.{◌≡◌, ◌≤◌, ◌-◌, drop, length}
use Rattle.cq_token.specs.Tokens.{quoted, behind}
use Rattle.cq_token.proofs.piece.text_at.Given as goal

abbrev pub invariant-text : goal.invariant-text
invariant-text l = (quoted l.bytes ≡ behind l.content.items l.len (quoted (drop l.len l.bytes))) × (l.len ≤ length l.bytes)

abbrev pub decreases-text : goal.decreases-text
decreases-text l = length l.bytes - l.len
