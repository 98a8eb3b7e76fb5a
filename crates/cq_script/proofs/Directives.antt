-- Directives, and scripts with blocks, worked out.
use Rattle.std.proofs.Common.{◌≡◌, [], ◌∷◌, List, ℕ, codes, refl, Some, None}
use Rattle.cq_script.specs.declared.cutter.Item.{Item}
use Rattle.cq_script.specs.declared.directive.Directive.TheVariants.{Parallel, Session, HighSession, End}
use Rattle.cq_script.specs.declared.cutter.Piece.{Piece}
use Rattle.cq_script.specs.declared.cutter.Piece.TheVariants as piece
use Rattle.cq_script.specs.declared.reader.Placed.{Placed}
use Rattle.cq_script.specs.declared.reader.Reader.{Reader}
use Rattle.cq_script.specs.declared.reader.Halt.TheVariants.{Misplaced, TooManySessions, TooManyStatements}
use Rattle.cq_script.specs.Directives.{directive_of, nothing_read, read, read_from, at_end}

opens : directive_of (codes "\\parallel") ≡ Some Parallel
unfolding directive_of
opens = refl

chooses : directive_of (codes "\\session  2 \r") ≡ Some (Session 2)
unfolding directive_of
chooses = refl

with_zeros : directive_of (codes "\\session 08") ≡ Some (Session 8)
unfolding directive_of
with_zeros = refl

too_high : directive_of (codes "\\session 9") ≡ Some HighSession
unfolding directive_of
too_high = refl

far_too_high : directive_of (codes "\\session 18446744073709551617") ≡ Some HighSession
unfolding directive_of
far_too_high = refl

ends : directive_of (codes "\\end\t") ≡ Some End
unfolding directive_of
ends = refl

-- no session is 0, and none is without digits
no_session : directive_of (codes "\\session 0") ≡ None
unfolding directive_of
no_session = refl

no_digits : directive_of (codes "\\session one") ≡ None
unfolding directive_of
no_digits = refl

no_number : directive_of (codes "\\session") ≡ None
unfolding directive_of
no_number = refl

two_words : directive_of (codes "\\end block") ≡ None
unfolding directive_of
two_words = refl

-- ---- scripts

abbrev some : Item
some = record { text = codes "SELECT 1"; copied = [] }

abbrev at : ℕ → ℕ → ℕ → Placed
at number session phase = record { item = some; number = number; session = session; phase = phase }

abbrev says : ℕ → List ℕ → Piece
says line text = piece.Directive line text

abbrev asks : ℕ → Piece
asks line = piece.Statement line some

abbrev outside_blocks : ℕ → Reader
outside_blocks read = record { read = read; draft = None }

-- a block that was opened in the first line, in which no session was chosen
abbrev opened : Reader
opened = record { read = 0; draft = Some (record { line = 1; session = None; statements = [] }) }

-- a statement, a block of two sessions, and a statement
whole : read (asks 1 ∷ says 2 (codes "\\parallel") ∷ says 3 (codes "\\session 2") ∷ asks 4 ∷ says 5 (codes "\\session 1") ∷ asks 6 ∷ asks 7 ∷ says 8 (codes "\\end") ∷ asks 9 ∷ [])
    ≡ record { phases = (at 1 0 1 ∷ []) ∷ (at 2 2 2 ∷ at 3 1 2 ∷ at 4 1 2 ∷ []) ∷ (at 5 0 5 ∷ []) ∷ []; reader = outside_blocks 5; halt = None }
unfolding directive_of
whole = refl

-- a block that is never ended isn't run, and is out of its place at the end of the script
unended : at_end (read (asks 1 ∷ says 2 (codes "\\parallel") ∷ says 3 (codes "\\session 1") ∷ asks 4 ∷ []))
    ≡ record { phases = (at 1 0 1 ∷ []) ∷ []; reader = record { read = 1; draft = Some (record { line = 2; session = Some 1; statements = at 2 1 2 ∷ [] }) }; halt = Some (Misplaced 2) }
unfolding directive_of
unended = refl

-- an empty block is no phase
nothing_runs : read (says 1 (codes "\\parallel") ∷ says 2 (codes "\\end") ∷ asks 3 ∷ []) ≡ record { phases = (at 1 0 1 ∷ []) ∷ []; reader = outside_blocks 1; halt = None }
unfolding directive_of
nothing_runs = refl

-- a block in a block, an end outside, and a session outside are out of their places, and so is a statement without a session
nested : read (says 1 (codes "\\parallel") ∷ says 2 (codes "\\parallel") ∷ []) ≡ record { phases = []; reader = opened; halt = Some (Misplaced 2) }
unfolding directive_of
nested = refl

nothing_to_end : read (says 1 (codes "\\end") ∷ []) ≡ record { phases = []; reader = nothing_read; halt = Some (Misplaced 1) }
unfolding directive_of
nothing_to_end = refl

outside : read (asks 1 ∷ says 2 (codes "\\session 1") ∷ []) ≡ record { phases = (at 1 0 1 ∷ []) ∷ []; reader = outside_blocks 1; halt = Some (Misplaced 2) }
unfolding directive_of
outside = refl

no_session_yet : read (says 1 (codes "\\parallel") ∷ asks 4 ∷ says 6 (codes "\\end") ∷ []) ≡ record { phases = []; reader = opened; halt = Some (Misplaced 4) }
unfolding directive_of
no_session_yet = refl

ninth : read (says 1 (codes "\\parallel") ∷ says 2 (codes "\\session 9") ∷ []) ≡ record { phases = []; reader = opened; halt = Some TooManySessions }
unfolding directive_of
ninth = refl

-- behind the last statement
one_too_many : read_from (outside_blocks 20000) (says 1 (codes "\\parallel") ∷ says 2 (codes "\\end") ∷ asks 3 ∷ []) ≡ record { phases = []; reader = outside_blocks 20000; halt = Some TooManyStatements }
unfolding directive_of
one_too_many = refl
