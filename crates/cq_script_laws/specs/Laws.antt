-- What the cutter cuts of a script reads as its pieces do.
use Rattle.std.specs.Prelude.{◌≡◌, ℕ, Option, List}
use Rattle.cq_script.specs.declared.cutter.Piece.{Piece}
use Rattle.cq_script.specs.Pieces.{IsScript}
use Rattle.cq_script.specs.Scripts.{pieces, pieces_in}
use Rattle.cq_script.specs.Directives.{Read, read, at_end, IsBegun, IsWhole}

-- the bytes of each script are pieces, one after the other
abbrev pub AllAreScripts : Type 0
AllAreScripts = (bytes : List ℕ) → (whole : List Piece) × (last : Option Piece) × IsScript bytes whole last

-- the bytes of a script, so far: what they give is read of the pieces that are cut
abbrev pub BegunAsCut : Type 0
BegunAsCut = (bytes : List ℕ) (r : Read) → IsBegun bytes r → r ≡ read (pieces_in bytes)

-- all bytes of a script
abbrev pub WholeAsCut : Type 0
WholeAsCut = (bytes : List ℕ) (r : Read) → IsWhole bytes r → r ≡ at_end (read (pieces bytes))
