-- Scripts as they are written from items. Cutting gives these items back (`pieces_written` in proofs/WrittenLaws.antt).
use Rattle.std.specs.Prelude.{◌≡◌, ◌≢◌, ◌||◌, ◌==◌, ⊤, ℕ, true, false, List, [], ◌∷◌, ◌++◌, flat_map, codes, if◌then◌else◌}
use Rattle.std.specs.List.{AllByRecursion}
use Rattle.cq_token.specs.Bytes.{is_blank}
use Rattle.cq_script.specs.declared.scan.Scan.{Scan}
use Rattle.cq_script.specs.declared.scan.Scan.TheVariants.{Code}
use Rattle.cq_script.specs.declared.cutter.Item.{Item}
use Rattle.cq_script.specs.declared.cutter.Piece.{Piece}
use Rattle.cq_script.specs.declared.cutter.Piece.TheVariants.{Statement}
use Rattle.cq_script.specs.Runs.{number_behind}
use Rattle.cq_script.specs.Scripts.{next, ends, is_copy}

-- the first byte is no blank, semicolon (59), dash (45) or backslash (92)
abbrev pub BeginsStatement : List ℕ → Type 0
BeginsStatement [] = ⊥
BeginsStatement (b ∷ bs) = ((is_blank b || b == 59) ≡ false) × ((b == 45) ≡ false) × ((b == 92) ≡ false)

-- no byte ends a statement
abbrev pub NoEnd : Scan → List ℕ → Type 0
NoEnd scan [] = ⊤
NoEnd scan (b ∷ bs) = (ends scan b ≡ false) × NoEnd (next scan b) bs

abbrev pub scan_behind : Scan → List ℕ → Scan
scan_behind scan [] = scan
scan_behind scan (b ∷ bs) = scan_behind (next scan b) bs

-- a statement's text: a semicolon ends it behind its last byte and not before
pub record IsText (text : List ℕ) : Type 0 where
  pub begins : BeginsStatement text
  pub inside : NoEnd Code text
  pub end : ends (scan_behind Code text) 59 ≡ true

-- a line of a COPY's data, without its newline
pub record IsLine (line : List ℕ) : Type 0 where
  pub one : AllByRecursion (λ b. (b == 10) ≡ false) line
  pub goes_on : line ≢ codes "\\."

abbrev pub whole_line : List ℕ → List ℕ
whole_line line = line ++ codes "\n"

-- a COPY's data: lines, none of which ends the data
abbrev pub IsData : List ℕ → Type 0
IsData bytes = (lines : List (List ℕ)) × AllByRecursion IsLine lines × (bytes ≡ flat_map whole_line lines)

pub record IsItem (item : Item) : Type 0 where
  pub text : IsText item.text
  pub copied : is_copy item.text ≡ true → IsData item.copied
  pub none : is_copy item.text ≡ false → item.copied ≡ []

-- an item on lines of its own
abbrev pub written : Item → List ℕ
written item = item.text ++ (codes ";\n" ++ (if is_copy item.text then item.copied ++ codes "\\.\n" else []))

-- the pieces of items that are written one after the other, of which the first begins in this line
abbrev pub pieces_of : ℕ → List Item → List Piece
pieces_of line [] = []
pieces_of line (item ∷ more) = Statement line item ∷ pieces_of (number_behind line (written item)) more
