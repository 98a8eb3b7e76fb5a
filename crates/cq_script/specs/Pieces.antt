-- The pieces of a script, one after the other, with blanks and comments between them: statements, each up to a semicolon outside quotes and
-- comments, and that of a COPY with its data up to a line \. alone; and directives, which are lines that begin with a backslash. A COPY with
-- more than blanks behind its semicolon is a crowded line. Each has the number of the line in which it begins, a crowded line its own.
use Rattle.std.specs.Prelude.{◌≡◌, ◌≢◌, ◌&&◌, ◌||◌, ◌==◌, ℕ, Bool, true, false, Option, Some, None, List, [], ◌∷◌, ◌++◌, fold, codes}
use Rattle.std.specs.List.{AllByRecursion}
use Rattle.cq_token.specs.Bytes.{is_blank}
use Rattle.cq_token.specs.Tokens.{begins_comment}
use Rattle.cq_script.specs.declared.cutter.Piece.{Piece}
use Rattle.cq_script.specs.declared.cutter.Piece.TheVariants.{Statement, Directive, Crowded}
use Rattle.cq_script.specs.Runs.{number_behind}
use Rattle.cq_script.specs.Scripts.{is_copy}
use Rattle.cq_script.specs.Written.{IsData}

-- ---- where bytes stand

-- the number of the line behind these bytes of a script: lines are counted from 1, in 64 bits
abbrev pub line_at : List ℕ → ℕ
line_at before = number_behind 1 before

-- a line begins there: at the front of the script, and behind a newline
abbrev pub starts_line : List ℕ → Bool
starts_line before = fold (λ (t : Bool) b. b == 10) true before

abbrev pub HasNo : ℕ → List ℕ → Type 0
HasNo b bytes = AllByRecursion (λ x. (x == b) ≡ false) bytes

-- ---- a statement's text

-- bytes that end outside quotes and comments, without a semicolon there: texts between quotes, comments up to the end of their line, and
-- other bytes
pub data IsCode : List ℕ → Type 0 where
  none : IsCode []
  quoted : (text more : List ℕ) → HasNo 39 text → IsCode more → IsCode (codes "'" ++ (text ++ (codes "'" ++ more)))
  comment : (text more : List ℕ) → HasNo 10 text → IsCode more → IsCode (codes "--" ++ (text ++ (codes "\n" ++ more)))
  other : (b : ℕ) (more : List ℕ) → (b == 39 || b == 59) ≡ false → begins_comment b more ≡ false → IsCode more → IsCode (b ∷ more)

-- a semicolon in them ends a statement
abbrev pub HasEnd : List ℕ → Type 0
HasEnd bytes = (text more : List ℕ) × (bytes ≡ text ++ (codes ";" ++ more)) × IsCode text

-- a statement begins with no blank, semicolon or comment, and where a line begins with no backslash
abbrev pub BeginsText : List ℕ → List ℕ → Type 0
BeginsText before [] = ⊥
BeginsText before (b ∷ more) = ((is_blank b || b == 59) ≡ false) × (begins_comment b more ≡ false) × ((b == 92 && starts_line before) ≡ false)

abbrev pub IsText : List ℕ → List ℕ → Type 0
IsText before text = BeginsText before text × IsCode text

-- blanks of one line
abbrev pub AreBlank : List ℕ → Type 0
AreBlank bytes = AllByRecursion (λ b. is_blank b ≡ true) bytes × HasNo 10 bytes

-- a COPY up to its semicolon, and the blanks behind it
pub record IsCopyLine (before text blanks : List ℕ) : Type 0 where
  pub begins : IsText before text
  pub copy : is_copy text ≡ true
  pub apart : AreBlank blanks

-- ---- pieces

-- between pieces stand blanks, semicolons, and comments up to the end of their line
pub data IsGap : List ℕ → Type 0 where
  blank : (b : ℕ) → (is_blank b || b == 59) ≡ true → IsGap (b ∷ [])
  comment : (text : List ℕ) → HasNo 10 text → IsGap (codes "--" ++ (text ++ codes "\n"))

-- bytes behind others are one whole piece
pub data IsPiece (before : List ℕ) : List ℕ → Piece → Type 0 where
  statement : (text : List ℕ) → IsText before text → is_copy text ≡ false
      → IsPiece before (text ++ codes ";") (Statement (line_at before) (record { text = text; copied = [] }))
  copy : (text blanks copied : List ℕ) → IsCopyLine before text blanks → IsData copied
      → IsPiece before (text ++ (codes ";" ++ (blanks ++ (codes "\n" ++ (copied ++ codes "\\.\n"))))) (Statement (line_at before) (record { text = text; copied = copied }))
  crowded : (text blanks : List ℕ) (b : ℕ) → IsCopyLine before text blanks → is_blank b ≡ false
      → IsPiece before (text ++ (codes ";" ++ (blanks ++ b ∷ []))) (Crowded (line_at (before ++ text)))
  directive : (text : List ℕ) → starts_line before ≡ true → HasNo 10 text → IsPiece before (codes "\\" ++ (text ++ codes "\n")) (Directive (line_at before) (codes "\\" ++ text))

-- bytes are these pieces, one after the other
pub data AreCut : List ℕ → List Piece → Type 0 where
  none : AreCut [] []
  gap : (before bytes : List ℕ) (pieces : List Piece) → AreCut before pieces → IsGap bytes → AreCut (before ++ bytes) pieces
  piece : (before bytes : List ℕ) (pieces : List Piece) (p : Piece) → AreCut before pieces → IsPiece before bytes p → AreCut (before ++ bytes) (pieces ++ p ∷ [])

-- ---- the end of a script

-- data behind which no whole line \. stands: that line may lack its newline, or the last line of the data may
pub data IsLastData : List ℕ → List ℕ → Type 0 where
  ended : (copied : List ℕ) → IsData copied → IsLastData (copied ++ codes "\\.") copied
  broken : (lines line : List ℕ) → IsData lines → HasNo 10 line → line ≢ codes "\\." → IsLastData (lines ++ line) (lines ++ line)

-- what is left behind the whole pieces, and the piece that the end of the script makes of it, if it does
pub data IsLeft (before : List ℕ) : List ℕ → Option Piece → Type 0 where
  nothing : IsLeft before [] None
  comment : (text : List ℕ) → HasNo 10 text → IsLeft before (codes "--" ++ text) None
  statement : (text : List ℕ) → BeginsText before text → ¬ HasEnd text → IsLeft before text (Some (Statement (line_at before) (record { text = text; copied = [] })))
  copy_line : (text blanks : List ℕ) → IsCopyLine before text blanks
      → IsLeft before (text ++ (codes ";" ++ blanks)) (Some (Statement (line_at before) (record { text = text; copied = [] })))
  copy : (text blanks bytes copied : List ℕ) → IsCopyLine before text blanks → IsLastData bytes copied
      → IsLeft before (text ++ (codes ";" ++ (blanks ++ (codes "\n" ++ bytes)))) (Some (Statement (line_at before) (record { text = text; copied = copied })))
  directive : (text : List ℕ) → starts_line before ≡ true → HasNo 10 text → IsLeft before (codes "\\" ++ text) (Some (Directive (line_at before) (codes "\\" ++ text)))

-- bytes are these whole pieces, and then what is left, of which the end of the script makes this piece
pub record IsScript (bytes : List ℕ) (whole : List Piece) (last : Option Piece) : Type 0 where
  pub before : List ℕ
  pub left : List ℕ
  pub parts : bytes ≡ before ++ left
  pub cut : AreCut before whole
  pub rest : IsLeft before left last

abbrev pub with_last : List Piece → Option Piece → List Piece
with_last whole None = whole
with_last whole (Some p) = whole ++ p ∷ []
