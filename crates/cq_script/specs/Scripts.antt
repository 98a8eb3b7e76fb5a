-- How a script's bytes are cut into pieces, one byte after the other: what a script is stands in `Pieces`.
use Rattle.std.specs.Prelude.{◌≡◌, ◌<◌, ◌&&◌, ◌||◌, ◌==◌, ℕ, Bool, true, false, not, Option, Some, None, List, [], ◌∷◌, ◌++◌, length, take, drop, map, bytes_eq, codes, if◌then◌else◌}
use Rattle.std.specs.Char.{to_ascii_lowercase}
use Rattle.cq_token.specs.Bytes.{is_blank, is_in_name}
use Rattle.cq_script.specs.Streams.{counted}
use Rattle.cq_script.specs.declared.scan.Scan.{Scan}
use Rattle.cq_script.specs.declared.scan.Scan.TheVariants.{Code, Dash, Comment, Quote}
use Rattle.cq_script.specs.declared.cutter.Piece.{Piece}
use Rattle.cq_script.specs.declared.cutter.Piece.TheVariants as piece
use Rattle.cq_script.specs.declared.cutter.Line.{Line}
use Rattle.cq_script.specs.declared.cutter.Line.TheVariants.{Start, Slash, End, Within}
use Rattle.cq_script.specs.declared.cutter.Place.{Place}
use Rattle.cq_script.specs.declared.cutter.Place.TheVariants.{Gap, GapDash, GapComment, Text, Rest, Data, Directive, Out}
use Rattle.cq_script.specs.declared.cutter.Cutter.{Cutter}

-- ---- statements

-- where a byte leads: ' (39) opens and closes a text, - and - (45) open a comment, which goes on to the end of its line (10)
abbrev pub in_code : ℕ → Scan
in_code b = if b == 39 then Quote else (if b == 45 then Dash else Code)

unfoldable pub next : Scan → ℕ → Scan
next Code b = in_code b
next Dash b = if b == 45 then Comment else in_code b
next Comment b = if b == 10 then Code else Comment
next Quote b = if b == 39 then Code else Quote

-- a semicolon (59) ends a statement outside quotes and comments
unfoldable pub ends : Scan → ℕ → Bool
ends Code b = b == 59
ends Dash b = b == 59
ends Comment b = false
ends Quote b = false

abbrev pub ends_name : List ℕ → Bool
ends_name [] = true
ends_name (b ∷ bs) = not (is_in_name b)

-- the statement's first word is COPY, in either case
unfoldable pub is_copy : List ℕ → Bool
is_copy text = bytes_eq (map to_ascii_lowercase (take 4 text)) (codes "copy") && ends_name (drop 4 text)

-- ---- one byte

-- the piece that a byte ends, if it ends one, and where the script stands behind it
abbrev pub Stepped : Type 0
Stepped = Option Piece × Cutter

-- before the first byte
abbrev pub first : Cutter
first = record { at = Gap true; line = 1; begun = 1; text = []; copied = [] }

abbrev pub goes : Place → Cutter → Stepped
goes place c = (None, record c { at = place })

-- the statement that was begun, with its data
abbrev pub statement : Cutter → Piece
statement c = piece.Statement c.begun (record { text = c.text; copied = c.copied })

-- the piece that was begun is whole
abbrev pub gives : Piece → Place → Cutter → Stepped
gives p place c = (Some p, record c { at = place; text = []; copied = [] })

abbrev pub in_text : Scan → Cutter → ℕ → Stepped
in_text scan c b =
    if ends scan b then (if is_copy c.text then goes Rest c else gives (statement c) (Gap false) c)
    else goes (Text (next scan b)) (record c { text = c.text ++ b ∷ [] })

-- what isn't a gap begins in this line: a comment or a statement by a dash (45), a directive by a backslash (92) where a line begins
abbrev pub begins : Bool → Cutter → ℕ → Stepped
begins fresh c b =
    if b == 45 then goes GapDash c
    else (if b == 92 && fresh then goes Directive (record c { text = c.text ++ b ∷ [] })
    else in_text Code c b)

-- between statements a semicolon ends none
abbrev pub in_gap : Bool → Cutter → ℕ → Stepped
in_gap fresh c b =
    if b == 10 then goes (Gap true) c
    else (if is_blank b || b == 59 then goes (Gap false) c
    else begins fresh (record c { begun = c.line }) b)

abbrev pub in_dash : Cutter → ℕ → Stepped
in_dash c b = if b == 45 then goes GapComment c else in_text Dash (record c { text = c.text ++ 45 ∷ [] }) b

-- behind a COPY's semicolon its line is blank
abbrev pub in_rest : Cutter → ℕ → Stepped
in_rest c b = if b == 10 then goes (Data Start) c else (if is_blank b then goes Rest c else (Some (piece.Crowded c.line), record c { at = Out }))

-- bytes of the data that were held back, and one more
abbrev pub keeps : List ℕ → Cutter → ℕ → Stepped
keeps held c b = goes (Data (if b == 10 then Start else Within)) (record c { copied = c.copied ++ held ++ b ∷ [] })

abbrev pub in_data : Line → Cutter → ℕ → Stepped
in_data Start c b = if b == 92 then goes (Data Slash) c else keeps [] c b
in_data Slash c b = if b == 46 then goes (Data End) c else keeps (codes "\\") c b
in_data End c b = if b == 10 then gives (statement c) (Gap true) c else keeps (codes "\\.") c b
in_data Within c b = keeps [] c b

abbrev pub in_directive : Cutter → ℕ → Stepped
in_directive c b = if b == 10 then gives (piece.Directive c.begun c.text) (Gap true) c else goes Directive (record c { text = c.text ++ b ∷ [] })

abbrev pub step_at : Place → Cutter → ℕ → Stepped
step_at (Gap fresh) c b = in_gap fresh c b
step_at GapDash c b = in_dash c b
step_at GapComment c b = if b == 10 then goes (Gap true) c else goes GapComment c
step_at (Text scan) c b = in_text scan c b
step_at Rest c b = in_rest c b
step_at (Data line) c b = in_data line c b
step_at Directive c b = in_directive c b
step_at Out c b = goes Out c

-- the number of the next byte's line
abbrev pub line_behind : ℕ → ℕ → ℕ
line_behind line b = if b == 10 then counted line else line

unfoldable pub step : Cutter → ℕ → Stepped
step c b = step_at c.at (record c { line = line_behind c.line b }) b

-- ---- all bytes

-- the pieces that bytes end, and where the script stands behind them
pub record Cut : Type 0 where
  pub pieces : List Piece
  pub begun : Cutter

abbrev pub one : Option Piece → List Piece
one None = []
one (Some p) = p ∷ []

abbrev pub cut : Cutter → List ℕ → Cut
cut c [] = record { pieces = []; begun = c }
cut c (b ∷ bs) =
    let s = step c b in
    let more = cut s.1 bs in
    record { pieces = one s.0 ++ more.pieces; begun = more.begun }

-- what the end of the script makes a piece: a directive in its last line needs no newline
abbrev pub last_at : Place → Cutter → Option Piece
last_at (Gap fresh) c = None
last_at GapDash c = Some (statement (record c { text = c.text ++ 45 ∷ [] }))
last_at GapComment c = None
last_at (Text scan) c = Some (statement c)
last_at Rest c = Some (statement c)
last_at (Data Slash) c = Some (statement (record c { copied = c.copied ++ 92 ∷ [] }))
last_at (Data line) c = Some (statement c)
last_at Directive c = Some (piece.Directive c.begun c.text)
last_at Out c = None

unfoldable pub last : Cutter → Option Piece
last c = last_at c.at c

-- the pieces that bytes end, whatever bytes follow
unfoldable pub pieces_in : List ℕ → List Piece
pieces_in bytes = (cut first bytes).pieces

-- the pieces of a script
unfoldable pub pieces : List ℕ → List Piece
pieces bytes = pieces_in bytes ++ one (last (cut first bytes).begun)

-- the bytes end a piece first, and then what the bytes left end
pub record Gives (c : Cutter) (bytes : List ℕ) (p : Piece) (new : Cutter) (left : List ℕ) : Type 0 where
  pub first : cut c bytes ≡ record { pieces = p ∷ (cut new left).pieces; begun = (cut new left).begun }
  pub shorter : length left < length bytes
