-- The directives of a script, and how its pieces are read: the statements with their sessions and phases, phase by phase, and where the script
-- is out of order.
use Rattle.std.specs.Prelude.{◌≡◌, ◌+◌, ◌-◌, ◌≤◌, ◌⊎◌, ◌&&◌, ◌==◌, ⊤, ℕ, Bool, true, false, not, nat_lt, nat_le, if◌then◌else◌, Option, Some, None, IfSome, Result, Ok, Err, List, [], ◌∷◌, ◌++◌, length, take, drop, bytes_eq, codes}
use Rattle.std.specs.Char.{is_ascii_digit}
use Rattle.std.specs.List.{AllByRecursion, list_all, prefix_len}
use Rattle.cq_token.specs.Bytes.{is_blank}
use Rattle.cq_script.specs.declared.cutter.Item.{Item}
use Rattle.cq_script.specs.declared.cutter.Piece.{Piece}
use Rattle.cq_script.specs.declared.cutter.Piece.TheVariants as piece
use Rattle.cq_script.specs.declared.directive.Directive.{Directive}
use Rattle.cq_script.specs.declared.directive.Directive.TheVariants.{Parallel, Session, HighSession, End}
use Rattle.cq_script.specs.declared.reader.Placed.{Placed}
use Rattle.cq_script.specs.declared.reader.Draft.{Draft}
use Rattle.cq_script.specs.declared.reader.Reader.{Reader}
use Rattle.cq_script.specs.declared.reader.Halt.{Halt}
use Rattle.cq_script.specs.declared.reader.Halt.TheVariants.{Misplaced, TooManySessions, TooManyStatements}
use Rattle.cq_script.specs.declared.reader.Unread.{Unread}
use Rattle.cq_script.specs.declared.reader.Unread.TheVariants as unread
use Rattle.cq_script.specs.Pieces.{IsScript, with_last}

-- ---- one line

abbrev pub is_in_word : ℕ → Bool
is_in_word b = not (is_blank b)

-- the first word, which a blank ends
abbrev pub first_word : List ℕ → List ℕ
first_word line = take (prefix_len is_in_word line) line

-- what stands behind it and behind the blanks there
abbrev pub behind_word : List ℕ → List ℕ
behind_word line = let more = drop (prefix_len is_in_word line) line in drop (prefix_len is_blank more) more

abbrev pub is_empty : List ℕ → Bool
is_empty [] = true
is_empty (b ∷ bs) = false

abbrev pub is_zero : ℕ → Bool
is_zero b = b == 48

-- the session of digits without a zero in front: 1 to 8 (49 to 56)
abbrev pub session_of : List ℕ → Option Directive
session_of [] = None
session_of (digit ∷ []) = if nat_le 49 digit && nat_le digit 56 then Some (Session (digit - 48)) else Some HighSession
session_of (digit ∷ more) = Some HighSession

abbrev pub session_in : List ℕ → Option Directive
session_in word = if list_all is_ascii_digit word then session_of (drop (prefix_len is_zero word) word) else None

-- a word that is one by itself
abbrev pub alone : List ℕ → Option Directive
alone word = if bytes_eq word (codes "\\parallel") then Some Parallel else if bytes_eq word (codes "\\end") then Some End else None

-- the directive that a line is: a word alone, or \session and a number; blanks may stand at its end
unfoldable pub directive_of : List ℕ → Option Directive
directive_of line =
    let word = first_word line in
    let rest = behind_word line in
    if is_empty rest then alone word
    else if bytes_eq word (codes "\\session") && is_empty (behind_word rest) then session_in (first_word rest)
    else None

-- ---- one piece

abbrev pub most_statements : ℕ
most_statements = 20000

-- the next statement, behind those that were read and those that wait in the open block: its session is 0 outside blocks, and its phase has
-- the number of the phase's first statement
abbrev pub placed : ℕ → ℕ → ℕ → Item → Placed
placed read waiting session item = record { item = item; number = read + waiting + 1; session = session; phase = read + 1 }

-- the statements that run now, which are a phase or none, and how far the script is read
abbrev pub Taken : Type 0
Taken = Result (List Placed × Reader) Halt

abbrev pub unless_most : ℕ → List Placed × Reader → Taken
unless_most count taken = if nat_lt count most_statements then Ok taken else Err TooManyStatements

abbrev pub in_session : ℕ → Draft → ℕ → Item → Option ℕ → Taken
in_session read d line item None = Err (Misplaced line)
in_session read d line item (Some s) =
    unless_most (read + length d.statements) ([], record { read = read; draft = Some (record d { statements = d.statements ++ placed read (length d.statements) s item ∷ [] }) })

-- a statement outside blocks runs as its own phase; in a block it waits, and wants a session
abbrev pub with_statement : ℕ → Option Draft → ℕ → Item → Taken
with_statement read None line item = unless_most read (placed read 0 0 item ∷ [], record { read = read + 1; draft = None })
with_statement read (Some d) line item = in_session read d line item d.session

-- \parallel opens a block, \session chooses a session in it, and \end runs its statements
abbrev pub with_directive : ℕ → Option Draft → ℕ → Option Directive → Taken
with_directive read None line (Some Parallel) = Ok ([], record { read = read; draft = Some (record { line = line; session = None; statements = [] }) })
with_directive read (Some d) line (Some (Session s)) = Ok ([], record { read = read; draft = Some (record d { session = Some s }) })
with_directive read (Some d) line (Some HighSession) = Err TooManySessions
with_directive read (Some d) line (Some End) = Ok (d.statements, record { read = read + length d.statements; draft = None })
with_directive read draft line directive = Err (Misplaced line)

abbrev pub with_piece : Reader → Piece → Taken
with_piece r (piece.Statement line item) = with_statement r.read r.draft line item
with_piece r (piece.Directive line text) = with_directive r.read r.draft line (directive_of text)
with_piece r (piece.Crowded line) = Err (Misplaced line)

-- a statement is put into the open block, or why it isn't, and then the block stands as before
abbrev pub Puts : ℕ → ℕ → Item → Draft → Draft → Result (Unit {0}) Unread → Type 0
Puts read line item old new (Ok u) = in_session read old line item old.session ≡ Ok ([], record { read = read; draft = Some new })
Puts read line item old new (Err (unread.Halt halt)) = (in_session read old line item old.session ≡ Err halt) × (new ≡ old)
Puts read line item old new (Err unread.Memory) = new ≡ old

-- what the reader answers: the statements that run now, or why none do, and then it stands as before
abbrev pub Tells : Taken → Reader → Reader → Result (List Placed) Unread → Type 0
Tells taken old new (Ok ps) = taken ≡ Ok (ps, new)
Tells taken old new (Err (unread.Halt halt)) = (taken ≡ Err halt) × (new ≡ old)
Tells taken old new (Err unread.Memory) = new ≡ old

-- ---- all pieces

-- what pieces give: the statements of each phase, how far they are read, and why no further
pub record Read : Type 0 where
  pub phases : List (List Placed)
  pub reader : Reader
  pub halt : Option Halt

-- an empty block is no phase
abbrev pub one_phase : List Placed → List (List Placed)
one_phase [] = []
one_phase (p ∷ more) = (p ∷ more) ∷ []

-- phases, and then what more pieces give
abbrev pub behind_phases : List (List Placed) → Read → Read
behind_phases phases r = record r { phases = phases ++ r.phases }

abbrev pub goes_on : Reader → (Reader → Read) → Taken → Read
goes_on r more (Ok taken) = behind_phases (one_phase taken.0) (more taken.1)
goes_on r more (Err halt) = record { phases = []; reader = r; halt = Some halt }

abbrev pub read_from : Reader → List Piece → Read
read_from r [] = record { phases = []; reader = r; halt = None }
read_from r (p ∷ more) = goes_on r (λ next. read_from next more) (with_piece r p)

-- at first no statement was read, and no block is open
abbrev pub nothing_read : Reader
nothing_read = record { read = 0; draft = None }

abbrev pub read : List Piece → Read
read found = read_from nothing_read found

-- a block that is open where the script ends is out of its place there, by the line of its \parallel
abbrev pub left_open : Option Draft → Option Halt
left_open None = None
left_open (Some d) = Some (Misplaced d.line)

abbrev pub halt_at_end : Reader → Option Halt → Option Halt
halt_at_end r None = left_open r.draft
halt_at_end r (Some halt) = Some halt

abbrev pub at_end : Read → Read
at_end r = record r { halt = halt_at_end r.reader r.halt }

-- a script that begins with these bytes gives this so far
abbrev pub IsBegun : List ℕ → Read → Type 0
IsBegun bytes r = (whole : List Piece) × (last : Option Piece) × IsScript bytes whole last × (r ≡ read whole)

-- a script of these bytes gives this
abbrev pub IsWhole : List ℕ → Read → Type 0
IsWhole bytes r = (whole : List Piece) × (last : Option Piece) × IsScript bytes whole last × (r ≡ at_end (read (with_last whole last)))

-- ---- what stands of it at each time

-- a session of a block
abbrev pub IsSession : ℕ → Type 0
IsSession s = (1 ≤ s) × (s ≤ 8)

-- the numbers of a phase's statements go up one by one
abbrev pub AreNumbered : ℕ → ℕ → List Placed → Type 0
AreNumbered phase n [] = ⊤
AreNumbered phase n (p ∷ more) = (p.number ≡ n) × (p.phase ≡ phase) × AreNumbered phase (n + 1) more

-- statements of a block, behind so many
pub record IsBlockAt (read : ℕ) (ps : List Placed) : Type 0 where
  pub numbered : AreNumbered (read + 1) (read + 1) ps
  pub sessions : AllByRecursion (λ (p : Placed). IsSession p.session) ps

-- a statement outside blocks
abbrev pub IsSerialAt : ℕ → List Placed → Type 0
IsSerialAt read ps = (p : Placed) × (ps ≡ p ∷ []) × (p.session ≡ 0) × (p.number ≡ read + 1) × (p.phase ≡ read + 1)

abbrev pub IsPhaseAt : ℕ → List Placed → Type 0
IsPhaseAt read ps = IsSerialAt read ps ⊎ IsBlockAt read ps

abbrev pub waiting : Option Draft → List Placed
waiting None = []
waiting (Some d) = d.statements

abbrev pub chosen : Option Draft → Option ℕ
chosen None = None
chosen (Some d) = d.session

-- how far a script is read, at any time
pub record IsReading (r : Reader) : Type 0 where
  pub most : r.read + length (waiting r.draft) ≤ most_statements
  pub block : IsBlockAt r.read (waiting r.draft)
  pub session : IfSome (chosen r.draft) IsSession
