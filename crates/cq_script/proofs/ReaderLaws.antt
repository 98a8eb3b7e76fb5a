-- What stands at each time while pieces are read, and what more pieces give.
use Rattle.std.specs.Prelude.{⊤, ◌&&◌, bytes_eq, codes, nat_lt, nat_le, IfSome, IfOk}
use Rattle.std.specs.Char.{is_ascii_digit}
use Rattle.std.specs.List.{AllByRecursion, list_all, prefix_len}
use Rattle.std.proofs.Common.{◌≡◌, ◌+◌, ◌-◌, ◌≤◌, ◌<◌, ◌⊎◌, inl, inr, ℕ, Bool, true, false, cond, if◌then◌else◌, Option, Some, None, Result, Ok, Err, List, [], ◌∷◌, ◌++◌, length, drop, refl, sym, ◌∙◌, ap, subst, arith, append_assoc, length-append}
use Rattle.std.proofs.lemmas.Bool.Decides.{nat_tests}
use Rattle.cq_script.specs.declared.cutter.Item.{Item}
use Rattle.cq_script.specs.declared.cutter.Piece.{Piece}
use Rattle.cq_script.specs.declared.cutter.Piece.TheVariants as piece
use Rattle.cq_script.specs.declared.directive.Directive.{Directive}
use Rattle.cq_script.specs.declared.directive.Directive.TheVariants.{Parallel, Session, HighSession, End}
use Rattle.cq_script.specs.declared.reader.Placed.{Placed}
use Rattle.cq_script.specs.declared.reader.Draft.{Draft}
use Rattle.cq_script.specs.declared.reader.Reader.{Reader}
use Rattle.cq_script.specs.declared.reader.Halt.{Halt}
use Rattle.cq_script.specs.declared.reader.Halt.TheVariants.{TooManyStatements}
use Rattle.cq_script.specs.declared.reader.Unread.{Unread}
use Rattle.cq_script.specs.declared.reader.Unread.TheVariants as unread
use Rattle.cq_script.specs.Directives.{
  first_word,
  behind_word,
  is_empty,
  is_zero,
  session_of,
  session_in,
  alone,
  directive_of,
  most_statements,
  placed,
  Taken,
  unless_most,
  in_session,
  with_statement,
  with_directive,
  with_piece,
  Tells,
  Read,
  one_phase,
  behind_phases,
  goes_on,
  read_from,
  nothing_read,
  IsSession,
  AreNumbered,
  IsBlockAt,
  IsPhaseAt,
  IsReading,
}

-- ---- the session of a directive

abbrev IsLow : Option Directive → Type 0
IsLow None = ⊤
IsLow (Some Parallel) = ⊤
IsLow (Some (Session s)) = IsSession s
IsLow (Some HighSession) = ⊤
IsLow (Some End) = ⊤

low_by : (t : Bool) (x y : Option Directive) → IsLow x → IsLow y → IsLow (cond t x y)
low_by true x y h k = h
low_by false x y h k = k

least_of : (a b : ℕ) → nat_le a b ≡ true → a ≤ b
least_of a b e = grind (arith, nat_tests)

digit_low : (digit : ℕ) (s t : Bool) → nat_le 49 digit ≡ s → nat_le digit 56 ≡ t → IsLow (if s && t then Some (Session (digit - 48)) else Some HighSession)
digit_low digit true true e f = (omega (arith, least_of 49 digit e), omega (arith, least_of digit 56 f))
digit_low digit true false e f = tt
digit_low digit false t e f = tt

session_low : (digits : List ℕ) → IsLow (session_of digits)
session_low [] = tt
session_low (digit ∷ []) = digit_low digit (nat_le 49 digit) (nat_le digit 56) refl refl
session_low (digit ∷ other ∷ more) = tt

directive_low : (line : List ℕ) → IsLow (directive_of line)
unfolding directive_of
directive_low line =
    let word = first_word line in
    let rest = behind_word line in
    let number = first_word rest in
    low_by (is_empty rest) (alone word) _
    (low_by (bytes_eq word (codes "\\parallel")) _ _ tt (low_by (bytes_eq word (codes "\\end")) _ _ tt tt))
    (low_by (bytes_eq word (codes "\\session") && is_empty (behind_word rest)) (session_in number) _
    (low_by (list_all is_ascii_digit number) _ _ (session_low (drop (prefix_len is_zero number) number)) tt) tt)

-- ---- one more statement in a block

numbered_more : (phase n : ℕ) (ps : List Placed) (p : Placed) → AreNumbered phase n ps → p.number ≡ n + length ps → p.phase ≡ phase → AreNumbered phase n (ps ++ p ∷ [])
numbered_more phase n [] p h e f = (omega (arith, e), f, tt)
numbered_more phase n (q ∷ ps) p h e f = (h.0, h.1, numbered_more phase (n + 1) ps p h.2 (omega (arith, e)) f)

abbrev InSessions : List Placed → Type 0
InSessions ps = AllByRecursion (λ (p : Placed). IsSession p.session) ps

sessions_more : (ps : List Placed) (p : Placed) → InSessions ps → IsSession p.session → InSessions (ps ++ p ∷ [])
sessions_more [] p h k = (k, tt)
sessions_more (q ∷ ps) p h k = (h.0, sessions_more ps p h.1 k)

no_block : (read : ℕ) → IsBlockAt read []
no_block read = record { numbered = tt; sessions = tt }

block_more : (read s : ℕ) (item : Item) (ps : List Placed) → IsBlockAt read ps → IsSession s → IsBlockAt read (ps ++ placed read (length ps) s item ∷ [])
block_more read s item ps h k = record {
  numbered = numbered_more (read + 1) (read + 1) ps (placed read (length ps) s item) h.numbered (omega arith) refl;
  sessions = sessions_more ps (placed read (length ps) s item) h.sessions k;
}

-- ---- one piece

abbrev reader : ℕ → Option Draft → Reader
reader read draft = record { read = read; draft = draft }

-- what stands behind a piece that is taken
abbrev Keeps : ℕ → Taken → Type 0
Keeps read (Ok taken) = IsReading taken.1 × ((taken.0 ≡ []) ⊎ IsPhaseAt read taken.0)
Keeps read (Err halt) = ⊤

unless_keeps : (read count : ℕ) (taken : List Placed × Reader) → (count < most_statements → Keeps read (Ok taken)) → Keeps read (unless_most count taken)
unless_keeps read count taken f = by_test (nat_lt count most_statements) refl
  where
    by_test : (t : Bool) → nat_lt count most_statements ≡ t → Keeps read (if t then Ok taken else Err TooManyStatements)
    by_test true e = f (grind (arith, nat_tests))
    by_test false e = tt

session_keeps : (read line : ℕ) (d : Draft) (item : Item) (session : Option ℕ) → IsReading (reader read (Some d)) → IfSome session IsSession → Keeps read (in_session read d line item session)
session_keeps read line d item None h k = tt
session_keeps read line d item (Some s) h k = unless_keeps read (read + length d.statements) _ (λ lt. (
  record {
    most = omega (arith, lt, length-append d.statements (placed read (length d.statements) s item ∷ []));
    block = block_more read s item d.statements h.block k;
    session = h.session;
  },
  inl refl,
))

statement_keeps : (read line : ℕ) (draft : Option Draft) (item : Item) → IsReading (reader read draft) → Keeps read (with_statement read draft line item)
statement_keeps read line None item h =
    unless_keeps read read _ (λ lt. (record { most = omega (arith, lt); block = no_block (read + 1); session = tt }, inr (inl (placed read 0 0 item, refl, refl, omega arith, refl))))
statement_keeps read line (Some d) item h = session_keeps read line d item d.session h h.session

directive_keeps : (read line : ℕ) (draft : Option Draft) (directive : Option Directive) → IsReading (reader read draft) → IsLow directive → Keeps read (with_directive read draft line directive)
directive_keeps read line None None h k = tt
directive_keeps read line None (Some Parallel) h k = (record { most = h.most; block = no_block read; session = tt }, inl refl)
directive_keeps read line None (Some (Session s)) h k = tt
directive_keeps read line None (Some HighSession) h k = tt
directive_keeps read line None (Some End) h k = tt
directive_keeps read line (Some d) None h k = tt
directive_keeps read line (Some d) (Some Parallel) h k = tt
directive_keeps read line (Some d) (Some (Session s)) h k = (record { most = h.most; block = h.block; session = k }, inl refl)
directive_keeps read line (Some d) (Some HighSession) h k = tt
directive_keeps read line (Some d) (Some End) h k = (record { most = omega (arith, h.most); block = no_block (read + length d.statements); session = tt }, inr (inr h.block))

pub piece_keeps : (r : Reader) (p : Piece) → IsReading r → Keeps r.read (with_piece r p)
piece_keeps r (piece.Statement line item) h = statement_keeps r.read line r.draft item h
piece_keeps r (piece.Directive line text) h = directive_keeps r.read line r.draft (directive_of text) h (directive_low text)
piece_keeps r (piece.Crowded line) h = tt

-- what the reader tells of a piece
pub keeps_reading : (r new : Reader) (p : Piece) (result : Result (List Placed) Unread) → IsReading r → Tells (with_piece r p) r new result → IsReading new
keeps_reading r new p (Ok ps) h t = (subst (Keeps r.read) t (piece_keeps r p h)).0
keeps_reading r new p (Err (unread.Halt halt)) h t = subst IsReading (sym t.1) h
keeps_reading r new p (Err unread.Memory) h t = subst IsReading (sym t) h

pub tells_phase : (r new : Reader) (p : Piece) (result : Result (List Placed) Unread) → IsReading r → Tells (with_piece r p) r new result → IfOk result (λ ps. (ps ≡ []) ⊎ IsPhaseAt r.read ps)
tells_phase r new p (Ok ps) h t = (subst (Keeps r.read) t (piece_keeps r p h)).1
tells_phase r new p (Err e) h t = tt

pub nothing_keeps : IsReading nothing_read
nothing_keeps = record { most = omega arith; block = no_block 0; session = tt }

taken_keeps : (r : Reader) (more : Reader → Read) (taken : Taken) → IsReading r → Keeps r.read taken → ((next : Reader) → IsReading next → IsReading (more next).reader) → IsReading (goes_on r more taken).reader
taken_keeps r more (Ok taken) h k f = f taken.1 k.0
taken_keeps r more (Err halt) h k f = h

pub read_keeps : (r : Reader) (found : List Piece) → IsReading r → IsReading (read_from r found).reader
read_keeps r [] h = h
read_keeps r (p ∷ found) h = taken_keeps r (λ next. read_from next found) (with_piece r p) h (piece_keeps r p h) (λ next k. read_keeps next found k)

-- ---- more pieces

-- behind a halt they give nothing
abbrev then_at : Option Halt → Read → List Piece → Read
then_at None r more = behind_phases r.phases (read_from r.reader more)
then_at (Some halt) r more = r

abbrev pub then_read : Read → List Piece → Read
then_read r more = then_at r.halt r more

behind_twice : (phases : List (List Placed)) (r : Read) (halt : Option Halt) (more : List Piece) → behind_phases phases (then_at halt r more) ≡ then_at halt (behind_phases phases r) more
behind_twice phases r None more =
    let rest = read_from r.reader more in
    ap (λ (v : List (List Placed)). let x : Read = record rest { phases = v } in x) (sym (append_assoc phases r.phases rest.phases))
behind_twice phases r (Some halt) more = refl

append_taken : (r : Reader) (xs ys : List Piece) (taken : Taken) → ((next : Reader) → read_from next (xs ++ ys) ≡ then_read (read_from next xs) ys)
    → goes_on r (λ next. read_from next (xs ++ ys)) taken ≡ then_read (goes_on r (λ next. read_from next xs) taken) ys
append_taken r xs ys (Ok taken) f =
    let one = one_phase taken.0 in
    let x = read_from taken.1 xs in
    ap (behind_phases one) (f taken.1) ∙ behind_twice one x x.halt ys
append_taken r xs ys (Err halt) f = refl

pub read_append : (r : Reader) (xs ys : List Piece) → read_from r (xs ++ ys) ≡ then_read (read_from r xs) ys
read_append r [] ys = refl
read_append r (p ∷ xs) ys = append_taken r xs ys (with_piece r p) (λ next. read_append next xs ys)

pub read_more : (r : Reader) (xs ys : List Piece) → (read_from r xs).halt ≡ None → read_from r (xs ++ ys) ≡ behind_phases (read_from r xs).phases (read_from (read_from r xs).reader ys)
read_more r xs ys e = read_append r xs ys ∙ ap (λ halt. then_at halt (read_from r xs) ys) e

pub read_halted : (r : Reader) (xs ys : List Piece) (halt : Halt) → (read_from r xs).halt ≡ Some halt → read_from r (xs ++ ys) ≡ read_from r xs
read_halted r xs ys halt e = read_append r xs ys ∙ ap (λ halt. then_at halt (read_from r xs) ys) e
