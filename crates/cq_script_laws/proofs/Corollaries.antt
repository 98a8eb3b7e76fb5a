-- What is read of a script, said by its pieces.
use Rattle.std.proofs.Common.{◌≡◌, ℕ, Option, Some, List, [], ◌∷◌, refl, ◌∙◌, ap}
use Rattle.cq_script.specs.declared.cutter.Piece.{Piece}
use Rattle.cq_script.specs.declared.cutter.Piece.TheVariants.{Statement, Directive, Crowded}
use Rattle.cq_script.specs.declared.reader.Reader.{Reader}
use Rattle.cq_script.specs.declared.reader.Halt.{Halt}
use Rattle.cq_script.specs.Pieces.{with_last}
use Rattle.cq_script.specs.Scripts.{first, cut, one, last, pieces, pieces_in}
use Rattle.cq_script.specs.Directives.{Taken, Read, goes_on, with_piece, read_from, nothing_read, read, at_end, IsBegun, IsWhole}
use Rattle.cq_script.proofs.ReaderLaws.{read_halted}
use Rattle.cq_script_laws.proofs.Sound.{up_to_crowded, IsCutAs, script_cut}
use Rattle.cq_script_laws.proofs.Whole.{script_of}

same_behind : (r : Reader) (xs ys : List Piece) (taken : Taken) → ((next : Reader) → read_from next xs ≡ read_from next ys) → goes_on r (λ next. read_from next xs) taken ≡ goes_on r (λ next. read_from next ys) taken
same_behind r xs ys taken same = ap (λ (more : Reader → Read). goes_on r more taken) (λ i next. same next i)

-- reading stops at a crowded line
read_up_to : (r : Reader) (whole : List Piece) → read_from r (up_to_crowded whole) ≡ read_from r whole
read_up_to r [] = refl
read_up_to r (Statement line item ∷ whole) = same_behind r (up_to_crowded whole) whole (with_piece r (Statement line item)) (λ next. read_up_to next whole)
read_up_to r (Directive line text ∷ whole) = same_behind r (up_to_crowded whole) whole (with_piece r (Directive line text)) (λ next. read_up_to next whole)
read_up_to r (Crowded line ∷ whole) = refl

pub reads_so_far : (bytes : List ℕ) (whole : List Piece) (p : Option Piece) → IsCutAs bytes whole p → read (pieces_in bytes) ≡ read whole
reads_so_far bytes whole p is = ap read is.so_far ∙ read_up_to nothing_read whole

pub reads_all : (bytes : List ℕ) (whole : List Piece) (p : Option Piece) → IsCutAs bytes whole p → at_end (read (pieces bytes)) ≡ at_end (read (with_last whole p))
reads_all bytes whole p is = ap at_end (ap read is.all ∙ read_up_to nothing_read (with_last whole p))

pub begun_as_cut : (bytes : List ℕ) → IsBegun bytes (read (pieces_in bytes))
begun_as_cut bytes =
    let s = script_of bytes in
    (s.0, s.1, s.2, reads_so_far bytes s.0 s.1 (script_cut bytes s.0 s.1 s.2))

pub whole_as_cut : (bytes : List ℕ) → IsWhole bytes (at_end (read (pieces bytes)))
whole_as_cut bytes =
    let s = script_of bytes in
    (s.0, s.1, s.2, reads_all bytes s.0 s.1 (script_cut bytes s.0 s.1 s.2))

-- a script that is read no further has nothing that its end makes whole
pub halt_as_cut : (bytes : List ℕ) (halt : Halt) → (read (pieces_in bytes)).halt ≡ Some halt → read (pieces bytes) ≡ read (pieces_in bytes)
unfolding pieces
halt_as_cut bytes halt e = read_halted nothing_read (pieces_in bytes) (one (last (cut first bytes).begun)) halt e
