-- What is read of more pieces.
use Rattle.std.proofs.Common.{◌≡◌, inl, inr, ℕ, ◌+◌, List, [], ◌∷◌, ◌++◌, length, Ok, Err, Some, None, Option, refl, sym, ◌∙◌, ap, subst, arith, append_assoc, append-nil}
use Rattle.std.specs.Prelude.{IfOk, nat_lt}
use Rattle.cq_value.proofs.Truths.{two_ways}
use Rattle.cq_script.specs.declared.cutter.Item.{Item}
use Rattle.cq_script.specs.declared.cutter.Piece.{Piece}
use Rattle.cq_script.specs.declared.cutter.Piece.TheVariants as piece
use Rattle.cq_script.specs.declared.directive.Directive.{Directive}
use Rattle.cq_script.specs.declared.directive.Directive.TheVariants.{Parallel, Session, HighSession, End}
use Rattle.cq_script.specs.declared.reader.Draft.{Draft}
use Rattle.cq_script.specs.declared.reader.Placed.{Placed}
use Rattle.cq_script.specs.declared.reader.Reader.{Reader}
use Rattle.cq_script.specs.declared.reader.Halt.{Halt}
use Rattle.cq_script.specs.Directives.{Read, Taken, most_statements, unless_most, placed, in_session, with_statement, with_directive, directive_of, with_piece, one_phase, behind_phases, goes_on, read_from, nothing_read, read}

none_some : {X : Type 0} (x : X) → Some x ≡ None → ⊥
none_some x e = cc

behind_both : (front more : List (List Placed)) (r : Read) → behind_phases front (behind_phases more r) ≡ behind_phases (front ++ more) r
behind_both front more r = ap (λ (phases : List (List Placed)). let both : Read = record r { phases = phases } in both) (sym (append_assoc front more r.phases))

-- pieces, and then more, which are read from where the first end
pub read_more : (r : Reader) (given more : List Piece) → (read_from r given).halt ≡ None → read_from r (given ++ more) ≡ behind_phases (read_from r given).phases (read_from (read_from r given).reader more)
read_more r [] more on = refl
read_more r (p ∷ given) more on =
    elim (with_piece r p) as (λ (t : Taken). (goes_on r (λ next. read_from next given) t).halt ≡ None →
    goes_on r (λ next. read_from next (given ++ more)) t ≡ behind_phases (goes_on r (λ next. read_from next given) t).phases (read_from (goes_on r (λ next. read_from next given) t).reader more)) [
      | Ok taken ↦ λ o. ap (behind_phases (one_phase taken.0)) (read_more taken.1 given more o) ∙ behind_both (one_phase taken.0) (read_from taken.1 given).phases (read_from (read_from taken.1 given).reader more)
      | Err halt ↦ λ o. absurd (none_some halt o)
    ] on

-- one more piece, which is taken
pub read_next : (given : List Piece) (p : Piece) (phase : List Placed) (next : Reader) → (read given).halt ≡ None → with_piece (read given).reader p ≡ Ok (phase, next) →
    read (given ++ p ∷ []) ≡ record { phases = (read given).phases ++ one_phase phase; reader = next; halt = None }
read_next given p phase next on is =
    read_more nothing_read given (p ∷ []) on ∙ ap (λ (t : Taken). behind_phases (read given).phases (goes_on (read given).reader (λ n. read_from n []) t)) is
    ∙ ap (λ (phases : List (List Placed)). let all : Read = record { phases = (read given).phases ++ phases; reader = next; halt = None } in all) (append-nil (one_phase phase))

-- or which is not, whatever stands behind it
pub read_halts : (given more : List Piece) (p : Piece) (halt : Halt) → (read given).halt ≡ None → with_piece (read given).reader p ≡ Err halt →
    read (given ++ p ∷ more) ≡ record { phases = (read given).phases; reader = (read given).reader; halt = Some halt }
read_halts given more p halt on is =
    read_more nothing_read given (p ∷ more) on ∙ ap (λ (t : Taken). behind_phases (read given).phases (goes_on (read given).reader (λ n. read_from n more) t)) is
    ∙ ap (λ (phases : List (List Placed)). let all : Read = record { phases = phases; reader = (read given).reader; halt = Some halt } in all) (append-nil (read given).phases)

-- ---- how many statements are read

abbrev Counts : ℕ → Taken → Type 0
Counts old taken = IfOk taken (λ t. t.1.read ≡ old + length t.0)

counts_most : (old count : ℕ) (t : List Placed × Reader) → t.1.read ≡ old + length t.0 → Counts old (unless_most count t)
counts_most old count t is = elim (two_ways (nat_lt count most_statements)) [ inl y ↦ rw y is | inr n ↦ rw n tt ]

counts_in_session : (old line : ℕ) (d : Draft) (item : Item) (s : Option ℕ) → Counts old (in_session old d line item s)
counts_in_session old line d item None = tt
counts_in_session old line d item (Some s) = counts_most old (old + length d.statements) ([], record { read = old; draft = Some (record d { statements = d.statements ++ placed old (length d.statements) s item ∷ [] }) }) (omega arith)

counts_statement : (old line : ℕ) (draft : Option Draft) (item : Item) → Counts old (with_statement old draft line item)
counts_statement old line None item = counts_most old old (placed old 0 0 item ∷ [], record { read = old + 1; draft = None }) refl
counts_statement old line (Some d) item = counts_in_session old line d item d.session

counts_directive : (old line : ℕ) (draft : Option Draft) (directive : Option Directive) → Counts old (with_directive old draft line directive)
counts_directive old line None None = tt
counts_directive old line None (Some Parallel) = omega arith
counts_directive old line None (Some (Session s)) = tt
counts_directive old line None (Some HighSession) = tt
counts_directive old line None (Some End) = tt
counts_directive old line (Some d) None = tt
counts_directive old line (Some d) (Some Parallel) = tt
counts_directive old line (Some d) (Some (Session s)) = omega arith
counts_directive old line (Some d) (Some HighSession) = tt
counts_directive old line (Some d) (Some End) = refl

counts : (r : Reader) (p : Piece) → Counts r.read (with_piece r p)
counts r (piece.Statement line item) = counts_statement r.read line r.draft item
counts r (piece.Directive line text) = counts_directive r.read line r.draft (directive_of text)
counts r (piece.Crowded line) = tt

pub taken_count : (r next : Reader) (p : Piece) (phase : List Placed) → with_piece r p ≡ Ok (phase, next) → next.read ≡ r.read + length phase
taken_count r next p phase is = subst (Counts r.read) is (counts r p)
