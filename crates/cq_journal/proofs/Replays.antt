-- A table after more entries.
use Rattle.std.proofs.Common.{◌≡◌, ◌≢◌, ◌∙◌, ◌⊎◌, ℕ, zero, suc, true, false, nat_eq, if◌then◌else◌, List, [], ◌∷◌, ◌++◌, take, slice_get, Some, inl, inr, refl, ap, subst}
use Rattle.std.specs.List.{AllByRecursion}
use Rattle.std.proofs.lemmas.Bool.Decides.{eqb_tells}
use Rattle.cq_value.specs.declared.schema.Shape.{Shape}
use Rattle.cq_value.specs.Tables.{Table, empty_table}
use Rattle.cq_tree.specs.declared.journal.Entry.{Entry}
use Rattle.cq_tree.specs.declared.journal.EntryKind.{EntryKind}
use Rattle.cq_tree.specs.declared.journal.EntryKind.TheVariants.{Read, Write, MoveStart, CatchUp, Cutover, MoveStop}
use Rattle.cq_meaning.specs.Effects.{effect, table_of}
use Rattle.cq_journal.specs.Journals.{entered, replay_from, replay, IsReplied, EachReplied}
use Rattle.cq_journal.specs.Laws.{IsNoWriteOf}

pub from_more : (table : ℕ) (shape : Shape) (t : Table) (es more : List Entry) → replay_from table shape t (es ++ more) ≡ replay_from table shape (replay_from table shape t es) more
from_more table shape t [] more = refl
from_more table shape t (e ∷ es) more = from_more table shape (entered table shape t e.kind) es more

-- one more entry
pub replay_more : (table : ℕ) (shape : Shape) (es : List Entry) (e : Entry) → replay table shape (es ++ e ∷ []) ≡ entered table shape (replay table shape es) e.kind
replay_more table shape es e = from_more table shape empty_table es (e ∷ [])

each_more : (P : List Entry → Entry → Type 0) (es : List Entry) (e : Entry) → ((k : ℕ) (x : Entry) → slice_get es k ≡ Some x → P (take k es) x) → P es e →
    (k : ℕ) (x : Entry) → slice_get (es ++ e ∷ []) k ≡ Some x → P (take k (es ++ e ∷ [])) x
each_more P [] e h p zero x is = subst (λ y. P [] y) (let same : e ≡ x = cc in same) p
each_more P [] e h p (suc k) x is = absurd (cc)
each_more P (a ∷ es) e h p zero x is = h zero x is
each_more P (a ∷ es) e h p (suc k) x is = each_more (λ xs. P (a ∷ xs)) es e (λ j y. h (suc j) y) p k x is

pub replied_more : (shapes : ℕ → Shape) (es : List Entry) (e : Entry) → EachReplied shapes es → IsReplied shapes es e.kind → EachReplied shapes (es ++ e ∷ [])
replied_more shapes es e h p = each_more (λ xs x. IsReplied shapes xs x.kind) es e h p

-- numbers that differ are told apart
pub told_apart : (m n : ℕ) → m ≢ n → nat_eq m n ≡ false
told_apart m n other = by_cases (eqb_tells m n)
  where
    by_cases : ((nat_eq m n ≡ true) × (m ≡ n)) ⊎ ((nat_eq m n ≡ false) × (m ≢ n)) → nat_eq m n ≡ false
    by_cases (inl same) = absurd (other same.1)
    by_cases (inr apart) = apart.0

pub entered_other : (table : ℕ) (shape : Shape) (t : Table) (kind : EntryKind) → IsNoWriteOf table kind → entered table shape t kind ≡ t
entered_other table shape t Read h = refl
entered_other table shape t (Write op reply) h = ap (λ b. if b then effect op t shape else t) (told_apart (table_of op) table h)
entered_other table shape t (MoveStart node) h = refl
entered_other table shape t CatchUp h = refl
entered_other table shape t Cutover h = refl
entered_other table shape t MoveStop h = refl

pub from_others : (table : ℕ) (shape : Shape) (t : Table) (es : List Entry) → AllByRecursion (λ (e : Entry). IsNoWriteOf table e.kind) es → replay_from table shape t es ≡ t
from_others table shape t [] h = refl
from_others table shape t (e ∷ es) h = ap (λ u. replay_from table shape u es) (entered_other table shape t e.kind h.0) ∙ from_others table shape t es h.1

-- entries that are no writes of the table
pub replay_others : (table : ℕ) (shape : Shape) (es more : List Entry) → AllByRecursion (λ (e : Entry). IsNoWriteOf table e.kind) more → replay table shape (es ++ more) ≡ replay table shape es
replay_others table shape es more h = from_more table shape empty_table es more ∙ from_others table shape (replay table shape es) more h
