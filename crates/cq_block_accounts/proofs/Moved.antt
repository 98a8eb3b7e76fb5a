-- A group that was moved in a block: the phase of its last mover.
use Rattle.std.proofs.Common.{◌≡◌, ◌≢◌, inl, inr, ℕ, zero, suc, List, [], ◌∷◌, ◌++◌, fold, refl, ◌∙◌, ap, subst, Some, eq-eqb, ne_eqb}
use Rattle.std.specs.Prelude.{nat_eq, slice_get}
use Rattle.std.specs.List.{AllByRecursion}
use Rattle.std.proofs.lemmas.List.Sums.{fold-append}
use Rattle.cq_value.proofs.Truths.{two_ways}
use Rattle.cq_tree.specs.declared.journal.Entry.{Entry}
use Rattle.cq_tree.specs.declared.journal.EntryKind.{EntryKind}
use Rattle.cq_tree.specs.declared.journal.EntryKind.TheVariants.{Cutover}
use Rattle.cq_tree.specs.declared.journal.Who.{Who}
use Rattle.cq_answer.specs.declared.answered.Answered.{Answered}
use Rattle.cq_history.specs.Phases.{phase_in, IsOf}
use Rattle.cq_history.proofs.Lists.{all_at}
use Rattle.cq_cluster.specs.Accounts.{moved_by, mover_after}
use Rattle.cq_place_laws.specs.Placing.{AreCutBy}
use Rattle.cq_block_accounts.proofs.Staying.{mover_step}

-- ---- the last mover

other_mover : (n statement : ℕ) (kind : EntryKind) → (kind ≢ Cutover) → mover_after n statement kind ≡ n
other_mover n statement Cutover none = absurd (none refl)
other_mover n statement kind none = refl

movers_stay : (n : ℕ) (es : List Entry) → AllByRecursion (λ (e : Entry). e.kind ≢ Cutover) es → fold mover_step n es ≡ n
movers_stay n [] none = refl
movers_stay n (e ∷ es) none = ap (λ m. fold mover_step m es) (other_mover n e.who.statement e.kind none.0) ∙ movers_stay n es none.1

pub last_mover : (block : List Answered) (es more : List Entry) (c : AreCutBy block more) → moved_by (es ++ more) ≡ c.last.who.statement
last_mover block es more c =
    fold-append mover_step 0 es more
    ∙ ap (λ v. fold mover_step (moved_by es) v) c.all
    ∙ fold-append mover_step (moved_by es) c.front (c.last ∷ c.back)
    ∙ ap (λ k. fold mover_step (mover_after (fold mover_step (moved_by es) c.front) c.last.who.statement k) c.back) c.cuts
    ∙ movers_stay c.last.who.statement c.back c.behind

-- ---- its phase

phase_behind : (answers block : List Answered) (n : ℕ) → AllByRecursion (λ (a : Answered). a.statement ≢ n) answers → phase_in (answers ++ block) n ≡ phase_in block n
phase_behind [] block n far = refl
phase_behind (a ∷ answers) block n far = rw (ne_eqb a.statement n far.0) (phase_behind answers block n far.1)

phase_there : (phase n place : ℕ) (block : List Answered) (a : Answered) → AllByRecursion (λ (b : Answered). b.phase ≡ phase) block → slice_get block place ≡ Some a → a.statement ≡ n → phase_in block n ≡ phase
phase_there phase n place [] a now at is = absurd (cc at)
phase_there phase n zero (b ∷ block) a now at is =
    let same : b ≡ a = cc in
    rw (eq-eqb b.statement n (ap (λ (v : Answered). v.statement) same ∙ is)) now.0
phase_there phase n (suc place) (b ∷ block) a now at is = elim (two_ways (nat_eq b.statement n)) [
  | inl y ↦ rw y now.0
  | inr z ↦ rw z (phase_there phase n place block a now.1 at is)
]

pub phase_of_mover : (phase : ℕ) (answers block : List Answered) (who : Who) → AllByRecursion (λ (a : Answered). a.phase ≡ phase) block →
    AllByRecursion (λ (a : Answered). AllByRecursion (λ (b : Answered). b.statement ≢ a.statement) answers) block → IsOf block who → phase_in (answers ++ block) who.statement ≡ phase
phase_of_mover phase answers block who now apart of =
    let statement : of.answered.statement ≡ who.statement = ap (λ (w : Who). w.statement) of.is in
    let far = all_at (λ (a : Answered). AllByRecursion (λ (b : Answered). b.statement ≢ a.statement) answers) block of.place of.answered apart of.there in
    phase_behind answers block who.statement (subst (λ n. AllByRecursion (λ (b : Answered). b.statement ≢ n) answers) statement far)
    ∙ phase_there phase who.statement of.place block of.answered now of.there statement
