-- The rows that a commit makes are made of those before it.
use Rattle.std.proofs.Common.{◌≡◌, List, Option, Some, None, IfSome, sym, ◌∙◌, subst}
use Rattle.cq_value.specs.Tables.{Table}
use Rattle.cq_value.specs.declared.change.Change.{Change}
use Rattle.cq_store.specs.declared.mem.Former.{Former}
use Rattle.cq_store.specs.Made.{IsMade, IsCaughtUp}

pub caught_up : (rows after before : Table) (changes made : List Change) (former : Option Former) → IsMade rows changes after → before ≡ rows → made ≡ changes
    → IfSome former (λ f. (f.rows ≡ before) × (f.changes ≡ made)) → IsCaughtUp after former
caught_up rows after before changes made None is same those e = tt
caught_up rows after before changes made (Some f) is same those e =
    subst (λ (t : Table). IsMade t f.changes after) (sym (e.0 ∙ same)) (subst (λ (cs : List Change). IsMade rows cs after) (sym (e.1 ∙ those)) is)
