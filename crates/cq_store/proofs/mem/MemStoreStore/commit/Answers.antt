use Rattle.std.proofs.Common.{◌≡◌, ◌∙◌, Some, sym, subst}
use Rattle.cq_value.specs.Tables.{Table}
use Rattle.cq_store.specs.Indexes.{HoldAll}
use Rattle.cq_store.proofs.MadeLaws.{caught_up}
use Rattle.cq_store.proofs.mem.MemStoreStore.commit.Goals as goal

pub invariant_of-self : goal.invariant_of-self
invariant_of-self c =
    let old : c.self.inside.built ≡ Some c.in-Some.built = sym c.take.ensures.value ∙ c.in-Some.is in
    let is = rw old at c.self.invariant.0.0 in
    let next = caught_up c.self.inside.rows c.in-Some.built c.replace-rows.result c.self.inside.staged c.replace-changes.result c.before-in-Some.result is c.replace-rows.ensures.value c.replace-changes.ensures.value c.before-in-Some.ensures in (
      (rw c.take.ensures.after (c.replace-changes.ensures.after ∙ c.new.ensures), rw (c.replace.ensures.after, c.replace-rows.ensures.after) next),
      subst (λ (t : Table). HoldAll c.note_all.new.self t.pairs) (sym (c.replace-rows.ensures.after ∙ is.0)) (c.note_all.ensures c.self.inside.rows c.self.invariant.1),
    )
