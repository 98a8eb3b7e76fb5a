use Rattle.std.proofs.Common.{◌∙◌, [], ◌∷◌, ◌++◌, refl, ap, ◌≤◌, arith, rules}
use Rattle.cq_tree.specs.declared.journal.EntryKind.TheVariants.{Read}
use Rattle.cq_group.proofs.GroupLaws.{kept_read}
use Rattle.cq_group.proofs.group.GroupState.append_read.Goals as goal

pub returns-clause-kept : goal.returns-clause-kept
returns-clause-kept g c =
    kept_read g.S.Store.state c.args.self.now _ c.args.who c.requires refl refl refl refl
    (c.push.ensures.list ∙ ap (λ xs. xs ++ record { who = c.args.who; kind = Read } ∷ []) c.reserve.ensures.list) refl refl
    (let room : 2 ≤ c.reserve.new.self.room = search rules in omega (arith, room, c.push.ensures.room))
