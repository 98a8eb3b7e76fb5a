use Rattle.std.proofs.Common.{◌≡◌, ◌≤◌, ◌+◌, ◌++◌, List, map, length, vec_len, vec_capacity}
use Rattle.std.specs.List.{AllByRecursion}
use Rattle.std.specs.Vec.Iter.{into_iter_items, into_iter_len}
use Rattle.cq_history.specs.Refusals.{rules}
use Rattle.cq_block_laws.specs.Serving.{Opening}
use Rattle.cq_block_laws.specs.Sessions.{AreServedBy}
use Rattle.cq_block.specs.declared.drafts.Draft.{Draft}
use Rattle.cq_block.specs.Ground.{terms_of}
use Rattle.cq_block.specs.Running.{AreApart, NoneSent, IsDraftIn, AreAnswersTo, IsOpeningFor, IsSeated, hands_of}
use Rattle.cq_block.proofs.session.run_session.Given as goal

abbrev pub invariant-loop-draft : goal.invariant-loop-draft
invariant-loop-draft g l = record {
  left : into_iter_len l.draft-iterator ≡ length (into_iter_items l.draft-iterator);
  number : l.session.number ≡ l.initial.session.number;
  drafts : AllByRecursion (IsDraftIn l.site.scene.now.catalog.now l.session.number) (into_iter_items l.draft-iterator);
  apart : AreApart (into_iter_items l.draft-iterator);
  unsent : NoneSent (into_iter_items l.draft-iterator) l.session.hands;
  served : (o : Opening) → IsOpeningFor l.site.scene.now.catalog.now l.site.scene.now.settings l.site.numbers.now.items o →
      AreServedBy g.S.Store.state (terms_of g.S.Store.state) rules l.site.scene.now.nodes o (hands_of l.initial.session.hands) l.session.log.items (hands_of l.session.hands);
  answered : (front : List Draft) × (into_iter_items l.initial.draft-iterator ≡ front ++ into_iter_items l.draft-iterator) × AreAnswersTo l.site.scene.now.catalog.now l.site.scene.now.settings front l.session.log.items;
  seated : IsSeated g.S.Store.state l.site.scene.now.catalog.now l.site.scene.now.nodes (map (λ c. c.shared.table_id) l.site.shared.now.groups.items) (map (λ c. c.shared.table_id) l.site.shared.now.workers.items) l.site.numbers.now.items l.session.number l.session.hands;
  room : vec_len l.session.log + length (into_iter_items l.draft-iterator) ≤ vec_capacity l.session.log;
  few : length l.session.hands.retired.items + length (into_iter_items l.draft-iterator) ≤ length (into_iter_items l.initial.draft-iterator);
  space : vec_len l.session.hands.retired + length (into_iter_items l.draft-iterator) ≤ vec_capacity l.session.hands.retired;
}
