use Rattle.std.proofs.Common.{◌<◌, List, length, sym, ap, subst, ◌∙◌}
use Rattle.std.specs.Prelude.{slice_index_or}
use Rattle.cq_block.specs.declared.drafts.SessionDrafts.{SessionDrafts}
use Rattle.cq_block.specs.Drafts.{IsDrafted, HaveDrafts}
use Rattle.cq_block.proofs.DraftLaws.{have_drafts, written_back}
use Rattle.cq_block.proofs.drafts.read_block.Goals as goal

pub returns : goal.returns
returns g c =
    let cat = c.args.catalog.now in
    let ps = c.args.block.now in
    let old = c.in_ok-sessions.sessions in
    let new = c.read_sessions.new.sessions in
    let count = c.read_sessions.ensures.count ∙ ap (λ (v : List SessionDrafts). length v) c.deref_mut.ensures.value in
    subst (HaveDrafts cat ps) (sym (written_back old.len new old.items (count ∙ sym old.ok.0)))
    (have_drafts cat ps old.items new c.last_session.result c.last_session.ensures.few c.last_session.ensures.last c.in_ok-sessions.ensures.0 c.in_ok-sessions.ensures.1 count
    (λ i d l. subst (λ (v : List SessionDrafts). IsDrafted cat ps (slice_index_or v i d).session (slice_index_or new i d)) c.deref_mut.ensures.value (c.read_sessions.ensures.each i d (subst (λ n. i < n) (sym (ap (λ (v : List SessionDrafts). length v) c.deref_mut.ensures.value)) l))))
