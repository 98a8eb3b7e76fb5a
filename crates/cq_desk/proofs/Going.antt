-- A session's passes, after several calls of one statement.
use Rattle.std.proofs.Common.{List, [], ◌∷◌, ◌++◌, refl, sym, ap, ◌∙◌, subst, arith, append_assoc}
use Rattle.std.specs.List.{AllByRecursion}
use Rattle.cq_tree.specs.declared.failure.StoreFailure.{StoreFailure}
use Rattle.cq_tree.specs.declared.journal.Who.{Who}
use Rattle.cq_reach.specs.Outlook.{Chain, still, more, FailsLast}
use Rattle.cq_reach.proofs.Growth.{got, got_below, one_item}
use Rattle.cq_shared.specs.declared.note.Note.{Note}
use Rattle.cq_shared.specs.declared.note.Note.TheVariants as note
use Rattle.cq_shared.specs.Quiet.{IsQuiet, GoesOn, GoOn, Blames}
use Rattle.cq_shared.specs.Seen.{Place, Pass}
use Rattle.cq_shared.proofs.Passing.{same_then}
use Rattle.cq_desk.specs.Desks.{HasNoted}
use Rattle.cq_desk.proofs.Meeting.{goes_nowhere}

both_quiet : (l m : List Note) → AllByRecursion IsQuiet l → AllByRecursion IsQuiet m → AllByRecursion IsQuiet (l ++ m)
both_quiet [] m h k = k
both_quiet (x ∷ l) m h k = (h.0, both_quiet l m h.1 k)

module _ {X C : Type 0} where
  goes_both : (p q r : Place X C) → GoesOn p q → GoesOn q r → GoesOn p r
  goes_both p q r h k = record {
    same = same_then p q r h.same k.same;
    notes = h.notes ++ k.notes;
    mine = k.mine ∙ (ap (λ z. z ++ k.notes) h.mine ∙ append_assoc p.me.0.mine h.notes k.notes);
    quiet = both_quiet h.notes k.notes h.quiet k.quiet;
  }

  pub goes_still : (passes : List (Pass X C)) → GoOn passes passes
  goes_still passes = record { count = refl; each = λ g p q was is. subst (λ (r : Pass X C). GoesOn p.place r.place) (one_item p q (sym was ∙ is)) (goes_nowhere p.place) }

  pub goes_twice : (old mid new : List (Pass X C)) → GoOn old mid → GoOn mid new → GoOn old new
  goes_twice old mid new h k = record {
    count = k.count ∙ h.count;
    each = λ g p q was is.
        let low = got_below old g p was in
        let count = h.count in
        let m = got mid g (omega (arith, low, count)) in
        goes_both p.place m.0.place q.place (h.each g p m.0 was m.1) (k.each g m.0 q m.1 is);
  }

  module _ {V : Type 0} (passes : V → List (Pass X C)) where
    -- one call after another
    pub chain_goes_on : (old new : V) → Chain (λ x y. GoOn (passes x) (passes y)) old new → GoOn (passes old) (passes new)
    chain_goes_on old new still = goes_still (passes old)
    chain_goes_on old new (more {y = mid} c step) = goes_twice (passes old) (passes mid) (passes new) (chain_goes_on old mid c) step

    -- a store that failed in the last call is in the session's last note
    pub fails_blames : (who : Who) (f : StoreFailure) (old new : V) → FailsLast (λ x y. GoOn (passes x) (passes y)) (λ x y g e. HasNoted who g (passes x) (passes y) e) f old new → Blames who f (passes old) (passes new)
    fails_blames who f old new h =
        let on = chain_goes_on old h.before h.steps in
        let b = h.fails in
        let low = got_below (passes h.before) h.group b.before b.was in
        let count = on.count in
        let p = got (passes old) h.group (omega (arith, low, count)) in
        let s = on.each h.group p.0 b.before p.1 b.was in record {
          group = h.group;
          noted = record { before = p.0; after = b.after; was = p.1; is = b.is; holds = (s.notes, b.holds ∙ ap (λ z. z ++ note.Failed who f ∷ []) s.mine) };
        }
