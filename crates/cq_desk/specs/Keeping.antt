-- What calls of a move keep of a session's passes, one after the other: the laws of the trait Moves there.
use Rattle.std.proofs.Common.{◌≡◌, inl, inr, ℕ, List, [], refl, sym, ap, ◌∙◌, subst, arith, append_assoc, Some, slice_get}
use Rattle.std.proofs.lemmas.Bool.Decides.{eqb_tells}
use Rattle.std.proofs.lemmas.List.{append-nil}
use Rattle.std.specs.Prelude.{◌++◌}
use Rattle.cq_tree.specs.declared.journal.Entry.{Entry}
use Rattle.cq_tree.specs.declared.journal.Who.{Who}
use Rattle.cq_reach.proofs.Growth.{got, got_below, one_item}
use Rattle.cq_shared.specs.Terms.{Terms}
use Rattle.cq_shared.specs.Seen.{Place, Pass}
use Rattle.cq_shared.proofs.Passing.{same_then}
use Rattle.cq_desk.specs.Desks.{IsOfOthers}
use Rattle.cq_desk.specs.Moving.{Continues, AreKept, AllSteady, IsSpared}

module _ {X C : Type 0} where
  continues_none : (p : Place X C) → Continues p p
  continues_none p = record { same = (refl, refl, refl, refl, refl); notes = []; mine = sym (append-nil p.me.0.mine) }

  continues_twice : (p q r : Place X C) → Continues p q → Continues q r → Continues p r
  continues_twice p q r h k = record {
    same = same_then p q r h.same k.same;
    notes = h.notes ++ k.notes;
    mine = k.mine ∙ (ap (λ z. z ++ k.notes) h.mine ∙ append_assoc p.me.0.mine h.notes k.notes);
  }

  pub kept_none : (group : ℕ) (a : List (Pass X C)) → AreKept group a a
  kept_none group a = record {
    count = refl;
    others = λ at apart. refl;
    here = λ p q was is. subst (λ (r : Pass X C). Continues p.place r.place) (one_item p q (sym was ∙ is)) (continues_none p.place);
  }

  pub kept_twice : (group : ℕ) (a b c : List (Pass X C)) → AreKept group a b → AreKept group b c → AreKept group a c
  kept_twice group a b c k l = record {
    count = l.count ∙ k.count;
    others = λ at apart. l.others at apart ∙ k.others at apart;
    here = λ p r was is.
        let low = got_below a group p was in
        let count = k.count in
        let m = got b group (omega (arith, low, count)) in
        continues_twice p.place m.0.place r.place (k.here p m.0 was m.1) (l.here m.0 r m.1 is);
  }

  -- the pass that was at a place
  record Was (a : List (Pass X C)) (at : ℕ) (q : Pass X C) : Type 0 where
    pass : Pass X C
    there : slice_get a at ≡ Some pass
    origin : q.place.me.0.origin ≡ pass.place.me.0.origin

  was : (group : ℕ) (a b : List (Pass X C)) → AreKept group a b → (at : ℕ) (q : Pass X C) → slice_get b at ≡ Some q → Was a at q
  was group a b k at q is = elim (eqb_tells at group) [
    | inl y ↦
        let low = got_below b at q is in
        let count = k.count in
        let p = got a at (omega (arith, low, count)) in
        let there : slice_get a group ≡ Some p.0 = subst (λ n. slice_get a n ≡ Some p.0) y.1 p.1 in
        record { pass = p.0; there = p.1; origin = (k.here p.0 q there (subst (λ n. slice_get b n ≡ Some q) y.1 is)).same.2 }
    | inr z ↦ record { pass = q; there = sym (k.others at z.1) ∙ is; origin = refl }
  ]

  module _ (terms : C → Terms) (group : ℕ) (a b : List (Pass X C)) (k : AreKept group a b) (node : ℕ) where
    pub kept_steady : AllSteady terms a node → AllSteady terms b node
    kept_steady all at q is c ruled =
        let w = was group a b k at q is in
        all at w.pass w.there c (ruled.0, sym w.origin ∙ ruled.1, ruled.2)

    pub spared_before : IsSpared terms b node → IsSpared terms a node
    spared_before s =
        let w = was group a b k s.group s.pass s.there in
        record { group = s.group; pass = w.pass; there = w.there; steady = λ c ruled. s.steady c (ruled.0, w.origin ∙ ruled.1, ruled.2) }

-- who may come stays, where the sessions do
pub come_still : (old new : List ℕ) (who : Who) (e : Entry) → new ≡ old → IsOfOthers new who e → IsOfOthers old who e
come_still old new who e same comes = subst (λ (ns : List ℕ). IsOfOthers ns who e) same comes
