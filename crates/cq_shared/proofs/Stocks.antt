-- Calls of a pass to a worker, one after the other.
use Rattle.std.proofs.Common.{◌≡◌, ◌≢◌, ℕ, ◌+◌, List, [], ◌∷◌, ◌++◌, refl, sym, ◌∙◌, ap, subst, arith, append_assoc, eq-eqb, ne_eqb, Result, Ok, Err}
use Rattle.std.specs.List.{AllByRecursion}
use Rattle.std.proofs.lemmas.List.{append-nil}
use Rattle.std.proofs.lemmas.List.Folds.{sum_by-replicate}
use Rattle.std.proofs.lemmas.Grind.{replicate_next}
use Rattle.cq_tree.specs.declared.journal.Who.{Who}
use Rattle.cq_cell.specs.Lists.{NotIn, keep, own}
use Rattle.cq_cell.proofs.Lists.{own_more}
use Rattle.cq_shared.specs.declared.errand.Errand.{Errand}
use Rattle.cq_shared.specs.Errands.{Bench, Sends, sent_by, took_in, owed_in, gave_in, tooks, owed, gaves, take_notes, room_notes, give_note}
use Rattle.cq_shared.specs.Stocks.{SendsSome, give_notes}
use Rattle.cq_shared.proofs.Errands.{bench_then}

-- ---- whose notes they are

abbrev pub AreSentBy : ℕ → List Errand → Type 0
AreSentBy s l = AllByRecursion (λ (n : Errand). sent_by n ≡ s) l

pub own_all : (s : ℕ) (l : List Errand) → AreSentBy s l → own sent_by s l ≡ l
own_all s [] h = refl
own_all s (n ∷ l) h = λ i. keep (eq-eqb (sent_by n) s h.0 i) n (own_all s l h.1 i)

pub own_none : (s t : ℕ) (l : List Errand) → t ≢ s → AreSentBy s l → own sent_by t l ≡ []
own_none s t [] d h = refl
own_none s t (n ∷ l) d h = λ i. keep (ne_eqb (sent_by n) t (λ e. d (sym e ∙ h.0)) i) n (own_none s t l d h.1 i)

pub take_sent : {V E : Type 0} (who : Who) (n s : ℕ) (r : Result V E) → who.session ≡ s → AreSentBy s (take_notes who n r)
take_sent who n s (Ok v) e = (e, tt)
take_sent who n s (Err f) e = tt

pub room_sent : {V E : Type 0} (who : Who) (n s : ℕ) (r : Result V E) → who.session ≡ s → AreSentBy s (room_notes who n r)
room_sent who n s (Ok v) e = (e, tt)
room_sent who n s (Err f) e = tt

-- ---- what giving adds

pub give_tooks : (who : Who) (n : ℕ) → tooks (give_notes who n) ≡ 0
give_tooks who n = let e = sum_by-replicate took_in n (give_note who) in omega (arith, e)

pub give_owed : (who : Who) (n : ℕ) → owed (give_notes who n) ≡ 0
give_owed who n = let e = sum_by-replicate owed_in n (give_note who) in omega (arith, e)

pub give_gaves : (who : Who) (n : ℕ) → gaves (give_notes who n) ≡ n
give_gaves who n = let e = sum_by-replicate gave_in n (give_note who) in omega (arith, e)

pub give_more : (who : Who) (n : ℕ) → give_notes who n ++ give_note who ∷ [] ≡ give_notes who (n + 1)
give_more who n = sym (replicate_next n (give_note who))

-- ---- calls

module _ {X C : Type 0} where
  pub sends_none : (p : Bench X C) → SendsSome p [] p
  sends_none p = record { more = []; sent = refl; others = λ n d i. refl; news = sym (append-nil p.me.0.news); mine = sym (append-nil p.me.0.mine); same = (refl, refl, refl, refl, refl) }

  -- one call
  pub sends_some : (p q : Bench X C) (notes : List Errand) (fact : ℕ → Type 0) → AreSentBy p.me.0.number notes → Sends p notes q fact → SendsSome p notes q
  sends_some p q notes fact all h = record {
    more = h.more ++ notes;
    sent = own_more sent_by p.me.0.number h.more notes ∙ (λ i. h.others.not_own i ++ own_all p.me.0.number notes all i);
    others = λ n d out. own_more sent_by n h.more notes ∙ (λ i. h.others.of_sessions n out i ++ own_none p.me.0.number n notes d all i);
    news = h.news ∙ append_assoc p.me.0.news h.more notes;
    mine = h.mine;
    same = h.same;
  }

  -- calls, and then others
  pub sends_then : (p q r : Bench X C) (xs ys : List Errand) → SendsSome p xs q → SendsSome q ys r → SendsSome p (xs ++ ys) r
  sends_then p q r xs ys h k = record {
    more = h.more ++ k.more;
    sent = own_more sent_by p.me.0.number h.more k.more ∙ (λ i. h.sent i ++ (ap (λ s. own sent_by s k.more) (sym h.same.3) ∙ k.sent) i);
    others = λ n d out. own_more sent_by n h.more k.more ∙ (λ i. h.others n d out i ++ k.others n (λ e. d (e ∙ h.same.3)) (subst (NotIn n) (sym h.same.4) out) i);
    news = k.news ∙ (ap (λ z. z ++ k.more) h.news ∙ append_assoc p.me.0.news h.more k.more);
    mine = k.mine ∙ (ap (λ z. z ++ ys) h.mine ∙ append_assoc p.me.0.mine xs ys);
    same = bench_then p q r h.same k.same;
  }
