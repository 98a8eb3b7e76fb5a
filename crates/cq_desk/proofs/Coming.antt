-- Groups as a write found them, and as they are known then.
use Rattle.std.proofs.Common.{◌≡◌, ◌≢◌, ◌⊎◌, inl, inr, ℕ, ◌<◌, ◌≤◌, List, [], ◌∷◌, length, refl, sym, ap, ◌∙◌, subst, arith, Some, slice_get}
use Rattle.std.proofs.Math.ListN.{set}
use Rattle.std.proofs.lemmas.List.{length-set}
use Rattle.std.proofs.lemmas.Bool.Decides.{eqb_tells}
use Rattle.std.specs.List.{AllByRecursion}
use Rattle.cq_journal.specs.Records.{Journal}
use Rattle.cq_tree.specs.declared.journal.EntryKind.{EntryKind}
use Rattle.cq_tree.specs.declared.journal.Who.{Who}
use Rattle.cq_history.specs.Journals.{Kinds, journal_in, with_entries}
use Rattle.cq_history.proofs.Entries.{index_beyond}
use Rattle.cq_history.proofs.Script.{with_none}
use Rattle.cq_router.specs.declared.insertion.Part.{Part}
use Rattle.cq_reach.specs.Seen.{Seen, journals_in, with_kinds}
use Rattle.cq_reach.specs.Outlook.{Outlook, Meets, MayFind}
use Rattle.cq_reach.specs.Writes.{InGroup, Enters}
use Rattle.cq_reach.proofs.Growth.{got, got_below, one_item, set_there, set_beside}
use Rattle.cq_reach.proofs.Seeing.{journal_seen, journals_long}

abbrev pub AreApart : ℕ → List Part → Type 0
AreApart i parts = AllByRecursion (λ (p : Part). i ≢ p.group) parts

-- what holds in the groups of parts stays so as that of another is replaced
pub stay : (k : ℕ) (s : Seen) (found : List Seen) (P : Part → Seen → Type 0) (qs : List Part) → AreApart k qs → AllByRecursion (λ (q : Part). InGroup found q (P q)) qs → AllByRecursion (λ (q : Part). InGroup (set found k s) q (P q)) qs
stay k s found P [] away h = tt
stay k s found P (q ∷ qs) away h = (
  record { group = h.0.group; there = set_beside found k q.group s (λ e. away.0 (sym e)) ∙ h.0.there; holds = h.0.holds },
  stay k s found P qs away.1 h.1,
)

module _ (who : Who) (o : Outlook) (news : List Seen) where
  -- a group that no visit found: it is as it was known
  pub record IsKnown (parts : List Part) (found : List Seen) (kinds : Kinds) (i : ℕ) : Type 0 where
    left : AreApart i parts ⊎ (slice_get news i ≡ slice_get o.known i)
    same : slice_get found i ≡ slice_get o.known i
    nothing : kinds i ≡ []

  -- a group that a visit found, which made the entries of these kinds
  pub record IsMet (found : List Seen) (kinds : Kinds) (i : ℕ) : Type 0 where
    seen : Seen
    there : slice_get found i ≡ Some seen
    met : Meets o i seen
    now : slice_get news i ≡ Some (with_kinds who (kinds i) seen)

  -- the groups, as visits of some of these parts' found them
  pub record Came (parts : List Part) (kinds : Kinds) (found : List Seen) : Type 0 where
    pub count : length found ≡ length o.known
    pub each : (i : ℕ) → IsKnown parts found kinds i ⊎ IsMet found kinds i

  -- parts that weren't tried
  pub untried : (parts : List Part) (kinds : Kinds) → ((i : ℕ) → kinds i ≡ []) → AllByRecursion (λ (p : Part). slice_get news p.group ≡ slice_get o.known p.group) parts → Came parts kinds o.known
  untried parts kinds nothing still = record { count = refl; each = λ i. inl (record { left = look i parts still; same = refl; nothing = nothing i }) }
    where
      look : (i : ℕ) (ps : List Part) → AllByRecursion (λ (p : Part). slice_get news p.group ≡ slice_get o.known p.group) ps → AreApart i ps ⊎ (slice_get news i ≡ slice_get o.known i)
      look i [] h = inl tt
      look i (p ∷ ps) h = elim (eqb_tells i p.group) [
        | inl y ↦ inr (subst (λ n. slice_get news n ≡ slice_get o.known n) (sym y.1) h.0)
        | inr z ↦ elim (look i ps h.1) [ inl a ↦ inl (z.1, a) | inr b ↦ inr b ]
      ]

  -- one more part, whose group a visit found so
  pub one_more : (p : Part) (parts : List Part) (kinds all : Kinds) (found : List Seen) (s : Seen) → Came parts kinds found → Meets o p.group s → slice_get news p.group ≡ Some (with_kinds who (all p.group) s) → ((i : ℕ) → i ≢ p.group → all i ≡ kinds i) →
      Came (p ∷ parts) all (set found p.group s)
  one_more p parts kinds all found s c met now others = record {
    count = length-set found p.group s ∙ c.count;
    each = λ i. elim (eqb_tells i p.group) [
      | inl y ↦ inr (subst (λ n. IsMet (set found p.group s) all n) (sym y.1) (record { seen = s; there = set_there found p.group s low; met = met; now = now }))
      | inr z ↦ elim (c.each i) [
        | inl k ↦ inl (record {
          left = elim k.left [ inl a ↦ inl (z.1, a) | inr b ↦ inr b ];
          same = set_beside found p.group i s z.1 ∙ k.same;
          nothing = others i z.1 ∙ k.nothing;
        })
        | inr m ↦ inr (record {
          seen = m.seen;
          there = set_beside found p.group i s z.1 ∙ m.there;
          met = m.met;
          now = subst (λ (ks : List EntryKind). slice_get news i ≡ Some (with_kinds who ks m.seen)) (sym (others i z.1)) m.now;
        })
      ]
    ];
  }
    where
      low : p.group < length found
      low = let within = got_below o.known p.group met.was met.there in let count = c.count in omega (arith, within, count)

  module _ (parts : List Part) (kinds : Kinds) (found : List Seen) (c : Came parts kinds found) where
    pub may_find : MayFind o found
    may_find = record {
      count = c.count;
      each = λ g s e. elim (c.each g) [ inl k ↦ inl (sym k.same ∙ e) | inr m ↦ inr (subst (Meets o g) (one_item m.seen s (sym m.there ∙ e)) m.met) ];
    }

    beyond : (i : ℕ) → length found ≤ i → kinds i ≡ []
    beyond i far = elim (c.each i) [ inl k ↦ k.nothing | inr m ↦ absurd (let low = got_below found i m.seen m.there in omega (arith, far, low)) ]

    pub all_enter : length news ≡ length o.known → ((i : ℕ) → AreApart i parts → slice_get news i ≡ slice_get o.known i) → Enters who kinds found news
    all_enter count others =
        let a = journals_long found in
        let b = journals_long news in
        let same = c.count in
        record {
          count = omega (arith, a, b, count, same);
          kept = λ g l. grown g (omega (arith, l, a));
          fresh = λ g m.
              let far : length (journals_in news) ≤ g = omega (arith, a, b, count, same, m) in
              let nothing = index_beyond (journals_in news) g _ far in (
                record { number = ap (λ (j : Journal). j.number) nothing; base = λ table. ap (λ (j : Journal). j.base table) nothing; entries = ap (λ (j : Journal). j.entries) nothing },
                beyond g (omega (arith, a, m)),
              );
        }
      where
        grown : (g : ℕ) → g < length found → journal_in (journals_in news) g ≡ with_entries who (kinds g) (journal_in (journals_in found) g)
        grown g low = elim (c.each g) [
          | inl k ↦
              let s = got found g low in
              let still : slice_get news g ≡ slice_get o.known g = elim k.left [ inl x ↦ others g x | inr y ↦ y ] in
              journal_seen news g s.0 _ (still ∙ (sym k.same ∙ s.1))
              ∙ (sym (with_none who s.0.journal) ∙ (ap (λ (ks : List EntryKind). with_entries who ks s.0.journal) (sym k.nothing) ∙ ap (with_entries who (kinds g)) (sym (journal_seen found g s.0 _ s.1))))
          | inr m ↦ journal_seen news g (with_kinds who (kinds g) m.seen) _ m.now ∙ ap (with_entries who (kinds g)) (sym (journal_seen found g m.seen _ m.there))
        ]
