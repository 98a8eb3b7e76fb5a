-- Components joined one after another, and that their co-location groups are the catalogue's.
use Rattle.std.proofs.Common.{◌≡◌, ℕ, zero, suc, ◌-◌, List, [], ◌∷◌, Option, None, Some, refl, sym, ap, ◌∙◌, subst, arith}
use Rattle.cq_catalog.specs.Contents.{Contents}
use Rattle.cq_outline.specs.declared.joining.Joined.{Joined}
use Rattle.cq_outline.specs.Joining.{Component, Next, behind, next_if, next_of, if_next, shared_class, joined_with, join_all}
use Rattle.cq_strategies.specs.declared.next.Candidate.{Candidate}
use Rattle.cq_strategies.specs.Components.{IsThere, AreThere}
use Rattle.cq_strategies.specs.Choices.{choice}

-- ---- one after another

abbrev taken : Candidate → List Component → Next
taken n others = record { component = n.component; class = n.class; others = others }

module _ (first : ℕ → ℕ) (c : Contents) where
  pub join_more : (more : ℕ) (j wider : Joined) (ps others : List Component) (n : Candidate) → ((more ≡ 0) → ⊥) → choice (Some n) others ≡ next_of first j.columns ps →
      wider ≡ joined_with first c j n.component n.class → join_all first c (more - 1) wider others ≡ join_all first c more j ps
  join_more zero j wider ps others n h e w = absurd (h refl)
  join_more (suc m) j wider ps others n h e w =
      let s : suc m - 1 ≡ m = omega arith in
      (λ i. join_all first c (s i) (w i) others) ∙ ap (λ (o : Option Next). if_next o (λ n. join_all first c m (joined_with first c j n.component n.class) n.others) j) e

  -- ---- what is chosen is there

  abbrev IsFound : Next → Type 0
  IsFound n = IsThere c n.component × AreThere c n.others

  found_behind : (p : Component) (later : Option Next) (n : Next) → IsThere c p → ((m : Next) → later ≡ Some m → IsFound m) → behind p later ≡ Some n → IsFound n
  found_behind p None n a h e = cc
  found_behind p (Some m) n a h e =
      let is : record { component = m.component; class = m.class; others = p ∷ m.others } ≡ n = cc in
      subst IsFound is ((h m refl).0, (a, (h m refl).1))

  found_if : (p : Component) (ps : List Component) (later : Option Next) (o : Option ℕ) (n : Next) → IsThere c p → AreThere c ps → ((m : Next) → later ≡ Some m → IsFound m) → next_if p ps later o ≡ Some n → IsFound n
  found_if p ps later (Some class) n a b h e =
      let is : record { component = p; class = class; others = ps } ≡ n = cc in
      subst IsFound is (a, b)
  found_if p ps later None n a b h e = found_behind p later n a h e

  found : (xs : List ℕ) (ps : List Component) (n : Next) → AreThere c ps → next_of first xs ps ≡ Some n → IsFound n
  found xs [] n a e = cc
  found xs (p ∷ ps) n a e = found_if p ps (next_of first xs ps) (shared_class first xs p.columns) n a.0 a.1 (λ m f. found xs ps m a.1 f) e

  pub chosen_there : (xs : List ℕ) (ps others : List Component) (n : Candidate) → AreThere c ps → choice (Some n) others ≡ next_of first xs ps → IsThere c n.component × AreThere c others
  chosen_there xs ps others n a e = found xs ps (taken n others) a (sym e)
