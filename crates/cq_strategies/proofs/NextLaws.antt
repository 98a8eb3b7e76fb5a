-- The choice of the next component is the first that shares a class.
use Rattle.std.proofs.Common.{◌≡◌, ℕ, Bool, List, [], ◌∷◌, ◌++◌, map, fold, Option, None, Some, refl, sym, ap, ◌∙◌, append_assoc, append-nil}
use Rattle.cq_outline.specs.Joining.{Component, Next, behind, next_if, next_of, shared_class}
use Rattle.cq_strategies.specs.declared.next.Candidate.{Candidate}
use Rattle.cq_strategies.specs.declared.next.Chosen.{Chosen}
use Rattle.cq_strategies.specs.Components.{AreOn}
use Rattle.cq_strategies.specs.Choices.{not_chosen, if_shared, with_component, chosen_next}
use Rattle.cq_strategies.proofs.ClassLaws.{marked_is}

-- with these components before the others, none of which is chosen
abbrev all_behind : List Component → Option Next → Option Next
all_behind [] n = n
all_behind (p ∷ ps) n = behind p (all_behind ps n)

behind_last : (ps : List Component) (p : Component) (n : Option Next) → all_behind (ps ++ p ∷ []) n ≡ all_behind ps (behind p n)
behind_last [] p n = refl
behind_last (q ∷ ps) p n = ap (behind q) (behind_last ps p n)

behind_some : (ps : List Component) (n : Next) → all_behind ps (Some n) ≡ Some (record { component = n.component; class = n.class; others = ps ++ n.others })
behind_some [] n = refl
behind_some (p ∷ ps) n = ap (behind p) (behind_some ps n)

behind_none : (ps : List Component) → all_behind ps None ≡ None
behind_none [] = refl
behind_none (p ∷ ps) = ap (behind p) (behind_none ps)

module _ (first : ℕ → ℕ) (xs : List ℕ) (marks : List Bool) (on : AreOn (map first xs) marks) where
  abbrev go : Chosen → List Component → Chosen
  go chosen ps = fold (with_component first marks) chosen ps

  -- what follows a choice stays
  after : (n : Candidate) (others ps : List Component) → go (record { next = Some n; others = others }) ps ≡ record { next = Some n; others = others ++ ps }
  after n others [] = ap (λ (ps : List Component). record { next = Some n; others = ps }) (sym (append-nil others))
  after n others (p ∷ ps) = after n (others ++ p ∷ []) ps ∙ ap (λ (qs : List Component). record { next = Some n; others = qs }) (append_assoc others (p ∷ []) ps)

  one : (o : Option ℕ) (others : List Component) (p : Component) (ps : List Component) →
      ((others : List Component) → chosen_next (go (not_chosen others) ps) ≡ all_behind others (next_of first xs ps)) → chosen_next (go (if_shared others p o) ps) ≡ all_behind others (next_if p ps (next_of first xs ps) o)
  one (Some class) others p ps h =
      ap chosen_next (after (record { component = p; class = class }) others ps) ∙ sym (behind_some others (record { component = p; class = class; others = ps }))
  one None others p ps h = h (others ++ p ∷ []) ∙ behind_last others p (next_of first xs ps)

  before : (others ps : List Component) → chosen_next (go (not_chosen others) ps) ≡ all_behind others (next_of first xs ps)
  before others [] = sym (behind_none others)
  before others (p ∷ ps) =
      ap (λ (o : Option ℕ). chosen_next (go (if_shared others p o) ps)) (marked_is first xs marks on p.columns)
      ∙ one (shared_class first xs p.columns) others p ps (λ (qs : List Component). before qs ps)

  pub next_is : (ps : List Component) (chosen : Chosen) → chosen ≡ go (not_chosen []) ps → chosen_next chosen ≡ next_of first xs ps
  next_is ps chosen is = ap chosen_next is ∙ before [] ps
