-- The choice of the next component, one after another.
use Rattle.std.specs.Prelude.{ℕ, List, [], ◌∷◌, ◌++◌, Bool, Option, None, Some}
use Rattle.cq_outline.specs.Joining.{Component, Next}
use Rattle.cq_strategies.specs.declared.next.Candidate.{Candidate}
use Rattle.cq_strategies.specs.declared.next.Chosen.{Chosen}
use Rattle.cq_strategies.specs.Components.{least_marked}

-- nothing is chosen
abbrev pub not_chosen : List Component → Chosen
not_chosen others = record { next = None; others = others }

abbrev pub if_shared : List Component → Component → Option ℕ → Chosen
if_shared others p (Some class) = record { next = Some (record { component = p; class = class }); others = others }
if_shared others p None = not_chosen (others ++ p ∷ [])

-- with one component more: the first that shares a marked class is chosen
abbrev pub choose : (ℕ → ℕ) → List Bool → Option Candidate → List Component → Component → Chosen
choose first marks (Some n) others p = record { next = Some n; others = others ++ p ∷ [] }
choose first marks None others p = if_shared others p (least_marked first marks p.columns)

abbrev pub with_component : (ℕ → ℕ) → List Bool → Chosen → Component → Chosen
with_component first marks chosen p = choose first marks chosen.next chosen.others p

abbrev pub choice : Option Candidate → List Component → Option Next
choice (Some n) others = Some (record { component = n.component; class = n.class; others = others })
choice None others = None

-- what is chosen
abbrev pub chosen_next : Chosen → Option Next
chosen_next chosen = choice chosen.next chosen.others
