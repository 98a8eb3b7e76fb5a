-- Shard groups that are held alone: a statement finds each as it is known, and may enter what it wants.
use Rattle.std.specs.Prelude.{◌≡◌, ⊤, List, Some, slice_get}
use Rattle.cq_group.specs.declared.group.GroupState.{GroupState}
use Rattle.cq_reach.specs.Seen.{all_seen}
use Rattle.cq_reach.specs.Outlook.{Outlook}

abbrev pub outlook_alone : {X : Type 0} → List (GroupState X) → Outlook
outlook_alone groups = record {
  known = all_seen groups;
  comes = λ e. ⊥;
  finds = λ g s. slice_get (all_seen groups) g ≡ Some s;
  allows = λ g kind. ⊤;
}
