-- What several calls of a pass to a worker add, one after the other.
use Rattle.std.specs.Prelude.{◌≡◌, ◌≢◌, ℕ, List, [], ◌++◌, replicate}
use Rattle.cq_tree.specs.declared.journal.Who.{Who}
use Rattle.cq_cell.specs.Lists.{NotIn, own}
use Rattle.cq_cell.specs.Turn.{IsSame}
use Rattle.cq_shared.specs.declared.errand.Errand.{Errand}
use Rattle.cq_shared.specs.Errands.{Bench, sent_by, give_note}

-- behind what a pass had seen stand these notes of its own, in this order, and among them what other sessions noted meanwhile
pub record SendsSome {X C : Type 0} (p : Bench X C) (notes : List Errand) (q : Bench X C) : Type 0 where
  pub more : List Errand
  pub sent : own sent_by p.me.0.number more ≡ notes
  pub others : (n : ℕ) → n ≢ p.me.0.number → NotIn n p.me.0.sessions → own sent_by n more ≡ []
  pub news : q.me.0.news ≡ p.me.0.news ++ more
  pub mine : q.me.0.mine ≡ p.me.0.mine ++ notes
  pub same : IsSame p q

-- the notes of giving so many stores
abbrev pub give_notes : Who → ℕ → List Errand
give_notes who n = replicate n (give_note who)
