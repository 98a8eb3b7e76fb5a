-- A session as it gets its passes.
use Rattle.std.specs.Prelude.{◌≡◌, ◌≤◌, ⊤, List, [], ◌∷◌, vec_len, vec_capacity}
use Rattle.cq_shared.specs.Seen.{Pass}
use Rattle.cq_shared.specs.Errands.{WorkerPass}
use Rattle.cq_block.specs.declared.drafts.SessionDrafts.{SessionDrafts}
use Rattle.cq_block.specs.declared.legality.Ground.{Ground}
use Rattle.cq_block.specs.declared.session.Session.{Session}

-- a session with its statements, and with room for their answers and for the stores that they may retire
pub record IsPrepared {X : Type 0} (one : SessionDrafts) (s : Session X) : Type 0 where
  pub number : s.number ≡ one.session
  pub drafts : s.drafts ≡ one.drafts
  pub none : s.log.items ≡ []
  pub room : vec_len s.drafts ≤ vec_capacity s.log
  pub nothing : s.hands.retired.items ≡ []
  pub space : vec_len s.drafts ≤ vec_capacity s.hands.retired

-- it got these passes to the groups and to the workers
pub record TakesSeat {X : Type 0} (s : Session X) (row : List (Pass X (Ground X))) (bench : List (WorkerPass X (Ground X))) (t : Session X) : Type 0 where
  pub number : t.number ≡ s.number
  pub drafts : t.drafts ≡ s.drafts
  pub log : t.log ≡ s.log
  pub passes : t.hands.passes.items ≡ row
  pub benches : t.hands.benches.items ≡ bench
  pub retired : t.hands.retired ≡ s.hands.retired

-- each session got its own
abbrev pub AreSeated : {X : Type 0} → List (Session X) → List (List (Pass X (Ground X))) → List (List (WorkerPass X (Ground X))) → List (Session X) → Type 0
AreSeated [] [] [] [] = ⊤
AreSeated (s ∷ ss) (row ∷ rows) (bench ∷ benches) (t ∷ ts) = TakesSeat s row bench t × AreSeated ss rows benches ts
AreSeated ss rows benches ts = ⊥
