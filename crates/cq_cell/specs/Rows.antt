-- What the roots of several cells do for one session: each gives its pass out, and takes it back.
use Rattle.std.specs.Prelude.{◌≡◌, ◌≢◌, ℕ, List, [], true, false}
use Rattle.atomic_table.specs.Seated.{TableId}
use Rattle.cq_cell.specs.declared.view.Key.{Key}
use Rattle.cq_cell.specs.declared.passes.Pass.{Pass}
use Rattle.cq_cell.specs.Cell.{less, pass, both}
use Rattle.cq_cell.specs.Lists.{numbers, EachOwn}
use Rattle.cq_cell.specs.Many.{IsHistory}
use Rattle.cq_cell.specs.Turn.{IsAt, Rests}

module _ {X N : Type 0} where
  -- the root of a cell, which has a pass left to give out
  pub record MayGive (c : TableId × Key X) (root : Pass X N) : Type 0 where
    pub at : IsAt c.0 root.place
    pub live : root.place.me.0.live ≡ true
    pub is_root : root.place.me.0.root ≡ true
    pub filled : root.place.me.0.fresh ≡ false
    pub still : root.place.me.0.turn ≡ false
    pub some : root.place.me.0.left ≢ []

  -- it gave its next pass out
  pub record Gives (number : ℕ) (old new p : Pass X N) : Type 0 where
    pub table : new.place.table_id ≡ old.place.table_id
    pub me : new.place.me ≡ (less old.place.me.0, old.place.me.1)
    pub numbered : p.number ≡ number
    pub there : p.place.table_id ≡ old.place.table_id
    pub given : p.place.me ≡ (pass old.place.me.0, [])

  -- the root of a cell, which can take this pass back
  pub record MayTake (c : TableId × Key X) (root p : Pass X N) : Type 0 where
    pub at : IsAt c.0 root.place
    pub live : root.place.me.0.live ≡ true
    pub is_root : root.place.me.0.root ≡ true
    pub there : IsAt c.0 p.place
    pub rests : Rests p.place

  -- it took the pass back
  pub record Takes (old new p : Pass X N) : Type 0 where
    pub table : new.place.table_id ≡ old.place.table_id
    pub me : new.place.me ≡ (both old.place.me.0 p.place.me.0, old.place.me.1)

  -- the root of a cell, to which the passes of these of its sessions came back
  pub record IsJoined (sessions back : List ℕ) (c : TableId × Key X) (root : Pass X N) : Type 0 where
    pub at : IsAt c.0 root.place
    pub all : c.1.sessions.value.items ≡ sessions
    pub live : root.place.me.0.live ≡ true
    pub is_root : root.place.me.0.root ≡ true
    pub filled : root.place.me.0.fresh ≡ false
    pub still : root.place.me.0.turn ≡ false
    pub ended : numbers root.place.me.0.ended ≡ back

  -- a value that came back from its cell, with the root
  pub record IsClosed (who : N → ℕ) (stands : X → X → List N → Type 0) (c : TableId × Key X) (root : Pass X N) (value : X) : Type 0 where
    pub history : IsHistory who stands c value root.place.me.0.news
    pub each : EachOwn who root.place.me.0.news root.place.me.0.ended
