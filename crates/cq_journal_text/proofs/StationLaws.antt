-- Who is moving a group doesn't tell where it is.
use Rattle.std.proofs.Common.{◌≡◌, ◌+◌, ◌<◌, ℕ, suc, Option, None, List, [], ◌∷◌, length, drop, get_or, refl, sym, ap, ap₂, ◌∙◌, add-one, drop-cons}
use Rattle.std.specs.Prelude.{fold}
use Rattle.cq_tree.specs.declared.journal.Who.{Who}
use Rattle.cq_tree.specs.declared.journal.Entry.{Entry}
use Rattle.cq_tree.specs.declared.journal.EntryKind.{EntryKind}
use Rattle.cq_tree.specs.declared.journal.EntryKind.TheVariants.{Read, Write, MoveStart, CatchUp, Cutover, MoveStop}
use Rattle.cq_journal.specs.Stations.{Station, moved}

abbrev pub at : ℕ → ℕ → Option Who → Station
at node target moving = record { node = node; moving = moving; target = target }

-- the node after entries, of a group that is on a node and was last on its way to another
abbrev pub node_after : Station → List Entry → ℕ
node_after s es = (fold (λ s (e : Entry). moved s e.who e.kind) s es).node

pub node_only : (es : List Entry) (node target : ℕ) (m n : Option Who) → node_after (at node target m) es ≡ node_after (at node target n) es
node_only [] node target m n = refl
node_only (e ∷ es) node target m n = by_kind e.kind (node_only es node target m n)
  where
    by_kind : (k : EntryKind) → node_after (at node target m) es ≡ node_after (at node target n) es → node_after (moved (at node target m) e.who k) es ≡ node_after (moved (at node target n) e.who k) es
    by_kind Read same = same
    by_kind (Write op reply) same = same
    by_kind (MoveStart to) same = refl
    by_kind CatchUp same = same
    by_kind Cutover same = refl
    by_kind MoveStop same = refl

pub node_step : (e : Entry) (es : List Entry) (node target n t : ℕ) → (moved (at node target None) e.who e.kind).node ≡ n → (moved (at node target None) e.who e.kind).target ≡ t →
    node_after (at node target None) (e ∷ es) ≡ node_after (at n t None) es
node_step e es node target n t p q =
    let s = moved (at node target None) e.who e.kind in
    node_only es s.node s.target s.moving None ∙ ap₂ (λ a b. node_after (at a b None) es) p q

-- one more entry of those that are left
pub node_more : (es : List Entry) (i : ℕ) (e : Entry) (node target n t : ℕ) (whole : ℕ) → i < length es → e ≡ get_or es i e → (moved (at node target None) e.who e.kind).node ≡ n →
    (moved (at node target None) e.who e.kind).target ≡ t → node_after (at node target None) (drop i es) ≡ whole → node_after (at n t None) (drop (i + 1) es) ≡ whole
node_more es i e node target n t whole within is p q h =
    let front : drop i es ≡ e ∷ drop (i + 1) es = rw (add-one) (drop-cons es i e within ∙ ap (λ z. z ∷ drop (suc i) es) (sym is)) in
    sym (node_step e (drop (i + 1) es) node target n t p q) ∙ ap (node_after (at node target None)) (sym front) ∙ h
