-- A session's passes to workers, as one of them was called.
use Rattle.std.proofs.Common.{◌≡◌, ◌≢◌, inl, inr, ℕ, zero, suc, ◌+◌, ◌-◌, ◌<◌, ◌≤◌, List, [], ◌∷◌, ◌++◌, length, map, refl, sym, ap, ◌∙◌, subst, arith, Some, slice_get, get_or, Result, Ok, Err, if◌then◌else◌, eq-eqb, ne_eqb}
use Rattle.std.specs.Prelude.{All}
use Rattle.std.proofs.Math.ListN.{set}
use Rattle.std.proofs.lemmas.List.{length-set, append-nil}
use Rattle.std.proofs.lemmas.Bool.Decides.{eqb_tells}
use Rattle.std.proofs.lemmas.List.Elements.{All-head, All-tail}
use Rattle.std.proofs.lemmas.List.Sums.{sum_by-append}
use Rattle.std.proofs.lemmas.Option.{same_Some}
use Rattle.std.specs.List.{AllZip, AllByRecursion}
use Rattle.atomic_table.specs.Seated.{TableId}
use Rattle.cq_tree.specs.declared.journal.Who.{Who}
use Rattle.cq_store.specs.Stores.{StoreState}
use Rattle.cq_cell.specs.Turn.{IsAt, Rests, IsSame}
use Rattle.cq_reach.proofs.Growth.{got_at, got_below, set_there, set_beside}
use Rattle.cq_shared.specs.declared.errand.Errand.{Errand}
use Rattle.cq_shared.specs.Terms.{Terms}
use Rattle.cq_shared.specs.Errands.{Bench, WorkerPass, HasKept, GivesOwed, SteadyAt, node_in, gaves, owed, take_notes, room_notes, gave_in, owed_in}
use Rattle.cq_shared.specs.Stocks.{SendsSome, give_notes}
use Rattle.cq_shared.proofs.Errands.{may_take, may_room}
use Rattle.cq_shared.proofs.Stocks.{sends_none, give_owed, give_gaves}
use Rattle.cq_move_laws.specs.Notes.{at_node}
use Rattle.cq_block_move.specs.Benches.{BenchesSend, IsThere, SteadyOn}
use Rattle.cq_block_move.specs.Hands.{IsOwn, AreReady}

-- ---- lists

-- the item at a place is beside the one that is read there
zip_read : {A B D : Type 0} (R : D → B → Type 0) (f : A → D) (xs : List A) (ys : List B) (k : ℕ) (x : A) (y : B) → AllZip R (map f xs) ys → slice_get ys k ≡ Some y → x ≡ get_or xs k x → R (f x) y
zip_read R f [] [] k x y h e is = absurd (cc e)
zip_read R f [] (b ∷ ys) k x y h e is = absurd h
zip_read R f (a ∷ xs) [] k x y h e is = absurd h
zip_read R f (a ∷ xs) (b ∷ ys) zero x y h e is = subst (λ z. R (f z) y) (sym is) (subst (R (f a)) (same_Some b y e) h.0)
zip_read R f (a ∷ xs) (b ∷ ys) (suc k) x y h e is = zip_read R f xs ys k x y h.1 e is

-- one item is set
zip_set : {A B : Type 0} (R : A → B → Type 0) (xs : List A) (ys : List B) (k : ℕ) (y z : B) → AllZip R xs ys → slice_get ys k ≡ Some y → ((x : A) → R x y → R x z) → AllZip R xs (set ys k z)
zip_set R [] [] k y z h e f = absurd (cc e)
zip_set R [] (b ∷ ys) k y z h e f = absurd h
zip_set R (x ∷ xs) [] k y z h e f = absurd h
zip_set R (x ∷ xs) (b ∷ ys) zero y z h e f = (f x (subst (R x) (same_Some b y e) h.0), h.1)
zip_set R (x ∷ xs) (b ∷ ys) (suc k) y z h e f = (h.0, zip_set R xs ys k y z h.1 e f)

zip_long : {A B D : Type 0} (R : D → B → Type 0) (f : A → D) (xs : List A) (ys : List B) → AllZip R (map f xs) ys → length ys ≡ length xs
zip_long R f [] [] h = refl
zip_long R f [] (y ∷ ys) h = absurd h
zip_long R f (x ∷ xs) [] h = absurd h
zip_long R f (x ∷ xs) (y ∷ ys) h = ap suc (zip_long R f xs ys h.1)

-- what holds by places holds of each item
pub each_of : {A : Type 0} (P Q : A → Type 0) (xs : List A) → ((x : A) → P x → Q x) → All P xs → AllByRecursion Q xs
each_of P Q [] f h = tt
each_of P Q (x ∷ xs) f h = (f x (All-head P x xs h), each_of P Q xs f (All-tail P x xs h))

-- ---- notes at nodes

pub at_here : (node : ℕ) (notes : List Errand) (at : ℕ) → at + 1 ≡ node → at_node node notes at ≡ notes
at_here node notes at e = ap (λ b. if b then notes else []) (eq-eqb (at + 1) node e)

pub at_other : (node : ℕ) (notes : List Errand) (at : ℕ) → at + 1 ≢ node → at_node node notes at ≡ []
at_other node notes at n = ap (λ b. if b then notes else []) (ne_eqb (at + 1) node n)

-- ---- passes

pub up : (node : ℕ) → node ≢ 0 → (node - 1) + 1 ≡ node
up zero some = absurd (some refl)
up (suc n) some = omega arith

module _ {X C : Type 0} where
  -- a pass with another place
  abbrev pub turned : WorkerPass X C → Bench X C → WorkerPass X C
  turned p q = record { place = q; number = p.number }

  module _ (node : ℕ) (passes : List (WorkerPass X C)) (is : IsThere node passes) (p : WorkerPass X C) where
    -- the pass that a call takes
    pub here : p ≡ get_or passes (node - 1) p → slice_get passes (node - 1) ≡ Some p
    here read = got_at passes (node - 1) p (got_below passes (node - 1) is.pass is.there) read

    pub on_node : slice_get passes (node - 1) ≡ Some p → node_in p.place.me.0.origin ≡ node
    on_node there = subst (λ (q : WorkerPass X C). node_in q.place.me.0.origin ≡ node) (same_Some is.pass p (sym is.there ∙ there)) is.on

  pub steady_on : (terms : C → Terms) (node : ℕ) (passes : List (WorkerPass X C)) (p : WorkerPass X C) → slice_get passes (node - 1) ≡ Some p → (k : ℕ) → SteadyAt terms p.place k → SteadyOn terms node passes k
  steady_on terms node passes p there k h q e = subst (λ (r : WorkerPass X C). SteadyAt terms r.place k) (same_Some p q (sym there ∙ e)) h

module _ {X C : Type 0} (state : X → StoreState) (terms : C → Terms) {A : Type 0} (f : A → TableId) (cells : List A) (sessions : List ℕ) (session : ℕ) (passes : List (WorkerPass X C)) (ready : AreReady state terms (map f cells) sessions session passes) where
  -- there are as many cells
  pub cells_long : length passes ≡ length cells
  cells_long = zip_long (λ (z : TableId) (p : WorkerPass X C). IsAt z p.place) f cells passes ready.at

  module _ (k : ℕ) (p : WorkerPass X C) (there : slice_get passes k ≡ Some p) where
    pub low_pass : k < length passes
    low_pass = got_below passes k p there

    pub low_cell : k < length cells
    low_cell = let low = low_pass in let long = cells_long in omega (arith, low, long)

    -- the pass at a place is at the cell that is read there
    pub at_cell : (c : A) → c ≡ get_or cells k c → IsAt (f (get_or cells k c)) p.place
    at_cell c is = subst (λ (a : A). IsAt (f a) p.place) is (zip_read (λ (z : TableId) (q : WorkerPass X C). IsAt z q.place) f cells passes k c p ready.at there is)

    -- the passes are ready again
    pub again : (q : WorkerPass X C) → IsSame p.place q.place → Rests q.place → HasKept state terms q.place → GivesOwed q.place.me.0.mine → AreReady state terms (map f cells) sessions session (set passes k q)
    again q same rests kept right =
        let o = ready.own k p there in record {
          at = zip_set (λ (z : TableId) (r : WorkerPass X C). IsAt z r.place) (map f cells) passes k p q ready.at there (λ z h. (same.0 ∙ h.0, h.1));
          own = λ at r e. elim (eqb_tells at k) [
            | inl y ↦
                subst (λ (s : WorkerPass X C). IsOwn state terms sessions session s.place) (same_Some q r (sym (set_there passes k q low_pass) ∙ subst (λ j. slice_get (set passes k q) j ≡ Some r) y.1 e))
                (record { rests = rests; numbered = o.numbered ∙ sym same.3; block = same.4 ∙ o.block; kept = kept; right = right })
            | inr n ↦ ready.own at r (sym (set_beside passes k at q n.1) ∙ e)
          ];
        }

module _ {X C : Type 0} (passes : List (WorkerPass X C)) (k : ℕ) (p : WorkerPass X C) (there : slice_get passes k ≡ Some p) (q : WorkerPass X C) where
  -- what was noted by the pass
  pub sends_at : (node : ℕ) (notes : List Errand) → k + 1 ≡ node → SendsSome p.place notes q.place → BenchesSend (at_node node notes) passes (set passes k q)
  sends_at node notes is sends = record {
    count = length-set passes k q;
    each = λ at a b e h. elim (eqb_tells at k) [
      | inl y ↦
          let first : p ≡ a = same_Some p a (sym there ∙ subst (λ j. slice_get passes j ≡ Some a) y.1 e) in
          let last : q ≡ b = same_Some q b (sym (set_there passes k q (got_below passes k p there)) ∙ subst (λ j. slice_get (set passes k q) j ≡ Some b) y.1 h) in
          let here : at_node node notes at ≡ notes = at_here node notes at (ap (λ j. j + 1) y.1 ∙ is) in
          subst (λ (ns : List Errand). SendsSome a.place ns b.place) (sym here) (subst (λ (r : WorkerPass X C). SendsSome a.place notes r.place) last (subst (λ (r : WorkerPass X C). SendsSome r.place notes q.place) first sends))
      | inr n ↦
          let same : a ≡ b = same_Some a b (sym e ∙ (sym (set_beside passes k at q n.1) ∙ h)) in
          let none : at_node node notes at ≡ [] = at_other node notes at (λ (j : at + 1 ≡ node). n.1 (omega (arith, j, is))) in
          subst (λ (ns : List Errand). SendsSome a.place ns b.place) (sym none) (subst (λ (r : WorkerPass X C). SendsSome a.place [] r.place) same (sends_none a.place))
    ];
  }

-- ---- what a session gave is no more than it may

pub take_right : {V E : Type 0} (l mine : List Errand) (who : Who) (n : ℕ) (r : Result V E) → mine ≡ l ++ take_notes who n r → GivesOwed l → GivesOwed mine
take_right l mine who n (Ok v) e h = subst GivesOwed (sym e) (may_take l who n h)
take_right l mine who n (Err f) e h = subst GivesOwed (sym (e ∙ append-nil l)) h

pub room_right : {V E : Type 0} (l mine : List Errand) (who : Who) (n : ℕ) (r : Result V E) → mine ≡ l ++ room_notes who n r → GivesOwed l → GivesOwed mine
room_right l mine who n (Ok v) e h = subst GivesOwed (sym e) (may_room l who n h)
room_right l mine who n (Err f) e h = subst GivesOwed (sym (e ∙ append-nil l)) h

pub give_right : (l mine : List Errand) (who : Who) (n : ℕ) → mine ≡ l ++ give_notes who n → gaves l + n ≤ owed l → GivesOwed mine
give_right l mine who n e h =
    let a = sum_by-append gave_in l (give_notes who n) in
    let b = sum_by-append owed_in l (give_notes who n) in
    let x = give_gaves who n in
    let y = give_owed who n in
    subst GivesOwed (sym e) (omega (arith, a, b, x, y, h))
