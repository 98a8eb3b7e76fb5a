-- The stores of a group, by the notes of their failures.
use Rattle.std.proofs.Common.{◌≡◌, ◌≤◌, inl, inr, ℕ, true, false, List, [], ◌∷◌, ◌++◌, refl, sym, ◌∙◌, ap, subst, arith, eq-eqb}
use Rattle.std.specs.Prelude.{IsTrue, ⊤}
use Rattle.std.specs.List.{AllByRecursion, AllZip, flat_map}
use Rattle.std.proofs.lemmas.Bool.Decides.{eqb_tells}
use Rattle.cq_value.proofs.Lists.{all_weaker}
use Rattle.cq_tree.specs.declared.failure.StoreFailure.{StoreFailure}
use Rattle.cq_tree.specs.declared.journal.Who.{Who}
use Rattle.cq_answer.specs.declared.answer.Answer.TheVariants as answer
use Rattle.cq_answer.specs.declared.fault.Fault.TheVariants as fault
use Rattle.cq_store.specs.Stores.{StoreState, Rose}
use Rattle.cq_history.specs.Faults.{Range, Climbs, range_in}
use Rattle.cq_history.specs.Laws.{StoreGoesOn}
use Rattle.cq_group.specs.Calls.{GoesOn, Lifted, SomeZip, Failed}
use Rattle.cq_cluster.proofs.AnswerLaws.{IsOther, AreKeyed}
use Rattle.cq_block_accounts.proofs.Blocks.{climbs_from}
use Rattle.cq_block_accounts.proofs.Staying.{CutsNone}
use Rattle.cq_block_accounts.proofs.Parts.{IsPart}
use Rattle.cq_shared.specs.declared.note.Note.{Note}
use Rattle.cq_shared.specs.declared.note.Note.TheVariants as note
use Rattle.cq_shared.specs.Notes.{Went}

-- ---- climbing

rises : (low from to : ℕ) → low ≤ from → Rose from to → low ≤ to
rises low from to l (inl up) = omega (arith, l, up)
rises low from to l (inr full) = (let f = full.0 in let t = full.1 in omega (arith, l, f, t))

-- some ranges of those that climb do
pub climbs_part : (low : ℕ) (xs ys : List Range) (n : ℕ) → IsPart xs ys → Climbs low ys n → Climbs low xs n
climbs_part low xs [] n p h = subst (λ v. Climbs low v n) (sym p) h
climbs_part low xs (y ∷ ys) n (inl p) h = climbs_from low y.1 xs n (rises low y.0 y.1 h.0 h.1) (climbs_part y.1 xs ys n p h.2)
climbs_part low xs (y ∷ ys) n (inr p) h = subst (λ v. Climbs low v n) (sym p.1) (h.0, h.1, climbs_part y.1 p.0 ys n p.2 h.2)

-- ---- one store

-- the range of a note that names the store of this shard on this node
abbrev pub noted_in : ℕ → ℕ → Note → List Range
noted_in node shard (note.Entered e) = []
noted_in node shard (note.Failed who failure) = range_in node shard (answer.Failed (fault.Worker failure))

abbrev pub ranges_noted : ℕ → ℕ → List Note → List Range
ranges_noted node shard notes = flat_map (noted_in node shard) notes

-- what notes tell of a store from their beginning to their end
pub record NotesTell (notes : List Note) (s t : StoreState) : Type 0 where
  pub on : StoreGoesOn s t
  pub climbs : Climbs s.faults (ranges_noted s.node s.shard notes) t.faults
  pub steady : IsTrue s.steady → ranges_noted s.node s.shard notes ≡ []

stays_on : (s t : StoreState) → GoesOn s t → StoreGoesOn s t
stays_on s t on = record {
  node = ap (λ (v : StoreState). v.node) on.state;
  shard = ap (λ (v : StoreState). v.shard) on.state;
  steady = ap (λ (v : StoreState). v.steady) on.state;
  counts = on.counts;
}

on_again : (s m t : StoreState) → StoreGoesOn s m → StoreGoesOn m t → StoreGoesOn s t
on_again s m t h k = record { node = k.node ∙ h.node; shard = k.shard ∙ h.shard; steady = k.steady ∙ h.steady; counts = (let a = h.counts in let b = k.counts in omega (arith, a, b)) }

same_ranges : (notes : List Note) (s m : StoreState) → StoreGoesOn s m → ranges_noted m.node m.shard notes ≡ ranges_noted s.node s.shard notes
same_ranges notes s m on = λ i. ranges_noted (on.node i) (on.shard i) notes

not_named : (f : StoreFailure) (s : StoreState) → (f.node ≡ s.node → f.shard ≡ s.shard → ⊥) → range_in s.node s.shard (answer.Failed (fault.Worker f)) ≡ []
not_named f s apart = elim (eqb_tells f.node s.node) [
  | inl y ↦ elim (eqb_tells f.shard s.shard) [ inl z ↦ absurd (apart y.1 z.1) | inr z ↦ rw (y.0, z.0) refl ]
  | inr y ↦ rw y.0 refl
]

named : (f : StoreFailure) (s : StoreState) → s.node ≡ f.node → s.shard ≡ f.shard → range_in s.node s.shard (answer.Failed (fault.Worker f)) ≡ (f.before, f.after) ∷ []
named f s a b = rw (eq-eqb f.node s.node (sym a), eq-eqb f.shard s.shard (sym b)) refl

module _ (who : Who) (f : StoreFailure) (notes : List Note) (s m t : StoreState) (on : GoesOn s m) (tells : NotesTell notes m t) where
  abbrev first : List Range
  first = range_in s.node s.shard (answer.Failed (fault.Worker f))

  abbrev more : List Range
  more = ranges_noted s.node s.shard notes

  later : Climbs m.faults more t.faults
  later = subst (λ v. Climbs m.faults v t.faults) (same_ranges notes s m (stays_on s m on)) tells.climbs

  one_fails : Failed f s m → NotesTell (note.Failed who f ∷ notes) s t
  one_fails h = record {
    on = on_again s m t (stays_on s m on) tells.on;
    climbs = subst (λ v. Climbs s.faults (v ++ more) t.faults) (sym (named f s h.of_node h.of_shard)) (h.from, h.rose, climbs_from f.after m.faults more t.faults h.to later);
    steady = λ k. absurd (let bad : false ≡ true = subst IsTrue h.unsteady k in cc bad);
  }

  one_stays : first ≡ [] → NotesTell (note.Failed who f ∷ notes) s t
  one_stays none = record {
    on = on_again s m t (stays_on s m on) tells.on;
    climbs = subst (λ v. Climbs s.faults (v ++ more) t.faults) (sym none) (climbs_from s.faults m.faults more t.faults on.counts later);
    steady = λ k. ap (λ v. v ++ more) none ∙ sym (same_ranges notes s m (stays_on s m on)) ∙ tells.steady (subst IsTrue (sym (stays_on s m on).steady) k);
  }

-- ---- the stores of a group

-- what is so of the id of each shard that failed
abbrev pub IsOfFailed : (ℕ → Type 0) → Note → Type 0
IsOfFailed P (note.Entered e) = ⊤
IsOfFailed P (note.Failed who f) = P f.shard

module _ {X : Type 0} (state : X → StoreState) where
  other_on : (x u : X) (ys vs : List X) → Lifted state GoesOn x u → AllZip (Lifted state GoesOn) ys vs → AllByRecursion (IsOther state x) ys → AllByRecursion (IsOther state u) vs
  other_on x u [] [] on all other = tt
  other_on x u [] (v ∷ vs) on all other = absurd all
  other_on x u (y ∷ ys) [] on all other = absurd all
  other_on x u (y ∷ ys) (v ∷ vs) on all other = (
    (λ a b.
        let k = stays_on (state x) (state u) on in
        let l = stays_on (state y) (state v) all.0 in
        other.0 (sym k.node ∙ a ∙ l.node) (sym k.shard ∙ b ∙ l.shard)),
    other_on x u ys vs on all.1 other.1,
  )

  keyed_on : (xs ys : List X) → AllZip (Lifted state GoesOn) xs ys → AreKeyed state xs → AreKeyed state ys
  keyed_on [] [] all keyed = tt
  keyed_on [] (y ∷ ys) all keyed = absurd all
  keyed_on (x ∷ xs) [] all keyed = absurd all
  keyed_on (x ∷ xs) (y ∷ ys) all keyed = (other_on x y xs ys all.0 all.1 keyed.0, keyed_on xs ys all.1 keyed.1)

  abbrev AreTold : List Note → List X → List X → Type 0
  AreTold notes xs ys = AllZip (λ x y. NotesTell notes (state x) (state y)) xs ys

  at_first : (xs ys : List X) → AllZip (Lifted state GoesOn) xs ys → AreTold [] xs ys
  at_first [] [] all = tt
  at_first [] (y ∷ ys) all = absurd all
  at_first (x ∷ xs) [] all = absurd all
  at_first (x ∷ xs) (y ∷ ys) all = (record { on = stays_on (state x) (state y) all.0; climbs = all.0.counts; steady = λ k. refl }, at_first xs ys all.1)

  module _ (who : Who) (f : StoreFailure) (notes : List Note) where
    all_stay : (xs ms ys : List X) → AllZip (Lifted state GoesOn) xs ms → AreTold notes ms ys → AllByRecursion (λ x. range_in (state x).node (state x).shard (answer.Failed (fault.Worker f)) ≡ []) xs → AreTold (note.Failed who f ∷ notes) xs ys
    all_stay [] [] [] on told none = tt
    all_stay [] [] (y ∷ ys) on told none = absurd told
    all_stay [] (m ∷ ms) ys on told none = absurd on
    all_stay (x ∷ xs) [] ys on told none = absurd on
    all_stay (x ∷ xs) (m ∷ ms) [] on told none = absurd told
    all_stay (x ∷ xs) (m ∷ ms) (y ∷ ys) on told none = (one_stays who f notes (state x) (state m) (state y) on.0 told.0 none.0, all_stay xs ms ys on.1 told.1 none.1)

    -- a store isn't named by the failure of one from which it differs
    apart : (x : X) (xs ms : List X) → AllByRecursion (IsOther state x) xs → SomeZip (Lifted state (Failed f)) xs ms → f.node ≡ (state x).node → f.shard ≡ (state x).shard → ⊥
    apart x [] ms other some p q = some
    apart x (z ∷ zs) [] other some p q = some
    apart x (z ∷ zs) (m ∷ ms) other some p q = elim some [ inl h ↦ other.0 (sym p ∙ sym h.of_node) (sym q ∙ sym h.of_shard) | inr later ↦ apart x zs ms other.1 later p q ]

    some_fails : (xs ms ys : List X) → AllZip (Lifted state GoesOn) xs ms → AreTold notes ms ys → AreKeyed state xs → SomeZip (Lifted state (Failed f)) xs ms → AreTold (note.Failed who f ∷ notes) xs ys
    some_fails [] ms ys on told keyed some = absurd some
    some_fails (x ∷ xs) [] ys on told keyed some = absurd some
    some_fails (x ∷ xs) (m ∷ ms) [] on told keyed some = absurd told
    some_fails (x ∷ xs) (m ∷ ms) (y ∷ ys) on told keyed some = elim some [
      | inl h ↦ (
        one_fails who f notes (state x) (state m) (state y) on.0 told.0 h,
        all_stay xs ms ys on.1 told.1 (all_weaker (IsOther state x) (λ z. range_in (state z).node (state z).shard (answer.Failed (fault.Worker f)) ≡ []) (λ z other. not_named f (state z) (λ p q. other (h.of_node ∙ p) (h.of_shard ∙ q))) xs keyed.0),
      )
      | inr later ↦ (one_stays who f notes (state x) (state m) (state y) on.0 told.0 (not_named f (state x) (apart x xs ms keyed.0 later)), some_fails xs ms ys on.1 told.1 keyed.1 later)
    ]

  -- stores that became others over notes with no cutover among them
  pub notes_tell : (notes : List Note) (xs ys : List X) → AllByRecursion CutsNone notes → AreKeyed state xs → Went state xs notes ys → AllZip (λ x y. NotesTell notes (state x) (state y)) xs ys
  notes_tell [] xs ys none keyed went = at_first xs ys went
  notes_tell (note.Entered e ∷ notes) xs ys none keyed went =
      entered xs ys (notes_tell notes xs ys none.1 keyed (subst (λ v. Went state v notes ys) (went.1 none.0) went.2))
    where
      entered : (us vs : List X) → AreTold notes us vs → AreTold (note.Entered e ∷ notes) us vs
      entered [] [] told = tt
      entered [] (v ∷ vs) told = absurd told
      entered (u ∷ us) [] told = absurd told
      entered (u ∷ us) (v ∷ vs) told = (record { on = told.0.on; climbs = told.0.climbs; steady = told.0.steady }, entered us vs told.1)
  notes_tell (note.Failed who f ∷ notes) xs ys none keyed went =
      some_fails who f notes xs went.0 ys went.1 (notes_tell notes went.0 ys none.1 (keyed_on xs went.0 went.1 keyed) went.3) keyed went.2
