-- What a move noted at the workers, as its session knows it.
use Rattle.std.proofs.Common.{◌≡◌, ◌⊎◌, inl, inr, ℕ, zero, suc, ◌-◌, ◌<◌, ◌≤◌, List, [], ◌∷◌, ◌++◌, length, refl, sym, ap, ◌∙◌, subst, arith, append_assoc, Option, Some, None, slice_get}
use Rattle.cq_tree.specs.declared.journal.Who.{Who}
use Rattle.cq_history.specs.Run.{Run}
use Rattle.cq_cell.specs.Lists.{StartsWith, own}
use Rattle.cq_reach.proofs.Growth.{got, got_below}
use Rattle.cq_shared.specs.declared.errand.Errand.{Errand}
use Rattle.cq_shared.specs.declared.errand.Errand.TheVariants as errand
use Rattle.cq_shared.specs.Errands.{WorkerPass, sent_by}
use Rattle.cq_shared.specs.Stocks.{SendsSome, give_notes}
use Rattle.cq_block_laws.specs.Serving.{Opening, WereFree}
use Rattle.cq_block_laws.specs.Sessions.{AreFree, errands_by, news_of}
use Rattle.cq_move_laws.specs.Notes.{Notes, NotesNothing, TakesAndGives, at_node}
use Rattle.cq_move_laws.proofs.Noting.{free_is_found}
use Rattle.cq_block_move.specs.Benches.{AreUnsent, BenchesSend}
use Rattle.cq_block_move.specs.Moves.{FindsFree, exchanging}
use Rattle.cq_block_move.proofs.Calling.{at_other}

-- ---- lists

none_from : {A : Type 0} (xs : List A) (k : ℕ) → length xs ≤ k → slice_get xs k ≡ None
none_from [] k far = refl
none_from (x ∷ xs) zero far = absurd (omega (arith, far))
none_from (x ∷ xs) (suc k) far = none_from xs k (omega (arith, far))

far_from : {A : Type 0} (xs : List A) (k : ℕ) → slice_get xs k ≡ None → length xs ≤ k
far_from [] k none = omega arith
far_from (x ∷ xs) zero none = absurd (let bad : Some x ≡ None = none in cc bad)
far_from (x ∷ xs) (suc k) none = let low = far_from xs k none in omega (arith, low)

none_far : (node : ℕ) (notes : List Errand) (n at : ℕ) → node ≤ n → n ≤ at → at_node node notes at ≡ []
none_far node notes n at low far = at_other node notes at (λ e. absurd (omega (arith, e, low, far)))

-- ---- the notes

module _ {X C : Type 0} where
  -- the passes are of this session
  abbrev pub AreBenchesOf : ℕ → List (WorkerPass X C) → Type 0
  AreBenchesOf session benches = (at : ℕ) (p : WorkerPass X C) → slice_get benches at ≡ Some p → session ≡ p.place.me.0.number

  -- what was noted at the workers, and nothing where there is none
  pub notes_known : (session : ℕ) (ours : ℕ → List Errand) (old new : List (WorkerPass X C)) → BenchesSend ours old new → AreBenchesOf session old → ((at : ℕ) → length old ≤ at → ours at ≡ []) → (at : ℕ) →
      Notes session (ours at) (errands_by old at) (errands_by new at)
  notes_known session ours old new sends by none at = by_place (slice_get old at) refl
    where
      by_place : (v : Option (WorkerPass X C)) → slice_get old at ≡ v → Notes session (ours at) (errands_by old at) (errands_by new at)
      by_place None e =
          let far = far_from old at e in
          let long = sends.count in
          let last : slice_get new at ≡ None = none_from new at (omega (arith, far, long)) in
          record { more = []; all = ap news_of last ∙ ap (λ (v : Option (WorkerPass X C)). news_of v ++ []) (sym e); its = sym (none at far) }
      by_place (Some p) e =
          let low = got_below old at p e in
          let long = sends.count in
          let q = got new at (omega (arith, low, long)) in
          let s = sends.each at p q.0 e q.1 in
          record { more = s.more; all = ap news_of q.1 ∙ s.news ∙ ap (λ (v : Option (WorkerPass X C)). news_of v ++ s.more) (sym e); its = ap (λ n. own sent_by n s.more) (by at p e) ∙ s.sent }

  pub nothing_known : (session : ℕ) (old new : List (WorkerPass X C)) → BenchesSend (λ at. []) old new → AreBenchesOf session old → NotesNothing session (errands_by old) (errands_by new)
  nothing_known session old new sends by = notes_known session (λ at. []) old new sends by (λ at far. refl)

  -- the same notes within the list, said otherwise
  sends_within : (a b : ℕ → List Errand) (old new : List (WorkerPass X C)) → ((at : ℕ) → at < length old → a at ≡ b at) → BenchesSend a old new → BenchesSend b old new
  sends_within a b old new e h = record { count = h.count; each = λ at p q f g. subst (λ (l : List Errand). SendsSome p.place l q.place) (e at (got_below old at p f)) (h.each at p q f g) }

  module _ (who : Who) (n to given node : ℕ) (old new : List (WorkerPass X C)) (by : AreBenchesOf who.session old) (low : to ≤ length old) (few : node ≤ length old) where
    abbrev parts : ℕ → ℕ → List Errand
    parts room at = at_node to (errand.Took who n ∷ []) at ++ (at_node room (errand.Room who n ∷ []) at ++ at_node node (give_notes who given) at)

    within : (room : ℕ) → room ≤ length old → BenchesSend (parts room) old new → TakesAndGives who n to given node (errands_by old) (errands_by new)
    within room small sends = record {
      room = room;
      notes = notes_known who.session (parts room) old new sends by (λ at far i.
          none_far to (errand.Took who n ∷ []) (length old) at low far i ++ (none_far room (errand.Room who n ∷ []) (length old) at small far i ++ none_far node (give_notes who given) (length old) at few far i));
    }

    flat : (room at : ℕ) → exchanging who n to room given node at ≡ parts room at
    flat room at = append_assoc (at_node to (errand.Took who n ∷ []) at) (at_node room (errand.Room who n ∷ []) at) (at_node node (give_notes who given) at)

    -- stores were taken, and given
    pub takes_known : (room : ℕ) → BenchesSend (exchanging who n to room given node) old new → TakesAndGives who n to given node (errands_by old) (errands_by new)
    takes_known room sends = elim (small_or room (length old)) [
      | inl small ↦ within room small (sends_within (exchanging who n to room given node) (parts room) old new (λ at h. flat room at) sends)
      | inr large ↦
          within 0 (omega arith) (sends_within (exchanging who n to room given node) (parts 0) old new (λ at h.
          flat room at
          ∙ ap (λ (l : List Errand). at_node to (errand.Took who n ∷ []) at ++ (l ++ at_node node (give_notes who given) at))
          (at_other room (errand.Room who n ∷ []) at (λ e. absurd (omega (arith, e, h, large))) ∙ sym (at_other 0 (errand.Room who n ∷ []) at (λ e. absurd (omega (arith, e))))))
          sends)
    ]
      where
        small_or : (a b : ℕ) → (a ≤ b) ⊎ (b < a)
        small_or zero b = inl (omega arith)
        small_or (suc a) zero = inr (omega arith)
        small_or (suc a) (suc b) = elim (small_or a b) [ inl h ↦ inl (omega (arith, h)) | inr h ↦ inr (omega (arith, h)) ]

  -- ---- what it found

  -- so many stores were spare as the statement came to a worker of the run
  pub were_free : (run : Run) (o : Opening) (who : Who) (to free : ℕ) (ours : ℕ → List Errand) (old mid new : List (WorkerPass X C)) → FindsFree to free old mid → BenchesSend ours mid new → AreUnsent who old → AreFree run o old → AreBenchesOf who.session old →
      0 < to → to ≤ run.workers → WereFree run o (to - 1) (errands_by new (to - 1)) who free
  were_free run o who to free ours old mid new f sends unsent are by low high =
      let inside = got_below mid (to - 1) f.is f.after in
      let long = sends.count in
      let q = got new (to - 1) (omega (arith, inside, long)) in
      let s = sends.each (to - 1) f.is q.0 f.after q.1 in
      let first = are (to - 1) f.was (omega (arith, low, high)) f.before in
      let count = f.count in
      let news : errands_by new (to - 1) ≡ f.is.place.me.0.news ++ s.more = ap news_of q.1 ∙ s.news in
      let begins : StartsWith (errands_by new (to - 1)) (f.was.place.me.0.news ++ f.more) =
      (f.begins.0 ++ s.more, sym (append_assoc (f.was.place.me.0.news ++ f.more) f.begins.0 s.more) ∙ (ap (λ (l : List Errand). l ++ s.more) f.begins.1 ∙ sym news)) in
      free_is_found run o (to - 1) who free f.was.place.me.0.news f.more (errands_by new (to - 1)) (unsent (to - 1) f.was f.before)
      (ap (λ n. own sent_by n f.more) (by (to - 1) f.was f.before) ∙ f.others.not_own) begins (omega (arith, first, count))
