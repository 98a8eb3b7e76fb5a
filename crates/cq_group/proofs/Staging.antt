-- Stores of which one failed to stage, and all then dropped what was staged.
use Rattle.std.proofs.Common.{◌≡◌, ℕ, ◌<◌, List, [], ◌∷◌, length, get_or, inl, inr}
use Rattle.std.proofs.Math.ListN.{set}
use Rattle.std.specs.List.{AllZip, AllByRecursion}
use Rattle.cq_value.specs.declared.change.Change.{Change}
use Rattle.cq_store.specs.Stores.{StoreState}
use Rattle.cq_group.specs.declared.group.GroupError.{GroupError}
use Rattle.cq_group.specs.declared.group.GroupError.TheVariants.{Worker, Memory}
use Rattle.cq_group.specs.Calls.{Rests, Discards, Stages, KeepsRows, GoesOn, Failed, Lifted, Blames, Takes, IsThrough}
use Rattle.cq_group.proofs.Zips.{zip_trans, zip_weaker, zip_set, some_set, some_before, some_after}
use Rattle.cq_group.proofs.Through.{through_both}
use Rattle.cq_group.proofs.Turns.{keeps, rests_keep, stages_keep, keeps_more, keeps_go_on, discards_go_on, dropped, failed_later, failed_before}

module _ {X : Type 0} (state : X → StoreState) (changes : List Change) (n : ℕ) (xs ys zs : List X) (y z : X)
    (done : IsThrough (Lifted state (Stages changes)) n xs ys) (low : n < length ys) (is : y ≡ get_or ys n y)
    (rested : Lifted state Rests y z) (drops : AllZip (Lifted state Discards) (set ys n z) zs) where
  kept : AllZip (Lifted state KeepsRows) xs (set ys n z)
  kept = zip_trans (Lifted state KeepsRows) (Lifted state KeepsRows) (Lifted state KeepsRows) (λ a b c. keeps_more (state a) (state b) (state c)) xs ys (set ys n z)
      (through_both (Lifted state (Stages changes)) (Lifted state KeepsRows) (λ a b. stages_keep changes (state a) (state b)) (λ a. keeps (state a)) n xs ys done)
      (zip_set (Lifted state KeepsRows) (λ a. keeps (state a)) ys n y z low is (rests_keep (state y) (state z) rested))

  nothing_left : (xs ys zs : List X) → AllByRecursion (λ x. Takes changes (state x)) xs → AllZip (Lifted state KeepsRows) xs ys → AllZip (Lifted state Discards) ys zs → AllZip (Lifted state Rests) xs zs
  nothing_left [] [] [] h k d = tt
  nothing_left [] [] (c ∷ cs) h k d = absurd d
  nothing_left [] (b ∷ bs) cs h k d = absurd k
  nothing_left (a ∷ as') [] cs h k d = absurd k
  nothing_left (a ∷ as') (b ∷ bs) [] h k d = absurd d
  nothing_left (a ∷ as') (b ∷ bs) (c ∷ cs) h k d = (dropped (state a) (state b) (state c) h.0.nothing k.0 d.0, nothing_left as' bs cs h.1 k.1 d.1)

  pub all_rest : AllByRecursion (λ x. Takes changes (state x)) xs → AllZip (Lifted state Rests) xs zs
  all_rest h = nothing_left xs (set ys n z) zs h kept drops

  pub blamed : (e : GroupError) → Blames state e (y ∷ []) (z ∷ []) → Blames state e xs zs
  blamed Memory h = tt
  blamed (Worker failure) (inl h) =
      let F : X → X → Type 0 = Lifted state (Failed failure) in
      let G : X → X → Type 0 = Lifted state GoesOn in
      some_after F G F (λ a b c. failed_before failure (state a) (state b) (state c)) xs (set ys n z) zs
      (some_before G F F (λ a b c. failed_later failure (state a) (state b) (state c)) xs ys (set ys n z)
      (through_both (Lifted state (Stages changes)) G (λ a b k. keeps_go_on (state a) (state b) (stages_keep changes (state a) (state b) k)) (λ a. keeps_go_on (state a) (state a) (keeps (state a))) n xs ys done)
      (some_set F ys n y z low is h))
      (zip_weaker (Lifted state Discards) G (λ a b. discards_go_on (state a) (state b)) (set ys n z) zs drops)
  blamed (Worker failure) (inr h) = absurd h
