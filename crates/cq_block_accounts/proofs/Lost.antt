-- The stores that a block retired, by their nodes.
use Rattle.std.proofs.Common.{◌≡◌, inl, inr, ℕ, ◌+◌, true, false, List, [], ◌∷◌, ◌++◌, length, map, filter, refl, sym, ap, ◌∙◌, subst, arith, eq-eqb, ne_eqb, length-append}
use Rattle.std.specs.Prelude.{nat_eq}
use Rattle.std.specs.List.{AllByRecursion, AllZip, sum_by}
use Rattle.std.proofs.lemmas.Bool.Decides.{eqb_tells}
use Rattle.std.proofs.lemmas.List.{map-append}
use Rattle.std.proofs.lemmas.List.Elements.{filter-append}
use Rattle.std.proofs.lemmas.List.Sums.{sum_by-cons}
use Rattle.cq_value.proofs.Truths.{two_ways}
use Rattle.cq_tree.specs.declared.failure.StoreFailure.{StoreFailure}
use Rattle.cq_answer.specs.declared.answer.Answer.{Answer}
use Rattle.cq_answer.specs.declared.answer.Answer.TheVariants as answer
use Rattle.cq_answer.specs.declared.answered.Answered.{Answered}
use Rattle.cq_answer.specs.declared.fault.Fault.TheVariants as fault
use Rattle.cq_history.specs.Room.{retired_of}
use Rattle.cq_cluster.specs.declared.retired.Retired.{Retired}
use Rattle.cq_cluster.specs.Accounts.{AreRetired, StandsFor, tells_retired, is_retiring}
use Rattle.cq_block_laws.specs.Settling.{lost_in, lost}

none_lost : (node : ℕ) (a : Answer) → tells_retired a ≡ false → lost_in node a ≡ 0
none_lost node (answer.Failed (fault.Retired failure)) none = absurd (cc none)
none_lost node (answer.Failed f) none = refl
none_lost node (answer.Tag t) none = refl
none_lost node (answer.Table names rows) none = refl

one_lost : (node at : ℕ) (a : Answer) (shard before after : ℕ) (more : List ℕ) → a ≡ answer.Failed (fault.Retired (record { node = at; shard = shard; before = before; after = after })) → retired_of node (at ∷ more) ≡ lost_in node a + retired_of node more
one_lost node at a shard before after more is = elim (eqb_tells at node) [
  | inl y ↦
      let other : nat_eq node at ≡ true = eq-eqb node at (sym y.1) in
      let lost : lost_in node a ≡ 1 = ap (lost_in node) is ∙ rw y.0 refl in
      rw other (omega (arith, lost))
  | inr z ↦
      let other : nat_eq node at ≡ false = ne_eqb node at (λ e. z.1 (sym e)) in
      let lost : lost_in node a ≡ 0 = ap (lost_in node) is ∙ rw z.0 refl in
      rw other (omega (arith, lost))
]

module _ {X : Type 0} where
  abbrev pub nodes_of : List (Retired X) → List ℕ
  nodes_of retired = map (λ (r : Retired X). r.node) retired

  -- of each node as many as the answers tell of
  pub all_lost : (node : ℕ) (block : List Answered) (retired : List (Retired X)) → AreRetired block retired → retired_of node (nodes_of retired) ≡ sum_by (lost node) block
  all_lost node [] [] are = refl
  all_lost node [] (r ∷ rs) are = absurd are
  all_lost node (a ∷ block) rs are = elim (two_ways (is_retiring a)) [
    | inl y ↦ (let h : AllZip StandsFor (a ∷ filter is_retiring block) rs = rw y at are in first rs h (λ us z. all_lost node block us z))
    | inr n ↦
        let h : AllZip StandsFor (filter is_retiring block) rs = rw n at are in
        let rest = all_lost node block rs h in
        let none = none_lost node a.answer n in
        let whole = sum_by-cons (lost node) a block in
        omega (arith, rest, none, whole)
  ]
    where
      first : (us : List (Retired X)) → AllZip StandsFor (a ∷ filter is_retiring block) us → ((vs : List (Retired X)) → AreRetired block vs → retired_of node (nodes_of vs) ≡ sum_by (lost node) block) →
          retired_of node (nodes_of us) ≡ sum_by (lost node) (a ∷ block)
      first [] z more = absurd z
      first (r ∷ us) z more =
          let one = one_lost node r.node a.answer z.0.0 r.before r.after (nodes_of us) z.0.1 in
          let rest = more us z.1 in
          let whole = sum_by-cons (lost node) a block in
          omega (arith, one, rest, whole)

  -- those of a node, of two lists
  pub retired_both : (node : ℕ) (xs ys : List (Retired X)) → retired_of node (nodes_of (xs ++ ys)) ≡ retired_of node (nodes_of xs) + retired_of node (nodes_of ys)
  retired_both node xs ys =
      ap (λ v. length (filter (nat_eq node) v)) (map-append (λ (r : Retired X). r.node) xs ys)
      ∙ ap length (filter-append (nat_eq node) (nodes_of xs) (nodes_of ys))
      ∙ length-append (filter (nat_eq node) (nodes_of xs)) (filter (nat_eq node) (nodes_of ys))

  -- what is so of the node of each retired store is so of those that the answers tell of
  pub each_told : (P : ℕ → Type 0) (block : List Answered) (retired : List (Retired X)) → AreRetired block retired → AllByRecursion (λ (r : Retired X). P r.node) retired →
      AllByRecursion (λ (a : Answered). (failure : StoreFailure) → a.answer ≡ answer.Failed (fault.Retired failure) → P failure.node) block
  each_told P [] rs are all = tt
  each_told P (a ∷ block) rs are all = elim (two_ways (is_retiring a)) [
    | inl y ↦ (let h : AllZip StandsFor (a ∷ filter is_retiring block) rs = rw y at are in first rs h all (λ us z u. each_told P block us z u))
    | inr n ↦
        let h : AllZip StandsFor (filter is_retiring block) rs = rw n at are in
        ((λ failure e. absurd (let bad : true ≡ false = ap tells_retired (sym e) ∙ n in cc bad)), each_told P block rs h all)
  ]
    where
      first : (us : List (Retired X)) → AllZip StandsFor (a ∷ filter is_retiring block) us → AllByRecursion (λ (r : Retired X). P r.node) us →
          ((vs : List (Retired X)) → AreRetired block vs → AllByRecursion (λ (r : Retired X). P r.node) vs → AllByRecursion (λ (b : Answered). (failure : StoreFailure) → b.answer ≡ answer.Failed (fault.Retired failure) → P failure.node) block) →
          AllByRecursion (λ (b : Answered). (failure : StoreFailure) → b.answer ≡ answer.Failed (fault.Retired failure) → P failure.node) (a ∷ block)
      first [] z u more = absurd z
      first (r ∷ us) z u more = (
        (λ failure e. (let same : r.node ≡ failure.node = (let both = sym z.0.1 ∙ e in cc) in subst P same u.0)),
        more us z.1 u.1,
      )
