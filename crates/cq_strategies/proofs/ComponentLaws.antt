-- Where a relation is put among components.
use Rattle.std.proofs.Common.{◌≡◌, ◌<◌, ℕ, zero, suc, Bool, true, false, ◌||◌, List, [], ◌∷◌, ◌++◌, length, take, refl, sym, ap, ◌∙◌, arith}
use Rattle.std.specs.Prelude.{slice_set, slice_index_or, if◌then◌else◌}
use Rattle.std.specs.List.{list_any}
use Rattle.cq_value.proofs.Truths.{or_neither}
use Rattle.cq_planning.specs.Components.{is_one_component}
use Rattle.cq_outline.specs.Joining.{Component, put_component}
use Rattle.cq_strategies.specs.Components.{united}

module _ (first : ℕ → ℕ) (p : Component) where
  abbrev pub fits : Component → Bool
  fits q = is_one_component first q.home p.home

  -- last, where it fits to none
  pub put_last : (qs : List Component) → list_any fits qs ≡ false → qs ++ p ∷ [] ≡ put_component first qs p
  put_last [] e = refl
  put_last (q ∷ qs) e =
      let n = or_neither (fits q) (list_any fits qs) e in
      ap (λ (rest : List Component). q ∷ rest) (put_last qs n.1) ∙ sym (ap (λ (b : Bool). if b then united q p ∷ qs else q ∷ put_component first qs p) n.0)

  -- to the first that it fits to
  pub put_here : (qs : List Component) (n : ℕ) (r : Component) → n < length qs → list_any fits (take n qs) ≡ false → r ≡ slice_index_or qs n r → fits r ≡ true → slice_set qs n (united (slice_index_or qs n p) p) ≡ put_component first qs p
  put_here [] n r h e is y = absurd (omega arith)
  put_here (q ∷ qs) zero r h e is y = sym (ap (λ (b : Bool). if b then united q p ∷ qs else q ∷ put_component first qs p) (ap fits (sym is) ∙ y))
  put_here (q ∷ qs) (suc n) r h e is y =
      let m = or_neither (fits q) (list_any fits (take n qs)) e in
      ap (λ (rest : List Component). q ∷ rest) (put_here qs n r (omega arith) m.1 is y) ∙ sym (ap (λ (b : Bool). if b then united q p ∷ qs else q ∷ put_component first qs p) m.0)
