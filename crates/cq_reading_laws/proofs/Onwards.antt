-- What is found goes on: results and aggregates are only added.
use Rattle.std.proofs.Common.{◌≡◌, ℕ, ◌≤◌, List, [], ◌∷◌, ◌++◌, refl, sym, ◌∙◌, ap, subst, arith}
use Rattle.std.specs.List.{AllByRecursion}
use Rattle.cq_meaning.specs.Widths.{IsBoundAggregate}
use Rattle.cq_reading.specs.declared.bound.Found.{Found}
use Rattle.cq_reading.specs.declared.bound.Bound.{Bound}
use Rattle.cq_reading.specs.declared.error.BindError.{BindError}
use Rattle.std.proofs.Common.{Bool, true}
use Rattle.cq_reading.specs.Steps.{Reading, give, follow, provided, through, with_next, each}
use Rattle.cq_reading.specs.Scopes.{Context}
use Rattle.std.specs.Prelude.{Result}
use Rattle.cq_value.proofs.Lists.{append_nil}
use Rattle.cq_reading_laws.specs.Bounds.{Stands, bits_in, Onward}
use Rattle.cq_reading_laws.proofs.Keeping as keep

pub append_all : {A : Type 0} (xs ys zs : List A) → (xs ++ ys) ++ zs ≡ xs ++ (ys ++ zs)
append_all [] ys zs = refl
append_all (x ∷ xs) ys zs = ap (λ us. x ∷ us) (append_all xs ys zs)

pub now : (ks : List ℕ) (f : Found) → Onward ks f f
now ks f = record { results = omega arith; aggs = ([], sym (append_nil f.aggs)); stand = λ h. h }

pub on : (ks : List ℕ) (f g h : Found) → Onward ks f g → Onward ks g h → Onward ks f h
on ks f g h a b = record {
  results = omega (arith, a.results, b.results);
  aggs = (a.aggs.0 ++ b.aggs.0, b.aggs.1 ∙ ap (λ xs. xs ++ b.aggs.0) a.aggs.1 ∙ append_all f.aggs a.aggs.0 b.aggs.0);
  stand = λ h. b.stand (a.stand h);
}

-- of the same aggregates
pub more_results : (ks : List ℕ) (f g : Found) → f.results ≤ g.results → g.aggs ≡ f.aggs → Onward ks f g
more_results ks f g l e = record {
  results = l;
  aggs = ([], e ∙ sym (append_nil f.aggs));
  stand = λ h n m. subst (λ aggs. AllByRecursion (IsBoundAggregate ks n) aggs) (sym e) (h n (omega (arith, l, m)));
}

-- what is read stands, over all that is found later
abbrev pub Later : List ℕ → {A : Type 0} → (Found → A → Type 0) → Found → A → Type 0
Later ks H found a = keep.Lasting (Onward ks) (now ks) (on ks) H found a

abbrev pub Kept : List ℕ → {A : Type 0} → (Found → A → Type 0) → Found → Result (A × Found) BindError → Type 0
Kept ks H found o = keep.Kept (Onward ks) (now ks) (on ks) H found o

abbrev pub Fine : List ℕ → Context → Found → Bound → Type 0
Fine ks cx later b = Stands (bits_in ks cx later.aggs) later.results b

module _ (ks : List ℕ) where
  pub lasts : {A : Type 0} (H : Found → A → Type 0) (f g : Found) (a : A) → Onward ks f g → Later ks H f a → Later ks H g a
  lasts = keep.lasting_on (Onward ks) (now ks) (on ks)

  pub gives : {A : Type 0} (H : Found → A → Type 0) (found : Found) (a : A) → Later ks H found a → Kept ks H found (give a found)
  gives = keep.kept_give (Onward ks) (now ks) (on ks)

  pub where_fit : {A : Type 0} (H : Found → A → Type 0) (found : Found) (t : Bool) (e : BindError) (r : Reading A) → (t ≡ true → Kept ks H found (r found)) → Kept ks H found (provided t e r found)
  where_fit = keep.kept_provided (Onward ks) (now ks) (on ks)

  pub onwards : {A B : Type 0} (G : Found → A → Type 0) (H : Found → B → Type 0) (found : Found) (o : Result (A × Found) BindError) (f : A → Reading B)
      → Kept ks G found o → ((a : A) (mid : Found) → Onward ks found mid → Later ks G mid a → Kept ks H mid (f a mid)) → Kept ks H found (follow o f)
  onwards = keep.kept_then (Onward ks) (now ks) (on ks)

  pub through_all : {S A : Type 0} (H : Found → S → Type 0) (r : S → A → Reading S) (items : List A) (s : S) (found : Found)
      → AllByRecursion (λ a. (t : S) (f : Found) → Onward ks found f → Later ks H f t → Kept ks H f (r t a f)) items → Later ks H found s → Kept ks H found (through r items s found)
  through_all = keep.kept_through (Onward ks) (now ks) (on ks)

  pub next_one : {A B : Type 0} (G : Found → B → Type 0) (r : A → Reading B) (before : List B) (a : A) (found : Found)
      → Later ks (λ later bs. AllByRecursion (G later) bs) found before → Kept ks G found (r a found) → Kept ks (λ later bs. AllByRecursion (G later) bs) found (with_next r before a found)
  next_one = keep.kept_next (Onward ks) (now ks) (on ks)

  pub each_one : {A B : Type 0} (G : Found → B → Type 0) (r : A → Reading B) (items : List A) (found : Found)
      → AllByRecursion (λ a. (f : Found) → Onward ks found f → Kept ks G f (r a f)) items → Kept ks (λ later bs. AllByRecursion (G later) bs) found (each r items found)
  each_one = keep.kept_each (Onward ks) (now ks) (on ks)
