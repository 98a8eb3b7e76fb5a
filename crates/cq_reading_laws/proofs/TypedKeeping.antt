-- Readings that keep what is found well typed, from what is found before to what is found afterwards, and on.
use Rattle.std.proofs.Common.{◌≡◌, ℕ, ◌+◌, ◌<◌, Bool, true, false, List, [], ◌∷◌, ◌++◌, length, Result, Ok, Err, refl, sym, ap, ◌∙◌, subst, arith}
use Rattle.std.specs.Prelude.{⊤}
use Rattle.std.specs.List.{AllByRecursion}
use Rattle.cq_value.proofs.Lists.{all_more, append_nil}
use Rattle.cq_tree.specs.declared.query.Query.{Query}
use Rattle.cq_reading.specs.declared.bound.Found.{Found}
use Rattle.cq_reading.specs.declared.bound.Bound.{Bound}
use Rattle.cq_reading.specs.declared.error.BindError.{BindError}
use Rattle.cq_reading.specs.Steps.{Reading, give, follow, provided, through, with_next, each}
use Rattle.cq_reading.specs.Widths.{ValueType}
use Rattle.cq_reading.specs.Scopes.{Context}
use Rattle.cq_reading_laws.proofs.Onwards.{append_all}
use Rattle.cq_reading_laws.specs.TypedQueries.{Types, result_types, output_types, results_in, results_of, HaveResults}
use Rattle.cq_reading_laws.specs.Reach.{types_in, FoundTyped, Onward}
use Rattle.cq_reading_laws.proofs.TypedNodes.{Sound}

pub append_length : {A : Type 0} (xs ys : List A) → length (xs ++ ys) ≡ length xs + length ys
append_length [] ys = omega arith
append_length (x ∷ xs) ys = let e = append_length xs ys in omega (arith, e)

-- ---- results

pub results_append : (cs : Types) (xs ys : List Query) → results_of cs (xs ++ ys) ≡ results_of cs xs ++ results_of cs ys
results_append cs [] ys = refl
results_append cs (q ∷ xs) ys = ap (λ rs. output_types cs q ∷ (results_in cs q ++ rs)) (results_append cs xs ys) ∙ ap (λ rs. output_types cs q ∷ rs) (sym (append_all (results_in cs q) (results_of cs xs) (results_of cs ys)))

pub have_first : (cs : Types) (k : ℕ) (xs ys : List (List ValueType)) → HaveResults cs k (xs ++ ys) → HaveResults cs k xs
have_first cs k [] ys h = tt
have_first cs k (x ∷ xs) ys h = (h.0, have_first cs (k + 1) xs ys h.1)

pub have_rest : (cs : Types) (k : ℕ) (xs ys : List (List ValueType)) → HaveResults cs k (xs ++ ys) → HaveResults cs (k + length xs) ys
have_rest cs k [] ys h = let e : k ≡ k + 0 = omega arith in subst (λ n. HaveResults cs n ys) e h
have_rest cs k (x ∷ xs) ys h = let e : k + 1 + length xs ≡ k + length (x ∷ xs) = omega arith in subst (λ n. HaveResults cs n ys) e (have_rest cs (k + 1) xs ys h.1)

-- ---- types that hang on the first results alone

-- the same tables, and the same results before this number
pub record SameBefore (n : ℕ) (cs ds : Types) : Type 0 where
  pub tables : cs.tables ≡ ds.tables
  pub results : (i : ℕ) → i < n → result_types cs i ≡ result_types ds i

abbrev pub Steady : ℕ → Types → Query → Type 0
Steady n cs q = (ds : Types) → SameBefore n cs ds → (output_types cs q ≡ output_types ds q) × (results_in cs q ≡ results_in ds q)

pub steady_all : (n : ℕ) (cs ds : Types) (qs : List Query) → SameBefore n cs ds → AllByRecursion (Steady n cs) qs → results_of cs qs ≡ results_of ds qs
steady_all n cs ds [] s h = refl
steady_all n cs ds (q ∷ qs) s h =
    let e = h.0 ds s in
    ap (λ t. t ∷ (results_in cs q ++ results_of cs qs)) e.0 ∙ (ap (λ rs. output_types ds q ∷ (rs ++ results_of cs qs)) e.1 ∙ ap (λ rs. output_types ds q ∷ (results_in ds q ++ rs)) (steady_all n cs ds qs s h.1))

-- ---- what is found

-- the types of tables and results, the number from which the results of the IN subqueries found are numbered, the types of the
-- columns of the FROM, and how many CTEs are in reach, if it is asked which of them the IN subqueries name
pub record Setting : Type 0 where
  pub types : Types
  pub base : ℕ
  pub columns : List ValueType
  pub reach : ℕ
  pub asked : Bool

-- the results of the IN subqueries found so far have the types of their outputs
abbrev pub Given : Setting → Found → Type 0
Given z f = HaveResults z.types z.base (results_of z.types f.subs)

-- what is found so far is well typed, and its types hang on no CTE but those in reach
pub record Good (z : Setting) (f : Found) : Type 0 where
  pub typed : FoundTyped z.types z.base z.columns f
  pub steady : z.asked ≡ true → AllByRecursion (Steady z.reach z.types) f.subs

-- and none where none may stand
pub record Step (cx : Context) (f g : Found) : Type 0 where
  pub onward : Onward f g
  pub no_aggs : cx.may_aggregate ≡ false → g.aggs ≡ f.aggs
  pub no_subs : cx.may_select ≡ false → g.subs ≡ f.subs

pub now : (f : Found) → Onward f f
now f = record { aggs = ([], sym (append_nil f.aggs)); subs = ([], sym (append_nil f.subs)) }

pub on : (f g h : Found) → Onward f g → Onward g h → Onward f h
on f g h a b = record {
  aggs = (a.aggs.0 ++ b.aggs.0, b.aggs.1 ∙ ap (λ xs. xs ++ b.aggs.0) a.aggs.1 ∙ append_all f.aggs a.aggs.0 b.aggs.0);
  subs = (a.subs.0 ++ b.subs.0, b.subs.1 ∙ ap (λ xs. xs ++ b.subs.0) a.subs.1 ∙ append_all f.subs a.subs.0 b.subs.0);
}

pub stay : (cx : Context) (f : Found) → Step cx f f
stay cx f = record { onward = now f; no_aggs = λ e. refl; no_subs = λ e. refl }

pub go : (cx : Context) (f g h : Found) → Step cx f g → Step cx g h → Step cx f h
go cx f g h a b = record { onward = on f g h a.onward b.onward; no_aggs = λ e. b.no_aggs e ∙ a.no_aggs e; no_subs = λ e. b.no_subs e ∙ a.no_subs e }

pub given_on : (z : Setting) (f g : Found) → Onward f g → Given z g → Given z f
given_on z f g l h =
    have_first z.types z.base (results_of z.types f.subs) (results_of z.types l.subs.0)
    (subst (λ rs. HaveResults z.types z.base rs) (ap (results_of z.types) l.subs.1 ∙ results_append z.types f.subs l.subs.0) h)

-- holds of a, whatever is found later
abbrev pub Later : {A : Type 0} → (Found → A → Type 0) → Found → A → Type 0
Later H found a = (later : Found) → Onward found later → H later a

pub lasts : {A : Type 0} (H : Found → A → Type 0) (f g : Found) (a : A) → Onward f g → Later H f a → Later H g a
lasts H f g a l h later m = h later (on f g later l m)

-- what is bound is well typed, over what stands in reach and what is found later
abbrev pub Fine : Setting → Context → Found → Bound → Type 0
Fine z cx later b = Sound (Given z later) (types_in z.columns cx later.aggs) z.types.results b

-- ---- readings

abbrev pub RunIf : Setting → Context → {A : Type 0} → (Found → A → Type 0) → Found → Result (A × Found) BindError → Type 0
RunIf z cx P found (Ok p) = Good z p.1 × Step cx found p.1 × P p.1 p.0
RunIf z cx P found (Err e) = ⊤

-- after what is well typed comes what is well typed, of which P holds
abbrev pub Run : Setting → Context → {A : Type 0} → (Found → A → Type 0) → Found → Result (A × Found) BindError → Type 0
Run z cx P found o = Good z found → RunIf z cx P found o

module _ (z : Setting) (cx : Context) where
  pub gives : {A : Type 0} (P : Found → A → Type 0) (found : Found) (a : A) → P found a → Run z cx P found (give a found)
  gives P found a h good = (good, stay cx found, h)

  pub where_fit : {A : Type 0} (P : Found → A → Type 0) (found : Found) (t : Bool) (e : BindError) (r : Reading A) → (t ≡ true → Run z cx P found (r found)) → Run z cx P found (provided t e r found)
  where_fit P found true e r h good = h refl good
  where_fit P found false e r h good = tt

  pub run_from : {A : Type 0} (P : Found → A → Type 0) (f g : Found) (o : Result (A × Found) BindError) → Step cx f g → RunIf z cx P g o → RunIf z cx P f o
  run_from P f g (Ok p) l h = (h.0, go cx f g p.1 l h.1, h.2)
  run_from P f g (Err e) l h = tt

  pub onwards : {A B : Type 0} (P : Found → A → Type 0) (Q : Found → B → Type 0) (found : Found) (o : Result (A × Found) BindError) (f : A → Reading B)
      → Run z cx P found o → ((a : A) (mid : Found) → Onward found mid → P mid a → Run z cx Q mid (f a mid)) → Run z cx Q found (follow o f)
  onwards P Q found (Ok p) f h k good = let r = h good in run_from Q found p.1 (f p.0 p.1) r.1 (k p.0 p.1 r.1.onward r.2 r.0)
  onwards P Q found (Err e) f h k good = tt

  pub run_as : {A : Type 0} (P Q : Found → A → Type 0) (found : Found) (o : Result (A × Found) BindError) → ((new : Found) (a : A) → P new a → Q new a) → Run z cx P found o → Run z cx Q found o
  run_as P Q found (Ok p) k h good = let r = h good in (r.0, r.1, k p.1 p.0 r.2)
  run_as P Q found (Err e) k h good = tt

  -- in a context in which more may stand
  pub weaken : (dx : Context) {A : Type 0} (P : Found → A → Type 0) (found : Found) (o : Result (A × Found) BindError) → (cx.may_aggregate ≡ false → dx.may_aggregate ≡ false) → (cx.may_select ≡ false → dx.may_select ≡ false)
      → Run z dx P found o → Run z cx P found o
  weaken dx P found (Ok p) a s h good = let r = h good in (r.0, record { onward = r.1.onward; no_aggs = λ e. r.1.no_aggs (a e); no_subs = λ e. r.1.no_subs (s e) }, r.2)
  weaken dx P found (Err e) a s h good = tt

  pub through_all : {S A : Type 0} (P : Found → S → Type 0) (r : S → A → Reading S) (items : List A) (s : S) (found : Found)
      → AllByRecursion (λ a. (t : S) (f : Found) → Onward found f → P f t → Run z cx P f (r t a f)) items → P found s → Run z cx P found (through r items s found)
  through_all {S = S} {A = A} P r items s found = past items s found (now found)
    where
      past : (items : List A) (s : S) (f : Found) → Onward found f → AllByRecursion (λ a. (t : S) (f : Found) → Onward found f → P f t → Run z cx P f (r t a f)) items → P f s → Run z cx P f (through r items s f)
      past [] s f l steps h = gives P f s h
      past (a ∷ more) s f l steps h = onwards P P f (r s a f) (through r more) (steps.0 s f l h) (λ t mid m g. past more t mid (on found f mid l m) steps.1 g)

  abbrev pub AllLater : {B : Type 0} → (Found → B → Type 0) → Found → List B → Type 0
  AllLater G found bs = Later (λ later bs. AllByRecursion (G later) bs) found bs

  pub next_one : {A B : Type 0} (G : Found → B → Type 0) (r : A → Reading B) (before : List B) (a : A) (found : Found)
      → AllLater G found before → Run z cx (Later G) found (r a found) → Run z cx (AllLater G) found (with_next r before a found)
  next_one G r before a found h k = onwards (Later G) (AllLater G) found (r a found) (λ b. give (before ++ b ∷ [])) k
      (λ b mid l g. gives (AllLater G) mid (before ++ b ∷ []) (λ later m. all_more (G later) before b (h later (on found mid later l m)) (g later m)))

  each_steps : {A B : Type 0} (G : Found → B → Type 0) (r : A → Reading B) (found : Found) (items : List A) → AllByRecursion (λ a. (f : Found) → Onward found f → Run z cx (Later G) f (r a f)) items
      → AllByRecursion (λ a. (t : List B) (f : Found) → Onward found f → AllLater G f t → Run z cx (AllLater G) f (with_next r t a f)) items
  each_steps G r found [] h = tt
  each_steps G r found (a ∷ more) h = ((λ t f l g. next_one G r t a f g (h.0 f l)), each_steps G r found more h.1)

  pub each_one : {A B : Type 0} (G : Found → B → Type 0) (r : A → Reading B) (items : List A) (found : Found)
      → AllByRecursion (λ a. (f : Found) → Onward found f → Run z cx (Later G) f (r a f)) items → Run z cx (AllLater G) found (each r items found)
  each_one G r items found h = through_all (AllLater G) (with_next r) items [] found (each_steps G r found items h) (λ later l. tt)
