-- Readings that name only such results, where those of the IN subqueries that they find are such.
use Rattle.std.proofs.Common.{◌≡◌, ℕ, ◌+◌, ◌≤◌, Bool, true, false, List, [], ◌∷◌, ◌++◌, refl, sym, ap, ◌∙◌, subst, arith, Result, Ok, Err}
use Rattle.std.specs.Prelude.{⊤}
use Rattle.std.specs.List.{AllByRecursion}
use Rattle.cq_value.proofs.Lists.{append_nil, all_more}
use Rattle.cq_tree.specs.declared.query.Agg.{Agg}
use Rattle.cq_tree.specs.declared.query.Query.{Query}
use Rattle.cq_meaning.specs.Results.{ins_in}
use Rattle.cq_reading.specs.declared.bound.Found.{Found}
use Rattle.cq_reading.specs.declared.error.BindError.{BindError}
use Rattle.cq_reading.specs.Steps.{Reading, give, refuse, follow, ◌then◌, provided, through, with_next, each}
use Rattle.cq_reading_laws.proofs.Onwards.{append_all}
use Rattle.cq_reading_laws.proofs.Standing.{no_truth}
use Rattle.cq_reading_laws.proofs.StepRows.{ins_all, ins_append}
use Rattle.cq_plan_laws.specs.Scoping.{AggNames}
use Rattle.cq_plan_laws.specs.Nested.{IsNested}

-- ---- IN subqueries, of which the first has the number k

-- their numbers are such
abbrev pub Covers : (ℕ → Type 0) → ℕ → List Query → Type 0
Covers P k [] = ⊤
Covers P k (q ∷ more) = P k × Covers P (k + 1 + ins_in q) more

-- each is nested
abbrev pub AllNested : (ℕ → Type 0) → ℕ → List Query → Type 0
AllNested O k [] = ⊤
AllNested O k (q ∷ more) = IsNested O (k + 1) q × AllNested O (k + 1 + ins_in q) more

further : (k m n : ℕ) → k + 1 + m + n ≡ k + (1 + m + n)
further k m n = omega arith

covers_both : (P : ℕ → Type 0) (k : ℕ) (ps qs : List Query) → Covers P k (ps ++ qs) → Covers P k ps × Covers P (k + ins_all ps) qs
covers_both P k [] qs h = let e : k ≡ k + 0 = omega arith in (tt, subst (λ i. Covers P i qs) e h)
covers_both P k (p ∷ ps) qs h =
    let c = covers_both P (k + 1 + ins_in p) ps qs h.1 in ((h.0, c.0), subst (λ i. Covers P i qs) (further k (ins_in p) (ins_all ps)) c.1)

nested_both : (O : ℕ → Type 0) (k : ℕ) (ps qs : List Query) → AllNested O k ps → AllNested O (k + ins_all ps) qs → AllNested O k (ps ++ qs)
nested_both O k [] qs h g = let e : k + 0 ≡ k = omega arith in subst (λ i. AllNested O i qs) e g
nested_both O k (p ∷ ps) qs h g =
    (h.0, nested_both O (k + 1 + ins_in p) ps qs h.1 (subst (λ i. AllNested O i qs) (sym (further k (ins_in p) (ins_all ps))) g))

-- ---- readings, over results seen outside (O) and results that may be named (P)

module _ (O P : ℕ → Type 0) where
  abbrev pub AggsName : List Agg → Type 0
  AggsName aggs = AllByRecursion (AggNames P) aggs

  -- from f to g IN subqueries are only added, and none where no SELECT may stand; where their numbers may be named and C holds, V holds of
  -- what is read, and the aggregates name only such results
  pub record Adds (may : Bool) {A : Type 0} (C : Type 0) (V : A → Type 0) (f : Found) (a : A) (g : Found) : Type 0 where
    pub more : List Query
    pub subs : g.subs ≡ f.subs ++ more
    pub results : g.results ≡ f.results + ins_all more
    pub blocks : f.blocks ≤ g.blocks
    pub none : may ≡ false → more ≡ []
    pub nested : AllNested O f.results more
    pub holds : Covers P f.results more → C → AggsName f.aggs → V a × AggsName g.aggs

  abbrev pub AddsIf : (may : Bool) {A : Type 0} → Type 0 → (A → Type 0) → Found → Result (A × Found) BindError → Type 0
  AddsIf may C V f (Ok p) = Adds may C V f p.0 p.1
  AddsIf may C V f (Err e) = ⊤

  unfoldable pub Reads : Bool → {A : Type 0} → Type 0 → (A → Type 0) → Reading A → Type 0
  Reads may C V r = (f : Found) → AddsIf may C V f (r f)

  pub adds_none : (may : Bool) {A : Type 0} (C : Type 0) (V : A → Type 0) (f : Found) (a : A) (g : Found) → g.subs ≡ f.subs → g.results ≡ f.results → g.blocks ≡ f.blocks → (C → AggsName f.aggs → V a × AggsName g.aggs) → Adds may C V f a g
  adds_none may C V f a g s r b h = record { more = []; subs = s ∙ sym (append_nil f.subs); results = omega (arith, r); blocks = omega (arith, b); none = λ e. refl; nested = tt; holds = λ c. h }

  pub adds_on : (may : Bool) {A B E : Type 0} (C D : Type 0) (V : A → Type 0) (W : B → Type 0) (X : E → Type 0) (f : Found) (a : A) (g : Found) (b : B) (h : Found) (e : E)
      → Adds may C V f a g → Adds may D W g b h → (C → V a → D) → (C → V a → W b → X e) → Adds may C X f e h
  adds_on may C D V W X f a g b h e l m d x = record {
    more = l.more ++ m.more;
    subs = m.subs ∙ ap (λ qs. qs ++ m.more) l.subs ∙ append_all f.subs l.more m.more;
    results = omega (arith, l.results, m.results, ins_append l.more m.more);
    blocks = omega (arith, l.blocks, m.blocks);
    none = λ e. ap (λ qs. qs ++ m.more) (l.none e) ∙ m.none e;
    nested = nested_both O f.results l.more m.more l.nested (subst (λ i. AllNested O i m.more) l.results m.nested);
    holds = λ covers c aggs.
        let both = covers_both P f.results l.more m.more covers in
        let first = l.holds both.0 c aggs in
        let second = m.holds (subst (λ i. Covers P i m.more) (sym l.results) both.1) (d c first.0) first.1 in
        (x c first.0 second.0, second.1);
  }

  adds_as : (may : Bool) {A : Type 0} (C D : Type 0) (V W : A → Type 0) (f : Found) (o : Result (A × Found) BindError) → (D → C) → ((a : A) → D → V a → W a) → AddsIf may C V f o → AddsIf may D W f o
  adds_as may C D V W f (Ok p) d w h =
      record { more = h.more; subs = h.subs; results = h.results; blocks = h.blocks; none = h.none; nested = h.nested; holds = λ covers c aggs. let k = h.holds covers (d c) aggs in (w p.0 c k.0, k.1) }
  adds_as may C D V W f (Err e) d w h = tt

  pub adds_anyway : (may : Bool) {A : Type 0} (C : Type 0) (V : A → Type 0) (f : Found) (a : A) (g : Found) → Adds may C V f a g → Adds true C V f a g
  adds_anyway may C V f a g h = record { more = h.more; subs = h.subs; results = h.results; blocks = h.blocks; none = λ e. absurd (no_truth (sym e)); nested = h.nested; holds = h.holds }

  then_adds : (may : Bool) {A B : Type 0} (C : Type 0) (V : A → Type 0) (W : B → Type 0) (f : Found) (o : Result (A × Found) BindError) (k : A → Reading B)
      → AddsIf may C V f o → ((a : A) (g : Found) → AddsIf may (C × V a) W g (k a g)) → AddsIf may C W f (follow o k)
  then_adds may {B = B} C V W f (Ok p) k h l = behind (k p.0 p.1) (l p.0 p.1)
    where
      behind : (o : Result (B × Found) BindError) → AddsIf may (C × V p.0) W p.1 o → AddsIf may C W f o
      behind (Ok q) m = adds_on may C (C × V p.0) V W W f p.0 p.1 q.0 q.1 q.0 h m (λ c v. (c, v)) (λ c v w. w)
      behind (Err e) m = tt
  then_adds may C V W f (Err e) k h l = tt

  module _ (may : Bool) where
    pub reads_give : {A : Type 0} (C : Type 0) (V : A → Type 0) (a : A) → (C → V a) → Reads may C V (give a)
    unfolding Reads
    reads_give C V a h f = adds_none may C V f a f refl refl refl (λ c aggs. (h c, aggs))

    pub reads_refuse : (A : Type 0) (C : Type 0) (V : A → Type 0) (e : BindError) → Reads may C V (refuse {A = A} e)
    unfolding Reads
    reads_refuse A C V e f = tt

    pub reads_provided : {A : Type 0} (C : Type 0) (V : A → Type 0) (t : Bool) (e : BindError) (r : Reading A) → Reads may C V r → Reads may C V (provided t e r)
    unfolding Reads
    reads_provided C V true e r h f = h f
    reads_provided C V false e r h f = tt

    pub reads_then : {A B : Type 0} (C : Type 0) (V : A → Type 0) (W : B → Type 0) (r : Reading A) (k : A → Reading B) → Reads may C V r → ((a : A) → Reads may (C × V a) W (k a)) → Reads may C W (r then k)
    unfolding Reads
    reads_then C V W r k h l f = then_adds may C V W f (r f) k (h f) (λ a g. l a g)

    pub reads_as : {A : Type 0} (C D : Type 0) (V W : A → Type 0) (r : Reading A) → (D → C) → ((a : A) → D → V a → W a) → Reads may C V r → Reads may D W r
    unfolding Reads
    reads_as C D V W r d w h f = adds_as may C D V W f (r f) d w (h f)

    -- under more
    pub reads_under : {A : Type 0} (C D : Type 0) (V : A → Type 0) (r : Reading A) → (D → C) → Reads may C V r → Reads may D V r
    reads_under C D V r d h = reads_as C D V V r d (λ a c v. v) h

    pub reads_through : {S A : Type 0} (C : Type 0) (V : S → Type 0) (r : S → A → Reading S) (items : List A) (s : S) → AllByRecursion (λ a. (t : S) → Reads may (C × V t) V (r t a)) items → Reads may (C × V s) V (through r items s)
    reads_through C V r [] s h = reads_give (C × V s) V s (λ c. c.1)
    reads_through C V r (a ∷ more) s h =
        reads_then (C × V s) V V (r s a) (through r more) (h.0 s) (λ t. reads_under (C × V t) ((C × V s) × V t) V (through r more t) (λ c. (c.0.0, c.1)) (reads_through C V r more t h.1))

    pub reads_next : {A B : Type 0} (C : Type 0) (V : B → Type 0) (r : A → Reading B) (before : List B) (a : A) → Reads may C V (r a) → Reads may (C × AllByRecursion V before) (AllByRecursion V) (with_next r before a)
    reads_next C V r before a h =
        reads_then (C × AllByRecursion V before) V (AllByRecursion V) (r a) (λ b. give (before ++ b ∷ [])) (reads_under C (C × AllByRecursion V before) V (r a) (λ c. c.0) h)
        (λ b. reads_give ((C × AllByRecursion V before) × V b) (AllByRecursion V) (before ++ b ∷ []) (λ c. all_more V before b c.0.1 c.1))

    nexts : {A B : Type 0} (C : Type 0) (V : B → Type 0) (r : A → Reading B) (items : List A) → AllByRecursion (λ a. Reads may C V (r a)) items
        → AllByRecursion (λ a. (t : List B) → Reads may (C × AllByRecursion V t) (AllByRecursion V) (with_next r t a)) items
    nexts C V r [] h = tt
    nexts C V r (a ∷ more) h = ((λ t. reads_next C V r t a h.0), nexts C V r more h.1)

    -- each in turn, behind those before them
    pub reads_nexts : {A B : Type 0} (C : Type 0) (V : B → Type 0) (r : A → Reading B) (items : List A) (before : List B) → AllByRecursion (λ a. Reads may C V (r a)) items
        → Reads may (C × AllByRecursion V before) (AllByRecursion V) (through (with_next r) items before)
    reads_nexts C V r items before h = reads_through C (AllByRecursion V) (with_next r) items before (nexts C V r items h)

    pub reads_each : {A B : Type 0} (C : Type 0) (V : B → Type 0) (r : A → Reading B) (items : List A) → AllByRecursion (λ a. Reads may C V (r a)) items → Reads may C (AllByRecursion V) (each r items)
    reads_each C V r items h = reads_under (C × AllByRecursion V []) C (AllByRecursion V) (each r items) (λ c. (c, tt)) (reads_nexts C V r items [] h)
