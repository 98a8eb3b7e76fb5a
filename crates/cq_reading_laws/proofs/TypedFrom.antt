-- The relations of a FROM are well typed, and the columns in reach have their types.
use Rattle.std.proofs.Common.{◌≡◌, ℕ, zero, suc, ◌+◌, ◌<◌, Bool, true, false, List, [], ◌∷◌, ◌++◌, map, length, refl, sym, ap, ◌∙◌, subst, arith, Option, None, Some, Result, Ok, Err}
use Rattle.std.specs.Prelude.{⊤, slice_get, position, bytes_eq, slice_index_or}
use Rattle.cq_value.specs.declared.schema.Column as schema
use Rattle.cq_catalog.specs.declared.info.TableInfo.{TableInfo}
use Rattle.cq_catalog.specs.Contents.{number_of}
use Rattle.cq_grammar.specs.declared.name.Name.{Name}
use Rattle.cq_tree.specs.declared.query.FromTree.{FromTree, Table}
use Rattle.cq_tree.specs.declared.query.FromTree as tree
use Rattle.cq_reading.specs.declared.bound.Found.{Found}
use Rattle.cq_reading.specs.declared.bound.Source.{Source}
use Rattle.cq_reading.specs.declared.bound.Output.{Output}
use Rattle.cq_reading.specs.declared.bound.Common.{Common}
use Rattle.cq_reading.specs.declared.bound.Relations.{Relations}
use Rattle.cq_reading.specs.declared.error.BindError.{BindError}
use Rattle.cq_reading.specs.Steps.{Reading, give, provided}
use Rattle.cq_reading.specs.Widths.{ValueType, kind_type}
use Rattle.cq_reading.specs.Scopes.{World, column_source, table_sources, output_sources}
use Rattle.cq_reading.specs.Relations as r
use Rattle.cq_reading_laws.specs.Typing.{Fits, AllFit}
use Rattle.cq_reading_laws.specs.TypedQueries.{Types, result_types, from_types, results_in_from, HaveResults, IsTypedFrom}
use Rattle.cq_reading_laws.specs.Reach.{HasKind, kinds_of, WorldTyped}
use Rattle.cq_reading_laws.proofs.TypedKeeping.{SameBefore}
use Rattle.cq_reading_laws.proofs.TypedForms.{fits_same}

abbrev pub source_kinds : List Source → List ValueType
source_kinds ss = map (λ (s : Source). s.kind) ss

pub columns_fit : (relation : List ℕ) (cs : List schema.Column) → AllFit (map (λ c. kind_type c.kind) cs) (source_kinds (map (column_source relation) cs))
columns_fit relation [] = tt
columns_fit relation (c ∷ cs) = (fits_same (kind_type c.kind), columns_fit relation cs)

pub outputs_fit : (relation : List ℕ) (ts : List ValueType) (os : List Output) → AllFit ts (kinds_of os) → AllFit ts (source_kinds (output_sources relation os))
outputs_fit relation [] [] h = tt
outputs_fit relation [] (o ∷ os) h = absurd h
outputs_fit relation (t ∷ ts) [] h = absurd h
outputs_fit relation (t ∷ ts) (o ∷ os) h = (h.0, outputs_fit relation ts os h.1)

pub outputs_length : (ts : List ValueType) (os : List Output) → AllFit ts (kinds_of os) → length os ≡ length ts
outputs_length [] [] h = refl
outputs_length [] (o ∷ os) h = absurd h
outputs_length (t ∷ ts) [] h = absurd h
outputs_length (t ∷ ts) (o ∷ os) h = ap suc (outputs_length ts os h.1)

pub sources_length : (ts : List ValueType) (ss : List Source) → AllFit ts (source_kinds ss) → length ss ≡ length ts
sources_length [] [] h = refl
sources_length [] (s ∷ ss) h = absurd h
sources_length (t ∷ ts) [] h = absurd h
sources_length (t ∷ ts) (s ∷ ss) h = ap suc (sources_length ts ss h.1)

pub sources_append : (ts us : List ValueType) (ss rs : List Source) → AllFit ts (source_kinds ss) → AllFit us (source_kinds rs) → AllFit (ts ++ us) (source_kinds (ss ++ rs))
sources_append [] us [] rs h k = k
sources_append [] us (s ∷ ss) rs h k = absurd h
sources_append (t ∷ ts) us [] rs h k = absurd h
sources_append (t ∷ ts) us (s ∷ ss) rs h k = (h.0, sources_append ts us ss rs h.1 k)

abbrev FitsIf : ValueType → Option Source → Type 0
FitsIf t None = ⊤
FitsIf t (Some s) = Fits t s.kind

no_source : (i : ℕ) (s : Source) → slice_get [] i ≡ Some s → ⊥
no_source i s is = subst (λ o. IsNothing o) is tt
  where
    IsNothing : Option Source → Type 0
    IsNothing None = ⊤
    IsNothing (Some s) = ⊥

pub sources_at : (ts : List ValueType) (ss : List Source) → AllFit ts (source_kinds ss) → (i : ℕ) (s : Source) → slice_get ss i ≡ Some s → HasKind ts i s
sources_at [] [] h i s is = absurd (no_source i s is)
sources_at [] (t ∷ ss) h i s is = absurd h
sources_at (t ∷ ts) [] h i s is = absurd h
sources_at (t ∷ ts) (c ∷ ss) h zero s is = record { is_there = omega arith; fits = subst (λ o. FitsIf t o) is h.0 }
sources_at (t ∷ ts) (c ∷ ss) h (suc i) s is = let b = sources_at ts ss h.1 i s is in record { is_there = omega (arith, b.is_there); fits = b.fits }

kind_behind : (ahead ts : List ValueType) (i : ℕ) (s : Source) → HasKind ts i s → HasKind (ahead ++ ts) (length ahead + i) s
kind_behind [] ts i s h = let e : 0 + i ≡ i = omega arith in subst (λ j. HasKind ts j s) (sym e) h
kind_behind (a ∷ ahead) ts i s h =
    let b = kind_behind ahead ts i s h in
    let e : length (a ∷ ahead) + i ≡ suc (length ahead + i) = omega arith in
    subst (λ j. HasKind (a ∷ (ahead ++ ts)) j s) (sym e) (record { is_there = omega (arith, b.is_there); fits = b.fits })

-- columns behind others have their types
pub sources_have : (ahead ts : List ValueType) (ss : List Source) → AllFit ts (source_kinds ss) → (i : ℕ) (s : Source) → slice_get ss i ≡ Some s → HasKind (ahead ++ ts) (length ahead + i) s
sources_have ahead ts ss h i s is = kind_behind ahead ts i s (sources_at ts ss h i s is)

pub is_below : {A : Type 0} (xs : List A) (i : ℕ) (x : A) → slice_get xs i ≡ Some x → i < length xs
is_below [] i x is = absurd (subst (λ o. IsNothing o) is tt)
  where
    IsNothing : {A : Type 0} → Option A → Type 0
    IsNothing None = ⊤
    IsNothing (Some s) = ⊥
is_below (a ∷ xs) zero x is = omega arith
is_below (a ∷ xs) (suc i) x is = omega (arith, is_below xs i x is)

-- ---- what is read of a FROM behind columns of these types, after what was found before

-- neither an aggregate nor an IN subquery of the present SELECT is found
pub record Clean (f : Found) : Type 0 where
  pub subs : f.subs ≡ []
  pub aggs : f.aggs ≡ []

-- the types of a FROM hang on no CTE but the first
abbrev pub SteadyFrom : ℕ → Types → FromTree → Type 0
SteadyFrom n cs t = (ds : Types) → SameBefore n cs ds → (from_types cs t ≡ from_types ds t) × (results_in_from cs t ≡ results_in_from ds t)

pub record Joined (cs : Types) (n : ℕ) (ahead : List ValueType) (found : Found) (r : Relations) (new : Found) : Type 0 where
  pub clean : Clean new
  pub results : new.results ≡ found.results + length (results_in_from cs r.tree)
  pub columns : AllFit (from_types cs r.tree) (source_kinds r.columns)
  pub typed : HaveResults cs found.results (results_in_from cs r.tree) → IsTypedFrom cs ahead r.tree
  pub steady : SteadyFrom n cs r.tree

abbrev pub JoinedIf : Types → ℕ → List ValueType → Found → Result (Relations × Found) BindError → Type 0
JoinedIf cs n ahead found (Ok p) = Joined cs n ahead found p.0 p.1
JoinedIf cs n ahead found (Err e) = ⊤

pub joined_where : (cs : Types) (n : ℕ) (ahead : List ValueType) (start found : Found) (t : Bool) (e : BindError) (r : Reading Relations) → JoinedIf cs n ahead start (r found) → JoinedIf cs n ahead start (provided t e r found)
joined_where cs n ahead start found true e r h = h
joined_where cs n ahead start found false e r h = tt

-- a leaf
pub under_joined : (cs : Types) (n : ℕ) (ahead : List ValueType) (found : Found) → Clean found → (name : Name) (names : List (List ℕ)) (tree : FromTree) (columns : List Source) (joined : Bool)
    → AllFit (from_types cs tree) (source_kinds columns) → results_in_from cs tree ≡ [] → IsTypedFrom cs ahead tree → SteadyFrom n cs tree → JoinedIf cs n ahead found (r.under name names tree columns joined found)
under_joined cs n ahead found clean name names tree columns joined h none k steady =
    joined_where cs n ahead found found _ _ (give (record { tree = tree; columns = columns; names = name.text ∷ []; joined = joined }))
    (record { clean = clean; results = let e = ap length none in omega (arith, e); columns = h; typed = λ g. k; steady = steady })

module _ (cs : Types) (w : World) (fit : WorldTyped cs w) (ahead : List ValueType) (found : Found) (clean : Clean found) where
  abbrev n : ℕ
  n = length w.commons

  map_length : (cols : List schema.Column) → length (map (λ c. kind_type c.kind) cols) ≡ length cols
  map_length [] = refl
  map_length (c ∷ cols) = ap suc (map_length cols)

  table_joined : (name alias : Name) (names : List (List ℕ)) (i : ℕ) (t : Option TableInfo) → slice_get w.tables i ≡ t → JoinedIf cs n ahead found (r.table_under name alias names i t found)
  table_joined name alias names i None is = tt
  table_joined name alias names i (Some t) is =
      let e = fit.tables i t is in
      joined_where cs n ahead found found _ _ (r.under alias names (Table i (length t.columns)) (table_sources alias.text t) false)
      (under_joined cs n ahead found clean alias names (Table i (length t.columns)) (table_sources alias.text t) false
      (subst (λ ts. AllFit ts (source_kinds (table_sources alias.text t))) (sym e) (columns_fit alias.text t.columns)) refl (sym (ap length e ∙ map_length t.columns)) (λ ds s. (ap (λ ts. slice_index_or ts i []) s.tables, refl)))

  table_by_joined : (name alias : Name) (names : List (List ℕ)) (i : Option ℕ) → JoinedIf cs n ahead found (r.table_by w name alias names i found)
  table_by_joined name alias names None = tt
  table_by_joined name alias names (Some i) = table_joined name alias names i (slice_get w.tables i) refl

  common_joined : (alias : Name) (names : List (List ℕ)) (i : ℕ) (c : Option Common) → slice_get w.commons i ≡ c → JoinedIf cs n ahead found (r.common_by w alias names i c found)
  common_joined alias names i None is = tt
  common_joined alias names i (Some c) is =
      let h = fit.commons i c is in
      under_joined cs n ahead found clean alias names (tree.Result i (length c.outputs)) (output_sources alias.text c.outputs) c.joined
      (outputs_fit alias.text (result_types cs i) c.outputs h) refl (outputs_length (result_types cs i) c.outputs h) (λ ds s. (s.results i (is_below w.commons i c is), refl))

  relation_joined : (name alias : Name) (names : List (List ℕ)) (i : Option ℕ) → JoinedIf cs n ahead found (r.relation_by w name alias names i found)
  relation_joined name alias names None = table_by_joined name alias names (number_of w.tables name.text)
  relation_joined name alias names (Some i) = common_joined alias names i (slice_get w.commons i) refl

  pub table_relation_joined : (name alias : Name) (names : List (List ℕ)) → JoinedIf cs n ahead found (r.table_relation w name alias names found)
  table_relation_joined name alias names =
      joined_where cs n ahead found found _ _ (r.relation_by w name alias names (position (λ c. bytes_eq c.name name.text) w.commons)) (relation_joined name alias names (position (λ c. bytes_eq c.name name.text) w.commons))
