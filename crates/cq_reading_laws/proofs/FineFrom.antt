-- The relations of a FROM are what the engine asks for, and the columns in reach have their bits.
use Rattle.std.proofs.Common.{◌≡◌, ℕ, zero, suc, ◌+◌, ◌≤◌, Bool, true, false, List, [], ◌∷◌, ◌++◌, map, length, refl, sym, ap, ◌∙◌, subst, arith, Option, None, Some, Result, Ok, Err}
use Rattle.std.specs.Prelude.{⊤, slice_get, slice_index_or, position, bytes_eq}
use Rattle.cq_value.specs.declared.schema.Column as schema
use Rattle.cq_value.specs.declared.schema.Kind.{Kind}
use Rattle.cq_value.specs.declared.schema.Kind.TheVariants as kind
use Rattle.cq_catalog.specs.declared.info.TableInfo.{TableInfo}
use Rattle.cq_catalog.specs.Contents.{number_of}
use Rattle.cq_grammar.specs.declared.name.Name.{Name}
use Rattle.cq_tree.specs.declared.query.FromTree.{FromTree, Table, Sub, Cross, Inner, Left}
use Rattle.cq_tree.specs.declared.query.FromTree as tree
use Rattle.cq_meaning.specs.declared.Columns.{Columns}
use Rattle.cq_meaning.specs.Widths.{bits_of_kind, from_bits, IsBoundFrom}
use Rattle.cq_reading.specs.declared.bound.Found.{Found}
use Rattle.cq_reading.specs.declared.bound.Source.{Source}
use Rattle.cq_reading.specs.declared.bound.Output.{Output}
use Rattle.cq_reading.specs.declared.bound.Common.{Common}
use Rattle.cq_reading.specs.declared.bound.Relations.{Relations}
use Rattle.cq_reading.specs.declared.error.BindError.{BindError}
use Rattle.cq_reading.specs.Steps.{Reading, give, provided}
use Rattle.cq_reading.specs.Scopes.{World, column_source, table_sources, output_sources}
use Rattle.cq_reading.specs.Relations as r
use Rattle.cq_reading.specs.Widths.{kind_type, kind_width}
use Rattle.cq_reading_laws.specs.Bounds.{HasBits, AggregatesStand}
use Rattle.cq_reading_laws.specs.Worlds.{IsWide, SourcesFit, OutputsFit, WorldFits}
use Rattle.cq_reading_laws.proofs.Standing.{no_truth}

-- ---- widths of columns

kind_wide : (relation : List ℕ) (c : schema.Column) → IsWide (bits_of_kind c.kind) (column_source relation c).kind (column_source relation c).width
kind_wide relation c = by_kind c.kind
  where
    by_kind : (k : Kind) → IsWide (bits_of_kind k) (kind_type k) (kind_width k)
    by_kind kind.Bigint = record { within = omega arith; fits = omega arith; some = λ e. omega arith }
    by_kind kind.Integer = record { within = omega arith; fits = omega arith; some = λ e. omega arith }
    by_kind kind.Text = record { within = omega arith; fits = omega arith; some = λ e. absurd (no_truth e) }

pub columns_fit : (relation : List ℕ) (cs : List schema.Column) → SourcesFit (map (λ c. bits_of_kind c.kind) cs) (map (column_source relation) cs)
columns_fit relation [] = tt
columns_fit relation (c ∷ cs) = (kind_wide relation c, columns_fit relation cs)

pub outputs_fit : (relation : List ℕ) (ks : List ℕ) (os : List Output) → OutputsFit ks os → SourcesFit ks (output_sources relation os)
outputs_fit relation [] [] h = tt
outputs_fit relation [] (o ∷ os) h = absurd h
outputs_fit relation (k ∷ ks) [] h = absurd h
outputs_fit relation (k ∷ ks) (o ∷ os) h = (h.0, outputs_fit relation ks os h.1)

pub outputs_length : (ks : List ℕ) (os : List Output) → OutputsFit ks os → length os ≡ length ks
outputs_length [] [] h = refl
outputs_length [] (o ∷ os) h = absurd h
outputs_length (k ∷ ks) [] h = absurd h
outputs_length (k ∷ ks) (o ∷ os) h = ap suc (outputs_length ks os h.1)

pub sources_length : (ks : List ℕ) (ss : List Source) → SourcesFit ks ss → length ss ≡ length ks
sources_length [] [] h = refl
sources_length [] (s ∷ ss) h = absurd h
sources_length (k ∷ ks) [] h = absurd h
sources_length (k ∷ ks) (s ∷ ss) h = ap suc (sources_length ks ss h.1)

pub sources_append : (js ks : List ℕ) (ss ts : List Source) → SourcesFit js ss → SourcesFit ks ts → SourcesFit (js ++ ks) (ss ++ ts)
sources_append [] ks [] ts h k = k
sources_append [] ks (s ∷ ss) ts h k = absurd h
sources_append (j ∷ js) ks [] ts h k = absurd h
sources_append (j ∷ js) ks (s ∷ ss) ts h k = (h.0, sources_append js ks ss ts h.1 k)

abbrev IsWideIf : ℕ → Option Source → Type 0
IsWideIf k None = ⊤
IsWideIf k (Some s) = IsWide k s.kind s.width

no_source : (i : ℕ) (s : Source) → slice_get [] i ≡ Some s → ⊥
no_source i s is = subst (λ o. IsNothing o) is tt
  where
    IsNothing : Option Source → Type 0
    IsNothing None = ⊤
    IsNothing (Some s) = ⊥

sources_at : (ks more : List ℕ) (ss : List Source) → SourcesFit ks ss → (i : ℕ) (s : Source) → slice_get ss i ≡ Some s → HasBits (ks ++ more) i s
sources_at [] more [] h i s is = absurd (no_source i s is)
sources_at [] more (t ∷ ss) h i s is = absurd h
sources_at (k ∷ ks) more [] h i s is = absurd h
sources_at (k ∷ ks) more (t ∷ ss) h zero s is =
    let w : IsWide k s.kind s.width = subst (λ o. IsWideIf k o) is h.0 in
    record { is_there = omega arith; within = w.within; fits = w.fits; some = w.some }
sources_at (k ∷ ks) more (t ∷ ss) h (suc i) s is =
    let b = sources_at ks more ss h.1 i s is in
    record { is_there = omega (arith, b.is_there); within = b.within; fits = b.fits; some = b.some }

bits_behind : (ahead ks : List ℕ) (i : ℕ) (s : Source) → HasBits ks i s → HasBits (ahead ++ ks) (length ahead + i) s
bits_behind [] ks i s h = let e : 0 + i ≡ i = omega arith in subst (λ j. HasBits ks j s) (sym e) h
bits_behind (a ∷ ahead) ks i s h =
    let b = bits_behind ahead ks i s h in
    let e : length (a ∷ ahead) + i ≡ suc (length ahead + i) = omega arith in
    subst (λ j. HasBits (a ∷ (ahead ++ ks)) j s) (sym e) (record { is_there = omega (arith, b.is_there); within = b.within; fits = b.fits; some = b.some })

-- columns behind others have their bits
pub sources_have : (ahead ks more : List ℕ) (ss : List Source) → SourcesFit ks ss → (i : ℕ) (s : Source) → slice_get ss i ≡ Some s → HasBits (ahead ++ (ks ++ more)) (length ahead + i) s
sources_have ahead ks more ss h i s is = bits_behind ahead (ks ++ more) i s (sources_at ks more ss h i s is)

-- ---- what is read of a FROM behind columns of these bits, after what was found before

pub record Joined (cs : Columns) (ahead : List ℕ) (found : Found) (r : Relations) (new : Found) : Type 0 where
  pub results : found.results ≤ new.results
  pub aggs : (more : List ℕ) → AggregatesStand (ahead ++ (from_bits cs r.tree ++ more)) found → AggregatesStand (ahead ++ (from_bits cs r.tree ++ more)) new
  pub columns : SourcesFit (from_bits cs r.tree) r.columns
  pub bound : new.results ≤ length cs.results → IsBoundFrom cs ahead r.tree

abbrev pub JoinedIf : Columns → List ℕ → Found → Result (Relations × Found) BindError → Type 0
JoinedIf cs ahead found (Ok p) = Joined cs ahead found p.0 p.1
JoinedIf cs ahead found (Err e) = ⊤

pub joined_where : (cs : Columns) (ahead : List ℕ) (start found : Found) (t : Bool) (e : BindError) (r : Reading Relations) → JoinedIf cs ahead start (r found) → JoinedIf cs ahead start (provided t e r found)
joined_where cs ahead start found true e r h = h
joined_where cs ahead start found false e r h = tt

pub joined_provided : (cs : Columns) (ahead : List ℕ) (found : Found) (t : Bool) (e : BindError) (r : Reading Relations) → JoinedIf cs ahead found (r found) → JoinedIf cs ahead found (provided t e r found)
joined_provided cs ahead found t e r h = joined_where cs ahead found found t e r h

-- a leaf
pub under_joined : (cs : Columns) (ahead : List ℕ) (found : Found) (name : Name) (names : List (List ℕ)) (tree : FromTree) (columns : List Source) (joined : Bool)
    → SourcesFit (from_bits cs tree) columns → IsBoundFrom cs ahead tree → JoinedIf cs ahead found (r.under name names tree columns joined found)
under_joined cs ahead found name names tree columns joined h k =
    joined_provided cs ahead found _ _ (give (record { tree = tree; columns = columns; names = name.text ∷ []; joined = joined }))
    (record { results = omega arith; aggs = λ more a. a; columns = h; bound = λ l. k })

module _ (cs : Columns) (w : World) (fit : WorldFits cs w) (ahead : List ℕ) (found : Found) where
  map_length : (cols : List schema.Column) → length (map (λ c. bits_of_kind c.kind) cols) ≡ length cols
  map_length [] = refl
  map_length (c ∷ cols) = ap suc (map_length cols)

  table_joined : (name alias : Name) (names : List (List ℕ)) (i : ℕ) (t : Option TableInfo) → slice_get w.tables i ≡ t → JoinedIf cs ahead found (r.table_under name alias names i t found)
  table_joined name alias names i None is = tt
  table_joined name alias names i (Some t) is =
      let e = fit.tables i t is in
      joined_provided cs ahead found _ _ (r.under alias names (Table i (length t.columns)) (table_sources alias.text t) false)
      (under_joined cs ahead found alias names (Table i (length t.columns)) (table_sources alias.text t) false
      (subst (λ ks. SourcesFit ks (table_sources alias.text t)) (sym e) (columns_fit alias.text t.columns)) (sym (ap length e ∙ map_length t.columns)))

  table_by_joined : (name alias : Name) (names : List (List ℕ)) (i : Option ℕ) → JoinedIf cs ahead found (r.table_by w name alias names i found)
  table_by_joined name alias names None = tt
  table_by_joined name alias names (Some i) = table_joined name alias names i (slice_get w.tables i) refl

  common_joined : (alias : Name) (names : List (List ℕ)) (i : ℕ) (c : Option Common) → slice_get w.commons i ≡ c → JoinedIf cs ahead found (r.common_by w alias names i c found)
  common_joined alias names i None is = tt
  common_joined alias names i (Some c) is =
      let h = fit.commons i c is in
      under_joined cs ahead found alias names (tree.Result i (length c.outputs)) (output_sources alias.text c.outputs) c.joined
      (outputs_fit alias.text (slice_index_or cs.results i []) c.outputs h) (outputs_length (slice_index_or cs.results i []) c.outputs h)

  relation_joined : (name alias : Name) (names : List (List ℕ)) (i : Option ℕ) → JoinedIf cs ahead found (r.relation_by w name alias names i found)
  relation_joined name alias names None = table_by_joined name alias names (number_of w.tables name.text)
  relation_joined name alias names (Some i) = common_joined alias names i (slice_get w.commons i) refl

  pub table_relation_joined : (name alias : Name) (names : List (List ℕ)) → JoinedIf cs ahead found (r.table_relation w name alias names found)
  table_relation_joined name alias names = joined_provided cs ahead found _ _ (r.relation_by w name alias names (position (λ c. bytes_eq c.name name.text) w.commons)) (relation_joined name alias names (position (λ c. bytes_eq c.name name.text) w.commons))
