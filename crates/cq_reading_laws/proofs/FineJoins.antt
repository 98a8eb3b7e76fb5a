-- The joins of a FROM are what the engine asks for.
use Rattle.std.proofs.Common.{◌≡◌, ℕ, ◌+◌, ◌≤◌, Bool, true, false, List, [], ◌∷◌, ◌++◌, length, refl, sym, subst, arith, Result, Ok, Err}
use Rattle.std.specs.Prelude.{⊤}
use Rattle.cq_value.proofs.Lists.{append_nil}
use Rattle.cq_grammar.specs.declared.name.Name.{Name}
use Rattle.cq_tree.specs.declared.expression.Cond.{Cond}
use Rattle.cq_tree.specs.declared.query.FromTree.{FromTree, Sub}
use Rattle.cq_meaning.specs.declared.Columns.{Columns}
use Rattle.cq_meaning.specs.Widths.{from_bits, output_bits, IsBoundCondition, IsBoundFrom}
use Rattle.cq_reading.specs.declared.bound.Found.{Found}
use Rattle.cq_reading.specs.declared.bound.Block.{Block}
use Rattle.cq_reading.specs.declared.bound.Bound.{Bound}
use Rattle.cq_reading.specs.declared.bound.Relations.{Relations}
use Rattle.cq_reading.specs.declared.error.BindError.{BindError}
use Rattle.cq_reading.specs.declared.error.BindError.TheVariants as error
use Rattle.cq_reading.specs.Steps.{give, provided, follow, ◌then◌}
use Rattle.cq_reading.specs.Widths.{is_truth, cond_of}
use Rattle.cq_reading.specs.Scopes.{World, Context, output_sources}
use Rattle.cq_reading.specs.Parts.{Part, RelationPart, JoinPart, FromPart, SelectPart}
use Rattle.cq_reading.specs.Expressions.{reads}
use Rattle.cq_reading.specs.Relations as r
use Rattle.cq_reading_laws.specs.Bounds.{HasBits, HaveBits, AggregatesStand}
use Rattle.cq_reading_laws.specs.Worlds.{SourcesFit, WorldFits, BlockStands}
use Rattle.cq_reading_laws.proofs.Standing.{no_truth}
use Rattle.cq_reading_laws.proofs.Onwards.{Kept, Fine, more_results, append_all}
use Rattle.cq_reading_laws.proofs.FineParts.{PartStands}
use Rattle.cq_reading_laws.proofs.FineFrom.{Joined, JoinedIf, joined_provided, joined_where, sources_append, sources_have, outputs_fit}
use Rattle.cq_reading_laws.proofs.Trees.{bits_sub, bound_sub}

abbrev pub FineBlockIf : Columns → Found → Result (Block × Found) BindError → Type 0
FineBlockIf cs found (Ok p) = BlockStands cs found p.0 p.1
FineBlockIf cs found (Err e) = ⊤

abbrev pub SelectStands : SelectPart → Type 0
SelectStands s = (cs : Columns) (w : World) → WorldFits cs w → (found : Found) → FineBlockIf cs found (s w found)

abbrev pub RelationStands : RelationPart → Type 0
RelationStands p = (cs : Columns) (w : World) → WorldFits cs w → (names : List (List ℕ)) (ahead : List ℕ) (found : Found) → JoinedIf cs ahead found (p w names found)

abbrev pub JoinStands : JoinPart → Type 0
JoinStands j = (cs : Columns) (w : World) → WorldFits cs w → (names : List (List ℕ)) (first : ℕ) (ahead : List ℕ) → length ahead ≡ first
    → (a : Relations) (start found : Found) → Joined cs ahead start a found → JoinedIf cs ahead start (j w names first a found)

abbrev pub FromStands : FromPart → Type 0
FromStands f = (cs : Columns) (w : World) → WorldFits cs w → (names : List (List ℕ)) (first : ℕ) (ahead : List ℕ) → length ahead ≡ first → (found : Found) → JoinedIf cs ahead found (f w names first found)

module _ (cs : Columns) where
  joined_from : (ahead : List ℕ) (f g : Found) (o : Result (Relations × Found) BindError) → f.results ≤ g.results → ((ks : List ℕ) → AggregatesStand ks f → AggregatesStand ks g) → JoinedIf cs ahead g o → JoinedIf cs ahead f o
  joined_from ahead f g (Ok p) l s h = record { results = omega (arith, l, h.results); aggs = λ more a. h.aggs more (s _ a); columns = h.columns; bound = h.bound }
  joined_from ahead f g (Err e) l s h = tt

  -- a subquery
  of_block : (ahead : List ℕ) (found : Found) (alias : Name) (names : List (List ℕ)) (o : Result (Block × Found) BindError) → FineBlockIf cs found o → JoinedIf cs ahead found (follow o (r.subquery_relation alias names))
  of_block ahead found alias names (Err e) h = tt
  of_block ahead found alias names (Ok p) h =
      joined_where cs ahead found p.1 _ (error.NameTaken alias.text) (give (record { tree = Sub p.0.query; columns = output_sources alias.text p.0.outputs; names = alias.text ∷ []; joined = p.0.joined }))
      (record {
        results = h.results;
        aggs = λ more a. (more_results _ found p.1 h.results h.aggs).stand a;
        columns = subst (λ ks. SourcesFit ks (output_sources alias.text p.0.outputs)) (sym (bits_sub cs p.0.query)) (outputs_fit alias.text (output_bits cs p.0.query) p.0.outputs h.outputs);
        bound = λ l. bound_sub cs ahead p.0.query (h.bound l);
      })

  -- two that are joined
  pub both_joined : (ahead : List ℕ) (make : FromTree → FromTree → FromTree) (a b : Relations) (start f g new : Found) → Joined cs ahead start a f → Joined cs (ahead ++ from_bits cs a.tree) f b g
      → g.results ≤ new.results → ((more : List ℕ) → AggregatesStand (ahead ++ ((from_bits cs a.tree ++ from_bits cs b.tree) ++ more)) g → AggregatesStand (ahead ++ ((from_bits cs a.tree ++ from_bits cs b.tree) ++ more)) new)
      → from_bits cs (make a.tree b.tree) ≡ from_bits cs a.tree ++ from_bits cs b.tree
      → (new.results ≤ length cs.results → IsBoundFrom cs ahead a.tree → IsBoundFrom cs (ahead ++ from_bits cs a.tree) b.tree → IsBoundFrom cs ahead (make a.tree b.tree)) → Joined cs ahead start (r.both make a b) new
  both_joined ahead make a b start f g new h k l s is bound =
      let A = from_bits cs a.tree in let B = from_bits cs b.tree in
      record {
        results = omega (arith, h.results, k.results, l);
        aggs = λ more. subst (λ ks. AggregatesStand (ahead ++ (ks ++ more)) start → AggregatesStand (ahead ++ (ks ++ more)) new) (sym is) (λ at_start.
            let one : AggregatesStand (ahead ++ (A ++ (B ++ more))) f = h.aggs (B ++ more) (subst (λ ks. AggregatesStand (ahead ++ ks) start) (append_all A B more) at_start) in
            let two : AggregatesStand ((ahead ++ A) ++ (B ++ more)) g = k.aggs more (subst (λ ks. AggregatesStand ks f) (sym (append_all ahead A (B ++ more))) one) in
            s more (subst (λ ks. AggregatesStand (ahead ++ ks) g) (sym (append_all A B more)) (subst (λ ks. AggregatesStand ks g) (append_all ahead A (B ++ more)) two)));
        columns = subst (λ ks. SourcesFit ks (a.columns ++ b.columns)) (sym is) (sources_append A B a.columns b.columns h.columns k.columns);
        bound = λ m. bound m (h.bound (omega (arith, k.results, l, m))) (k.bound (omega (arith, l, m)));
      }

pub subquery_stands : (select : SelectPart) (alias : Name) → SelectStands select → RelationStands (λ w names. r.one_more names (select w then r.subquery_relation alias names))
subquery_stands select alias h cs w fit names ahead found =
    joined_provided cs ahead found _ _ (select w then r.subquery_relation alias names) (of_block cs ahead found alias names (select w found) (h cs w fit found))

-- ---- ON

module _ (cs : Columns) (w : World) (first : ℕ) (ahead : List ℕ) (same : length ahead ≡ first) (a b : Relations) (start f g : Found)
    (h : Joined cs ahead start a f) (k : Joined cs (ahead ++ from_bits cs a.tree) f b g) where
  abbrev cx : Context
  cx = r.on_context w first (a.columns ++ b.columns)

  abbrev over : List ℕ → List ℕ
  over more = ahead ++ ((from_bits cs a.tree ++ from_bits cs b.tree) ++ more)

  have : (more : List ℕ) → HaveBits (over more) cx
  have more i s is = subst (λ n. HasBits (over more) (n + i) s) same
      (sources_have ahead (from_bits cs a.tree ++ from_bits cs b.tree) more (a.columns ++ b.columns) (sources_append (from_bits cs a.tree) (from_bits cs b.tree) a.columns b.columns h.columns k.columns) i s is)

  on_joined : (make : FromTree → FromTree → Cond → FromTree) (p : Bound × Found) → ((c : Cond) → from_bits cs (make a.tree b.tree c) ≡ from_bits cs a.tree ++ from_bits cs b.tree)
      → ((c : Cond) → IsBoundFrom cs ahead a.tree → IsBoundFrom cs (ahead ++ from_bits cs a.tree) b.tree → IsBoundCondition (ahead ++ (from_bits cs a.tree ++ from_bits cs b.tree)) (length cs.results) c → IsBoundFrom cs ahead (make a.tree b.tree c))
      → ((more : List ℕ) → Kept (over more) (Fine (over more) cx) g (Ok p)) → Joined cs ahead start (r.both (λ x y. make x y (cond_of p.0)) a b) p.1
  on_joined make p is bound read =
      let B = from_bits cs a.tree ++ from_bits cs b.tree in
      both_joined cs ahead (λ x y. make x y (cond_of p.0)) a b start f g p.1 h k (read []).0.results (λ more. (read more).0.stand) (is (cond_of p.0)) (λ l left right.
      let last : Found = record p.1 { results = length cs.results } in
      let s = (read []).1 last (more_results (over []) p.1 last l refl) in
      bound (cond_of p.0) left right (subst (λ ks. IsBoundCondition (ahead ++ ks) (length cs.results) (cond_of p.0)) (append_nil B) s.condition))

  of_truth : (make : FromTree → FromTree → Cond → FromTree) (p : Bound × Found) (t : Bool) (e : BindError) → Joined cs ahead start (r.both (λ x y. make x y (cond_of p.0)) a b) p.1
      → JoinedIf cs ahead start (follow (provided t e (give (cond_of p.0)) p.1) (λ c. give (r.both (λ x y. make x y c) a b)))
  of_truth make p true e h = h
  of_truth make p false e h = tt

  of_on : (make : FromTree → FromTree → Cond → FromTree) (o : Result (Bound × Found) BindError) (e : BindError) → ((c : Cond) → from_bits cs (make a.tree b.tree c) ≡ from_bits cs a.tree ++ from_bits cs b.tree)
      → ((c : Cond) → IsBoundFrom cs ahead a.tree → IsBoundFrom cs (ahead ++ from_bits cs a.tree) b.tree → IsBoundCondition (ahead ++ (from_bits cs a.tree ++ from_bits cs b.tree)) (length cs.results) c → IsBoundFrom cs ahead (make a.tree b.tree c))
      → ((more : List ℕ) → Kept (over more) (Fine (over more) cx) g o) → JoinedIf cs ahead start (follow (follow o (λ b. provided (is_truth b) e (give (cond_of b)))) (λ c. give (r.both (λ x y. make x y c) a b)))
  of_on make (Ok p) e is bound read = of_truth make p (is_truth p.0) e (on_joined make p is bound read)
  of_on make (Err x) e is bound read = tt

  pub joined_on_stands : (make : FromTree → FromTree → Cond → FromTree) (on : Part) → ((c : Cond) → from_bits cs (make a.tree b.tree c) ≡ from_bits cs a.tree ++ from_bits cs b.tree)
      → ((c : Cond) → IsBoundFrom cs ahead a.tree → IsBoundFrom cs (ahead ++ from_bits cs a.tree) b.tree → IsBoundCondition (ahead ++ (from_bits cs a.tree ++ from_bits cs b.tree)) (length cs.results) c → IsBoundFrom cs ahead (make a.tree b.tree c))
      → PartStands on → JoinedIf cs ahead start (r.joined_on w first make on a b g)
  joined_on_stands make on is bound p = of_on make (reads on cx g) (error.Type on.at) is bound (λ more. p (over more) cx (have more) (λ t m. absurd (no_truth m)) g)
