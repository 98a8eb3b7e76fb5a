-- The joins of a FROM are well typed.
use Rattle.std.proofs.Common.{◌≡◌, ℕ, ◌+◌, Bool, true, false, List, [], ◌∷◌, ◌++◌, length, refl, sym, ap, ◌∙◌, subst, arith, Result, Ok, Err}
use Rattle.std.specs.List.{AllByRecursion}
use Rattle.cq_grammar.specs.declared.name.Name.{Name}
use Rattle.cq_tree.specs.declared.expression.Cond.{Cond}
use Rattle.cq_tree.specs.declared.query.FromTree.{FromTree, Sub}
use Rattle.cq_reading.specs.declared.bound.Found.{Found}
use Rattle.cq_reading.specs.declared.bound.Block.{Block}
use Rattle.cq_reading.specs.declared.bound.Bound.{Bound}
use Rattle.cq_reading.specs.declared.bound.Relations.{Relations}
use Rattle.cq_reading.specs.declared.error.BindError.{BindError}
use Rattle.cq_reading.specs.declared.error.BindError.TheVariants as error
use Rattle.cq_reading.specs.Steps.{give, provided, follow, ◌then◌}
use Rattle.cq_reading.specs.Widths.{ValueType, is_truth, cond_of}
use Rattle.cq_reading.specs.Scopes.{World, Context, output_sources}
use Rattle.cq_reading.specs.Parts.{Part, RelationPart, JoinPart, FromPart, SelectPart}
use Rattle.cq_reading.specs.Expressions.{reads}
use Rattle.cq_reading.specs.Relations as r
use Rattle.cq_reading_laws.specs.Typing.{AllFit, IsTypedCondition, IsTypedAggregate}
use Rattle.cq_reading_laws.specs.TypedQueries.{Types, from_types, output_types, results_in_from, results_of, HaveResults, IsTypedFrom, IsTypedQuery}
use Rattle.cq_reading_laws.specs.Reach.{HasKind, HaveKinds, WorldTyped}
use Rattle.cq_reading_laws.proofs.Standing.{no_truth}
use Rattle.cq_reading_laws.proofs.TypedKeeping.{Steady, Setting, Given, Good, RunIf, Later, Fine, now, append_length, have_first, have_rest}
use Rattle.cq_reading_laws.proofs.TypedParts.{Reached, PartTyped}
use Rattle.cq_reading_laws.proofs.TypedFurtherParts.{BlockIf, SelectTyped}
use Rattle.cq_reading_laws.proofs.TypedFrom.{Clean, Joined, JoinedIf, source_kinds, joined_where, sources_append, sources_have, outputs_fit}
use Rattle.cq_reading_laws.proofs.TypedTrees.{types_sub, results_sub, typed_sub}

abbrev pub RelationTyped : RelationPart → Type 0
RelationTyped p = (cs : Types) (w : World) → WorldTyped cs w → (names : List (List ℕ)) (ahead : List ValueType) (found : Found) → Clean found → JoinedIf cs (length w.commons) ahead found (p w names found)

abbrev pub JoinTyped : JoinPart → Type 0
JoinTyped j = (cs : Types) (w : World) → WorldTyped cs w → (names : List (List ℕ)) (first : ℕ) (ahead : List ValueType) → length ahead ≡ first
    → (a : Relations) (start found : Found) → Joined cs (length w.commons) ahead start a found → JoinedIf cs (length w.commons) ahead start (j w names first a found)

abbrev pub FromTyped : FromPart → Type 0
FromTyped f =
    (cs : Types) (w : World) → WorldTyped cs w → (names : List (List ℕ)) (first : ℕ) (ahead : List ValueType) → length ahead ≡ first → (found : Found) → Clean found → JoinedIf cs (length w.commons) ahead found
    (f w names first found)

module _ (cs : Types) (n : ℕ) where
  -- a subquery
  of_block : (ahead : List ValueType) (found : Found) → Clean found → (alias : Name) (names : List (List ℕ)) (o : Result (Block × Found) BindError) → BlockIf cs n found o → JoinedIf cs n ahead found
      (follow o (r.subquery_relation alias names))
  of_block ahead found clean alias names (Err e) h = tt
  of_block ahead found clean alias names (Ok p) h =
      joined_where cs n ahead found p.1 _ (error.NameTaken alias.text) (give (record { tree = Sub p.0.query; columns = output_sources alias.text p.0.outputs; names = alias.text ∷ []; joined = p.0.joined }))
      (record {
        clean = record { subs = h.0.subs ∙ clean.subs; aggs = h.0.aggs ∙ clean.aggs };
        results = h.0.results ∙ ap (λ rs. found.results + length rs) (sym (results_sub cs p.0.query));
        columns = subst (λ ts. AllFit ts (source_kinds (output_sources alias.text p.0.outputs))) (sym (types_sub cs p.0.query)) (outputs_fit alias.text (output_types cs p.0.query) p.0.outputs h.0.outputs);
        typed = λ g. typed_sub cs ahead p.0.query (h.0.typed (subst (HaveResults cs found.results) (results_sub cs p.0.query) g));
        steady = λ ds s. let e = h.1 ds s in (types_sub cs p.0.query ∙ (e.0 ∙ sym (types_sub ds p.0.query)), results_sub cs p.0.query ∙ (e.1 ∙ sym (results_sub ds p.0.query)));
      })

  -- two that are joined
  pub both_joined : (ahead : List ValueType) (make : FromTree → FromTree → FromTree) (a b : Relations) (start f g new : Found) → Joined cs n ahead start a f → Joined cs n (ahead ++ from_types cs a.tree) f b g
      → Clean new → new.results ≡ g.results
      → ((ds : Types) → from_types ds (make a.tree b.tree) ≡ from_types ds a.tree ++ from_types ds b.tree)
      → ((ds : Types) → results_in_from ds (make a.tree b.tree) ≡ results_in_from ds a.tree ++ results_in_from ds b.tree)
      → (IsTypedFrom cs ahead a.tree → IsTypedFrom cs (ahead ++ from_types cs a.tree) b.tree → IsTypedFrom cs ahead (make a.tree b.tree)) → Joined cs n ahead start (r.both make a b) new
  both_joined ahead make a b start f g new h k clean same types results typed =
      let A = from_types cs a.tree in let B = from_types cs b.tree in
      let RA = results_in_from cs a.tree in let RB = results_in_from cs b.tree in
      record {
        clean = clean;
        results = let e = ap length (results cs) in let l = append_length RA RB in omega (arith, e, l, h.results, k.results, same);
        columns = subst (λ ts. AllFit ts (source_kinds (a.columns ++ b.columns))) (sym (types cs)) (sources_append A B a.columns b.columns h.columns k.columns);
        typed = λ have.
            let both = subst (HaveResults cs start.results) (results cs) have in
            typed (h.typed (have_first cs start.results RA RB both)) (k.typed (subst (λ n. HaveResults cs n RB) (sym h.results) (have_rest cs start.results RA RB both)));
        steady = λ ds s.
            let x = h.steady ds s in let y = k.steady ds s in (
              types cs ∙ (ap (λ ts. ts ++ B) x.0 ∙ (ap (λ ts. from_types ds a.tree ++ ts) y.0 ∙ sym (types ds))),
              results cs ∙ (ap (λ rs. rs ++ RB) x.1 ∙ (ap (λ rs. results_in_from ds a.tree ++ rs) y.1 ∙ sym (results ds))),
            );
      }

pub subquery_typed : (select : SelectPart) (alias : Name) → SelectTyped select → RelationTyped (λ w names. r.one_more names (select w then r.subquery_relation alias names))
subquery_typed select alias h cs w fit names ahead found clean =
    joined_where cs (length w.commons) ahead found found _ _ (select w then r.subquery_relation alias names) (of_block cs (length w.commons) ahead found clean alias names (select w found) (h cs w fit found))

-- ---- ON

module _ (cs : Types) (w : World) (fit : WorldTyped cs w) (first : ℕ) (ahead : List ValueType) (same : length ahead ≡ first) (a b : Relations) (start f g : Found)
    (h : Joined cs (length w.commons) ahead start a f) (k : Joined cs (length w.commons) (ahead ++ from_types cs a.tree) f b g) where
  abbrev cx : Context
  cx = r.on_context w first (a.columns ++ b.columns)

  abbrev both : List ValueType
  both = from_types cs a.tree ++ from_types cs b.tree

  abbrev z : Setting
  z = record { types = cs; base = g.results; columns = ahead ++ both; reach = length w.commons; asked = true }

  have : HaveKinds z.columns cx
  have i s is = subst (λ n. HasKind z.columns (n + i) s) same
      (sources_have ahead both (a.columns ++ b.columns) (sources_append (from_types cs a.tree) (from_types cs b.tree) a.columns b.columns h.columns k.columns) i s is)

  reached : Reached z cx
  reached = record { world = fit; reach = refl; columns = have }

  good : Good z g
  good = record {
    typed = record {
      numbered = let e = ap (λ qs. length (results_of cs qs)) k.clean.subs in omega (arith, e);
      subs = λ y. subst (λ qs. AllByRecursion (IsTypedQuery cs) qs) (sym k.clean.subs) tt;
      aggs = λ y. subst (λ xs. AllByRecursion (IsTypedAggregate z.columns cs.results) xs) (sym k.clean.aggs) tt;
    };
    steady = λ e. subst (λ qs. AllByRecursion (Steady (length w.commons) cs) qs) (sym k.clean.subs) tt;
  }

  on_joined : (make : FromTree → FromTree → Cond → FromTree) (p : Bound × Found)
      → ((ds : Types) (c : Cond) → from_types ds (make a.tree b.tree c) ≡ from_types ds a.tree ++ from_types ds b.tree)
      → ((ds : Types) (c : Cond) → results_in_from ds (make a.tree b.tree c) ≡ results_in_from ds a.tree ++ results_in_from ds b.tree)
      → ((c : Cond) → IsTypedFrom cs ahead a.tree → IsTypedFrom cs (ahead ++ from_types cs a.tree) b.tree → IsTypedCondition (ahead ++ both) cs.results c → IsTypedFrom cs ahead (make a.tree b.tree c))
      → RunIf z cx (Later (Fine z cx)) g (Ok p) → Joined cs (length w.commons) ahead start (r.both (λ x y. make x y (cond_of p.0)) a b) p.1
  on_joined make p types results typed read =
      let none : p.1.subs ≡ [] = read.1.no_subs refl ∙ k.clean.subs in
      let n : p.1.results ≡ g.results = let e = ap (λ qs. length (results_of cs qs)) none in omega (arith, e, read.0.typed.numbered) in
      let given : Given z p.1 = subst (λ qs. HaveResults cs g.results (results_of cs qs)) (sym none) tt in
      both_joined cs (length w.commons) ahead (λ x y. make x y (cond_of p.0)) a b start f g p.1 h k (record { subs = none; aggs = read.1.no_aggs refl ∙ k.clean.aggs }) n (λ ds. types ds (cond_of p.0))
      (λ ds. results ds (cond_of p.0)) (λ left right.
      typed (cond_of p.0) left right ((read.2 p.1 (now p.1)).condition given))

  of_truth : (make : FromTree → FromTree → Cond → FromTree) (p : Bound × Found) (t : Bool) (e : BindError) → Joined cs (length w.commons) ahead start (r.both (λ x y. make x y (cond_of p.0)) a b) p.1
      → JoinedIf cs (length w.commons) ahead start (follow (provided t e (give (cond_of p.0)) p.1) (λ c. give (r.both (λ x y. make x y c) a b)))
  of_truth make p true e h = h
  of_truth make p false e h = tt

  of_on : (make : FromTree → FromTree → Cond → FromTree) (o : Result (Bound × Found) BindError) (e : BindError)
      → ((ds : Types) (c : Cond) → from_types ds (make a.tree b.tree c) ≡ from_types ds a.tree ++ from_types ds b.tree)
      → ((ds : Types) (c : Cond) → results_in_from ds (make a.tree b.tree c) ≡ results_in_from ds a.tree ++ results_in_from ds b.tree)
      → ((c : Cond) → IsTypedFrom cs ahead a.tree → IsTypedFrom cs (ahead ++ from_types cs a.tree) b.tree → IsTypedCondition (ahead ++ both) cs.results c → IsTypedFrom cs ahead (make a.tree b.tree c))
      → RunIf z cx (Later (Fine z cx)) g o → JoinedIf cs (length w.commons) ahead start (follow (follow o (λ b. provided (is_truth b) e (give (cond_of b)))) (λ c. give (r.both (λ x y. make x y c) a b)))
  of_on make (Ok p) e types results typed read = of_truth make p (is_truth p.0) e (on_joined make p types results typed read)
  of_on make (Err x) e types results typed read = tt

  pub joined_on_typed : (make : FromTree → FromTree → Cond → FromTree) (on : Part)
      → ((ds : Types) (c : Cond) → from_types ds (make a.tree b.tree c) ≡ from_types ds a.tree ++ from_types ds b.tree)
      → ((ds : Types) (c : Cond) → results_in_from ds (make a.tree b.tree c) ≡ results_in_from ds a.tree ++ results_in_from ds b.tree)
      → ((c : Cond) → IsTypedFrom cs ahead a.tree → IsTypedFrom cs (ahead ++ from_types cs a.tree) b.tree → IsTypedCondition (ahead ++ both) cs.results c → IsTypedFrom cs ahead (make a.tree b.tree c))
      → PartTyped on → JoinedIf cs (length w.commons) ahead start (r.joined_on w first make on a b g)
  joined_on_typed make on types results typed p = of_on make (reads on cx g) (error.Type on.at) types results typed (p z cx reached (λ t m. absurd (no_truth m)) g good)
