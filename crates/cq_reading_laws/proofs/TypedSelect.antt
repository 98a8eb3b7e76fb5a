-- A SELECT is well typed: the whole walk.
use Rattle.std.proofs.Common.{◌+◌, Bool, true, false, List, [], ◌∷◌, map, length, refl, sym, ap, subst, arith, Result, Ok, Err}
use Rattle.std.specs.Prelude.{nat_lt}
use Rattle.std.specs.List.{AllByRecursion}
use Rattle.cq_grammar.specs.declared.expr.Expr.TheOpen.{Select-F}
use Rattle.cq_reading.specs.declared.bound.Found.{Found}
use Rattle.cq_reading.specs.declared.bound.Block.{Block}
use Rattle.cq_reading.specs.declared.bound.Relations.{Relations}
use Rattle.cq_reading.specs.declared.error.BindError.{BindError}
use Rattle.cq_reading.specs.declared.error.BindError.TheVariants as error
use Rattle.cq_reading.specs.declared.error.Limited.TheVariants as limited
use Rattle.cq_reading.specs.Steps.{Reading, provided, follow, ◌then◌, give}
use Rattle.cq_reading.specs.Scopes.{World}
use Rattle.cq_reading.specs.Parts.{FromPart}
use Rattle.cq_reading.specs.Expressions.{Layer}
use Rattle.cq_reading.specs.Relations as r
use Rattle.cq_reading.specs.Selects as s
use Rattle.cq_reading.specs.Walk as walk
use Rattle.cq_reading_laws.specs.Typing.{IsTypedAggregate}
use Rattle.cq_reading_laws.specs.TypedQueries.{Types, from_types, results_in_from, results_of, HaveResults, IsTypedQuery}
use Rattle.cq_reading_laws.specs.Reach.{WorldTyped}
use Rattle.cq_reading_laws.proofs.TypedKeeping.{Steady, Good, RunIf, append_length, have_first, have_rest}
use Rattle.cq_reading_laws.proofs.TypedFurtherParts.{BlockIf}
use Rattle.cq_reading_laws.proofs.TypedFrom.{Joined, JoinedIf}
use Rattle.cq_reading_laws.proofs.TypedJoins.{FromTyped}
use Rattle.cq_reading_laws.proofs.TypedProducts.{some_from_typed}
use Rattle.cq_reading_laws.proofs.TypedBody.{PartsTyped, BlockFine, z, anything, rest, rest_fine}

-- relations there are, each of which is typed
abbrev pub FromsTyped : List FromPart → Type 0
FromsTyped [] = ⊥
FromsTyped (f ∷ more) = FromTyped f × AllByRecursion FromTyped more

module _ (cs : Types) (w : World) (fit : WorldTyped cs w) (q : Layer Select-F) (parts : PartsTyped q) (froms : FromsTyped q.from) (found : Found) where
  abbrev start : Found
  start = record found { blocks = found.blocks + 1; subs = []; aggs = [] }

  of_rest : (r : Relations) (first : Found) (j : Joined cs (length w.commons) [] start r first) (o : Result (Block × Found) BindError)
      → RunIf (z cs w fit q parts r start first j) (anything cs w fit q parts r start first j) (BlockFine cs w fit q parts r start first j) first o → BlockIf cs (length w.commons) found (s.in_block o found)
  of_rest r first j (Err e) h = tt
  of_rest r first j (Ok p) h =
      let from = results_in_from cs r.tree in let subs = results_of cs p.1.subs in (
        record {
          subs = refl;
          aggs = refl;
          results = let e = ap length h.2.results in let l = append_length from subs in omega (arith, e, l, j.results, h.0.typed.numbered);
          outputs = h.2.outputs;
          typed = λ have.
              let all = subst (HaveResults cs found.results) h.2.results have in
              h.2.typed (j.typed (have_first cs found.results from subs all)) (subst (λ n. HaveResults cs n subs) (sym j.results) (have_rest cs found.results from subs all));
        },
        h.2.steady,
      )

  good : (r : Relations) (first : Found) (j : Joined cs (length w.commons) [] start r first) → Good (z cs w fit q parts r start first j) first
  good r first j = record {
    typed = record {
      numbered = let e = ap (λ qs. length (results_of cs qs)) j.clean.subs in omega (arith, e);
      subs = λ y. subst (λ qs. AllByRecursion (IsTypedQuery cs) qs) (sym j.clean.subs) tt;
      aggs = λ y. subst (λ xs. AllByRecursion (IsTypedAggregate (from_types cs r.tree) cs.results) xs) (sym j.clean.aggs) tt;
    };
    steady = λ e. subst (λ qs. AllByRecursion (Steady (length w.commons) cs) qs) (sym j.clean.subs) tt;
  }

  of_from : (o : Result (Relations × Found) BindError) → JoinedIf cs (length w.commons) [] start o → BlockIf cs (length w.commons) found (s.in_block (follow o (λ r. s.filter_of (s.before_grouping w r true) q.filter then (λ filter.
      s.group_keys (s.before_grouping w r false) (s.targets r.columns q.items) r.joined q.groups then (λ keys.
      s.having_of (s.after_grouping w r (walk.groups q) keys true) r.joined q.having then (λ having.
      s.at_most 512 limited.Outputs (s.read_target (s.after_grouping w r (walk.groups q) keys false)) (s.targets r.columns q.items) then (λ outputs.
      s.order_keys (s.after_grouping w r (walk.groups q) keys false) outputs q.distinct q.order (record { items = map s.item_of outputs; keys = [] }) then (λ order.
      s.look then (λ found. give (walk.block_of q r filter keys having outputs order found))))))))) found)
  of_from (Err e) h = tt
  of_from (Ok p) h = of_rest p.0 p.1 h (rest cs w fit q parts p.0 start p.1 h p.1) (rest_fine cs w fit q parts p.0 start p.1 h (good p.0 p.1 h))

  from_joined : (fs : List FromPart) → FromsTyped fs → JoinedIf cs (length w.commons) [] start (r.from_of w fs start)
  from_joined [] h = absurd h
  from_joined (f ∷ more) h = some_from_typed cs w fit start (record { subs = refl; aggs = refl }) f more h.0 h.1

  block_where : (t : Bool) (e : BindError) (r : Reading Block) → BlockIf cs (length w.commons) found (r found) → BlockIf cs (length w.commons) found (provided t e r found)
  block_where true e r h = h
  block_where false e r h = tt

  -- a SELECT from its FROM on
  abbrev body : Reading Block
  body = r.from_of w q.from then (λ r. s.filter_of (s.before_grouping w r true) q.filter then (λ filter.
      s.group_keys (s.before_grouping w r false) (s.targets r.columns q.items) r.joined q.groups then (λ keys.
      s.having_of (s.after_grouping w r (walk.groups q) keys true) r.joined q.having then (λ having.
      s.at_most 512 limited.Outputs (s.read_target (s.after_grouping w r (walk.groups q) keys false)) (s.targets r.columns q.items) then (λ outputs.
      s.order_keys (s.after_grouping w r (walk.groups q) keys false) outputs q.distinct q.order (record { items = map s.item_of outputs; keys = [] }) then (λ order.
      s.look then (λ found. give (walk.block_of q r filter keys having outputs order found))))))))

  pub select_step_typed : BlockIf cs (length w.commons) found (walk.select_step q w found)
  select_step_typed =
      block_where (nat_lt found.blocks 64) (error.Limit limited.Blocks 64) (λ f. s.in_block (body (record f { blocks = f.blocks + 1; subs = []; aggs = [] })) f) (of_from (r.from_of w q.from start) (from_joined q.from froms))
