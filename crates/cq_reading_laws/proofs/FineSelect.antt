-- A SELECT is what the engine asks for: the whole walk.
use Rattle.std.proofs.Common.{◌+◌, Bool, true, false, List, [], ◌∷◌, refl, subst, arith, Result, Ok, Err}
use Rattle.std.specs.Prelude.{nat_lt}
use Rattle.std.specs.List.{AllByRecursion}
use Rattle.cq_grammar.specs.declared.expr.Expr.TheOpen.{Select-F}
use Rattle.cq_meaning.specs.declared.Columns.{Columns}
use Rattle.cq_meaning.specs.Widths.{from_bits}
use Rattle.cq_reading.specs.declared.bound.Found.{Found}
use Rattle.cq_reading.specs.declared.bound.Block.{Block}
use Rattle.cq_reading.specs.declared.bound.Relations.{Relations}
use Rattle.cq_reading.specs.declared.error.BindError.{BindError}
use Rattle.cq_reading.specs.declared.error.BindError.TheVariants as error
use Rattle.cq_reading.specs.declared.error.Limited.TheVariants as limited
use Rattle.cq_reading.specs.Steps.{Reading, provided, follow}
use Rattle.cq_reading.specs.Scopes.{World}
use Rattle.cq_reading.specs.Parts.{FromPart}
use Rattle.cq_reading.specs.Expressions.{Layer}
use Rattle.cq_reading.specs.Relations as r
use Rattle.cq_reading.specs.Selects as s
use Rattle.cq_reading.specs.Walk as walk
use Rattle.std.proofs.Common.{map}
use Rattle.cq_value.proofs.Lists.{append_nil}
use Rattle.cq_reading.specs.Steps.{◌then◌, give}
use Rattle.cq_reading_laws.specs.Bounds.{AggregatesStand}
use Rattle.cq_reading_laws.specs.Worlds.{WorldFits}
use Rattle.cq_reading_laws.proofs.GrowthSelects.{select_body}
use Rattle.cq_reading_laws.proofs.Onwards.{Kept, now}
use Rattle.cq_reading_laws.proofs.FineFrom.{Joined, JoinedIf}
use Rattle.cq_reading_laws.proofs.FineJoins.{FineBlockIf, FromStands}
use Rattle.cq_reading_laws.proofs.FineProducts.{some_from_stands}
use Rattle.cq_reading_laws.proofs.FineBody.{PartsStand, BlockFine, rest, rest_fine}

-- relations there are, each of which stands
abbrev pub FromsStand : List FromPart → Type 0
FromsStand [] = ⊥
FromsStand (f ∷ more) = FromStands f × AllByRecursion FromStands more

module _ (cs : Columns) (w : World) (fit : WorldFits cs w) (q : Layer Select-F) (parts : PartsStand q) (froms : FromsStand q.from) (found : Found) where
  abbrev start : Found
  start = record found { blocks = found.blocks + 1; subs = []; aggs = [] }

  of_rest : (r : Relations) (first : Found) (j : Joined cs [] start r first) (o : Result (Block × Found) BindError) → Kept (from_bits cs r.tree) (BlockFine cs w q parts r start first j) first o → FineBlockIf cs found (s.in_block o found)
  of_rest r first j (Err e) h = tt
  of_rest r first j (Ok p) h =
      let b = h.1 p.1 (now (from_bits cs r.tree) p.1) in
      record { results = omega (arith, j.results, h.0.results); aggs = refl; outputs = b.0; bound = b.1 }

  no_aggregates : (r : Relations) (first : Found) → Joined cs [] start r first → AggregatesStand (from_bits cs r.tree) first
  no_aggregates r first j = subst (λ ks. AggregatesStand ks first) (append_nil (from_bits cs r.tree)) (j.aggs [] (λ n l. tt))

  of_from : (o : Result (Relations × Found) BindError) → JoinedIf cs [] start o → FineBlockIf cs found (s.in_block (follow o (λ r. s.filter_of (s.before_grouping w r true) q.filter then (λ filter.
      s.group_keys (s.before_grouping w r false) (s.targets r.columns q.items) r.joined q.groups then (λ keys.
      s.having_of (s.after_grouping w r (walk.groups q) keys true) r.joined q.having then (λ having.
      s.at_most 512 limited.Outputs (s.read_target (s.after_grouping w r (walk.groups q) keys false)) (s.targets r.columns q.items) then (λ outputs.
      s.order_keys (s.after_grouping w r (walk.groups q) keys false) outputs q.distinct q.order (record { items = map s.item_of outputs; keys = [] }) then (λ order.
      s.look then (λ found. give (walk.block_of q r filter keys having outputs order found))))))))) found)
  of_from (Err e) h = tt
  of_from (Ok p) h = of_rest p.0 p.1 h (rest cs w q parts p.0 start p.1 h p.1) (rest_fine cs w q parts p.0 start p.1 h (no_aggregates p.0 p.1 h))

  from_joined : (fs : List FromPart) → FromsStand fs → JoinedIf cs [] start (r.from_of w fs start)
  from_joined [] h = absurd h
  from_joined (f ∷ more) h = some_from_stands cs w fit start f more h.0 h.1

  block_where : (t : Bool) (e : BindError) (r : Reading Block) → FineBlockIf cs found (r found) → FineBlockIf cs found (provided t e r found)
  block_where true e r h = h
  block_where false e r h = tt

  pub select_step_stands : FineBlockIf cs found (walk.select_step q w found)
  select_step_stands = block_where (nat_lt found.blocks 64) (error.Limit limited.Blocks 64) (λ f. s.in_block (select_body q w (record f { blocks = f.blocks + 1; subs = []; aggs = [] })) f) (of_from (r.from_of w q.from start) (from_joined q.from froms))
