-- The components of a query's FROM are of co-location groups of the catalogue.
use Rattle.std.proofs.Common.{◌≡◌, ℕ, List, [], None, refl, sym, ◌∙◌, subst}
use Rattle.cq_tree.specs.declared.query.Query.{Query, Query', out-Query}
use Rattle.cq_catalog.specs.Contents.{Contents}
use Rattle.cq_catalog.specs.Whole.{IsWhole}
use Rattle.cq_planning.specs.Joins.{relations_of}
use Rattle.cq_planning.specs.Relations.{Relation}
use Rattle.cq_planning.specs.Pushable.{relations}
use Rattle.cq_outline.specs.Joining.{Component, components_with}
use Rattle.cq_strategies.specs.Components.{AreThere}
use Rattle.cq_strategies.proofs.ThereLaws.{AreOf, relations_there, components_there}

relations_is : (c : Contents) (q : Query) → relations_of c q ≡ relations c (out-Query q).from 0 None
unfolding out-Query denote.Hole.Carrier.out
relations_is c (Query' cs ctes ss subs from where_ grouped keys aggs having items shown distinct order limit offset names) = refl

pub query_there : (c : Contents) (q : Query) (first : ℕ → ℕ) (width : ℕ) (rels : List Relation) (ps : List Component) → IsWhole c → rels ≡ relations_of c q → ps ≡ components_with first width [] rels → AreThere c ps
query_there c q first width rels ps whole r p =
    let of : AreOf c rels = subst (AreOf c) (sym (r ∙ relations_is c q)) (relations_there c whole (out-Query q).from 0 None) in
    subst (AreThere c) (sym p) (components_there c first width rels [] tt of)
