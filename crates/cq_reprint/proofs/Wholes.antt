-- A query is one with another where its parts are.
use Rattle.std.proofs.Common.{◌≡◌, ◌↔◌, Bool, IsTrue, sym, ◌∙◌, ap}
use Rattle.cq_tree.specs.declared.query.Query.{Query, out-Query, roll-Query, roll-out-Query}
use Rattle.cq_tree.specs.declared.query.FromTree.{FromTree}
use Rattle.cq_tree.specs.declared.query.FromTree.TheOpen.{Query-F}
use Rattle.cq_reprint.specs.Alike.{IsReadAlike, IsGroupedAlike, IsShownAlike}

abbrev Layer : Type 0
Layer = Query-F FromTree Query

layers_same : (p q : Layer) → IsReadAlike p q → IsGroupedAlike p q → IsShownAlike p q → p ≡ q
layers_same p q (ctes, subs, from) (filter, grouped, keys, aggs, having) (items, shown, distinct, order, limit, offset, names) = λ i. record {
  ctes = ctes i;
  subs = subs i;
  from = from i;
  filter = filter i;
  grouped = grouped i;
  keys = keys i;
  aggs = aggs i;
  having = having i;
  items = items i;
  shown = shown i;
  distinct = distinct i;
  order = order i;
  limit = limit i;
  offset = offset i;
  names = names i;
}

grouped_alike : (p q : Layer) → p ≡ q → IsGroupedAlike p q
grouped_alike p q same = (
  ap (λ (l : Layer). l.filter) same,
  ap (λ (l : Layer). l.grouped) same,
  ap (λ (l : Layer). l.keys) same,
  ap (λ (l : Layer). l.aggs) same,
  ap (λ (l : Layer). l.having) same,
)

shown_alike : (p q : Layer) → p ≡ q → IsShownAlike p q
shown_alike p q same = (
  ap (λ (l : Layer). l.items) same,
  ap (λ (l : Layer). l.shown) same,
  ap (λ (l : Layer). l.distinct) same,
  ap (λ (l : Layer). l.order) same,
  ap (λ (l : Layer). l.limit) same,
  ap (λ (l : Layer). l.offset) same,
  ap (λ (l : Layer). l.names) same,
)

pub query_whole : (p q : Query) (r : Bool) → IsReadAlike (out-Query p) (out-Query q)
    → IsTrue r ↔ (IsGroupedAlike (out-Query p) (out-Query q) × IsShownAlike (out-Query p) (out-Query q)) → IsTrue r ↔ (p ≡ q)
query_whole p q r reads rest = (
  (λ t. sym (roll-out-Query p) ∙ ap roll-Query (layers_same (out-Query p) (out-Query q) reads (rest.0 t).0 (rest.0 t).1) ∙ roll-out-Query q),
  (λ is. rest.1 (grouped_alike (out-Query p) (out-Query q) (ap out-Query is), shown_alike (out-Query p) (out-Query q) (ap out-Query is))),
)
