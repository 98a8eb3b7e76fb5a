-- Whether two queries are alike, in parts.
use Rattle.std.specs.Prelude.{◌≡◌}
use Rattle.cq_tree.specs.declared.query.FromTree.TheOpen.{Query-F}

-- the same is read
abbrev pub IsReadAlike : {F Q : Type 0} → Query-F F Q → Query-F F Q → Type 0
IsReadAlike p q = (p.ctes ≡ q.ctes) × (p.subs ≡ q.subs) × (p.from ≡ q.from)

-- its rows are kept and grouped alike
abbrev pub IsGroupedAlike : {F Q : Type 0} → Query-F F Q → Query-F F Q → Type 0
IsGroupedAlike p q = (p.filter ≡ q.filter) × (p.grouped ≡ q.grouped) × (p.keys ≡ q.keys) × (p.aggs ≡ q.aggs) × (p.having ≡ q.having)

-- and shown alike
abbrev pub IsShownAlike : {F Q : Type 0} → Query-F F Q → Query-F F Q → Type 0
IsShownAlike p q =
    (p.items ≡ q.items) × (p.shown ≡ q.shown) × (p.distinct ≡ q.distinct) × (p.order ≡ q.order) × (p.limit ≡ q.limit) × (p.offset ≡ q.offset) × (p.names ≡ q.names)
