-- Which of a query's rows are wanted: all, or the first in an order, of them and of rows that come behind them.
use Rattle.std.specs.Prelude.{◌≡◌, List, [], ◌∷◌, take, Bool, ⊤}
use Rattle.std.specs.Ordering.{is_lt}
use Rattle.cq_tree.specs.declared.query.Key.{Key}
use Rattle.cq_meaning.specs.Values.{Row}
use Rattle.cq_meaning.specs.Sorting.{keys_cmp, placed, sorted}
use Rattle.cq_queries.specs.declared.wanted.Top.{Top}
use Rattle.cq_queries.specs.declared.wanted.Wanted.{Wanted}
use Rattle.cq_queries.specs.declared.wanted.Wanted.TheVariants as wanted

-- whether a row goes before another in the order of the keys
abbrev pub is_before : List Key → Row → Row → Bool
is_before keys x y = is_lt (keys_cmp keys x y)

-- rows put among others from the last to the first, each before all that aren't below it
abbrev pub put_before : {X : Type 0} → (X → X → Bool) → List X → List X → List X
put_before lt [] others = others
put_before lt (x ∷ xs) others = placed lt x (put_before lt xs others)

-- the first of rows and of those behind them
abbrev pub top_of : Top → List Row → List Row
top_of t rows = take t.most (put_before (is_before t.keys.now) rows t.behind)

abbrev pub wanted_of : Wanted → List Row → List Row
wanted_of wanted.All rows = rows
wanted_of (wanted.Top t) rows = top_of t rows

-- the rows behind are the first of some rows
abbrev pub IsTop : Top → Type 0
IsTop t = (seen : List Row) × (t.behind ≡ take t.most (sorted (keys_cmp t.keys.now) seen))

abbrev pub IsReady : Wanted → Type 0
IsReady wanted.All = ⊤
IsReady (wanted.Top t) = IsTop t
