-- What is found while a SELECT is read, and its items before ORDER BY.
use Rattle.std.specs.Prelude.{◌+◌, List, [], map}
use Rattle.cq_reading.specs.declared.bound.Found.{Found}
use Rattle.cq_reading.specs.declared.bound.Shown.{Shown}
use Rattle.cq_reading.specs.declared.bound.Ordered.{Ordered}
use Rattle.cq_reading.specs.Selects.{item_of}
use Rattle.cq_bind_names.specs.declared.blocks.Outer.{Outer}

-- what is found when a SELECT begins
abbrev pub entered : Found → Found
entered f = record f { blocks = f.blocks + 1; subs = []; aggs = [] }

-- what is found when a SELECT has ended
abbrev pub left : Found → Outer → Found
left f outer = record f { subs = outer.subs; aggs = outer.aggs }

abbrev pub unordered : List Shown → Ordered
unordered outputs = record { items = map item_of outputs; keys = [] }
