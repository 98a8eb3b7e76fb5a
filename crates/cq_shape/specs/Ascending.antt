-- Values of which equal ones that follow each other are put together.
use Rattle.std.specs.Prelude.{List, [], ◌∷◌, ◌++◌, fold, Bool, false, if◌then◌else◌}
use Rattle.cq_value.specs.declared.value.Value.{Value}
use Rattle.cq_meaning.specs.Values.{same_value}

-- whether the last value is this one
abbrev pub ends_with : List Value → Value → Bool
ends_with [] v = false
ends_with (w ∷ []) v = same_value w v
ends_with (w ∷ (u ∷ us)) v = ends_with (u ∷ us) v

abbrev pub with_next : List Value → Value → List Value
with_next values v = if ends_with values v then values else values ++ v ∷ []

-- of equal values that follow each other the first
abbrev pub each_once : List Value → List Value
each_once values = fold with_next [] values

-- the same from the other end: a value before others, unless the first of them is it
abbrev pub in_front : Value → List Value → List Value
in_front v [] = v ∷ []
in_front v (w ∷ ws) = if same_value v w then w ∷ ws else v ∷ (w ∷ ws)

abbrev pub once_from_behind : List Value → List Value
once_from_behind [] = []
once_from_behind (v ∷ vs) = in_front v (once_from_behind vs)
