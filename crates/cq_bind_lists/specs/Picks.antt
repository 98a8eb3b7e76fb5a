-- Targets of a name, and the target of a number, as they are come to one by one.
use Rattle.std.specs.Prelude.{ℕ, zero, suc, bytes_eq, if◌then◌else◌, List}
use Rattle.cq_reading.specs.declared.bound.Bound.{Bound}
use Rattle.cq_reading.specs.declared.error.BindError.TheVariants as error
use Rattle.cq_reading.specs.Steps.{Reading, give, refuse, ◌then◌, with_next}
use Rattle.cq_reading.specs.Scopes.{Context}
use Rattle.cq_reading.specs.Selects.{Target, value_of}
use Rattle.cq_bind_lists.specs.declared.pick.Pick.{Pick}
use Rattle.cq_bind_lists.specs.declared.pick.Pick.TheVariants as pick

abbrev pub target_value : Context → Target → Reading Bound
target_value cx t = value_of t.at (t.reads cx)

-- one more value, where the target has the name
abbrev pub with_titled : Context → List ℕ → List Bound → Target → Reading (List Bound)
with_titled cx name before t = if bytes_eq t.title name then with_next (target_value cx) before t else give before

abbrev pub skipping : ℕ → Pick
skipping n = pick.Skip n

abbrev pub first_pick : Context → Target → Reading Pick
first_pick cx t = target_value cx t then (λ b. give (pick.Got b))

-- the target behind so many, and nothing behind it
abbrev pub picked : Context → Pick → Target → Reading Pick
picked cx (pick.Got b) t = give (pick.Got b)
picked cx (pick.Skip zero) t = first_pick cx t
picked cx (pick.Skip (suc n)) t = give (pick.Skip n)

abbrev pub the_pick : ℕ → Pick → Reading Bound
the_pick at (pick.Got b) = give b
the_pick at (pick.Skip n) = refuse (error.Unknown at)
