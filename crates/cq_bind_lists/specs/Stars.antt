-- Outputs by the items of a select list, and the columns that `*` stands for.
use Rattle.std.specs.Prelude.{ℕ, Bool, true, false, ◌&&◌, not, if◌then◌else◌, List, Option}
use Rattle.std.specs.Option.{option_map}
use Rattle.cq_tree.specs.declared.expression.Expr.{Expr}
use Rattle.cq_grammar.specs.declared.name.Name.{Name}
use Rattle.cq_reading.specs.declared.bound.Source.{Source}
use Rattle.cq_reading.specs.declared.bound.Bound.{Bound}
use Rattle.cq_reading.specs.declared.bound.Shown.{Shown}
use Rattle.cq_reading.specs.declared.error.BindError.TheVariants as error
use Rattle.cq_reading.specs.declared.error.Limited.TheVariants as limited
use Rattle.cq_reading.specs.Steps.{Reading, give, refuse, provided}
use Rattle.cq_reading.specs.Rules.{keyed, if_key, key_column}
use Rattle.cq_reading.specs.Scopes.{Context, column_at, is_of}
use Rattle.cq_reading.specs.Parts.{Part}
use Rattle.cq_reading.specs.Expressions.{reads, behind_keys, named_in_group}
use Rattle.cq_reading.specs.Selects.{Target, star_column, title_by, read_target, with_one_more}
use Rattle.cq_bind_lists.specs.declared.stars.Star.{Star}
use Rattle.cq_bind_lists.specs.declared.stars.Star.TheVariants as star

-- whether a column is meant by `*` or `relation.*`
abbrev pub meant : Star → Source → Bool
meant star.All = λ s. true
meant (star.Of relation) = is_of relation.now

-- a column that `*` stands for
abbrev pub star_reading : ℕ → ℕ → Context → Reading Bound
star_reading at i = behind_keys false (λ cx. named_in_group cx (give (column_at cx i)) at)

abbrev pub star_by : Bool → List Expr → Bound → ℕ → Reading Bound
star_by grouped keys b at =
    if grouped && not false
    then keyed keys (give b) (provided (not grouped) (error.NotGrouped at) (give b))
    else provided (not grouped) (error.NotGrouped at) (give b)

-- a key's column, and else refused
abbrev pub key_or_refused : List Expr → Bound → ℕ → Reading Bound
key_or_refused keys b at = if_key (key_column keys b) (refuse (error.NotGrouped at))

-- a target where the column is meant
abbrev pub target_if : {S : Type 0} → (S → Target → Reading S) → ℕ → Bool → S → ℕ → Source → Reading S
target_if r at is s i c = if is then r s (star_column at i c) else give s

-- one more output, of which there are at most 512
abbrev pub with_output : Context → List Shown → Target → Reading (List Shown)
with_output cx = with_one_more 512 limited.Outputs (read_target cx)

abbrev pub alias_of : Option Name → Option (List ℕ)
alias_of name = option_map (λ n. n.text) name

-- a value under its name
abbrev pub value_target : Part → Option (List ℕ) → Target
value_target p name = record { at = p.at; title = title_by name p.title; reads = reads p }
