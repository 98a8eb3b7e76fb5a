-- What rows of several tasks can share, by the first column of each class.
use Rattle.std.specs.Prelude.{ℕ, Bool, not, ◌&&◌, ◌||◌, take}
use Rattle.std.specs.List.{list_any}
use Rattle.cq_tree.specs.declared.query.Query.{Query, out-Query}
use Rattle.cq_planning.specs.Conjuncts.{column_of}
use Rattle.cq_planning.specs.Components.{is_of_class}
use Rattle.cq_planning.specs.Pushable.{column_behind}

module _ (first : ℕ → ℕ) (at : ℕ) (q : Query) where
  -- a group: no key is a bare column of the class
  abbrev pub shares_keys : Bool
  shares_keys = not (not (out-Query q).grouped || list_any (λ e. is_of_class first at (column_of e)) (out-Query q).keys)

  -- an output row: no output is one
  abbrev pub shares_outputs : Bool
  shares_outputs =
      (out-Query q).distinct && not (list_any (λ e. is_of_class first at (column_behind (out-Query q).grouped (out-Query q).keys (column_of e))) (take (out-Query q).shown (out-Query q).items))
