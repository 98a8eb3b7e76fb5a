-- How many results a part of a query needs, as code counts them.
use Rattle.std.specs.Prelude.{ℕ, ◌+◌, List, [], ◌∷◌}
use Rattle.cq_tree.specs.declared.query.FromTree.{FromTree}
use Rattle.cq_tree.specs.declared.query.Query.{Query}
use Rattle.cq_meaning.specs.Results.{ins_in, ins_in_from}
use Rattle.cq_one_plan.specs.Stays.{leaves_in, leaves_of}
use Rattle.cq_planner.specs.declared.counting.Numbers.{Numbers}

abbrev pub both : Numbers → Numbers → Numbers
both a b = record { ins = a.ins + b.ins; relations = a.relations + b.relations }

abbrev pub counts_in : FromTree → Numbers
counts_in f = record { ins = ins_in_from f; relations = leaves_in f }

abbrev pub counts_of : Query → Numbers
counts_of q = record { ins = ins_in q; relations = leaves_of q }

-- those in queries, which aren't counted themselves
abbrev pub ins_each : List Query → ℕ
ins_each [] = 0
ins_each (q ∷ qs) = ins_in q + ins_each qs

abbrev pub leaves_each : List Query → ℕ
leaves_each [] = 0
leaves_each (q ∷ qs) = leaves_of q + leaves_each qs

abbrev pub counts_among : List Query → Numbers
counts_among qs = record { ins = ins_each qs; relations = leaves_each qs }
