-- The layer of a SELECT, with what the walk gives of its parts.
use Rattle.std.proofs.Common.{◌≡◌, sym, ap, ◌∙◌, rules}
use Rattle.cq_grammar.specs.declared.expr.Expr.{the_lemmas}
use Rattle.cq_grammar.specs.declared.query.Select.{Select}
use Rattle.cq_reading.specs.Walk.{groups}
use Rattle.cq_bind_looks.specs.Layers.{select_layer, select_groups}
use Rattle.cq_bind_looks.proofs.Looks.{groups_is}
use Rattle.cq_bind_walk.specs.Blocks.{layer_of}

pub layer_is : (q : Select) → select_layer q ≡ layer_of q
layer_is q = search (rules, the_lemmas)

-- a SELECT groups as its layer has it
pub groups_of : (q : Select) → groups (layer_of q) ≡ select_groups q
groups_of q = ap groups (sym (layer_is q)) ∙ groups_is q
