use Rattle.std.proofs.Common.{◌≡◌, ℕ, List, false, refl, sym, bytes_eq}
use Rattle.std.proofs.lemmas.Bool.{false_from_ne_true}
use Rattle.std.proofs.lemmas.Slice.Eq.{bytes_eq-Decides}
use Rattle.cq_grammar.specs.Conditions.{takes}
use Rattle.cq_parse.proofs.conditions.takes.Goals as goal

another : (w word : List ℕ) → (word ≡ w → ⊥) → bytes_eq w word ≡ false
another w word differs = false_from_ne_true (bytes_eq w word) (λ e. differs (sym ((bytes_eq-Decides w word).0 e)))

pub returns-in_default : goal.returns-in_default
unfolding takes
returns-in_default c = rw (
  another _ c.args.function.now c.in_default.not-create_distributed_table,
  another _ c.args.function.now c.in_default.not-create_reference_table,
  another _ c.args.function.now c.in_default.not-citus_move_shard_placement,
  another _ c.args.function.now c.in_default.not-rebalance_table_shards,
  another _ c.args.function.now c.in_default.not-get_rebalance_table_shards_plan,
) refl
