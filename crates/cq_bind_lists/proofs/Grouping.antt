-- GROUP BY and its keys.
use Rattle.std.proofs.Common.{◌≡◌, ◌≢◌, ℕ, zero, suc, ◌-◌, true, false, not, List, [], map, Some, Result, Err, sym, subst, ap, refl, arith}
use Rattle.std.specs.List.{slice_get}
use Rattle.cq_tree.specs.declared.expression.Expr as tree
use Rattle.cq_grammar.specs.declared.query.GroupBy.{GroupBy, out-GroupBy}
use Rattle.cq_reading.specs.declared.bound.Found.{Found}
use Rattle.cq_reading.specs.declared.bound.Bound.{Bound}
use Rattle.cq_reading.specs.declared.error.BindError.{BindError}
use Rattle.cq_reading.specs.declared.error.BindError.TheVariants as error
use Rattle.cq_reading.specs.declared.error.Limited.TheVariants as limited
use Rattle.cq_reading.specs.Steps.{through}
use Rattle.cq_reading.specs.Outcomes.{Binds}
use Rattle.cq_reading.specs.Scopes.{Context}
use Rattle.cq_reading.specs.Selects.{Target, at_most, with_one_more, nth, key_by_place, group_key, group_keys}
use Rattle.cq_reading.specs.Walk.{part_of, group_part}
use Rattle.cq_bind_looks.proofs.Looks.{group_part_is}
use Rattle.cq_bind_calls.proofs.Loops.{passed, failed, binds_parts}

module _ (cx : Context) (ts : List Target) (g : GroupBy) (f : Found) (res : Result (List tree.Expr) BindError) (new : Found) where
  -- `s` is the empty list that the keys stand behind
  pub group_ok : (s : List tree.Expr) → s ≡ [] → cx.joined ≡ false → Binds (through (with_one_more 16 limited.Keys (λ e. group_key cx ts (part_of e))) (out-GroupBy g).keys s f) res new → Binds (group_keys cx ts cx.joined (Some (group_part g)) f) res new
  group_ok s d e h =
      subst (λ p. Binds (group_keys cx ts cx.joined (Some p) f) res new) (sym (group_part_is g))
      (passed (not cx.joined) (error.GroupedJoin (out-GroupBy g).at) (at_most 16 limited.Keys (group_key cx ts) (map part_of (out-GroupBy g).keys)) f res new (ap not e)
      (binds_parts (with_one_more 16 limited.Keys (group_key cx ts)) part_of (out-GroupBy g).keys [] f res new
      (subst (λ t. Binds (through (with_one_more 16 limited.Keys (λ x. group_key cx ts (part_of x))) (out-GroupBy g).keys t f) res new) d h)))

pub group_err : (cx : Context) (ts : List Target) (g : GroupBy) (f new : Found) (x : BindError) → cx.joined ≡ true → x ≡ error.GroupedJoin (out-GroupBy g).at → Binds (group_keys cx ts cx.joined (Some (group_part g)) f) (Err x) new
group_err cx ts g f new x e h =
    subst (λ p. Binds (group_keys cx ts cx.joined (Some p) f) (Err x) new) (sym (group_part_is g))
    (failed (not cx.joined) (error.GroupedJoin (out-GroupBy g).at) x (at_most 16 limited.Keys (group_key cx ts) (map part_of (out-GroupBy g).keys)) f new (ap not e) h)

-- places count from 1
pub by_place : (cx : Context) (ts : List Target) (n m at : ℕ) (f : Found) (res : Result Bound BindError) (new : Found) → n ≢ 0 → m ≡ n - 1 → Binds (key_by_place cx (slice_get ts m) at f) res new → Binds (key_by_place cx (nth n ts) at f) res new
by_place cx ts zero m at f res new p e h = absurd (p refl)
by_place cx ts (suc n) m at f res new p e h = subst (λ k. Binds (key_by_place cx (slice_get ts k) at f) res new) (omega (arith, e)) h

pub no_place : (cx : Context) (ts : List Target) (n at : ℕ) (f new : Found) (x : BindError) → n ≡ 0 → x ≡ error.Unknown at → Binds (key_by_place cx (nth n ts) at f) (Err x) new
no_place cx ts n at f new x e h = subst (λ k. Binds (key_by_place cx (nth k ts) at f) (Err x) new) (sym e) (λ ne. ap Err (sym h))
