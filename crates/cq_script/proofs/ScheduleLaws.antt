-- A call that a schedule fails is a call of a source or a sink that failed.
use Rattle.std.proofs.Common.{◌<◌, ℕ, IsTrue, List, length, refl, ap, arith, nat_eq}
use Rattle.std.specs.Prelude.{Contains}
use Rattle.std.proofs.lemmas.Bool.Decides.{nat_tests}
use Rattle.cq_script.specs.declared.schedule.Schedule.{Schedule}
use Rattle.cq_script.specs.Schedules.{Fails, source_of, sink_of}
use Rattle.cq_script.specs.Streams.{Rose, TakeFailed, PutFailed}

-- where a call failed, some call is to fail
some_fails : (fails : List ℕ) (number : ℕ) → Contains fails number → IsTrue (nat_eq (length fails) 0) → ⊥
some_fails fails number due steady = let within : 0 < length fails = omega (arith, due.1) in grind (arith, nat_tests)

pub fails_take : (left : List ℕ) (old new : Schedule) → Fails old new → Rose old.faults new.faults → TakeFailed (source_of left old) (source_of left new)
fails_take left old new f r = record {
  left = refl;
  rose = r;
  steady = ap (λ fails. nat_eq (length fails.items) 0) f.listed;
  never = some_fails old.fails.items new.calls f.due;
}

pub fails_put : (written : List ℕ) (old new : Schedule) → Fails old new → Rose old.faults new.faults → PutFailed (sink_of written old) (sink_of written new)
fails_put written old new f r = record {
  written = refl;
  rose = r;
  steady = ap (λ fails. nat_eq (length fails.items) 0) f.listed;
  never = some_fails old.fails.items new.calls f.due;
}
