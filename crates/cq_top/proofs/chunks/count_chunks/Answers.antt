use Rattle.std.proofs.Common.{List, ℕ, sym, subst}
use Rattle.cq_script.specs.Streams.{Wrote, WrotePart}
use Rattle.cq_top.specs.declared.status.Status.{Status}
use Rattle.cq_top.specs.Chunks.{HasCounted}
use Rattle.cq_top.proofs.Counts.{counted_whole, counted_part, counted_none}
use Rattle.cq_top.proofs.RunLaws.{cut_end}
use Rattle.cq_top.proofs.chunks.count_chunks.Goals as goal

pub returns-in_default : goal.returns-in_default
returns-in_default g c = counted_none c.args.settled.now c.args.chunks (g.K.Sink.shown c.args.sink.now)

pub returns-in-Err : goal.returns-in-Err
returns-in-Err g c =
    let old = g.K.Sink.shown c.args.sink.now in
    let new = g.K.Sink.shown c.emit.new.sink in
    subst (λ (v : Status). HasCounted c.args.settled.now c.args.chunks v old new) (sym (cut_end c.in-Err.error c.stop_of.result c.ending.result c.status.result c.stop_of.ensures c.ending.ensures c.status.ensures))
    (counted_part c.args.settled.now c.args.chunks c.in-Ok.text.items c.in-Err.error old new c.in-Ok.ensures (subst (λ (b : List ℕ). WrotePart old new b) c.as_slice.ensures.value c.in-Err.ensures.part) c.in-Err.ensures.fault c.in-Err.ensures.never)

pub returns : goal.returns
returns g c =
    let old = g.K.Sink.shown c.args.sink.now in
    let new = g.K.Sink.shown c.emit.new.sink in
    counted_whole c.args.settled.now c.args.chunks c.in-Ok.text.items old new c.in-Ok.ensures (subst (λ (b : List ℕ). Wrote old new b) c.as_slice.ensures.value c.in-Ok-emit.ensures.ok)
