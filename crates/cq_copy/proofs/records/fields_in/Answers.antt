use Rattle.std.proofs.Common.{◌≡◌, Bor, true, ap, ◌∙◌, rules}
use Rattle.std.specs.Result.{is_ok}
use Rattle.csv.specs.Records.{fields_of}
use Rattle.cq_copy.proofs.RecordLaws.{field_kept, fields_all}
use Rattle.cq_copy.proofs.records.fields_in.Goals as goal

pub loop-field-preserved : goal.loop-field-preserved
loop-field-preserved c =
    let inv = c.loop-field.invariant in
    let steps = rw c.in-Some.is at c.next.ensures.steps in
    let good : is_ok c.push.result ≡ true = search rules in
    let items = rw good at c.push.ensures.items in
    (ap (λ (b : Bor _). b.now) steps.0 ∙ inv.0, field_kept (fields_of c.args.raw.now) c.loop-field.field-iterator.at c.next.new.self.at c.loop-field.fields.items c.push.new.self.items c.in-Some.field inv.1 (rw inv.0 at steps.1) steps.2 items)

pub returns : goal.returns
returns c =
    let inv = c.loop-field.invariant in
    let steps = rw c.in-None.is at c.next.ensures.steps in
    fields_all (fields_of c.args.raw.now) c.loop-field.field-iterator.at _ inv.1 (rw inv.0 at steps.1)
