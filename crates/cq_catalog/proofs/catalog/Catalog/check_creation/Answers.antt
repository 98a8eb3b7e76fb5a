use Rattle.std.proofs.Common.{◌≡◌, ◌∙◌, inr, [], take, is_some, false, Some, None, ap, sym, subst, length, ◌≤◌, ◌<◌, rules}
use Rattle.std.specs.Option.{option_copied}
use Rattle.cq_catalog.specs.Contents.{Contents, number_of}
use Rattle.cq_catalog.specs.Creation.{repeated_after}
use Rattle.cq_catalog.specs.declared.error.CatalogError.TheVariants.{NameTaken}
use Rattle.cq_catalog.proofs.RefusalLaws.{take_few, column_cause, many_tables, created}
use Rattle.cq_catalog.proofs.catalog.Catalog.check_creation.Goals as goal

pub returns-in-Some-clause-refused : goal.returns-in-Some-clause-refused
returns-in-Some-clause-refused c =
    let new : is_some (number_of c.args.self.now.tables c.args.name.now) ≡ false = search rules in
    let at : repeated_after [] (take 64 c.args.columns.now) ≡ Some c.in-Some.column.now =
    sym (ap (repeated_after []) (take_few c.args.columns.now 64 c.min.result c.min.ensures)) ∙ sym c.repeated.ensures ∙ ap option_copied c.in-Some.is in
    inr (column_cause c.args.self.now c.args.name.now c.args.columns.now new c.in-Some.column.now at ∙ ap (λ n. Some (NameTaken n)) (sym c.in_ok-name-2.ensures))

pub returns-then-len-ge-MOST-clause-refused : goal.returns-then-len-ge-MOST-clause-refused
returns-then-len-ge-MOST-clause-refused c =
    let new : is_some (number_of c.args.self.now.tables c.args.name.now) ≡ false = search rules in
    let none : repeated_after [] (take 64 c.args.columns.now) ≡ None =
    sym (ap (repeated_after []) (take_few c.args.columns.now 64 c.min.result c.min.ensures)) ∙ sym c.repeated.ensures ∙ ap option_copied c.in_default.is in
    let many : 64 ≤ length c.args.self.now.tables = subst (λ (v : Contents). 64 ≤ length v.tables) c.self.view_is (subst (λ n. 64 ≤ n) c.len.ensures c.if-len-ge-MOST.true) in
    inr (many_tables c.args.self.now c.args.name.now c.args.columns.now new none c.if-columns-gt-MOST.false many)

pub returns-clause-allowed : goal.returns-clause-allowed
returns-clause-allowed c =
    let new : is_some (number_of c.args.self.now.tables c.args.name.now) ≡ false = search rules in
    let none : repeated_after [] (take 64 c.args.columns.now) ≡ None =
    sym (ap (repeated_after []) (take_few c.args.columns.now 64 c.min.result c.min.ensures)) ∙ sym c.repeated.ensures ∙ ap option_copied c.in_default.is in
    let room : length c.args.self.now.tables < 64 = subst (λ (v : Contents). length v.tables < 64) c.self.view_is (subst (λ n. n < 64) c.len.ensures c.if-len-ge-MOST.false) in
    created c.args.self.now c.args.name.now c.args.columns.now new none c.if-columns-gt-MOST.false room
