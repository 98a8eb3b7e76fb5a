use Rattle.std.proofs.Common.{◌≡◌, ◌++◌, [], ◌∷◌, ◌∙◌, ap}
use Rattle.std.specs.Map.{values_of}
use Rattle.cq_catalog.specs.Contents.{number_of}
use Rattle.cq_catalog.proofs.NamedLaws.{inserted, named_more, values_more}
use Rattle.cq_catalog.proofs.named.NamedTables.put.Goals as goal

grown : (c : goal.Joined-insert-2) → c.insert.new.self.entries ≡ c.self.inside.by_name.entries ++ (c.in-Ok.name, c.args.info) ∷ []
grown c = c.in-Ok-insert.ensures.entries ∙ inserted c.in-Ok.name c.args.info c.self.inside.by_name.entries (c.in-Ok.ensures.ok ∙ c.as_str.ensures) c.self.invariant (ap (λ ts. number_of ts c.args.info.name) c.self.view_is ∙ c.requires.new)

pub returns-in-Ok-insert-clause-ok : goal.returns-in-Ok-insert-clause-ok
returns-in-Ok-insert-clause-ok c = ap values_of (grown c) ∙ values_more c.in-Ok.name c.args.info c.self.inside.by_name.entries ∙ ap (λ ts. ts ++ c.args.info ∷ []) c.self.view_is

pub invariant_of-self : goal.invariant_of-self
invariant_of-self c = rw (grown c) (named_more c.in-Ok.name c.args.info c.self.inside.by_name.entries (c.in-Ok.ensures.ok ∙ c.as_str.ensures) c.self.invariant)
