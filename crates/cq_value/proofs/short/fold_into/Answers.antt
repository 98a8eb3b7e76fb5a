use Rattle.std.proofs.Common.{sym, subst, ap, ◌∙◌}
use Rattle.std.specs.Prelude.{IsUtf8, map}
use Rattle.std.specs.Char.{to_ascii_lowercase}
use Rattle.cq_value.proofs.Folded.{folded_utf8}
use Rattle.cq_value.proofs.short.fold_into.Goals as goal

pub returns-clause-utf8 : goal.returns-clause-utf8
returns-clause-utf8 c =
    subst IsUtf8
    (sym (c.make_ascii_lowercase.ensures.after ∙ ap (map to_ascii_lowercase) c.copy_from_slice.ensures.after))
    (folded_utf8 _ c.requires.ascii)
