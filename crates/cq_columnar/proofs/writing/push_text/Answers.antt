use Rattle.std.proofs.Common.{subst}
use Rattle.std.specs.Str.{IsUtf8}
use Rattle.std.proofs.lemmas.Str.{is_utf8-from_IsUtf8}
use Rattle.cq_columnar.proofs.writing.push_text.Goals as goal

pub returns-in_err-push_bytes-clause-is : goal.returns-in_err-push_bytes-clause-is
returns-in_err-push_bytes-clause-is c = is_utf8-from_IsUtf8 c.args.text.now (subst IsUtf8 c.as_str.ensures c.as_str.utf8)

pub returns-clause-is : goal.returns-clause-is
returns-clause-is c = is_utf8-from_IsUtf8 c.args.text.now (subst IsUtf8 c.as_str.ensures c.as_str.utf8)
