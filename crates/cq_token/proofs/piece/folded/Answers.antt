use Rattle.std.proofs.lemmas.Str.{IsUtf8-from_ascii}
use Rattle.cq_token.proofs.piece.folded.Goals as goal

pub from_utf8_unchecked-name-requires : goal.from_utf8_unchecked-name-requires
from_utf8_unchecked-name-requires c = IsUtf8-from_ascii c.args.name.now c.requires
