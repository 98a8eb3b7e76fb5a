use Rattle.std.proofs.lemmas.Result.{err_from_is_err_and}
use Rattle.cq_words.proofs.WordLaws.{refused_by}
use Rattle.cq_words.proofs.reading.parse.Goals as goal

pub returns-in_err-try_get_matches_from-clause-usage :
    goal.returns-in_err-try_get_matches_from-clause-usage
returns-in_err-try_get_matches_from-clause-usage c =
    let p = err_from_is_err_and c.from_residual-in_err-try_get_matches_from.result c.from_residual-in_err-try_get_matches_from.ensures.1 in
    rw p.1 (λ usage. refused_by _ _ c.in_err-try_get_matches_from.field-0.0 p.0 c.in_ok-program.ensures c.in_err-try_get_matches_from.ensures.kinds p.2 usage)
