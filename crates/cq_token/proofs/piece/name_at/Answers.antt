use Rattle.std.proofs.Common.{◌≡◌, ◌∙◌, ◌+◌, ◌-◌, true, ℕ, List, ◌∷◌, length, drop, take, sym, ap, arith, subst}
use Rattle.std.proofs.lemmas.List.{take_all}
use Rattle.std.specs.List.{prefix_len}
use Rattle.std.specs.Str.{IsAscii}
use Rattle.cq_token.specs.Bytes.{is_in_name, begins_name}
use Rattle.cq_token.proofs.Runs.{name_ascii}
use Rattle.cq_token.proofs.piece.name_at.Goals as goal

-- the bytes behind the first one
behind : (bytes : List ℕ) (b : ℕ) (rest : List ℕ) → bytes ≡ b ∷ rest → take (length bytes - 1) (drop 1 bytes) ≡ rest
behind bytes b rest e = ap (λ z. take (length z - 1) (drop 1 z)) e ∙ take_all (length (b ∷ rest) - 1) rest (omega arith)

ascii : (bytes : List ℕ) (more b : ℕ) (rest : List ℕ) → bytes ≡ b ∷ rest → begins_name b ≡ true → more ≡ prefix_len is_in_name (take (length bytes - 1) (drop 1 bytes)) → IsAscii (take (1 + more) bytes)
ascii bytes more b rest e h m =
    let same : take (1 + prefix_len is_in_name rest) (b ∷ rest) ≡ take (1 + more) bytes =
    ap (λ z. take (1 + prefix_len is_in_name z) (b ∷ rest)) (sym (behind bytes b rest e)) ∙ ap (λ z. take (1 + prefix_len is_in_name (take (length bytes - 1) (drop 1 bytes))) z) (sym e) ∙ ap (λ n. take (1 + n) bytes) (sym m) in
    subst IsAscii same (name_ascii b rest h)

pub folded-requires : goal.folded-requires
folded-requires c = ascii c.args.bytes.now c.name_len-more.result c.requires.0 c.requires.1 c.requires.2 c.requires.3 c.name_len-more.ensures.value
