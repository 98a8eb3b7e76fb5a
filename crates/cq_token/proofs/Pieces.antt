-- What a piece may be.
use Rattle.std.proofs.Common.{◌≡◌, ℕ, ◌+◌, ◌≤◌, List, [], ◌∷◌, length, Bool, true, false, Option, Some, None, Result, Ok, Err, refl, subst, arith, if◌then◌else◌, ◌==◌}
use Rattle.std.proofs.lemmas.List.Sums.{prefix_len-le-length}
use Rattle.std.specs.List.{prefix_len}
use Rattle.std.specs.Char.{is_ascii_digit}
use Rattle.std.specs.Str.{is_utf8}
use Rattle.cq_token.specs.declared.token.Piece.{Piece}
use Rattle.cq_token.specs.declared.token.Piece.TheVariants.{Skip, Token as Found}
use Rattle.cq_token.specs.declared.error.LexError.{LexError}
use Rattle.cq_token.specs.declared.sign.Sign.{Sign}
use Rattle.cq_token.specs.Bytes.{is_blank, is_in_line, is_in_name, begins_name}
use Rattle.cq_token.specs.Signs.{sign_of, pair_of}
use Rattle.cq_token.specs.Tokens.{piece_at, name_at, number_at, number_of, text_of, quoted, behind, sign_at, one_sign, pair_or_one, begins_comment}

pub data Skipped (b : ℕ) (rest : List ℕ) (more : ℕ) : Type 0 where
  blank : is_blank b ≡ true → more ≡ 0 → Skipped b rest more
  comment : begins_comment b rest ≡ true → more ≡ prefix_len is_in_line rest → Skipped b rest more

-- a skip is a blank or a comment, and a token ends in the text
abbrev pub Sound : ℕ → List ℕ → Result Piece LexError → Type 0
Sound b rest (Ok (Skip more)) = Skipped b rest more
Sound b rest (Ok (Found kind more)) = more ≤ length rest
Sound b rest (Err e) = Unit {0}

pub by_if : {A : Type 0} (P : A → Type 0) (t : Bool) (x y : A) → (t ≡ true → P x) → (t ≡ false → P y) → P (if t then x else y)
by_if P true x y f g = f refl
by_if P false x y f g = g refl

sound_number : (b : ℕ) (rest : List ℕ) (at more : ℕ) (o : Option ℕ) → more ≤ length rest → Sound b rest (number_of at more o)
sound_number b rest at more (Some n) h = h
sound_number b rest at more None h = tt

abbrev Within : ℕ → Option (List ℕ × ℕ) → Type 0
Within most None = Unit {0}
Within most (Some found) = found.1 ≤ most

behind_within : (content : List ℕ) (n most : ℕ) (o : Option (List ℕ × ℕ)) → Within most o → Within (n + most) (behind content n o)
behind_within content n most None h = tt
behind_within content n most (Some found) h = omega arith

quoted_within : (bs : List ℕ) → Within (length bs) (quoted bs)
unfolding quoted
quoted_within [] = tt
quoted_within (b ∷ []) = by_if (Within 1) (b == 39) _ _ (λ _. omega arith) (λ _. tt)
quoted_within (b ∷ c ∷ rest) =
    let two : 2 + length rest ≡ length (b ∷ c ∷ rest) = omega arith in
    let one : 1 + length (c ∷ rest) ≡ length (b ∷ c ∷ rest) = omega arith in
    by_if (Within (length (b ∷ c ∷ rest))) (b == 39) _ _
    (λ _. by_if (Within (length (b ∷ c ∷ rest))) (c == 39) _ _
    (λ _. subst (λ (most : ℕ). Within most (behind (39 ∷ []) 2 (quoted rest))) two (behind_within (39 ∷ []) 2 (length rest) (quoted rest) (quoted_within rest)))
    (λ _. omega arith))
    (λ _. subst (λ (most : ℕ). Within most (behind (b ∷ []) 1 (quoted (c ∷ rest)))) one (behind_within (b ∷ []) 1 (length (c ∷ rest)) (quoted (c ∷ rest)) (quoted_within (c ∷ rest))))

sound_text : (b : ℕ) (rest : List ℕ) (at : ℕ) (o : Option (List ℕ × ℕ)) → Within (length rest) o → Sound b rest (text_of at o)
sound_text b rest at None h = tt
sound_text b rest at (Some found) h = by_if (Sound b rest) (is_utf8 found.0) _ _ (λ _. h) (λ _. tt)

sound_one : (b : ℕ) (rest : List ℕ) (at : ℕ) (o : Option Sign) → Sound b rest (one_sign at o)
sound_one b rest at (Some sign) = omega arith
sound_one b rest at None = tt

sound_pair : (b c : ℕ) (rest : List ℕ) (at : ℕ) (o : Option Sign) → Sound b (c ∷ rest) (pair_or_one at b o)
sound_pair b c rest at (Some sign) = omega arith
sound_pair b c rest at None = sound_one b (c ∷ rest) at (sign_of b)

sound_sign : (b : ℕ) (rest : List ℕ) (at : ℕ) → Sound b rest (sign_at at b rest)
unfolding sign_at
sound_sign b [] at = sound_one b [] at (sign_of b)
sound_sign b (c ∷ rest) at = sound_pair b c rest at (pair_of b c)

sound_name : (b : ℕ) (rest : List ℕ) → Sound b rest (name_at b rest)
unfolding name_at
sound_name b rest = prefix_len-le-length is_in_name rest

sound_digits : (b : ℕ) (rest : List ℕ) (at : ℕ) → Sound b rest (number_at at b rest)
unfolding number_at
sound_digits b rest at = sound_number b rest at (prefix_len is_ascii_digit rest) _ (prefix_len-le-length is_ascii_digit rest)

pub sound : (at b : ℕ) (rest : List ℕ) → Sound b rest (piece_at at b rest)
unfolding piece_at
sound at b rest =
    by_if (Sound b rest) (is_blank b) _ _ (λ h. blank h refl) (λ _.
    by_if (Sound b rest) (begins_comment b rest) _ _ (λ h. comment h refl) (λ _.
    by_if (Sound b rest) (begins_name b) _ _ (λ _. sound_name b rest) (λ _.
    by_if (Sound b rest) (is_ascii_digit b) _ _ (λ _. sound_digits b rest at) (λ _.
    by_if (Sound b rest) (b == 39) _ _ (λ _. sound_text b rest at (quoted rest) (quoted_within rest)) (λ _. sound_sign b rest at)))))
