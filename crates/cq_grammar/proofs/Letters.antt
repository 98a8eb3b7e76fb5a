-- Which tokens are of a kind: a word's or a sign's kind tells its letters.
use Rattle.std.proofs.Common.{◌≡◌, ℕ, List, [], ◌∷◌, Bool, true, false, not, ◌||◌, ◌&&◌, if◌then◌else◌, ◌⊎◌, inl, inr, bytes_eq, refl, sym, ◌∙◌, ap, subst, rules, eq-eqb}
use Rattle.std.specs.Cmp.Lexicographic.{same_text}
use Rattle.cq_value.proofs.Truths.{and_left, and_right, or_right, not_true}
use denote.Enum.Bare.{same_true}
use Rattle.cq_token.specs.declared.token.TokenKind.{TokenKind}
use Rattle.cq_token.specs.declared.token.TokenKind.TheVariants as token
use Rattle.cq_token.specs.declared.sign.Sign.{Sign}
use Rattle.cq_token.specs.declared.sign.Sign.TheVariants as s
use Rattle.cq_grammar.specs.declared.kind.Kind.{Kind}
use Rattle.cq_grammar.specs.declared.kind.Kind.TheVariants as k
use Rattle.cq_grammar.specs.contracts.kind.Kind.{the_type}
use Rattle.cq_grammar.specs.Words.{reserved_words, other_words, found_in, kind_of_word, kind_of_sign, kind_of, same_kind, of}

-- ---- kinds

pub kind_true : (a b : Kind) → same_kind a b ≡ true → a ≡ b
unfolding same_kind
kind_true a b e = same_true the_type (search rules) a b e

pub kind_refl : (a : Kind) → same_kind a a ≡ true
unfolding same_kind
kind_refl a = eq-eqb _ _ refl

pub true_false : {Q : Type 0} → true ≡ false → Q
true_false e = absurd (cc)

-- what holds of each of these kinds
abbrev pub OfEach : (Kind → Type 0) → List Kind → Type 0
OfEach P [] = Unit {0}
OfEach P (k ∷ ks) = P k × OfEach P ks

of_step : (P : Kind → Type 0) (j k : Kind) (b rest : Bool) → same_kind k j ≡ b → P j → (rest ≡ true → P k) → (b || rest) ≡ true → P k
of_step P j k true rest is here more h = subst P (sym (kind_true k j is)) here
of_step P j k false rest is here more h = more h

pub of_each : (P : Kind → Type 0) (ks : List Kind) → OfEach P ks → (k : Kind) → of ks k ≡ true → P k
unfolding of
of_each P [] all k h = true_false (sym h)
of_each P (j ∷ ks) all k h = of_step P j k (same_kind k j) (of ks k) refl all.0 (of_each P ks all.1 k) h

-- ---- words

-- the words of this kind in a list are this one alone
abbrev pub only : Kind → List ℕ → List (List ℕ × Kind) → Bool
only k w [] = true
only k w (v ∷ vs) = (not (same_kind v.1 k) || bytes_eq v.0 w) && only k w vs

found_here : (k : Kind) (w word : List ℕ) (v : List ℕ × Kind) → (not (same_kind v.1 k) || bytes_eq v.0 w) ≡ true → bytes_eq v.0 word ≡ true → v.1 ≡ k → word ≡ w
found_here k w word v h same is =
    let e : same_kind v.1 k ≡ true = ap (λ i. same_kind i k) is ∙ kind_refl k in
    let g : bytes_eq v.0 w ≡ true = sym (ap (λ b. not b || bytes_eq v.0 w) e) ∙ h in
    sym (same_text v.0 word (sym same)) ∙ same_text v.0 w (sym g)

found_step : (k : Kind) (w : List ℕ) (v : List ℕ × Kind) (vs : List (List ℕ × Kind)) (o : Kind) (word : List ℕ) → only k w (v ∷ vs) ≡ true
    → (found_in vs o word ≡ k → (o ≡ k) ⊎ (word ≡ w)) → (b : Bool) → bytes_eq v.0 word ≡ b → (if b then v.1 else found_in vs o word) ≡ k → (o ≡ k) ⊎ (word ≡ w)
found_step k w v vs o word h more true same e = inr (found_here k w word v (and_left _ _ h) same e)
found_step k w v vs o word h more false same e = more e

found : (k : Kind) (w : List ℕ) (ws : List (List ℕ × Kind)) (o : Kind) (word : List ℕ) → only k w ws ≡ true → found_in ws o word ≡ k → (o ≡ k) ⊎ (word ≡ w)
found k w [] o word h e = inl e
found k w (v ∷ vs) o word h e = found_step k w v vs o word h (found k w vs o word (and_right _ _ h)) (bytes_eq v.0 word) refl e

in_either : (P Q : Type 0) → P ⊎ Q → (P → Q) → Q
in_either P Q (inl p) f = f p
in_either P Q (inr q) f = q

word_is : (i : Kind) (w word : List ℕ) → only i w reserved_words ≡ true → only i w other_words ≡ true → same_kind k.Name i ≡ false → kind_of_word word ≡ i → word ≡ w
unfolding kind_of_word
word_is i w word r o n e =
    in_either (found_in other_words k.Name word ≡ i) (word ≡ w) (found i w reserved_words (found_in other_words k.Name word) word r e)
    (λ e. in_either (k.Name ≡ i) (word ≡ w) (found i w other_words k.Name word o e)
    (λ e. true_false (sym (kind_refl i) ∙ (ap (λ j. same_kind j i) (sym e) ∙ n))))

-- ---- signs, and what is none

abbrev pub sign_kinds : List Kind
sign_kinds =
    k.Open ∷ k.Close ∷ k.Comma ∷ k.Dot ∷ k.Semicolon ∷ k.Star ∷ k.Slash ∷ k.Percent ∷ k.Plus ∷ k.Minus ∷ k.Equal ∷ k.NotEqual ∷ k.Less ∷ k.LessOrEqual ∷
    k.Greater ∷ k.GreaterOrEqual ∷ k.Arrow ∷ []

-- the kinds of tokens that aren't words
abbrev pub no_words : List Kind
no_words = k.Number ∷ k.Quoted ∷ sign_kinds

pub sign_only : (sign : Sign) → of sign_kinds (kind_of_sign sign) ≡ true
unfolding of same_kind
sign_only s.Open = refl
sign_only s.Close = refl
sign_only s.Comma = refl
sign_only s.Dot = refl
sign_only s.Semicolon = refl
sign_only s.Star = refl
sign_only s.Slash = refl
sign_only s.Percent = refl
sign_only s.Plus = refl
sign_only s.Minus = refl
sign_only s.Equal = refl
sign_only s.NotEqual = refl
sign_only s.Less = refl
sign_only s.LessOrEqual = refl
sign_only s.Greater = refl
sign_only s.GreaterOrEqual = refl
sign_only s.Arrow = refl

pub sign_among : (sign : Sign) → of no_words (kind_of_sign sign) ≡ true
unfolding of
sign_among sign = or_right (same_kind (kind_of_sign sign) k.Number) _ (or_right (same_kind (kind_of_sign sign) k.Quoted) _ (sign_only sign))

abbrev sign_of_kind : Kind → Sign
sign_of_kind k.Open = s.Open
sign_of_kind k.Close = s.Close
sign_of_kind k.Comma = s.Comma
sign_of_kind k.Dot = s.Dot
sign_of_kind k.Semicolon = s.Semicolon
sign_of_kind k.Star = s.Star
sign_of_kind k.Slash = s.Slash
sign_of_kind k.Percent = s.Percent
sign_of_kind k.Plus = s.Plus
sign_of_kind k.Minus = s.Minus
sign_of_kind k.Equal = s.Equal
sign_of_kind k.NotEqual = s.NotEqual
sign_of_kind k.Less = s.Less
sign_of_kind k.LessOrEqual = s.LessOrEqual
sign_of_kind k.Greater = s.Greater
sign_of_kind k.GreaterOrEqual = s.GreaterOrEqual
sign_of_kind _ = s.Arrow

sign_back : (sign : Sign) → sign_of_kind (kind_of_sign sign) ≡ sign
sign_back s.Open = refl
sign_back s.Close = refl
sign_back s.Comma = refl
sign_back s.Dot = refl
sign_back s.Semicolon = refl
sign_back s.Star = refl
sign_back s.Slash = refl
sign_back s.Percent = refl
sign_back s.Plus = refl
sign_back s.Minus = refl
sign_back s.Equal = refl
sign_back s.NotEqual = refl
sign_back s.Less = refl
sign_back s.LessOrEqual = refl
sign_back s.Greater = refl
sign_back s.GreaterOrEqual = refl
sign_back s.Arrow = refl

sign_is : (a b : Sign) → kind_of_sign a ≡ kind_of_sign b → a ≡ b
sign_is a b e = sym (sign_back a) ∙ (ap sign_of_kind e ∙ sign_back b)

-- no word in the list is of these kinds
abbrev pub none_among : List Kind → List (List ℕ × Kind) → Bool
none_among ks [] = true
none_among ks (v ∷ vs) = not (of ks v.1) && none_among ks vs

outside_step : (ks : List Kind) (v : List ℕ × Kind) (o : Kind) (b : Bool) → not (of ks v.1) ≡ true → of ks o ≡ false → of ks (if b then v.1 else o) ≡ false
outside_step ks v o true h e = not_true (of ks v.1) h
outside_step ks v o false h e = e

outside : (ks : List Kind) (ws : List (List ℕ × Kind)) (o : Kind) (word : List ℕ) → none_among ks ws ≡ true → of ks o ≡ false → of ks (found_in ws o word) ≡ false
outside ks [] o word h e = e
outside ks (v ∷ vs) o word h e = outside_step ks v (found_in vs o word) (bytes_eq v.0 word) (and_left _ _ h) (outside ks vs o word (and_right _ _ h) e)

pub word_no_sign : (word : List ℕ) → of no_words (kind_of_word word) ≡ false
unfolding kind_of_word of same_kind
word_no_sign word = outside no_words reserved_words (found_in other_words k.Name word) word refl (outside no_words other_words k.Name word refl refl)

-- ---- tokens

-- every token of this kind says this
abbrev pub Says : Kind → TokenKind → Type 0
Says i said = (j : TokenKind) → kind_of j ≡ i → j ≡ said

differ : {Q : Type 0} (i : Kind) (b : Kind) → of no_words b ≡ true → of no_words i ≡ false → b ≡ i → Q
differ i b in_it out e = true_false (sym in_it ∙ (ap (of no_words) e ∙ out))

pub says_word : (i : Kind) (w : List ℕ) → only i w reserved_words ≡ true → only i w other_words ≡ true → same_kind k.Name i ≡ false → of no_words i ≡ false → Says i (token.Name w)
unfolding kind_of of same_kind
says_word i w r o n out (token.Name word) e = ap (λ l. token.Name l) (word_is i w word r o n e)
says_word i w r o n out (token.Number number) e = differ i k.Number refl out e
says_word i w r o n out (token.Text content) e = differ i k.Quoted refl out e
says_word i w r o n out (token.Sign sign) e = differ i (kind_of_sign sign) (sign_among sign) out e

pub says_sign : (sign : Sign) → Says (kind_of_sign sign) (token.Sign sign)
unfolding kind_of of same_kind
says_sign sign (token.Name word) e = differ (kind_of_word word) (kind_of_sign sign) (sign_among sign) (word_no_sign word) (sym e)
says_sign sign (token.Number number) e = true_false (sym (sign_only sign) ∙ ap (of sign_kinds) (sym e))
says_sign sign (token.Text content) e = true_false (sym (sign_only sign) ∙ ap (of sign_kinds) (sym e))
says_sign sign (token.Sign other) e = ap (λ l. token.Sign l) (sign_is other sign e)
