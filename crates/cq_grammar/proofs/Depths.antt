-- The reader accepts the grammar at each depth.
use Rattle.std.proofs.Common.{◌≡◌, ℕ, zero, suc, ◌+◌, ◌<◌, ◌≤◌, List, [], ◌∷◌, slice_index_or, Contains, true, false, inl, inr, refl, ◌∙◌, ap, arith}
use Rattle.cq_token.specs.declared.token.Token.{Token}
use Rattle.cq_grammar.specs.declared.kind.Kind.{Kind}
use Rattle.cq_grammar.specs.declared.kind.Kind.TheVariants as k
use Rattle.cq_grammar.specs.Words.{kind, of, same_kind}
use Rattle.cq_grammar.specs.Lang.{Lang, Empty}
use Rattle.cq_grammar.specs.Grammar as grammar
use Rattle.cq_grammar.specs.Grammar.{Deeper, expr, select, Tree, or_, and_, not_, term_, unary_}
use Rattle.cq_grammar.specs.Statements as statements
use Rattle.cq_grammar.specs.Read.{Reader, used_up}
use Rattle.cq_grammar.specs.Descent as descent
use Rattle.cq_grammar.specs.Descent.{firsts}
use Rattle.cq_grammar.proofs.Laws.{Mode, Reads, unseen, within, past, Lawful, Begins, Opens, used_up_lawful, true_false}
use Rattle.cq_grammar.proofs.Tokens.{spelled, kind_spelled}
use Rattle.cq_grammar.proofs.Wider.{sub_upto}
use Rattle.std.proofs.lemmas.List.Elements.{Contains-append_cases}
use Rattle.cq_grammar.proofs.Shapes.{Ruled, rule, stated}
use Rattle.cq_grammar.proofs.Begun.{phrase_so}
use Rattle.cq_grammar.proofs.Expressions.{goes, deeper, or_chain, and_chain, negation, term, unary}
use Rattle.cq_grammar.proofs.Selects.{selected}

-- each rule that may stand deeper
pub phrase : (S : Type 0) (H : Mode) (r : ℕ → (d : Deeper) → Reader (Tree d)) (P W : ℕ → (d : Deeper) → Lang (Tree d)) → ((n : ℕ) (d : Deeper) → Ruled S H (r n d) (P n d) (W n d) (deeper d))
    → (d : Deeper) → Ruled S H (descent.phrase r d) (grammar.phrase P d) (grammar.phrase W d) (rule (firsts d) (goes d))
unfolding of same_kind
phrase S H r P W lower (expr or_) = stated (or_chain S H r P W lower) _ refl
phrase S H r P W lower (expr and_) = stated (and_chain S H r P W lower) _ refl
phrase S H r P W lower (expr not_) = stated (negation S H r P W lower) _ refl
phrase S H r P W lower (expr term_) = stated (term S H r P W lower) _ refl
phrase S H r P W lower (expr unary_) = stated (unary S H r P W lower) _ refl
phrase S H r P W lower select = selected S H r P W lower

-- ---- the phrases of a height

opens_of : {S : Type 0} {H : Mode} {A : Type 0} {p : Reader A} {P W : Lang A} (fs gs : List Kind) → Ruled S H p P W (rule fs gs) → Opens (of fs) W
opens_of fs gs l a y w = elim (l.opens a y w) [
  | inl u ↦ u
  | inr u ↦ true_false u.0 refl
]

pub lower_of : {S : Type 0} {H : Mode} (d : Deeper) {p : Reader (Tree d)} {P W : Lang (Tree d)} → (S → Begins W []) → Opens (of (firsts d)) W → (Reads H → Lawful H p P W (of (goes d))) → Ruled S H p P W (deeper d)
lower_of d some opens lawful = record {
  some = some;
  full = λ _ h. let bad : false ≡ true = h in absurd (cc);
  none = λ h. let bad : false ≡ true = h in absurd (cc);
  opens = λ a y w. inl (opens a y w);
  plain = λ h. let bad : false ≡ true = h in absurd (cc);
  lawful = λ h _. lawful h;
}

pub upto_opens : (h : ℕ) (d : Deeper) → Opens (of (firsts d)) (grammar.upto h d)
upto_opens zero d a y w = absurd w
upto_opens (suc h) d a y w =
    opens_of (firsts d) (goes d) (phrase ⊥ unseen (descent.below 0) (grammar.below 0) (λ _. grammar.upto h) (λ n d. lower_of d (λ no_phrase. absurd no_phrase) (λ b z v. upto_opens h d b z v) (λ no_law. absurd no_law)) d) a y w

pub upto_some : (h : ℕ) → 1 ≤ h → (d : Deeper) → Begins (grammar.upto h d) []
upto_some zero le d = absurd (omega arith)
upto_some (suc h) le d = phrase_so (λ _. grammar.upto h) d

-- each of the first kinds begins a phrase
pub upto_full : (h : ℕ) → 2 ≤ h → (d : Deeper) (t : Token) → of (firsts d) (kind t) ≡ true → Begins (grammar.upto h d) (t ∷ [])
upto_full zero le d t in_ = absurd (omega arith)
upto_full (suc h) le d t in_ =
    (phrase (Unit {0}) unseen (descent.below 0) (grammar.below 0) (λ _. grammar.upto h) (λ n d. lower_of d (λ _. upto_some h (omega arith) d) (upto_opens h d) (λ no_law. absurd no_law)) d).full tt refl t in_

-- ---- each depth

-- where the depth is used up
used_up_within : (h : ℕ) → 2 ≤ h → (d : Deeper) → Lawful within (used_up (firsts d)) Empty (grammar.upto h d) (of (goes d))
used_up_within h le d =
    used_up_lawful (firsts d) (of (goes d)) Empty (grammar.upto h d) (λ a x w. absurd w) (upto_some h (omega arith) d) (upto_opens h d) (upto_full h le d) (λ no_phrase. absurd no_phrase) (λ a y w _. absurd w)

pub below_lawful : (left h : ℕ) → left + 2 ≤ h → (n : ℕ) (d : Deeper) → Lawful within (descent.below left n d) (grammar.below left n d) (grammar.upto h d) (of (goes d))
below_lawful zero h le n d = used_up_within h (omega arith) d
below_lawful (suc left) h le zero d = used_up_within h (omega arith) d
below_lawful (suc left) zero le (suc zero) d = absurd (omega arith)
below_lawful (suc left) (suc h) le (suc zero) d =
    (phrase (Unit {0}) within (descent.below left) (grammar.below left) (λ _. grammar.upto h) (λ n d. lower_of d (λ _. upto_some h (omega arith) d) (upto_opens h d) (λ _. below_lawful left h (omega arith) n d)) d).lawful tt refl
below_lawful (suc left) h le (suc (suc n)) d = below_lawful left h (omega arith) (suc n) d

pub below : (left h : ℕ) → left + 2 ≤ h → (n : ℕ) (d : Deeper) → Ruled (Unit {0}) within (descent.below left n d) (grammar.below left n d) (grammar.upto h d) (deeper d)
below left h le n d = lower_of d (λ _. upto_some h (omega arith) d) (upto_opens h d) (λ _. below_lawful left h le n d)

-- ---- each depth, where what is deeper begins with none of some tokens

-- the starts of the tokens, added
abbrev starts_of : List Token → ℕ
starts_of [] = 0
starts_of (t ∷ ts) = t.start + starts_of ts

-- a token of this kind that isn't one of those
abbrev fresh : List Token → Kind → Token
fresh used j = record { kind = spelled j; start = starts_of used + 1; end = 0 }

alone : (t x : Token) → Contains (t ∷ []) x → x.start ≤ t.start
alone t x c = by c.0 c.1 c.2
  where
    by : (i : ℕ) → i < 1 → slice_index_or (t ∷ []) i x ≡ x → x.start ≤ t.start
    by zero lt is = omega (arith, ap (λ (u : Token). u.start) is)
    by (suc i) lt is = absurd (omega arith)

no_more : (used : List Token) (x : Token) → Contains used x → x.start ≤ starts_of used
no_more [] x c = absurd (omega (arith, c.1))
no_more (t ∷ used) x c = elim (Contains-append_cases (t ∷ []) used x c) [
  | inl u ↦ omega (arith, alone t x u)
  | inr u ↦ omega (arith, no_more used x u)
]

abbrev first_kind : Deeper → Kind
first_kind (expr rule) = k.Number
first_kind select = k.Select

is_first : (d : Deeper) → of (firsts d) (first_kind d) ≡ true
unfolding of same_kind
is_first (expr or_) = refl
is_first (expr and_) = refl
is_first (expr not_) = refl
is_first (expr term_) = refl
is_first (expr unary_) = refl
is_first select = refl

-- some phrase begins with another token
apart_some : (used : List Token) (height : ℕ) → 2 ≤ height → (d : Deeper) → Begins (statements.apart used height d) []
apart_some used height le d =
    let t = fresh used (first_kind d) in
    let b = upto_full height le d t (ap (of (firsts d)) (kind_spelled (first_kind d)) ∙ is_first d) in
    record { value = b.value; more = t ∷ b.more; phrase = (b.phrase, λ c. omega (arith, no_more used t c)) }

used_up_apart : (used : List Token) (height : ℕ) → 2 ≤ height → (h : ℕ) → height + 2 ≤ h → (d : Deeper)
    → Lawful (past used) (used_up (firsts d)) (statements.apart used height d) (grammar.upto h d) (of (goes d))
used_up_apart used height some h le d =
    used_up_lawful (firsts d) (of (goes d)) (statements.apart used height d) (grammar.upto h d) (λ a x w. sub_upto height h (omega arith) d a x w.0) (upto_some h (omega arith) d) (upto_opens h d) (upto_full h (omega arith) d)
    (λ _. apart_some used height some d) (λ a y w marks. w.1 marks)

apart_lawful : (used : List Token) (height : ℕ) → 2 ≤ height → (left h : ℕ) → left + (height + 2) ≤ h → (n : ℕ) (d : Deeper)
    → Lawful (past used) (descent.below left n d) (grammar.below_or (statements.apart used height) left n d) (grammar.upto h d) (of (goes d))
apart_lawful used height some zero h le n d = used_up_apart used height some h (omega arith) d
apart_lawful used height some (suc left) h le zero d = used_up_apart used height some h (omega arith) d
apart_lawful used height some (suc left) zero le (suc zero) d = absurd (omega arith)
apart_lawful used height some (suc left) (suc h) le (suc zero) d =
    (phrase (Unit {0}) (past used) (descent.below left) (grammar.below_or (statements.apart used height) left) (λ _. grammar.upto h)
    (λ n d. lower_of d (λ _. upto_some h (omega arith) d) (upto_opens h d) (λ _. apart_lawful used height some left h (omega arith) n d)) d).lawful tt refl
apart_lawful used height some (suc left) h le (suc (suc n)) d = apart_lawful used height some left h (omega arith) (suc n) d

pub below_apart : (used : List Token) (height : ℕ) → 2 ≤ height → (left h : ℕ) → left + (height + 2) ≤ h → (n : ℕ) (d : Deeper)
    → Ruled (Unit {0}) (past used) (descent.below left n d) (grammar.below_or (statements.apart used height) left n d) (grammar.upto h d) (deeper d)
below_apart used height some left h le n d = lower_of d (λ _. upto_some h (omega arith) d) (upto_opens h d) (λ _. apart_lawful used height some left h le n d)
