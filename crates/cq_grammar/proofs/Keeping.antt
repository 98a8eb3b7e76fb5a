-- What each piece of the grammar's notation keeps: a phrase's tokens are the spelling of its value, and other tokens that say
-- the same are a phrase too, of the same value but for its places.
use Rattle.std.proofs.Common.{◌≡◌, ℕ, suc, List, [], ◌∷◌, ◌++◌, map, true, inl, inr, Option, Some, None, refl, sym, ◌∙◌, ap, ap₂, subst}
use Rattle.std.proofs.lemmas.List.{map-append}
use Rattle.cq_token.specs.declared.token.Token.{Token}
use Rattle.cq_token.specs.declared.token.TokenKind.{TokenKind}
use Rattle.cq_token.specs.declared.sign.Sign.TheVariants as s
use Rattle.cq_grammar.specs.declared.kind.Kind.{Kind}
use Rattle.cq_grammar.specs.declared.kind.Kind.TheVariants as k
use Rattle.cq_grammar.specs.Words.{kind, of}
use Rattle.cq_grammar.specs.Lang.{Lang, One, Both, Either, Made, Nothing, Many, Empty, Optional, Behind, Several}
use Rattle.cq_grammar.specs.Terminals.{The, Commas}
use Rattle.cq_grammar.specs.Spelling.{Kinds, sign, in_a_row, each_behind, commas}
use Rattle.cq_grammar.specs.Bare.{if_any}

abbrev pub kinds_of : List Token → Kinds
kinds_of ts = map (λ t. t.kind) ts

-- the values of P are spelled by w, and v takes their places away
pub record Keeps {A : Type 0} (w : A → Kinds) (v : A → A) (P : Lang A) : Type 0 where
  pub spells : (a : A) (ts : List Token) → P a ts → kinds_of ts ≡ w a
  pub moves : (a : A) (ts : List Token) → P a ts → (us : List Token) → kinds_of ts ≡ kinds_of us → (b : A) × P b us × (v a ≡ v b)

-- ---- one token

pub record Single (i : TokenKind) (us : List Token) : Type 0 where
  pub token : Token
  pub whole : us ≡ token ∷ []
  pub same : i ≡ token.kind

abbrev list_of : Kinds → Kinds
list_of l = l

single : (i : TokenKind) (us : List Token) → i ∷ [] ≡ kinds_of us → Single i us
single i [] h = absurd (let g : list_of (i ∷ []) ≡ [] = h in cc)
single i (u ∷ []) h = let g : list_of (i ∷ []) ≡ u.kind ∷ [] = h in record { token = u; whole = refl; same = cc }
single i (u ∷ w ∷ us) h = absurd (let g : list_of (i ∷ []) ≡ u.kind ∷ (w.kind ∷ kinds_of us) = h in cc)

pub one_keeps : {A : Type 0} (w : A → Kinds) (v : A → A) (f : Token → A) (ks : List Kind) → ((t : Token) → of ks (kind t) ≡ true → t.kind ∷ [] ≡ w (f t))
    → ((t u : Token) → t.kind ≡ u.kind → v (f t) ≡ v (f u)) → Keeps w v (Made f (One ks))
one_keeps w v f ks spelled same = record {
  spells = λ a ts p. ap kinds_of p.phrase.alone ∙ (spelled p.from p.phrase.kind ∙ ap w (sym p.is));
  moves = λ a ts p us e.
      let l = single p.from.kind us (ap kinds_of (sym p.phrase.alone) ∙ e) in
      let fits : of ks (kind l.token) ≡ true = subst (λ (i : TokenKind). of ks (Rattle.cq_grammar.specs.Words.kind_of i) ≡ true) l.same p.phrase.kind in
      (f l.token, record { from = l.token; is = refl; phrase = record { kind = fits; alone = l.whole } }, ap v p.is ∙ same p.from l.token l.same);
}

-- ---- pieces of rules

pub record Parts (f b y : List Token) : Type 0 where
  pub front : List Token
  pub back : List Token
  pub whole : y ≡ front ++ back
  pub first : kinds_of f ≡ kinds_of front
  pub second : kinds_of b ≡ kinds_of back

parts : (f b y : List Token) → kinds_of (f ++ b) ≡ kinds_of y → Parts f b y
parts [] b y e = record { front = []; back = y; whole = refl; first = refl; second = e }
parts (t ∷ f) b [] e = absurd (let h : list_of (t.kind ∷ kinds_of (f ++ b)) ≡ [] = e in cc)
parts (t ∷ f) b (u ∷ y) e =
    let h : list_of (t.kind ∷ kinds_of (f ++ b)) ≡ u.kind ∷ kinds_of y = e in
    let h0 : t.kind ≡ u.kind = cc in
    let h1 : kinds_of (f ++ b) ≡ kinds_of y = cc in
    let s = parts f b y h1 in
    record { front = u ∷ s.front; back = s.back; whole = ap (λ l. u ∷ l) s.whole; first = ap₂ (λ i l. list_of (i ∷ l)) h0 s.first; second = s.second }

kinds_append : (f b : List Token) → kinds_of (f ++ b) ≡ kinds_of f ++ kinds_of b
kinds_append f b = map-append (λ t. t.kind) f b

pub both_keeps : {A B : Type 0} {w : A → Kinds} {v : A → A} {x : B → Kinds} {u : B → B} {P : Lang A} {Q : Lang B} → Keeps w v P → Keeps x u Q
    → Keeps (λ c. w c.0 ++ x c.1) (λ c. (v c.0, u c.1)) (Both P Q)
both_keeps {w = w} {x = x} m n = record {
  spells = λ c ts p. ap kinds_of p.whole ∙ (kinds_append p.front p.back ∙ ap₂ (λ i j. list_of (i ++ j)) (m.spells c.0 p.front p.left) (n.spells c.1 p.back p.right));
  moves = λ c ts p us e.
      let d = parts p.front p.back us (ap kinds_of (sym p.whole) ∙ e) in
      let l = m.moves c.0 p.front p.left d.front d.first in
      let r = n.moves c.1 p.back p.right d.back d.second in
      ((l.0, r.0), record { front = d.front; back = d.back; whole = d.whole; left = l.1; right = r.1 }, ap₂ (λ i j. (i, j)) l.2 r.2);
}

-- where the node's spelling is known of phrases alone
pub made_of_phrases : {A B : Type 0} {w : A → Kinds} {v : A → A} {P : Lang A} (x : B → Kinds) (u : B → B) (f : A → B) → Keeps w v P
    → ((a : A) (ts : List Token) → P a ts → w a ≡ x (f a)) → ((a : A) → u (f a) ≡ f (v a)) → Keeps x u (Made f P)
made_of_phrases x u f m spelled bare = record {
  spells = λ b ts p. m.spells p.from ts p.phrase ∙ (spelled p.from ts p.phrase ∙ ap x (sym p.is));
  moves = λ b ts p us e.
      let l = m.moves p.from ts p.phrase us e in
      (f l.0, record { from = l.0; is = refl; phrase = l.1 }, ap u p.is ∙ (bare p.from ∙ (ap f l.2 ∙ sym (bare l.0))));
}

pub made_keeps : {A B : Type 0} {w : A → Kinds} {v : A → A} {P : Lang A} (x : B → Kinds) (u : B → B) (f : A → B) → Keeps w v P → ((a : A) → w a ≡ x (f a))
    → ((a : A) → u (f a) ≡ f (v a)) → Keeps x u (Made f P)
made_keeps x u f m spelled bare = made_of_phrases x u f m (λ a ts p. spelled a) bare

pub either_keeps : {A : Type 0} {w : A → Kinds} {v : A → A} {P Q : Lang A} → Keeps w v P → Keeps w v Q → Keeps w v (Either P Q)
either_keeps {A = A} {w = w} {v = v} {P = P} {Q = Q} m n = record { spells = spells; moves = moves }
  where
    spells : (a : A) (ts : List Token) → Either P Q a ts → kinds_of ts ≡ w a
    spells a ts (inl p) = m.spells a ts p
    spells a ts (inr p) = n.spells a ts p

    moves : (a : A) (ts : List Token) → Either P Q a ts → (us : List Token) → kinds_of ts ≡ kinds_of us → (b : A) × Either P Q b us × (v a ≡ v b)
    moves a ts (inl p) us e = let l = m.moves a ts p us e in (l.0, inl l.1, l.2)
    moves a ts (inr p) us e = let l = n.moves a ts p us e in (l.0, inr l.1, l.2)

none_left : (us : List Token) → [] ≡ kinds_of us → us ≡ []
none_left [] e = refl
none_left (u ∷ us) e = absurd (let h : list_of [] ≡ u.kind ∷ kinds_of us = e in cc)

pub nothing_keeps : {A : Type 0} (w : A → Kinds) (v : A → A) (c : A) → w c ≡ [] → Keeps w v (Nothing c)
nothing_keeps w v c none = record {
  spells = λ a ts p. ap kinds_of p.none ∙ (sym none ∙ ap w (sym p.is));
  moves = λ a ts p us e. (c, record { is = refl; none = none_left us (ap kinds_of (sym p.none) ∙ e) }, ap v p.is);
}

pub empty_keeps : {A : Type 0} (w : A → Kinds) (v : A → A) → Keeps w v (Empty {A = A})
empty_keeps w v = record { spells = λ a ts p. absurd p; moves = λ a ts p us e. absurd p }

pub many_keeps : {A : Type 0} {w : A → Kinds} {v : A → A} {P : ℕ → Lang A} → ((i : ℕ) → Keeps w v (P i)) → (i : ℕ) → Keeps (λ l. in_a_row (map w l)) (map v) (Many P i)
many_keeps {A = A} {w = w} {v = v} {P = P} m i = record { spells = λ l ts p. spells i l ts p; moves = λ l ts p us e. moves i l ts p us e }
  where
    spells : (i : ℕ) (l : List A) (ts : List Token) → Many P i l ts → kinds_of ts ≡ in_a_row (map w l)
    spells i [] ts p = ap kinds_of p
    spells i (a ∷ more) ts p = ap kinds_of p.2 ∙ (kinds_append p.0 p.1 ∙ ap₂ (λ i j. list_of (i ++ j)) ((m i).spells a p.0 p.3) (spells (suc i) more p.1 p.4))

    moves : (i : ℕ) (l : List A) (ts : List Token) → Many P i l ts → (us : List Token) → kinds_of ts ≡ kinds_of us → (b : List A) × Many P i b us × (map v l ≡ map v b)
    moves i [] ts p us e = ([], none_left us (ap kinds_of (sym p) ∙ e), refl)
    moves i (a ∷ more) ts p us e =
        let d = parts p.0 p.1 us (ap kinds_of (sym p.2) ∙ e) in
        let l = (m i).moves a p.0 p.3 d.front d.first in
        let r = moves (suc i) more p.1 p.4 d.back d.second in
        (l.0 ∷ r.0, (d.front, d.back, d.whole, l.1, r.1), ap₂ (λ i j. i ∷ j) l.2 r.2)

-- ---- what is made of them

abbrev pub if_known : {A : Type 0} → (A → Kinds) → Option A → Kinds
if_known w None = []
if_known w (Some a) = w a

pub optional_keeps : {A : Type 0} {w : A → Kinds} {v : A → A} {P : Lang A} → Keeps w v P → Keeps (if_known w) (if_any v) (Optional P)
optional_keeps {w = w} {v = v} m = either_keeps (made_keeps (if_known w) (if_any v) Some m (λ a. refl) (λ a. refl)) (nothing_keeps (if_known w) (if_any v) None refl)

pub behind_keeps : {A B : Type 0} {front : Kinds} {v : A → A} {x : B → Kinds} {u : B → B} {P : Lang A} {Q : Lang B} → Keeps (λ _. front) v P → Keeps x u Q
    → Keeps (λ b. front ++ x b) u (Behind P Q)
behind_keeps {front = front} {x = x} {u = u} m n = made_keeps (λ b. front ++ x b) u (λ c. c.1) (both_keeps m n) (λ a. refl) (λ a. refl)

pub several_keeps : {A : Type 0} {w : A → Kinds} {v : A → A} {P : ℕ → Lang A} → ((i : ℕ) → Keeps w v (P i)) → Keeps (λ l. in_a_row (map w l)) (map v) (Several P)
several_keeps {w = w} {v = v} m = made_keeps (λ l. in_a_row (map w l)) (map v) (λ (first, more). first ∷ more) (both_keeps (m 0) (many_keeps m 1)) (λ a. refl) (λ a. refl)

-- each with the same front
pub each_is : {A : Type 0} (front : Kinds) (w : A → Kinds) (l : List A) → in_a_row (map (λ a. front ++ w a) l) ≡ each_behind front (map w l)
each_is front w [] = refl
each_is front w (a ∷ l) = ap (λ r. (front ++ w a) ++ r) (each_is front w l)

-- phrases with commas between, where the comma is a phrase of its own kind
pub commas_keep : {A : Type 0} {w : A → Kinds} {v : A → A} {P : ℕ → Lang A} → Keeps (λ _. sign s.Comma) (λ at. 0) (The k.Comma) → ((i : ℕ) → Keeps w v (P i))
    → Keeps (λ l. commas (map w l)) (map v) (Commas P)
commas_keep {w = w} {v = v} comma m =
    made_keeps (λ l. commas (map w l)) (map v) (λ (first, more). first ∷ more) (both_keeps (m 0) (many_keeps (λ i. behind_keeps comma (m i)) 1))
    (λ a. ap (λ r. w a.0 ++ r) (each_is (sign s.Comma) w a.1)) (λ a. refl)
