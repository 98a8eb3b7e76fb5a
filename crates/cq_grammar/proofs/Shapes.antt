-- What is known of the phrases of a rule by its parts: the kinds with which they begin, and those that would make them longer.
use Rattle.std.proofs.Common.{◌≡◌, ℕ, List, [], ◌∷◌, ◌++◌, Bool, true, false, not, ◌||◌, ◌&&◌, ◌⊎◌, inl, inr, Some, None, refl, sym, ◌∙◌, ap}
use Rattle.cq_value.proofs.Truths.{or_either, or_left, or_right, left_false, both_true, and_left, and_right, not_true}
use Rattle.cq_token.specs.declared.token.Token.{Token}
use Rattle.cq_grammar.specs.declared.kind.Kind.{Kind}
use Rattle.cq_grammar.specs.declared.kind.Kind.TheVariants as k
use Rattle.cq_grammar.specs.Words.{kind, Kinds, of, starts, same_kind, names}
use Rattle.cq_grammar.specs.Lang.{Lang, One, Both, Either, Made, Nothing, Many, Optional, Behind, Several}
use Rattle.cq_grammar.specs.Terminals.{Commas, place_of, The}
use Rattle.cq_grammar.specs.Read.{Test, Reader, one, both, made, nothing, choice, many, optional, behind, several, sees, tail}
use Rattle.cq_grammar.specs.Descent.{the, list}
use Rattle.cq_grammar.proofs.Laws.{Mode, Reads, Lawful, Begins, Opens, Clear, Among, starts_front, starts_none, true_false, among_starts, apart_starts, regroup, widen, one_some, one_lawful, both_lawful, made_lawful, nothing_lawful, choice_lawful, many_lawful, both_begins, made_begins}
use Rattle.cq_grammar.proofs.Sets.{inside, outside, of_apart, of_among, of_in, starts_in}

pub record Shape : Type 0 where
  -- the kinds with which phrases begin
  pub firsts : List Kind
  -- those that would make a phrase longer
  pub goes : List Kind
  -- whether nothing is a phrase
  pub empty : Bool
  -- whether each of the first kinds is known to begin a phrase
  pub whole : Bool
  -- whether no phrase begins with a name and `(`, or a name, a dot and `*`
  pub plain : Bool
  -- whether the next token settles each choice
  pub fine : Bool

-- a name and `(`, or a name, a dot and `*`
abbrev pub odd : Test
odd ts = sees names ts && (sees (k.Open ∷ []) (tail ts) || (sees (k.Dot ∷ []) (tail ts) && sees (k.Star ∷ []) (tail (tail ts))))

-- what may not stand behind a name for this
abbrev pub after : List Kind
after = k.Open ∷ k.Dot ∷ []

-- what begins with a phrase of W fails the test, unless one of these kinds stands behind the phrase
abbrev pub Avoids : {A : Type 0} → Test → Lang A → List Kind → Type 0
Avoids {A} test W gs = (a : A) (y m : List Token) → W a y → starts (of gs) m ≡ false → test (y ++ m) ≡ false

-- S: there are phrases deeper. H: how those within the depth are seen.
pub record Ruled (S : Type 0) (H : Mode) {A : Type 0} (p : Reader A) (P W : Lang A) (s : Shape) : Type 0 where
  pub some : S → Begins W []
  pub full : S → s.whole ≡ true → (t : Token) → of s.firsts (kind t) ≡ true → Begins W (t ∷ [])
  pub none : s.empty ≡ true → (a : A) × W a []
  pub opens : (a : A) (y : List Token) → W a y → starts (of s.firsts) y ≡ true ⊎ ((s.empty ≡ true) × (y ≡ []))
  pub plain : s.plain ≡ true → Avoids odd W after
  pub lawful : Reads H → s.fine ≡ true → Lawful H p P W (of s.goes)

-- ---- lists of kinds

pub of_both : (fs gs : List Kind) (j : Kind) → of (fs ++ gs) j ≡ true → (of fs j ≡ true) ⊎ (of gs j ≡ true)
unfolding of
of_both [] gs j h = inr h
of_both (f ∷ fs) gs j h = elim (or_either (same_kind j f) (of (fs ++ gs) j) h) [
  | inl u ↦ inl (or_left (same_kind j f) (of fs j) u)
  | inr u ↦ elim (of_both fs gs j u) [
    | inl v ↦ inl (or_right (same_kind j f) (of fs j) v)
    | inr v ↦ inr v
  ]
]

pub of_left : (fs gs : List Kind) (j : Kind) → of fs j ≡ true → of (fs ++ gs) j ≡ true
unfolding of
of_left [] gs j h = let bad : false ≡ true = h in absurd (cc)
of_left (f ∷ fs) gs j h = elim (or_either (same_kind j f) (of fs j) h) [
  | inl u ↦ or_left (same_kind j f) (of (fs ++ gs) j) u
  | inr u ↦ or_right (same_kind j f) (of (fs ++ gs) j) (of_left fs gs j u)
]

pub of_right : (fs gs : List Kind) (j : Kind) → of gs j ≡ true → of (fs ++ gs) j ≡ true
unfolding of
of_right [] gs j h = h
of_right (f ∷ fs) gs j h = or_right (same_kind j f) (of (fs ++ gs) j) (of_right fs gs j h)

among_in : (f g : Kinds) → ((j : Kind) → f j ≡ true → g j ≡ true) → Among f g
among_in f g sub j out = by (f j) (sub j)
  where
    by : (b : Bool) → (b ≡ true → g j ≡ true) → b ≡ false
    by true h = true_false (h refl) out
    by false h = refl

pub among_left : (fs gs : List Kind) → Among (of fs) (of (fs ++ gs))
among_left fs gs = among_in (of fs) (of (fs ++ gs)) (of_left fs gs)

pub among_right : (fs gs : List Kind) → Among (of gs) (of (fs ++ gs))
among_right fs gs = among_in (of gs) (of (fs ++ gs)) (of_right fs gs)

-- the first list, and the second one too where b holds
abbrev pub with_if : Bool → List Kind → List Kind → List Kind
with_if true fs gs = fs ++ gs
with_if false fs gs = fs

among_if : (b : Bool) (fs gs : List Kind) → Among (of fs) (of (with_if b fs gs))
among_if true fs gs j h = among_left fs gs j h
among_if false fs gs j h = h

left_if : (b : Bool) (fs gs : List Kind) (j : Kind) → of fs j ≡ true → of (with_if b fs gs) j ≡ true
left_if true fs gs j h = of_left fs gs j h
left_if false fs gs j h = h

right_if : (b : Bool) (fs gs : List Kind) → b ≡ true → (j : Kind) → of gs j ≡ true → of (with_if b fs gs) j ≡ true
right_if true fs gs is j h = of_right fs gs j h
right_if false fs gs is j h = let bad : false ≡ true = is in absurd (cc)

from_if : (b : Bool) (fs gs : List Kind) (j : Kind) → of (with_if b fs gs) j ≡ true → (of fs j ≡ true) ⊎ ((b ≡ true) × (of gs j ≡ true))
from_if true fs gs j h = elim (of_both fs gs j h) [ inl u ↦ inl u | inr u ↦ inr (refl, u) ]
from_if false fs gs j h = inl h

-- ---- what follows

-- what begins with a phrase of W begins with none of the kinds gs
pub clear_by : {S : Type 0} {H : Mode} {A : Type 0} {p : Reader A} {P W : Lang A} {s : Shape} (gs hs : List Kind) → Ruled S H p P W s → outside gs s.firsts ≡ true
    → (s.empty ≡ true → Among (of gs) (of hs)) → Clear (of gs) W (of hs)
clear_by {s = s} gs hs r out sub a y m w sm = elim (r.opens a y w) [
  | inl u ↦ apart_starts (of s.firsts) (of gs) (of_apart s.firsts gs out) (y ++ m) (starts_front (of s.firsts) y m u)
  | inr u ↦ ap (λ i. starts (of gs) (i ++ m)) u.1 ∙ among_starts (of gs) (of hs) (sub u.0) m sm
]

-- each phrase of W begins with one of the kinds gs
pub opens_by : {S : Type 0} {H : Mode} {A : Type 0} {p : Reader A} {P W : Lang A} {s : Shape} (gs : List Kind) → Ruled S H p P W s → inside gs s.firsts ≡ true → s.empty ≡ false → Opens (of gs) W
opens_by {s = s} gs r all some a y w = elim (r.opens a y w) [
  | inl u ↦ starts_in (of s.firsts) (of gs) (of_in s.firsts gs all) y u
  | inr u ↦ true_false u.0 some
]

-- what begins with none of the names isn't odd
pub not_odd : (ts : List Token) → starts (of names) ts ≡ false → odd ts ≡ false
not_odd ts h = left_false (starts (of names) ts) _ h

-- ---- one token

abbrev pub one_shape : List Kind → Shape
one_shape ks = record { firsts = ks; goes = []; empty = false; whole = true; plain = outside names ks; fine = true }

pub token : {S : Type 0} {H : Mode} (j : Kind) (ks : List Kind) → Ruled S H (one (j ∷ ks)) (One (j ∷ ks)) (One (j ∷ ks)) (one_shape (j ∷ ks))
token j ks = record {
  some = λ _. one_some j ks;
  full = λ _ _ t in_. record { value = t; more = []; phrase = record { kind = in_; alone = refl } };
  none = λ h. let bad : false ≡ true = h in absurd (cc);
  opens = λ a y w. inl (ap (starts (of (j ∷ ks))) w.alone ∙ w.kind);
  plain = λ out a y m w sm. not_odd (y ++ m) (ap (λ i. starts (of names) (i ++ m)) w.alone ∙ of_apart (j ∷ ks) names out (kind a) w.kind);
  lawful = λ _ _. one_lawful j ks;
}

-- ---- nothing

abbrev pub nothing_shape : Shape
nothing_shape = record { firsts = []; goes = []; empty = true; whole = true; plain = false; fine = true }

pub none_here : {S : Type 0} {H : Mode} {A : Type 0} (v : A) → Ruled S H (nothing v) (Nothing v) (Nothing v) nothing_shape
unfolding of
none_here v = record {
  some = λ _. record { value = v; more = []; phrase = record { is = refl; none = refl } };
  full = λ _ _ t in_. let bad : false ≡ true = in_ in absurd (cc);
  none = λ _. (v, record { is = refl; none = refl });
  opens = λ a y w. inr (refl, w.none);
  plain = λ h. let bad : false ≡ true = h in absurd (cc);
  lawful = λ _ _. nothing_lawful v (of []);
}

-- ---- seen by a function

pub seen : {S : Type 0} {H : Mode} {A B : Type 0} (f : A → B) {p : Reader A} {P W : Lang A} {s : Shape} → Ruled S H p P W s → Ruled S H (made f p) (Made f P) (Made f W) s
seen f {p} {P} {W} {s} r = record {
  some = λ u. made_begins f W [] (r.some u);
  full = λ u h t in_. made_begins f W (t ∷ []) (r.full u h t in_);
  none = λ h. let n = r.none h in (f n.0, record { from = n.0; is = refl; phrase = n.1 });
  opens = λ b y w. r.opens w.from y w.phrase;
  plain = λ h b y m w sm. r.plain h w.from y m w.phrase sm;
  lawful = λ h fine. made_lawful f p P W (of s.goes) (r.lawful h fine);
}

-- ---- one behind the other

abbrev pub both_shape : Shape → Shape → Shape
both_shape s t = record {
  firsts = with_if s.empty s.firsts t.firsts;
  goes = with_if t.empty t.goes s.goes;
  empty = s.empty && t.empty;
  whole = s.whole && (not s.empty || t.whole);
  plain = (outside names s.firsts && not s.empty) || (s.plain && outside after t.firsts);
  fine = s.fine && (t.fine && outside s.goes t.firsts);
}

not_by : (e w : Bool) → (not e || w) ≡ true → e ≡ true → w ≡ true
not_by true w h is = h
not_by false w h is = let bad : false ≡ true = is in absurd (cc)

module _ {S : Type 0} {H : Mode} {A B : Type 0} {p : Reader A} {q : Reader B} {P W : Lang A} {Q V : Lang B} {s t : Shape} (l : Ruled S H p P W s) (m : Ruled S H q Q V t) where
  behind_none : (a : A) → W a [] → (before : List Token) → Begins V before → Begins (Both W V) before
  behind_none a w before b = record { value = (a, b.value); more = b.more; phrase = record { front = []; back = before ++ b.more; whole = refl; left = w; right = b.phrase } }

  both_full : S → (s.whole && (not s.empty || t.whole)) ≡ true → (u : Token) → (of s.firsts (kind u) ≡ true) ⊎ ((s.empty ≡ true) × (of t.firsts (kind u) ≡ true)) → Begins (Both W V) (u ∷ [])
  both_full h whole u (inl i) = both_begins p q P W Q V (of []) (of []) (m.some h) (u ∷ []) (l.full h (and_left _ _ whole) u i)
  both_full h whole u (inr i) = let n = l.none i.0 in behind_none n.0 n.1 (u ∷ []) (m.full h (not_by s.empty t.whole (and_right s.whole _ whole) i.0) u i.1)

  both_none : (s.empty && t.empty) ≡ true → (c : A × B) × Both W V c []
  both_none h = let a = l.none (and_left _ _ h) in let b = m.none (and_right s.empty _ h) in ((a.0, b.0), record { front = []; back = []; whole = refl; left = a.1; right = b.1 })

  both_opens : (c : A × B) (y : List Token) → Both W V c y → starts (of (with_if s.empty s.firsts t.firsts)) y ≡ true ⊎ (((s.empty && t.empty) ≡ true) × (y ≡ []))
  both_opens c y w = elim (l.opens c.0 w.front w.left) [
    | inl u ↦ inl (ap (starts (of (with_if s.empty s.firsts t.firsts))) w.whole
        ∙ starts_front (of (with_if s.empty s.firsts t.firsts)) w.front w.back (starts_in (of s.firsts) (of (with_if s.empty s.firsts t.firsts)) (left_if s.empty s.firsts t.firsts) w.front u))
    | inr u ↦
        let e : y ≡ w.back = w.whole ∙ ap (λ i. i ++ w.back) u.1 in
        elim (m.opens c.1 w.back w.right) [
          | inl v ↦ inl (ap (starts (of (with_if s.empty s.firsts t.firsts))) e
              ∙ starts_in (of t.firsts) (of (with_if s.empty s.firsts t.firsts)) (right_if s.empty s.firsts t.firsts u.0) w.back v)
          | inr v ↦ inr (both_true s.empty t.empty u.0 v.0, e ∙ v.1)
        ]
  ]

  both_plain : ((outside names s.firsts && not s.empty) ≡ true) ⊎ ((s.plain && outside after t.firsts) ≡ true) → Avoids odd (Both W V) after
  both_plain (inl h) c y n w sm =
      let filled = not_true s.empty (and_right (outside names s.firsts) _ h) in
      ap odd (ap (λ i. i ++ n) w.whole ∙ regroup w.front w.back n)
      ∙ not_odd (w.front ++ (w.back ++ n)) (clear_by names [] l (and_left _ _ h) (λ is. true_false is filled) c.0 w.front (w.back ++ n) w.left (starts_none (w.back ++ n)))
  both_plain (inr h) c y n w sm =
      ap odd (ap (λ i. i ++ n) w.whole ∙ regroup w.front w.back n)
      ∙ l.plain (and_left _ _ h) c.0 w.front (w.back ++ n) w.left (clear_by after after m (and_right s.plain _ h) (λ _ j out. out) c.1 w.back n w.right sm)

  both_law : Reads H → (s.fine && (t.fine && outside s.goes t.firsts)) ≡ true → Lawful H (both p q) (Both P Q) (Both W V) (of (with_if t.empty t.goes s.goes))
  both_law h fine =
      let rest = and_right s.fine _ fine in
      let wider = widen q Q V (of t.goes) (of (with_if t.empty t.goes s.goes)) (among_if t.empty t.goes s.goes) (m.lawful h (and_left t.fine _ rest)) in
      both_lawful p q P W Q V (of s.goes) (of (with_if t.empty t.goes s.goes)) (l.lawful h (and_left _ _ fine)) wider
      (clear_by s.goes (with_if t.empty t.goes s.goes) m (and_right t.fine _ rest) (λ is. among_in (of s.goes) (of (with_if t.empty t.goes s.goes)) (right_if t.empty t.goes s.goes is)))

  pub pair : Ruled S H (both p q) (Both P Q) (Both W V) (both_shape s t)
  pair = record {
    some = λ h. both_begins p q P W Q V (of []) (of []) (m.some h) [] (l.some h);
    full = λ h whole u in_. both_full h whole u (from_if s.empty s.firsts t.firsts (kind u) in_);
    none = both_none;
    opens = both_opens;
    plain = λ h. both_plain (or_either (outside names s.firsts && not s.empty) _ h);
    lawful = both_law;
  }

infixr 10 ◌then◌
abbrev pub ◌then◌ : {S : Type 0} {H : Mode} {A B : Type 0} {p : Reader A} {q : Reader B} {P W : Lang A} {Q V : Lang B} {s t : Shape} → Ruled S H p P W s → Ruled S H q Q V t
    → Ruled S H (both p q) (Both P Q) (Both W V) (both_shape s t)
l then m = pair l m

-- ---- a choice by the next token

abbrev pub choice_shape : List Kind → Shape → Shape → Shape
choice_shape ks s t = record {
  firsts = s.firsts ++ t.firsts;
  goes = with_if t.empty (s.goes ++ t.goes) ks;
  empty = t.empty;
  whole = s.whole && t.whole;
  plain = s.plain && t.plain;
  fine = s.fine && (t.fine && (not s.empty && (inside ks s.firsts && outside ks t.firsts)));
}

module _ {S : Type 0} {H : Mode} {A : Type 0} (ks : List Kind) {p q : Reader A} {P W Q V : Lang A} {s t : Shape} (l : Ruled S H p P W s) (m : Ruled S H q Q V t) where
  abbrev goes : List Kind
  goes = with_if t.empty (s.goes ++ t.goes) ks

  left_begins : (before : List Token) → Begins W before → Begins (Either W V) before
  left_begins before b = record { value = b.value; more = b.more; phrase = inl b.phrase }

  right_begins : (before : List Token) → Begins V before → Begins (Either W V) before
  right_begins before b = record { value = b.value; more = b.more; phrase = inr b.phrase }

  choice_full : S → (s.whole && t.whole) ≡ true → (u : Token) → (of s.firsts (kind u) ≡ true) ⊎ (of t.firsts (kind u) ≡ true) → Begins (Either W V) (u ∷ [])
  choice_full h whole u (inl i) = left_begins (u ∷ []) (l.full h (and_left _ _ whole) u i)
  choice_full h whole u (inr i) = right_begins (u ∷ []) (m.full h (and_right s.whole _ whole) u i)

  choice_opens : s.empty ≡ false → (a : A) (y : List Token) → Either W V a y → starts (of (s.firsts ++ t.firsts)) y ≡ true ⊎ ((t.empty ≡ true) × (y ≡ []))
  choice_opens filled a y (inl w) = elim (l.opens a y w) [
    | inl u ↦ inl (starts_in (of s.firsts) (of (s.firsts ++ t.firsts)) (of_left s.firsts t.firsts) y u)
    | inr u ↦ true_false u.0 filled
  ]
  choice_opens filled a y (inr w) = elim (m.opens a y w) [
    | inl u ↦ inl (starts_in (of t.firsts) (of (s.firsts ++ t.firsts)) (of_right s.firsts t.firsts) y u)
    | inr u ↦ inr u
  ]

  choice_plain : (s.plain && t.plain) ≡ true → Avoids odd (Either W V) after
  choice_plain h a y n (inl w) sm = l.plain (and_left _ _ h) a y n w sm
  choice_plain h a y n (inr w) sm = m.plain (and_right s.plain _ h) a y n w sm

  choice_law : s.empty ≡ false → Reads H → (s.fine && (t.fine && (not s.empty && (inside ks s.firsts && outside ks t.firsts)))) ≡ true → Lawful H (choice (sees ks) p q) (Either P Q) (Either W V) (of goes)
  choice_law filled h fine =
      let more = and_right s.fine _ fine in
      let sets = and_right (not s.empty) _ (and_right t.fine _ more) in
      let sub : (j : Kind) → of (s.goes ++ t.goes) j ≡ true → of goes j ≡ true = left_if t.empty (s.goes ++ t.goes) ks in
      choice_lawful (of ks) p q P W Q V (of goes)
      (widen p P W (of s.goes) (of goes) (among_in (of s.goes) (of goes) (λ j i. sub j (of_left s.goes t.goes j i))) (l.lawful h (and_left _ _ fine)))
      (widen q Q V (of t.goes) (of goes) (among_in (of t.goes) (of goes) (λ j i. sub j (of_right s.goes t.goes j i))) (m.lawful h (and_left _ _ more)))
      (opens_by ks l (and_left _ _ sets) filled)
      (clear_by ks goes m (and_right (inside ks s.firsts) _ sets) (λ is. among_in (of ks) (of goes) (right_if t.empty (s.goes ++ t.goes) ks is)))

  pub either : s.empty ≡ false → Ruled S H (choice (sees ks) p q) (Either P Q) (Either W V) (choice_shape ks s t)
  either filled = record {
    some = λ h. left_begins [] (l.some h);
    full = λ h whole u in_. choice_full h whole u (of_both s.firsts t.firsts (kind u) in_);
    none = λ h. let n = m.none h in (n.0, inr n.1);
    opens = choice_opens filled;
    plain = choice_plain;
    lawful = choice_law filled;
  }

-- ---- a phrase or nothing

abbrev pub optional_shape : List Kind → Shape → Shape
optional_shape ks s = choice_shape ks s nothing_shape

pub maybe : {S : Type 0} {H : Mode} {A : Type 0} (ks : List Kind) {p : Reader A} {P W : Lang A} {s : Shape} → Ruled S H p P W s → s.empty ≡ false
    → Ruled S H (optional (sees ks) p) (Optional P) (Optional W) (optional_shape ks s)
maybe ks l filled = either ks (seen Some l) (none_here None) filled

-- ---- any number of phrases

abbrev pub many_shape : List Kind → Shape → Shape
many_shape ks s = record {
  firsts = s.firsts;
  goes = s.goes ++ ks;
  empty = true;
  whole = s.whole;
  plain = false;
  fine = s.fine && (not s.empty && (inside ks s.firsts && outside s.goes ks));
}

module _ {S : Type 0} {H : Mode} {A : Type 0} (ks : List Kind) {p : ℕ → Reader A} {P W : ℕ → Lang A} {s : Shape} (l : (i : ℕ) → Ruled S H (p i) (P i) (W i) s) where
  many_opens : s.empty ≡ false → (i : ℕ) (vs : List A) (y : List Token) → Many W i vs y → starts (of s.firsts) y ≡ true ⊎ ((true ≡ true) × (y ≡ []))
  many_opens filled i [] y w = inr (refl, w)
  many_opens filled i (a ∷ vs) y w = elim ((l i).opens a w.0 w.3) [
    | inl u ↦ inl (ap (starts (of s.firsts)) w.2 ∙ starts_front (of s.firsts) w.0 w.1 u)
    | inr u ↦ true_false u.0 filled
  ]

  many_full : S → s.whole ≡ true → (i : ℕ) (t : Token) → of s.firsts (kind t) ≡ true → Begins (Many W i) (t ∷ [])
  many_full h whole i t in_ =
      let b = (l i).full h whole t in_ in
      record { value = b.value ∷ []; more = b.more ++ []; phrase = (t ∷ b.more, [], refl, b.phrase, refl) }

  many_law : s.empty ≡ false → (i : ℕ) → Reads H → (s.fine && (not s.empty && (inside ks s.firsts && outside s.goes ks))) ≡ true → Lawful H (many (sees ks) p i) (Many P i) (Many W i) (of (s.goes ++ ks))
  many_law filled i h fine =
      let sets = and_right (not s.empty) _ (and_right s.fine _ fine) in
      many_lawful (of ks) (of s.goes) (of (s.goes ++ ks)) p P W (λ j. (l j).lawful h (and_left _ _ fine)) (λ j. opens_by ks (l j) (and_left _ _ sets) filled)
      (of_apart ks s.goes (and_right (inside ks s.firsts) _ sets)) (among_left s.goes ks) (among_right s.goes ks) i

  pub some_of_these : s.empty ≡ false → (i : ℕ) → Ruled S H (many (sees ks) p i) (Many P i) (Many W i) (many_shape ks s)
  some_of_these filled i = record {
    some = λ _. record { value = []; more = []; phrase = refl };
    full = λ h whole t in_. many_full h whole i t in_;
    none = λ _. ([], refl);
    opens = many_opens filled i;
    plain = λ h. let bad : false ≡ true = h in absurd (cc);
    lawful = many_law filled i;
  }

-- ---- combinations

-- the second of two is kept
pub second : {S : Type 0} {H : Mode} {A B : Type 0} {p : Reader A} {q : Reader B} {P W : Lang A} {Q V : Lang B} {s t : Shape} → Ruled S H p P W s → Ruled S H q Q V t
    → Ruled S H (behind p q) (Behind P Q) (Behind W V) (both_shape s t)
second l m = seen (λ c. c.1) (pair l m)

pub word : {S : Type 0} {H : Mode} (j : Kind) → Ruled S H (the j) (The j) (The j) (one_shape (j ∷ []))
unfolding the
word j = seen place_of (token j [])

abbrev pub several_shape : List Kind → Shape → Shape
several_shape ks s = both_shape s (many_shape ks s)

pub one_or_more : {S : Type 0} {H : Mode} {A : Type 0} (ks : List Kind) {p : ℕ → Reader A} {P W : ℕ → Lang A} {s : Shape} → ((i : ℕ) → Ruled S H (p i) (P i) (W i) s) → s.empty ≡ false
    → Ruled S H (several (sees ks) p) (Several P) (Several W) (several_shape ks s)
one_or_more ks l filled = seen (λ (first, more). first ∷ more) (pair (l 0) (some_of_these ks l filled 1))

abbrev pub comma : List Kind
comma = k.Comma ∷ []

abbrev pub commas_shape : Shape → Shape
commas_shape s = both_shape s (many_shape comma (both_shape (one_shape comma) s))

pub commas : {S : Type 0} {H : Mode} {A : Type 0} {p : ℕ → Reader A} {P W : ℕ → Lang A} {s : Shape} → ((i : ℕ) → Ruled S H (p i) (P i) (W i) s) → Ruled S H (list p) (Commas P) (Commas W) (commas_shape s)
commas l = seen (λ (first, more). first ∷ more) (pair (l 0) (some_of_these comma (λ i. second (word k.Comma) (l i)) refl 1))

-- ---- as it is stated

abbrev same_bool : Bool → Bool → Bool
same_bool true b = b
same_bool false b = not b

abbrev if_so : Bool → Bool → Bool
if_so true b = b
if_so false b = true

abbrev pub fits : Shape → Shape → Bool
fits s z = same_bool s.empty z.empty && (inside z.firsts s.firsts && (inside s.firsts z.firsts && (inside z.goes s.goes && (if_so z.whole s.whole && (if_so z.plain s.plain && if_so z.fine s.fine)))))

same_by : (a b : Bool) → same_bool a b ≡ true → a ≡ b
same_by true b h = sym h
same_by false b h = sym (not_true b h)

so_by : (a b : Bool) → if_so a b ≡ true → a ≡ true → b ≡ true
so_by true b h is = h
so_by false b h is = let bad : false ≡ true = is in absurd (cc)

module _ {S : Type 0} {H : Mode} {A : Type 0} {p : Reader A} {P W : Lang A} {s : Shape} (l : Ruled S H p P W s) (z : Shape) (h : fits s z ≡ true) where
  e1 : s.empty ≡ z.empty
  e1 = same_by s.empty z.empty (and_left _ _ h)

  h2 : (inside s.firsts z.firsts && (inside z.goes s.goes && (if_so z.whole s.whole && (if_so z.plain s.plain && if_so z.fine s.fine)))) ≡ true
  h2 = and_right (inside z.firsts s.firsts) _ (and_right (same_bool s.empty z.empty) _ h)

  h3 : (if_so z.whole s.whole && (if_so z.plain s.plain && if_so z.fine s.fine)) ≡ true
  h3 = and_right (inside z.goes s.goes) _ (and_right (inside s.firsts z.firsts) _ h2)

  h4 : (if_so z.plain s.plain && if_so z.fine s.fine) ≡ true
  h4 = and_right (if_so z.whole s.whole) _ h3

  pub stated : Ruled S H p P W z
  stated = record {
    some = l.some;
    full = λ u whole t in_. l.full u (so_by z.whole s.whole (and_left _ _ h3) whole) t (of_in z.firsts s.firsts (and_left _ _ h2) (kind t) in_);
    none = λ is. l.none (e1 ∙ is);
    opens = λ a y w. elim (l.opens a y w) [
      | inl u ↦ inl (starts_in (of s.firsts) (of z.firsts) (of_in s.firsts z.firsts (and_left _ _ (and_right (same_bool s.empty z.empty) _ h))) y u)
      | inr u ↦ inr (sym e1 ∙ u.0, u.1)
    ];
    plain = λ is. l.plain (so_by z.plain s.plain (and_left _ _ h4) is);
    lawful = λ u is. widen p P W (of s.goes) (of z.goes) (of_among s.goes z.goes (and_left _ _ (and_right (inside s.firsts z.firsts) _ h2))) (l.lawful u (so_by z.fine s.fine (and_right (if_so z.plain s.plain) _ h4) is));
  }

-- a rule with these first kinds, whose phrases these kinds would make longer
abbrev pub rule : List Kind → List Kind → Shape
rule fs gs = record { firsts = fs; goes = gs; empty = false; whole = true; plain = false; fine = true }

-- the same, where nothing is a phrase too
abbrev pub option : List Kind → List Kind → Shape
option fs gs = record { firsts = fs; goes = gs; empty = true; whole = true; plain = false; fine = true }

-- the same as the first, and no phrase is odd
abbrev pub plain_rule : List Kind → List Kind → Shape
plain_rule fs gs = record { firsts = fs; goes = gs; empty = false; whole = true; plain = true; fine = true }

-- what may stand deeper
abbrev pub deeper_rule : List Kind → List Kind → Shape
deeper_rule fs gs = record { firsts = fs; goes = gs; empty = false; whole = false; plain = false; fine = true }
