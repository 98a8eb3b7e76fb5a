-- A choice by more than the next token, between two rules that begin alike.
use Rattle.std.proofs.Common.{◌≡◌, List, [], ◌∷◌, ◌++◌, Bool, true, false, cond, ◌&&◌, ◌⊎◌, inl, inr, Ok, Err, refl, sym, ◌∙◌, ap, append_assoc}
use Rattle.std.proofs.lemmas.List.{append-nil}
use Rattle.cq_value.proofs.Truths.{and_left, and_right}
use Rattle.cq_token.specs.declared.token.Token.{Token}
use Rattle.cq_grammar.specs.declared.kind.Kind.{Kind}
use Rattle.cq_grammar.specs.Words.{kind, Kinds, of, starts}
use Rattle.cq_grammar.specs.Lang.{Lang, Either}
use Rattle.cq_grammar.specs.Read.{Fault, bad, deep, Reader, Test, choice, sees_two, sees_three}
use Rattle.cq_grammar.proofs.Laws.{Mode, Lawful, Read, Stops, Never, Begins, begins_by, Only, first, SameHead, same_starts, left_begins, right_begins, true_false}
use Rattle.cq_grammar.proofs.Sets.{starts_in}
use Rattle.cq_grammar.proofs.Laws.{widen}
use Rattle.cq_grammar.proofs.Shapes.{Shape, Ruled, of_both, of_left, of_right, among_left, among_right}

-- the next token goes on with a phrase of Q
abbrev pub GoesOn : {A : Type 0} → Lang A → List Token → List Token → Type 0
GoesOn Q before r = (t : Token) × (s : List Token) × (r ≡ t ∷ s) × Begins Q (before ++ t ∷ [])

goes_never : {A : Type 0} (Q : Lang A) (g : Kinds) (before r : List Token) → GoesOn Q before r → Never Q g before r → ⊥
goes_never Q g before r n never =
    let b = n.3 in
    never b.value ((before ++ n.0 ∷ []) ++ b.more) [] (n.0 ∷ b.more) b.phrase refl (ap first n.2) (append-nil ((before ++ n.0 ∷ []) ++ b.more) ∙ append_assoc before (n.0 ∷ []) b.more)

goes_only : {A : Type 0} (Q V : Lang A) (g : Kinds) (before r : List Token) (v : A) → ((v : A) (x : List Token) → Q v x → V v x) → GoesOn Q before r → Only V g v before r → ⊥
goes_only Q V g before r v sub n only =
    let b = n.3 in
    let o = only b.value ((before ++ n.0 ∷ []) ++ b.more) [] (n.0 ∷ b.more) (sub b.value ((before ++ n.0 ∷ []) ++ b.more) b.phrase) refl (ap first n.2)
    (append-nil ((before ++ n.0 ∷ []) ++ b.more) ∙ append_assoc before (n.0 ∷ []) b.more) in
    let all : true ≡ true = refl in true_false all (ap (starts (λ i. true)) (sym o.rest))

-- where two texts that go on alike differ for the test, the next token goes on with a phrase of Q
abbrev pub Settles : {A : Type 0} → Test → Lang A → Type 0
Settles test Q = (before r z : List Token) (b : Bool) → SameHead r z → test (before ++ r) ≡ b → (test (before ++ z) ≡ b → ⊥) → GoesOn Q before r

-- what the test finds at the front stands in each longer text
abbrev pub Grows : Test → Type 0
Grows test = (y m : List Token) → test y ≡ true → test (y ++ m) ≡ true

abbrev pub OpensBy : {A : Type 0} → Test → Lang A → Type 0
OpensBy {A} test P = (v : A) (y : List Token) → P v y → test y ≡ true

-- what begins with a phrase of Q fails the test
abbrev pub ClearBy : {A : Type 0} → Test → Lang A → Kinds → Type 0
ClearBy {A} test Q g = (v : A) (y m : List Token) → Q v y → starts g m ≡ false → test (y ++ m) ≡ false

not_both : {b : Bool} → b ≡ true → b ≡ false → ⊥
not_both p q = true_false p q

module _ {A : Type 0} (test : Test) (grows : Grows test) (p q : Reader A) (P W Q V : Lang A) (g : Kinds)
    (opens : OpensBy test W) (clear : ClearBy test V g) (sub_p : (v : A) (x : List Token) → P v x → W v x) (sub_q : (v : A) (x : List Token) → Q v x → V v x)
    (set_p : Settles test P) (set_q : Settles test Q) where
  wider : (P W : Lang A) → ((v : A) (x : List Token) → P v x → W v x) → Settles test P → Settles test W
  wider P W sub set before r z b same is out =
      let n = set before r z b same is out in
      (n.0, n.1, n.2, record { value = n.3.value; more = n.3.more; phrase = sub n.3.value ((before ++ n.0 ∷ []) ++ n.3.more) n.3.phrase })

  never_p : (P Q : Lang A) → Settles test P → ClearBy test Q g → (ts before r : List Token) → ts ≡ before ++ r → test ts ≡ true → Never P g before r → Never (Either P Q) g before r
  never_p P Q set cl ts before r whole on never v y n z (inl w) sm same e = never v y n z w sm same e
  never_p P Q set cl ts before r whole on never v y n z (inr w) sm same e =
      goes_never P g before r (set before r z true same (sym (ap test whole) ∙ on) (λ h. not_both h (sym (ap test e) ∙ cl v y n w sm))) never

  never_q : (P Q : Lang A) → Settles test Q → OpensBy test P → (ts before r : List Token) → ts ≡ before ++ r → test ts ≡ false → Never Q g before r → Never (Either P Q) g before r
  never_q P Q set op ts before r whole off never v y n z (inr w) sm same e = never v y n z w sm same e
  never_q P Q set op ts before r whole off never v y n z (inl w) sm same e =
      goes_never Q g before r (set before r z false same (sym (ap test whole) ∙ off) (λ h. not_both (sym (ap test e) ∙ grows y n (op v y w)) h)) never

  pub only_p : (v : A) (x r : List Token) → W v x → Only W g v x r → Only (Either W V) g v x r
  only_p v x r w only u y n z (inl i) sm same e = only u y n z i sm same e
  only_p v x r w only u y n z (inr i) sm same e = true_false (ap test e ∙ grows x z (opens v x w)) (clear u y n i sm)

  pub only_q : (v : A) (x r : List Token) → test (x ++ r) ≡ false → Only V g v x r → Only (Either W V) g v x r
  only_q v x r off only u y n z (inr i) sm same e = only u y n z i sm same e
  only_q v x r off only u y n z (inl i) sm same e =
      absurd (goes_only Q V g x r v sub_q (set_q x r z false same off (λ h. not_both (sym (ap test e) ∙ grows y n (opens u y i)) h)) only)

  clear_q : ClearBy test Q g
  clear_q v y n w sm = clear v y n (sub_q v y w) sm

  opens_p : OpensBy test P
  opens_p v y w = opens v y (sub_p v y w)

  pub stops_p : {mode : Mode} (ts : List Token) (e : Fault) → test ts ≡ true → Stops mode P W g ts e → Stops mode (Either P Q) (Either W V) g ts e
  stops_p ts (bad r) on s = record {
    before = s.before;
    whole = s.whole;
    begins = left_begins W V s.before s.begins;
    kept = λ fills. left_begins P Q s.before (s.kept fills);
    never = never_p W V (wider P W sub_p set_p) clear ts s.before r s.whole on s.never;
  }
  stops_p ts (deep r) on s = record {
    before = s.before;
    whole = s.whole;
    begins = begins_by W (Either W V) [] s.before (deep r) (left_begins W V) s.begins;
    kept = λ fills. left_begins P Q s.before (s.kept fills);
    never = λ marks. never_p P Q set_p clear_q ts s.before r s.whole on (s.never marks);
  }

  pub stops_q : {mode : Mode} (ts : List Token) (e : Fault) → test ts ≡ false → Stops mode Q V g ts e → Stops mode (Either P Q) (Either W V) g ts e
  stops_q ts (bad r) off s = record {
    before = s.before;
    whole = s.whole;
    begins = right_begins W V s.before s.begins;
    kept = λ fills. right_begins P Q s.before (s.kept fills);
    never = never_q W V (wider Q V sub_q set_q) opens ts s.before r s.whole off s.never;
  }
  stops_q ts (deep r) off s = record {
    before = s.before;
    whole = s.whole;
    begins = begins_by V (Either W V) [] s.before (deep r) (right_begins W V) s.begins;
    kept = λ fills. right_begins P Q s.before (s.kept fills);
    never = λ marks. never_q P Q set_q opens_p ts s.before r s.whole off (s.never marks);
  }

module _ {mode : Mode} {A : Type 0} (test : Test) (grows : Grows test) (p q : Reader A) (P W Q V : Lang A) (g : Kinds)
    (l : Lawful mode p P W g) (m : Lawful mode q Q V g) (opens : OpensBy test W) (clear : ClearBy test V g) (set_p : Settles test P) (set_q : Settles test Q) where
  sound_by : (t : Bool) (ts : List Token) (v : A) (r : List Token) → test ts ≡ t → cond t (p ts) (q ts) ≡ Ok (v, r) → Read (Either P Q) (Either W V) g v r ts
  sound_by true ts v r on e = let d = l.sound ts v r e in record {
    front = d.front;
    whole = d.whole;
    phrase = inl d.phrase;
    only = only_p test grows p q P W Q V g opens clear l.sub m.sub set_p set_q v d.front r (l.sub v d.front d.phrase) d.only;
  }
  sound_by false ts v r off e = let d = m.sound ts v r e in record {
    front = d.front;
    whole = d.whole;
    phrase = inr d.phrase;
    only = only_q test grows p q P W Q V g opens clear l.sub m.sub set_p set_q v d.front r (sym (ap test d.whole) ∙ off) d.only;
  }

  fails_by : (t : Bool) (ts : List Token) (e : Fault) → test ts ≡ t → cond t (p ts) (q ts) ≡ Err e → Stops mode (Either P Q) (Either W V) g ts e
  fails_by true ts e on h = stops_p test grows p q P W Q V g opens clear l.sub m.sub set_p set_q ts e on (l.fails ts e h)
  fails_by false ts e off h = stops_q test grows p q P W Q V g opens clear l.sub m.sub set_p set_q ts e off (m.fails ts e h)

  either_sub : (v : A) (x : List Token) → Either P Q v x → Either W V v x
  either_sub v x (inl w) = inl (l.sub v x w)
  either_sub v x (inr w) = inr (m.sub v x w)

  pub ahead_lawful : Lawful mode (choice test p q) (Either P Q) (Either W V) g
  ahead_lawful = record {
    sub = either_sub;
    some = left_begins W V [] l.some;
    filled = λ fills. left_begins P Q [] (l.filled fills);
    sound = λ ts v r e. sound_by (test ts) ts v r refl e;
    fails = λ ts e h. fails_by (test ts) ts e refl h;
  }

-- ---- the tests

pub two_grows : (a b : List Kind) → Grows (sees_two a b)
two_grows a b [] m h = let bad : false ≡ true = h in absurd (cc)
two_grows a b (t ∷ []) m h = let bad : false ≡ true = and_right (of a (kind t)) false h in absurd (cc)
two_grows a b (t ∷ u ∷ y) m h = h

pub three_grows : (a b c : List Kind) → Grows (sees_three a b c)
three_grows a b c [] m h = let bad : false ≡ true = h in absurd (cc)
three_grows a b c (t ∷ []) m h = let bad : false ≡ true = and_right (of a (kind t)) false h in absurd (cc)
three_grows a b c (t ∷ u ∷ []) m h = let bad : false ≡ true = and_right (of b (kind u)) false (and_right (of a (kind t)) (of b (kind u) && false) h) in absurd (cc)
three_grows a b c (t ∷ u ∷ v ∷ y) m h = h

differ : (x y b : Bool) → x ≡ b → (y ≡ b → ⊥) → x ≡ y → ⊥
differ x y b is out e = out (sym e ∙ is)

-- one of the two is true
on_one : (x y b : Bool) → x ≡ b → (y ≡ b → ⊥) → (x ≡ true) ⊎ (y ≡ true)
on_one true y b is out = inl refl
on_one false true b is out = inr refl
on_one false false b is out = absurd (out is)

-- a token of these kinds begins a phrase of Q
pub two_settles : {A : Type 0} (a b : List Kind) (Q : Lang A) → ((t : Token) → of a (kind t) ≡ true → Begins Q (t ∷ [])) → Settles (sees_two a b) Q
two_settles a b Q next [] [] z bit same is out =
    absurd (elim (on_one (sees_two a b []) (sees_two a b z) bit is out) [
      | inl u ↦ let bad : false ≡ true = u in cc
      | inr u ↦ not_both (and_left (starts (of a) z) _ u) (sym (same_starts [] z same (of a)))
    ])
two_settles a b Q next [] (t ∷ r) z bit same is out = (
  t,
  r,
  refl,
  next t (elim (on_one (sees_two a b (t ∷ r)) (sees_two a b z) bit is out) [
    | inl u ↦ and_left (of a (kind t)) _ u
    | inr u ↦ same_starts (t ∷ r) z same (of a) ∙ and_left (starts (of a) z) _ u
  ]),
)
two_settles a b Q next (t ∷ []) r z bit same is out = absurd (differ (sees_two a b (t ∷ r)) (sees_two a b (t ∷ z)) bit is out (ap (λ i. of a (kind t) && i) (same_starts r z same (of b))))
two_settles a b Q next (t ∷ u ∷ w) r z bit same is out = absurd (out is)

-- tokens of these kinds begin a phrase of Q
abbrev pub Sibling : {A : Type 0} → List Kind → List Kind → Lang A → Type 0
Sibling a b Q = (t u : Token) → of a (kind t) ≡ true → of b (kind u) ≡ true → Begins Q (t ∷ u ∷ [])

pub three_settles : {A : Type 0} (a b c : List Kind) (Q : Lang A) (token : Token) → of b (kind token) ≡ true → Sibling a b Q → Settles (sees_three a b c) Q
three_settles a b c Q token is_b sibling [] [] z bit same is out =
    absurd (elim (on_one (sees_three a b c []) (sees_three a b c z) bit is out) [
      | inl u ↦ let bad : false ≡ true = u in cc
      | inr u ↦ not_both (and_left (starts (of a) z) _ u) (sym (same_starts [] z same (of a)))
    ])
three_settles a b c Q token is_b sibling [] (t ∷ r) z bit same is out =
    let is_a : of a (kind t) ≡ true = elim (on_one (sees_three a b c (t ∷ r)) (sees_three a b c z) bit is out) [
      | inl u ↦ and_left (of a (kind t)) _ u
      | inr u ↦ same_starts (t ∷ r) z same (of a) ∙ and_left (starts (of a) z) _ u
    ] in
    let s = sibling t token is_a is_b in
    (t, r, refl, record { value = s.value; more = token ∷ s.more; phrase = s.phrase })
three_settles a b c Q token is_b sibling (t ∷ []) [] z bit same is out =
    absurd (elim (on_one (sees_three a b c (t ∷ [])) (sees_three a b c (t ∷ z)) bit is out) [
      | inl u ↦ let bad : false ≡ true = and_right (of a (kind t)) false u in cc
      | inr u ↦ not_both (and_left (starts (of b) z) _ (and_right (of a (kind t)) _ u)) (sym (same_starts [] z same (of b)))
    ])
three_settles a b c Q token is_b sibling (t ∷ []) (u ∷ r) z bit same is out =
    let found = on_one (sees_three a b c (t ∷ u ∷ r)) (sees_three a b c (t ∷ z)) bit is out in
    let is_a : of a (kind t) ≡ true = elim found [
      | inl i ↦ and_left (of a (kind t)) _ i
      | inr i ↦ and_left (of a (kind t)) _ i
    ] in
    let is_u : of b (kind u) ≡ true = elim found [
      | inl i ↦ and_left (of b (kind u)) _ (and_right (of a (kind t)) _ i)
      | inr i ↦ same_starts (u ∷ r) z same (of b) ∙ and_left (starts (of b) z) _ (and_right (of a (kind t)) _ i)
    ] in
    (u, r, refl, sibling t u is_a is_u)
three_settles a b c Q token is_b sibling (t ∷ u ∷ []) r z bit same is out =
    absurd (differ (sees_three a b c (t ∷ u ∷ r)) (sees_three a b c (t ∷ u ∷ z)) bit is out (ap (λ i. of a (kind t) && (of b (kind u) && i)) (same_starts r z same (of c))))
three_settles a b c Q token is_b sibling (t ∷ u ∷ v ∷ w) r z bit same is out = absurd (out is)

-- ---- the rule of such a choice

abbrev pub ahead_shape : Shape → Shape → Shape
ahead_shape s t = record {
  firsts = s.firsts ++ t.firsts;
  goes = s.goes ++ t.goes;
  empty = false;
  whole = s.whole && t.whole;
  plain = false;
  fine = s.fine && t.fine;
}

module _ {S : Type 0} {H : Mode} {A : Type 0} {p q : Reader A} {P W Q V : Lang A} {s t : Shape} (l : Ruled S H p P W s) (m : Ruled S H q Q V t) (s_filled : s.empty ≡ false) (t_filled : t.empty ≡ false)
    (test : Test) (grows : Grows test) (opens : OpensBy test W) (clear : ClearBy test V (of (s.goes ++ t.goes))) (set_p : Settles test P) (set_q : Settles test Q) where
  left_so : (before : List Token) → Begins W before → Begins (Either W V) before
  left_so before b = record { value = b.value; more = b.more; phrase = inl b.phrase }

  right_so : (before : List Token) → Begins V before → Begins (Either W V) before
  right_so before b = record { value = b.value; more = b.more; phrase = inr b.phrase }

  sight_opens : (a : A) (y : List Token) → Either W V a y → starts (of (s.firsts ++ t.firsts)) y ≡ true ⊎ ((false ≡ true) × (y ≡ []))
  sight_opens a y (inl w) = elim (l.opens a y w) [
    | inl u ↦ inl (starts_in (of s.firsts) (of (s.firsts ++ t.firsts)) (of_left s.firsts t.firsts) y u)
    | inr u ↦ true_false u.0 s_filled
  ]
  sight_opens a y (inr w) = elim (m.opens a y w) [
    | inl u ↦ inl (starts_in (of t.firsts) (of (s.firsts ++ t.firsts)) (of_right s.firsts t.firsts) y u)
    | inr u ↦ true_false u.0 t_filled
  ]

  sight_full : S → (s.whole && t.whole) ≡ true → (u : Token) → (of s.firsts (kind u) ≡ true) ⊎ (of t.firsts (kind u) ≡ true) → Begins (Either W V) (u ∷ [])
  sight_full h whole u (inl i) = left_so (u ∷ []) (l.full h (and_left _ _ whole) u i)
  sight_full h whole u (inr i) = right_so (u ∷ []) (m.full h (and_right s.whole _ whole) u i)

  pub by_sight : Ruled S H (choice test p q) (Either P Q) (Either W V) (ahead_shape s t)
  by_sight = record {
    some = λ h. left_so [] (l.some h);
    full = λ h whole u in_. sight_full h whole u (of_both s.firsts t.firsts (kind u) in_);
    none = λ h. let bad : false ≡ true = h in absurd (cc);
    opens = sight_opens;
    plain = λ h. let bad : false ≡ true = h in absurd (cc);
    lawful = λ h fine. ahead_lawful test grows p q P W Q V (of (s.goes ++ t.goes))
        (widen p P W (of s.goes) (of (s.goes ++ t.goes)) (among_left s.goes t.goes) (l.lawful h (and_left _ _ fine)))
        (widen q Q V (of t.goes) (of (s.goes ++ t.goes)) (among_right s.goes t.goes) (m.lawful h (and_right s.fine _ fine)))
        opens clear set_p set_q;
  }
