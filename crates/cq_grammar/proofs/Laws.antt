-- What each step of a reader keeps: it reads the phrases of its rule, and stops at the first token that no phrase goes on with.
use Rattle.std.proofs.Common.{◌≡◌, ℕ, zero, suc, ◌≤◌, List, [], ◌∷◌, ◌++◌, length, Bool, true, false, cond, ◌⊎◌, inl, inr, Option, Some, None, Result, Ok, Err, refl, sym, ◌∙◌, ◌↔◌, ap, ap₂, subst, append_assoc, arith, rules, eq-eqb, ◌||◌, length-append}
use Rattle.cq_value.proofs.Truths.{or_left}
use denote.Enum.Bare.{same_true}
use Rattle.cq_token.specs.declared.token.Token.{Token}
use Rattle.cq_grammar.specs.declared.kind.Kind.{Kind}
use Rattle.cq_grammar.specs.contracts.kind.Kind.{the_type}
use Rattle.cq_grammar.specs.Words.{kind, Kinds, of, starts, same_kind}
use Rattle.cq_grammar.specs.Lang.{Lang, One, Both, Either, Made, Nothing, Many}
use Rattle.cq_grammar.specs.Statements.{BeginsIn}
use Rattle.cq_grammar.specs.Read.{Fault, bad, deep, Outcome, Reader, and_then, one, one_by, both, made, nothing, choice, many_by, many, used_up}
use Rattle.cq_grammar.proofs.Tokens.{token_of, kind_spelled}

-- ---- lists

pub starts_same : (g : Kinds) (x : List Token) (k : Token) (s z : List Token) → starts g (x ++ k ∷ s) ≡ starts g (x ++ k ∷ z)
starts_same g [] k s z = refl
starts_same g (t ∷ x) k s z = refl

pub starts_front : (g : Kinds) (x m : List Token) → starts g x ≡ true → starts g (x ++ m) ≡ true
starts_front g [] m h = absurd (let f : false ≡ true = h in cc)
starts_front g (t ∷ x) m h = h

pub same_front : (x : List Token) {m n : List Token} → x ++ m ≡ x ++ n → m ≡ n
same_front [] e = e
same_front (t ∷ x) e = same_front x (cc)

-- ---- steps

pub record Went {A B : Type 0} (o : Outcome A) (f : A → Reader B) (y : Outcome B) : Type 0 where
  pub value : A
  pub rest : List Token
  pub first : o ≡ Ok (value, rest)
  pub second : f value rest ≡ y

pub went_ok : {A B : Type 0} (o : Outcome A) (f : A → Reader B) (y : B × List Token) → and_then o f ≡ Ok y → Went o f (Ok y)
went_ok (Ok p) f y e = record { value = p.0; rest = p.1; first = refl; second = e }
went_ok (Err d) f y e = absurd (let h : Err d ≡ Ok y = e in cc)

pub went_err : {A B : Type 0} (o : Outcome A) (f : A → Reader B) (d : Fault) → and_then o f ≡ Err d → (o ≡ Err d) ⊎ Went o f (Err d)
went_err (Ok p) f d e = inr (record { value = p.0; rest = p.1; first = refl; second = e })
went_err (Err c) f d e = inl (let h : Err c ≡ Err d = e in cc)

-- ---- laws

-- How a rule's phrases within the depth are seen: not at all; as they are; or so that what is deeper is there too, but begins with none of these tokens.
pub data Mode : Type 0 where
  unseen : Mode
  within : Mode
  past : List Token → Mode

-- the reader is known to read such phrases
abbrev pub Reads : Mode → Type 0
Reads unseen = ⊥
Reads within = Unit
Reads (past used) = Unit

-- there are such phrases at each depth
abbrev pub Fills : Mode → Type 0
Fills unseen = ⊥
Fills within = ⊥
Fills (past used) = Unit

-- nothing deeper begins so
abbrev pub Marks : Mode → List Token → Type 0
Marks unseen r = ⊥
Marks within r = ⊥
Marks (past used) r = BeginsIn used r

abbrev pub left : Fault → List Token
left (bad r) = r
left (deep r) = r

pub record Begins {A : Type 0} (W : Lang A) (before : List Token) : Type 0 where
  pub value : A
  pub more : List Token
  pub phrase : W value (before ++ more)

-- the first token, if there is one
abbrev pub first : List Token → Option Token
first [] = None
first (t ∷ ts) = Some t

abbrev pub SameHead : List Token → List Token → Type 0
SameHead r z = first r ≡ first z

pub same_starts : (r z : List Token) → SameHead r z → (f : Kinds) → starts f r ≡ starts f z
same_starts [] [] same f = refl
same_starts [] (u ∷ z) same f = absurd (let h : first [] ≡ Some u = same in cc)
same_starts (t ∷ r) [] same f = absurd (let h : Some t ≡ first [] = same in cc)
same_starts (t ∷ r) (u ∷ z) same f = let h : Some t ≡ Some u = same in let e : t ≡ u = cc in ap (λ i. f (kind i)) e

pub record Same {A : Type 0} (a b : A) (x y m n : List Token) : Type 0 where
  pub value : a ≡ b
  pub front : x ≡ y
  pub rest : m ≡ n

-- no other phrase begins a text that goes on like this one: what follows a phrase is none of the kinds g
abbrev pub Only : {A : Type 0} → Lang A → Kinds → A → List Token → List Token → Type 0
Only {A} W g a x r = (b : A) (y m z : List Token) → W b y → starts g m ≡ false → SameHead r z → y ++ m ≡ x ++ z → Same b a y x m z

-- a phrase was read, and it is the only one
pub record Read {A : Type 0} (P W : Lang A) (g : Kinds) (a : A) (r ts : List Token) : Type 0 where
  pub front : List Token
  pub whole : ts ≡ front ++ r
  pub phrase : P a front
  pub only : Only W g a front r

-- no phrase goes on after these with a first token like that of r, or, where r is empty, ends there
abbrev pub Never : {A : Type 0} → Lang A → Kinds → List Token → List Token → Type 0
Never {A} P g before r = (a : A) (y m z : List Token) → P a y → starts g m ≡ false → SameHead r z → y ++ m ≡ before ++ z → ⊥

abbrev pub NeverBy : {A : Type 0} → Mode → Lang A → Lang A → Kinds → List Token → Fault → Type 0
NeverBy mode P W g before (bad r) = Never W g before r
NeverBy mode P W g before (deep r) = Marks mode r → Never P g before r

-- where the depth is used up, a phrase begins with the next token too
abbrev pub BeginsBy : {A : Type 0} → Lang A → List Token → Fault → Type 0
BeginsBy W before (bad r) = Begins W before
BeginsBy W before (deep r) = (t : Token) × (s : List Token) × (r ≡ t ∷ s) × Begins W (before ++ t ∷ [])

pub begins_by : {A B : Type 0} (W : Lang A) (V : Lang B) (x before : List Token) (e : Fault) → ((b : List Token) → Begins W b → Begins V (x ++ b)) → BeginsBy W before e → BeginsBy V (x ++ before) e
begins_by W V x before (bad r) f b = f before b
begins_by W V x before (deep r) f b = (b.0, b.1, b.2, subst (λ (w : List Token). Begins V w) (sym (append_assoc x before (b.0 ∷ []))) (f (before ++ b.0 ∷ []) b.3))

pub record Stops (mode : Mode) {A : Type 0} (P W : Lang A) (g : Kinds) (ts : List Token) (e : Fault) : Type 0 where
  pub before : List Token
  pub whole : ts ≡ before ++ left e
  pub begins : BeginsBy W before e
  pub kept : Fills mode → Begins P before
  pub never : NeverBy mode P W g before e

-- P has the phrases within the depth, W those of any depth
pub record Lawful (mode : Mode) {A : Type 0} (p : Reader A) (P W : Lang A) (g : Kinds) : Type 0 where
  pub sub : (a : A) (x : List Token) → P a x → W a x
  pub some : Begins W []
  pub filled : Fills mode → Begins P []
  pub sound : (ts : List Token) (a : A) (r : List Token) → p ts ≡ Ok (a, r) → Read P W g a r ts
  pub fails : (ts : List Token) (e : Fault) → p ts ≡ Err e → Stops mode P W g ts e

-- what begins with a phrase of Q goes on with none of the kinds g
abbrev pub Clear : {B : Type 0} → Kinds → Lang B → Kinds → Type 0
Clear {B} g Q h = (b : B) (y m : List Token) → Q b y → starts h m ≡ false → starts g (y ++ m) ≡ false

-- each phrase of Q begins with one of the kinds f
abbrev pub Opens : {B : Type 0} → Kinds → Lang B → Type 0
Opens {B} f Q = (b : B) (y : List Token) → Q b y → starts f y ≡ true

-- each of the kinds f is one of g
abbrev pub Among : Kinds → Kinds → Type 0
Among f g = (k : Kind) → g k ≡ false → f k ≡ false

pub among_starts : (f g : Kinds) → Among f g → (m : List Token) → starts g m ≡ false → starts f m ≡ false
among_starts f g sub [] h = refl
among_starts f g sub (t ∷ m) h = sub (kind t) h

-- no kind of f is one of g
abbrev pub Apart : Kinds → Kinds → Type 0
Apart f g = (k : Kind) → f k ≡ true → g k ≡ false

pub apart_starts : (f g : Kinds) → Apart f g → (m : List Token) → starts f m ≡ true → starts g m ≡ false
apart_starts f g apart [] h = refl
apart_starts f g apart (t ∷ m) h = apart (kind t) h

pub nonempty : (f : Kinds) (x : List Token) → starts f x ≡ true → 1 ≤ length x
nonempty f [] h = let bad : false ≡ true = h in absurd (cc)
nonempty f (t ∷ x) h = omega arith

pub same_after : (x r z : List Token) → SameHead r z → SameHead (x ++ r) (x ++ z)
same_after [] r z s = s
same_after (t ∷ x) r z s = refl

-- a kind that isn't in f
pub true_false : {X : Type 0} {b : Bool} → b ≡ true → b ≡ false → X
true_false p q = let h : true ≡ false = sym p ∙ q in absurd (cc)

-- ---- more kinds may be kept from following

widen_never : {A : Type 0} (P : Lang A) (g h : Kinds) → Among g h → (before r : List Token) → Never P g before r → Never P h before r
widen_never P g h sub before r never = λ a y m n c sm same e. never a y m n c (among_starts g h sub m sm) same e

widen_fails : {mode : Mode} {A : Type 0} (P W : Lang A) (g h : Kinds) → Among g h → (ts : List Token) (e : Fault) → Stops mode P W g ts e → Stops mode P W h ts e
widen_fails P W g h sub ts (bad r) s = record { before = s.before; whole = s.whole; begins = s.begins; kept = s.kept; never = widen_never W g h sub s.before r s.never }
widen_fails P W g h sub ts (deep r) s = record { before = s.before; whole = s.whole; begins = s.begins; kept = s.kept; never = λ marks. widen_never P g h sub s.before r (s.never marks) }

pub widen : {mode : Mode} {A : Type 0} (p : Reader A) (P W : Lang A) (g h : Kinds) → Among g h → Lawful mode p P W g → Lawful mode p P W h
widen p P W g h sub l = record {
  sub = l.sub;
  some = l.some;
  filled = l.filled;
  sound = λ ts a r e. let d = l.sound ts a r e in record {
    front = d.front;
    whole = d.whole;
    phrase = d.phrase;
    only = λ b y m z w sm same eq. d.only b y m z w (among_starts g h sub m sm) same eq;
  };
  fails = λ ts e failed. widen_fails P W g h sub ts e (l.fails ts e failed);
}

-- ---- one behind the other

pub pair_same : {A B : Type 0} (a b : A × B) → a.0 ≡ b.0 → a.1 ≡ b.1 → a ≡ b
pair_same a b e f = ap₂ (λ u v. (u, v)) e f

pub regroup : (a b c : List Token) → (a ++ b) ++ c ≡ a ++ (b ++ c)
regroup a b c = simp append_assoc

abbrev done : {X : Type 0} → X → Result X Fault
done x = Ok x

pub ok_same : {X : Type 0} {x y : X} → done x ≡ done y → x ≡ y
ok_same e = cc

pub ok_err : {X : Type 0} {x : X} {d : Fault} → done x ≡ Err d → ⊥
ok_err e = cc

abbrev failed : {X : Type 0} → Fault → Outcome X
failed d = Err d

err_same : {X : Type 0} {d e : Fault} → failed {X = X} d ≡ failed e → d ≡ e
err_same h = cc

err_ok : {X : Type 0} {d : Fault} {y : X × List Token} → failed {X = X} d ≡ Ok y → ⊥
err_ok h = cc

never_first : {A B : Type 0} (P : Lang A) (Q : Lang B) (g h : Kinds) (before r : List Token) → Clear g Q h → Never P g before r → Never (Both P Q) h before r
never_first P Q g h before r clear never a y m n c sm same e =
    never a.0 c.front (c.back ++ m) n c.left (clear a.1 c.back m c.right sm) same (sym (regroup c.front c.back m) ∙ (rw (← c.whole) e))

never_second : {A B : Type 0} (P : Lang A) (Q : Lang B) (W : Lang A) (g h : Kinds) → ((a : A) (x : List Token) → P a x → W a x) → Clear g Q h
    → (a : A) (x before r : List Token) → Only W g a x (before ++ r) → Never Q h before r → Never (Both P Q) h (x ++ before) r
never_second P Q W g h sub clear a x before r only never b y m n c sm same e =
    let e2 : c.front ++ (c.back ++ m) ≡ x ++ (before ++ n) = sym (regroup c.front c.back m) ∙ (rw (← c.whole) e) ∙ regroup x before n in
    let one = only b.0 c.front (c.back ++ m) (before ++ n) (sub b.0 c.front c.left) (clear b.1 c.back m c.right sm) (same_after before r n same) e2 in
    never b.1 c.back m n c.right sm same one.rest

-- a phrase of V may stand behind
front_begins : {A B : Type 0} (W : Lang A) (V : Lang B) → Begins V [] → (before : List Token) → Begins W before → Begins (Both W V) before
front_begins W V z before b = record {
  value = (b.value, z.value);
  more = b.more ++ z.more;
  phrase = record { front = before ++ b.more; back = z.more; whole = sym (regroup before b.more z.more); left = b.phrase; right = z.phrase };
}

-- a phrase of W stands before
back_begins : {A B : Type 0} (W : Lang A) (V : Lang B) (before : List Token) (a : A) (x : List Token) → W a x → Begins V before → Begins (Both W V) (x ++ before)
back_begins W V before a x w b = record {
  value = (a, b.value);
  more = b.more;
  phrase = record { front = x; back = before ++ b.more; whole = regroup x before b.more; left = w; right = b.phrase };
}

module _ {A B : Type 0} (p : Reader A) (q : Reader B) (P W : Lang A) (Q V : Lang B) (g h : Kinds) where
  pub both_begins : Begins V [] → (before : List Token) → Begins W before → Begins (Both W V) before
  both_begins = front_begins W V

  pub both_fails_first : {mode : Mode} → Clear g V h → Clear g Q h → Begins V [] → (Fills mode → Begins Q []) → (ts : List Token) (e : Fault) → Stops mode P W g ts e → Stops mode (Both P Q) (Both W V) h ts e
  both_fails_first clear clear_q z z_q ts (bad r) s = record {
    before = s.before;
    whole = s.whole;
    begins = both_begins z s.before s.begins;
    kept = λ fills. front_begins P Q (z_q fills) s.before (s.kept fills);
    never = never_first W V g h s.before r clear s.never;
  }
  both_fails_first clear clear_q z z_q ts (deep r) s = record {
    before = s.before;
    whole = s.whole;
    begins = begins_by W (Both W V) [] s.before (deep r) (both_begins z) s.begins;
    kept = λ fills. front_begins P Q (z_q fills) s.before (s.kept fills);
    never = λ marks. never_first P Q g h s.before r clear_q (s.never marks);
  }

  pub both_fails_second : {mode : Mode} → Lawful mode p P W g → Clear g V h → Clear g Q h → (ts r : List Token) (a : A) (e : Fault) → Read P W g a r ts → Stops mode Q V h r e → Stops mode (Both P Q) (Both W V) h ts e
  both_fails_second l clear clear_q ts r a (bad z) d s =
      let only : Only W g a d.front (s.before ++ z) = subst (λ (w : List Token). Only W g a d.front w) s.whole d.only in record {
        before = d.front ++ s.before;
        whole = d.whole ∙ (ap (λ w. d.front ++ w) s.whole ∙ sym (regroup d.front s.before z));
        begins = back_begins W V s.before a d.front (l.sub a d.front d.phrase) s.begins;
        kept = λ fills. back_begins P Q s.before a d.front d.phrase (s.kept fills);
        never = never_second W V W g h (λ _ _ w. w) clear a d.front s.before z only s.never;
      }
  both_fails_second l clear clear_q ts r a (deep z) d s =
      let only : Only W g a d.front (s.before ++ z) = subst (λ (w : List Token). Only W g a d.front w) s.whole d.only in record {
        before = d.front ++ s.before;
        whole = d.whole ∙ (ap (λ w. d.front ++ w) s.whole ∙ sym (regroup d.front s.before z));
        begins = begins_by V (Both W V) d.front s.before (deep z) (λ b w. back_begins W V b a d.front (l.sub a d.front d.phrase) w) s.begins;
        kept = λ fills. back_begins P Q s.before a d.front d.phrase (s.kept fills);
        never = λ marks. never_second P Q W g h l.sub clear_q a d.front s.before z only (s.never marks);
      }

  both_only : Clear g V h → (a : A) (b : B) (x y r ry : List Token) → Only W g a x (y ++ r) → Only V h b y r → Only (Both W V) h (a, b) (x ++ y) r
  both_only clear a b x y r ry u v d w m z c sm same e =
      let l : w ++ m ≡ c.front ++ (c.back ++ m) = rw c.whole (regroup c.front c.back m) in
      let s = u d.0 c.front (c.back ++ m) (y ++ z) c.left (clear d.1 c.back m c.right sm) (same_after y r z same) (sym l ∙ (e ∙ regroup x y z)) in
      let t = v d.1 c.back m z c.right sm same s.rest in
      record { value = pair_same d (a, b) s.value t.value; front = c.whole ∙ ap₂ (λ i j. i ++ j) s.front t.front; rest = t.rest }

  pub both_read : Clear g V h → (ts : List Token) (a : A) (b : B) (r s : List Token) → Read P W g a r ts → Read Q V h b s r → Read (Both P Q) (Both W V) h (a, b) s ts
  both_read clear ts a b r s x y =
      let only : Only W g a x.front (y.front ++ s) = subst (λ (w : List Token). Only W g a x.front w) y.whole x.only in record {
        front = x.front ++ y.front;
        whole = x.whole ∙ (ap (λ w. x.front ++ w) y.whole ∙ sym (regroup x.front y.front s));
        phrase = record { front = x.front; back = y.front; whole = refl; left = x.phrase; right = y.phrase };
        only = both_only clear a b x.front y.front s s only y.only;
      }

  pub both_lawful : {mode : Mode} → Lawful mode p P W g → Lawful mode q Q V h → Clear g V h → Lawful mode (both p q) (Both P Q) (Both W V) h
  both_lawful l m clear =
      let clear_q : Clear g Q h = λ b y n w. clear b y n (m.sub b y w) in record {
        sub = λ c x b. record { front = b.front; back = b.back; whole = b.whole; left = l.sub c.0 b.front b.left; right = m.sub c.1 b.back b.right };
        some = both_begins m.some [] l.some;
        filled = λ fills. front_begins P Q (m.filled fills) [] (l.filled fills);
        sound = λ ts c r e.
            let i = went_ok (p ts) (λ a r. and_then (q r) (λ b s. Ok ((a, b), s))) (c, r) e in
            let j = went_ok (q i.rest) (λ b s. Ok ((i.value, b), s)) (c, r) i.second in
            subst (λ (w : (A × B) × List Token). Read (Both P Q) (Both W V) h w.0 w.1 ts) (ok_same j.second)
            (both_read clear ts i.value j.value i.rest j.rest (l.sound ts i.value i.rest i.first) (m.sound i.rest j.value j.rest j.first));
        fails = λ ts e failed. elim (went_err (p ts) (λ a r. and_then (q r) (λ b s. Ok ((a, b), s))) e failed) [
          | inl u ↦ both_fails_first clear clear_q m.some m.filled ts e (l.fails ts e u)
          | inr i ↦ elim (went_err (q i.rest) (λ b s. Ok ((i.value, b), s)) e i.second) [
            | inl u ↦ both_fails_second l clear clear_q ts i.rest i.value e (l.sound ts i.value i.rest i.first) (m.fails i.rest e u)
            | inr j ↦ absurd (ok_err j.second)
          ]
        ];
      }

-- ---- seen by a function

pub made_begins : {A B : Type 0} (f : A → B) (W : Lang A) (before : List Token) → Begins W before → Begins (Made f W) before
made_begins f W before b = record { value = f b.value; more = b.more; phrase = record { from = b.value; is = refl; phrase = b.phrase } }

pub made_fails : {mode : Mode} {A B : Type 0} (f : A → B) (P W : Lang A) (g : Kinds) (ts : List Token) (e : Fault) → Stops mode P W g ts e → Stops mode (Made f P) (Made f W) g ts e
made_fails f P W g ts (bad r) s = record { before = s.before; whole = s.whole; begins = made_begins f W s.before s.begins; kept = λ fills. made_begins f P s.before (s.kept fills); never = λ a y m n c sm same e. s.never c.from y m n c.phrase sm same e }
made_fails f P W g ts (deep r) s = record { before = s.before; whole = s.whole; begins = begins_by W (Made f W) [] s.before (deep r) (made_begins f W) s.begins; kept = λ fills. made_begins f P s.before (s.kept fills); never = λ marks a y m n c sm same e. s.never marks c.from y m n c.phrase sm same e }

pub made_only : {A B : Type 0} (f : A → B) (W : Lang A) (g : Kinds) (a : A) (x r : List Token) → Only W g a x r → Only (Made f W) g (f a) x r
made_only f W g a x r only b y m z w sm same eq =
    let s = only w.from y m z w.phrase sm same eq in
    record { value = w.is ∙ ap f s.value; front = s.front; rest = s.rest }

pub nothing_only : {A : Type 0} (v : A) (g : Kinds) (r : List Token) → Only (Nothing v) g v [] r
nothing_only v g r b y m z w sm same eq = record { value = w.is; front = w.none; rest = sym (ap (λ i. i ++ m) w.none) ∙ eq }

pub made_lawful : {mode : Mode} {A B : Type 0} (f : A → B) (p : Reader A) (P W : Lang A) (g : Kinds) → Lawful mode p P W g → Lawful mode (made f p) (Made f P) (Made f W) g
made_lawful f p P W g l = record {
  sub = λ b x m. record { from = m.from; is = m.is; phrase = l.sub m.from x m.phrase };
  some = made_begins f W [] l.some;
  filled = λ fills. made_begins f P [] (l.filled fills);
  sound = λ ts b r e.
      let i = went_ok (p ts) (λ a r. Ok (f a, r)) (b, r) e in
      let x = l.sound ts i.value i.rest i.first in
      subst (λ (w : _ × List Token). Read (Made f P) (Made f W) g w.0 w.1 ts) (ok_same i.second) (record {
        front = x.front;
        whole = x.whole;
        phrase = record { from = i.value; is = refl; phrase = x.phrase };
        only = λ b y m z w sm same eq.
            let s = x.only w.from y m z w.phrase sm same eq in
            record { value = w.is ∙ ap f s.value; front = s.front; rest = s.rest };
      });
  fails = λ ts e failed. elim (went_err (p ts) (λ a r. Ok (f a, r)) e failed) [
    | inl u ↦ made_fails f P W g ts e (l.fails ts e u)
    | inr i ↦ absurd (ok_err i.second)
  ];
}

-- ---- nothing

pub nothing_lawful : {mode : Mode} {A : Type 0} (v : A) (g : Kinds) → Lawful mode (nothing v) (Nothing v) (Nothing v) g
nothing_lawful v g = record {
  sub = λ a x n. n;
  some = record { value = v; more = []; phrase = record { is = refl; none = refl } };
  filled = λ _. record { value = v; more = []; phrase = record { is = refl; none = refl } };
  sound = λ ts a r e. subst (λ (w : _ × List Token). Read (Nothing v) (Nothing v) g w.0 w.1 ts) (ok_same e) (record {
    front = [];
    whole = refl;
    phrase = record { is = refl; none = refl };
    only = λ b y m z w sm same eq. record { value = w.is; front = w.none; rest = sym (ap (λ i. i ++ m) w.none) ∙ eq };
  });
  fails = λ ts e failed. absurd (ok_err failed);
}

-- ---- a choice by the next token

pub left_begins : {A : Type 0} (W V : Lang A) (before : List Token) → Begins W before → Begins (Either W V) before
left_begins W V before b = record { value = b.value; more = b.more; phrase = inl b.phrase }

pub right_begins : {A : Type 0} (W V : Lang A) (before : List Token) → Begins V before → Begins (Either W V) before
right_begins W V before b = record { value = b.value; more = b.more; phrase = inr b.phrase }

module _ {A : Type 0} (f : Kinds) (p q : Reader A) (P W Q V : Lang A) (g : Kinds) where
  -- P and Q are the languages of this fault
  never_left : (P Q : Lang A) → Clear f Q g → (ts before r : List Token) → ts ≡ before ++ r → starts f ts ≡ true → Never P g before r → Never (Either P Q) g before r
  never_left P Q clear ts before r whole on never a y m z (inl w) sm same e = never a y m z w sm same e
  never_left P Q clear ts before r whole on never a y m z (inr w) sm same e =
      true_false (ap (starts f) e ∙ (sym (same_starts (before ++ r) (before ++ z) (same_after before r z same) f) ∙ (sym (ap (starts f) whole) ∙ on))) (clear a y m w sm)

  never_right : (P Q : Lang A) → Opens f P → (ts before r : List Token) → ts ≡ before ++ r → starts f ts ≡ false → Never Q g before r → Never (Either P Q) g before r
  never_right P Q opens ts before r whole off never a y m z (inr w) sm same e = never a y m z w sm same e
  never_right P Q opens ts before r whole off never a y m z (inl w) sm same e =
      true_false (starts_front f y m (opens a y w)) (ap (starts f) e ∙ (sym (same_starts (before ++ r) (before ++ z) (same_after before r z same) f) ∙ (sym (ap (starts f) whole) ∙ off)))

  fails_left : {mode : Mode} → Clear f V g → Clear f Q g → (ts : List Token) (e : Fault) → starts f ts ≡ true → Stops mode P W g ts e → Stops mode (Either P Q) (Either W V) g ts e
  fails_left clear clear_q ts (bad r) on s = record { before = s.before; whole = s.whole; begins = left_begins W V s.before s.begins; kept = λ fills. left_begins P Q s.before (s.kept fills); never = never_left W V clear ts s.before r s.whole on s.never }
  fails_left clear clear_q ts (deep r) on s = record { before = s.before; whole = s.whole; begins = begins_by W (Either W V) [] s.before (deep r) (left_begins W V) s.begins; kept = λ fills. left_begins P Q s.before (s.kept fills); never = λ marks. never_left P Q clear_q ts s.before r s.whole on (s.never marks) }

  fails_right : {mode : Mode} → Opens f W → Opens f P → (ts : List Token) (e : Fault) → starts f ts ≡ false → Stops mode Q V g ts e → Stops mode (Either P Q) (Either W V) g ts e
  fails_right opens opens_p ts (bad r) off s = record { before = s.before; whole = s.whole; begins = right_begins W V s.before s.begins; kept = λ fills. right_begins P Q s.before (s.kept fills); never = never_right W V opens ts s.before r s.whole off s.never }
  fails_right opens opens_p ts (deep r) off s = record { before = s.before; whole = s.whole; begins = begins_by V (Either W V) [] s.before (deep r) (right_begins W V) s.begins; kept = λ fills. right_begins P Q s.before (s.kept fills); never = λ marks. never_right P Q opens_p ts s.before r s.whole off (s.never marks) }

  only_left : Clear f V g → (a : A) (x r : List Token) → starts f (x ++ r) ≡ true → Only W g a x r → Only (Either W V) g a x r
  only_left clear a x r on only b y m z (inl w) sm same e = only b y m z w sm same e
  only_left clear a x r on only b y m z (inr w) sm same e =
      true_false (ap (starts f) e ∙ (sym (same_starts (x ++ r) (x ++ z) (same_after x r z same) f) ∙ on)) (clear b y m w sm)

  only_right : Opens f W → (a : A) (x r : List Token) → starts f (x ++ r) ≡ false → Only V g a x r → Only (Either W V) g a x r
  only_right opens a x r off only b y m z (inr w) sm same e = only b y m z w sm same e
  only_right opens a x r off only b y m z (inl w) sm same e =
      true_false (starts_front f y m (opens b y w)) (ap (starts f) e ∙ (sym (same_starts (x ++ r) (x ++ z) (same_after x r z same) f) ∙ off))

  choice_sound : {mode : Mode} (b : Bool) → Lawful mode p P W g → Lawful mode q Q V g → Opens f W → Clear f V g → (ts : List Token) (a : A) (r : List Token) → starts f ts ≡ b
      → cond b (p ts) (q ts) ≡ Ok (a, r) → Read (Either P Q) (Either W V) g a r ts
  choice_sound true l m opens clear ts a r on e = let d = l.sound ts a r e in record {
    front = d.front;
    whole = d.whole;
    phrase = inl d.phrase;
    only = only_left clear a d.front r (sym (ap (starts f) d.whole) ∙ on) d.only;
  }
  choice_sound false l m opens clear ts a r off e = let d = m.sound ts a r e in record {
    front = d.front;
    whole = d.whole;
    phrase = inr d.phrase;
    only = only_right opens a d.front r (sym (ap (starts f) d.whole) ∙ off) d.only;
  }

  choice_fails : {mode : Mode} (b : Bool) → Lawful mode p P W g → Lawful mode q Q V g → Opens f W → Clear f V g → (ts : List Token) (e : Fault) → starts f ts ≡ b
      → cond b (p ts) (q ts) ≡ Err e → Stops mode (Either P Q) (Either W V) g ts e
  choice_fails true l m opens clear ts e on failed = fails_left clear (λ b y n w. clear b y n (m.sub b y w)) ts e on (l.fails ts e failed)
  choice_fails false l m opens clear ts e off failed = fails_right opens (λ b y w. opens b y (l.sub b y w)) ts e off (m.fails ts e failed)

  either_sub : {mode : Mode} → Lawful mode p P W g → Lawful mode q Q V g → (a : A) (x : List Token) → Either P Q a x → Either W V a x
  either_sub l m a x (inl w) = inl (l.sub a x w)
  either_sub l m a x (inr w) = inr (m.sub a x w)

  pub choice_lawful : {mode : Mode} → Lawful mode p P W g → Lawful mode q Q V g → Opens f W → Clear f V g → Lawful mode (choice (starts f) p q) (Either P Q) (Either W V) g
  choice_lawful l m opens clear = record {
    sub = either_sub l m;
    some = left_begins W V [] l.some;
    filled = λ fills. left_begins P Q [] (l.filled fills);
    sound = λ ts a r e. choice_sound (starts f ts) l m opens clear ts a r refl e;
    fails = λ ts e failed. choice_fails (starts f ts) l m opens clear ts e refl failed;
  }

-- ---- one token

pub starts_none : (m : List Token) → starts (of []) m ≡ false
unfolding of
starts_none [] = refl
starts_none (t ∷ m) = refl

pub kind_true : (a b : Kind) → same_kind a b ≡ true → a ≡ b
unfolding same_kind
kind_true a b e = same_true the_type (search rules) a b e

pub kind_refl : (a : Kind) → same_kind a a ≡ true
unfolding same_kind
kind_refl a = eq-eqb _ _ refl

-- a token of the first of these kinds
pub first_of_kinds : (j : Kind) (ks : List Kind) → of (j ∷ ks) (kind (token_of j)) ≡ true
unfolding of
first_of_kinds j ks = or_left (same_kind (kind (token_of j)) j) (of ks (kind (token_of j))) (ap (λ i. same_kind i j) (kind_spelled j) ∙ kind_refl j)

module _ (ks : List Kind) where
  one_sound : (t : Token) (ts : List Token) (b : Bool) → of ks (kind t) ≡ b → (a : Token) (r : List Token) → one_by t ts b ≡ Ok (a, r) → Read (One ks) (One ks) (of []) a r (t ∷ ts)
  one_sound t ts true is a r e = subst (λ (w : Token × List Token). Read (One ks) (One ks) (of []) w.0 w.1 (t ∷ ts)) (ok_same e) (record {
    front = t ∷ [];
    whole = refl;
    phrase = record { kind = is; alone = refl };
    only = λ b y m z w sm same eq.
        let h : b ∷ m ≡ t ∷ z = ap (λ i. i ++ m) (sym w.alone) ∙ eq in
        let h0 : b ≡ t = cc in
        let h1 : m ≡ z = cc in
        record { value = h0; front = w.alone ∙ ap (λ i. i ∷ []) h0; rest = h1 };
  })
  one_sound t ts false is a r e = absurd (let h : Err (bad (t ∷ ts)) ≡ done (a, r) = e in cc)

  one_never : (ts : List Token) → starts (of ks) ts ≡ false → Never (One ks) (of []) [] ts
  one_never ts off a y m z w sm same e =
      let h : a ∷ m ≡ z = ap (λ i. i ++ m) (sym w.alone) ∙ e in
      true_false w.kind (ap (starts (of ks)) h ∙ (sym (same_starts ts z same (of ks)) ∙ off))

  one_begins : (t : Token) → of ks (kind t) ≡ true → Begins (One ks) []
  one_begins t in_ = record { value = t; more = t ∷ []; phrase = record { kind = in_; alone = refl } }

  one_fails : {mode : Mode} → Begins (One ks) [] → (t : Token) (ts : List Token) (b : Bool) → of ks (kind t) ≡ b → (e : Fault) → one_by t ts b ≡ Err e → Stops mode (One ks) (One ks) (of []) (t ∷ ts) e
  one_fails some t ts true is e failed = absurd (ok_err failed)
  one_fails {mode} some t ts false is e failed = subst (λ (w : Fault). Stops mode (One ks) (One ks) (of []) (t ∷ ts) w) (err_same failed) (record {
    before = [];
    whole = refl;
    begins = some;
    kept = λ _. some;
    never = one_never (t ∷ ts) is;
  })

  one_reads : (ts : List Token) (a : Token) (r : List Token) → one ks ts ≡ Ok (a, r) → Read (One ks) (One ks) (of []) a r ts
  unfolding one
  one_reads [] a r e = absurd (let h : Err (bad []) ≡ done (a, r) = e in cc)
  one_reads (t ∷ ts) a r e = one_sound t ts (of ks (kind t)) refl a r e

  one_stops : {mode : Mode} → Begins (One ks) [] → (ts : List Token) (e : Fault) → one ks ts ≡ Err e → Stops mode (One ks) (One ks) (of []) ts e
  unfolding one
  one_stops {mode} some [] e failed = subst (λ (w : Fault). Stops mode (One ks) (One ks) (of []) [] w) (err_same failed) (record {
    before = [];
    whole = refl;
    begins = some;
    kept = λ _. some;
    never = one_never [] refl;
  })
  one_stops some (t ∷ ts) e failed = one_fails some t ts (of ks (kind t)) refl e failed

pub one_some : (j : Kind) (ks : List Kind) → Begins (One (j ∷ ks)) []
one_some j ks = one_begins (j ∷ ks) (token_of j) (first_of_kinds j ks)

pub one_lawful : {mode : Mode} (j : Kind) (ks : List Kind) → Lawful mode (one (j ∷ ks)) (One (j ∷ ks)) (One (j ∷ ks)) (of [])
one_lawful j ks = record { sub = λ a x w. w; some = one_some j ks; filled = λ _. one_some j ks; sound = one_reads (j ∷ ks); fails = one_stops (j ∷ ks) (one_some j ks) }

-- ---- where the depth is used up

module _ {A : Type 0} (ks : List Kind) (g : Kinds) (P W : Lang A) where
  used_up_sound : (b : Bool) (ts : List Token) (a : A) (r : List Token) → cond b (failed {X = A} (deep ts)) (failed (bad ts)) ≡ Ok (a, r) → Read P W g a r ts
  used_up_sound true ts a r e = absurd (err_ok e)
  used_up_sound false ts a r e = absurd (err_ok e)

  used_up_never : Opens (of ks) W → (ts : List Token) → starts (of ks) ts ≡ false → Never W g [] ts
  used_up_never opens ts off a y m z w sm same e =
      true_false (starts_front (of ks) y m (opens a y w)) (ap (starts (of ks)) e ∙ (sym (same_starts ts z same (of ks)) ∙ off))

  -- each of the kinds begins a phrase
  used_up_next : ((t : Token) → of ks (kind t) ≡ true → Begins W (t ∷ [])) → (ts : List Token) → starts (of ks) ts ≡ true → BeginsBy W [] (deep ts)
  used_up_next full [] is = let bad : false ≡ true = is in absurd (cc)
  used_up_next full (t ∷ ts) is = (t, ts, refl, full t is)

  -- no phrase of P begins with a token of these
  marked_never : (mode : Mode) → Opens (of ks) P → ((a : A) (y : List Token) → P a y → Marks mode y → ⊥) → (ts : List Token) → Marks mode ts → Never P g [] ts
  marked_never mode opens out ts marks a [] m z w sm same e = let bad : false ≡ true = opens a [] w in absurd (cc)
  marked_never mode opens out ts marks a (u ∷ y) m z w sm same e = out a (u ∷ y) w (marks_same mode ts (u ∷ y) marks (same ∙ ap first (sym e)))
    where
      marks_same : (mode : Mode) (r y : List Token) → Marks mode r → first r ≡ first y → Marks mode y
      marks_same unseen r y h same = h
      marks_same within r y h same = h
      marks_same (past used) [] y h same = absurd h
      marks_same (past used) (t ∷ r) [] h same = absurd (let e : Some t ≡ first [] = same in cc)
      marks_same (past used) (t ∷ r) (u ∷ y) h same = let e : Some t ≡ Some u = same in let i : t ≡ u = cc in subst (λ (v : Token). BeginsIn used (v ∷ [])) i h

  used_up_fails : {mode : Mode} → Begins W [] → Opens (of ks) W → ((t : Token) → of ks (kind t) ≡ true → Begins W (t ∷ [])) → (Fills mode → Begins P []) → Opens (of ks) P
      → ((a : A) (y : List Token) → P a y → Marks mode y → ⊥) → (b : Bool) (ts : List Token) → starts (of ks) ts ≡ b → (e : Fault)
      → cond b (failed {X = A} (deep ts)) (failed (bad ts)) ≡ Err e → Stops mode P W g ts e
  used_up_fails {mode} some opens full filled opens_p out true ts is e h = subst (λ (w : Fault). Stops mode P W g ts w) (err_same h) (record {
    before = [];
    whole = refl;
    begins = used_up_next full ts is;
    kept = filled;
    never = marked_never mode opens_p out ts;
  })
  used_up_fails {mode} some opens full filled opens_p out false ts is e h = subst (λ (w : Fault). Stops mode P W g ts w) (err_same h) (record {
    before = [];
    whole = refl;
    begins = some;
    kept = filled;
    never = used_up_never opens ts is;
  })

  pub used_up_lawful : {mode : Mode} → ((a : A) (x : List Token) → P a x → W a x) → Begins W [] → Opens (of ks) W → ((t : Token) → of ks (kind t) ≡ true → Begins W (t ∷ [])) → (Fills mode → Begins P [])
      → ((a : A) (y : List Token) → P a y → Marks mode y → ⊥) → Lawful mode (used_up ks) P W g
  used_up_lawful sub some opens full filled out = record {
    sub = sub;
    some = some;
    filled = filled;
    sound = λ ts a r e. used_up_sound (starts (of ks) ts) ts a r e;
    fails = λ ts e h. used_up_fails some opens full filled (λ a y w. opens a y (sub a y w)) out (starts (of ks) ts) ts refl e h;
  }

-- ---- languages of the same phrases

module _ {A : Type 0} (P Q W V : Lang A) (g : Kinds) (s : (a : A) (x : List Token) → P a x ↔ Q a x) (t : (a : A) (x : List Token) → W a x ↔ V a x) where
  pub same_stops : {mode : Mode} (ts : List Token) (e : Fault) → Stops mode P W g ts e → Stops mode Q V g ts e
  same_stops ts (bad r) d = record {
    before = d.before;
    whole = d.whole;
    begins = record { value = d.begins.value; more = d.begins.more; phrase = (t d.begins.value (d.before ++ d.begins.more)).0 d.begins.phrase };
    kept = λ fills. let b = d.kept fills in record { value = b.value; more = b.more; phrase = (s b.value (d.before ++ b.more)).0 b.phrase };
    never = λ a y m z w. d.never a y m z ((t a y).1 w);
  }
  same_stops ts (deep r) d = record {
    before = d.before;
    whole = d.whole;
    begins = begins_by W V [] d.before (deep r) (λ b w. record { value = w.value; more = w.more; phrase = (t w.value (b ++ w.more)).0 w.phrase }) d.begins;
    kept = λ fills. let b = d.kept fills in record { value = b.value; more = b.more; phrase = (s b.value (d.before ++ b.more)).0 b.phrase };
    never = λ marks a y m z w. d.never marks a y m z ((s a y).1 w);
  }

pub same_lang : {mode : Mode} {A : Type 0} (p : Reader A) (P Q W V : Lang A) (g : Kinds) → ((a : A) (x : List Token) → P a x ↔ Q a x) → ((a : A) (x : List Token) → W a x ↔ V a x)
    → Lawful mode p P W g → Lawful mode p Q V g
same_lang p P Q W V g s t l = record {
  sub = λ a x w. (t a x).0 (l.sub a x ((s a x).1 w));
  some = record { value = l.some.value; more = l.some.more; phrase = (t l.some.value l.some.more).0 l.some.phrase };
  filled = λ fills. let b = l.filled fills in record { value = b.value; more = b.more; phrase = (s b.value b.more).0 b.phrase };
  sound = λ ts a r e. let d = l.sound ts a r e in record {
    front = d.front;
    whole = d.whole;
    phrase = (s a d.front).0 d.phrase;
    only = λ b y m z w sm same eq. d.only b y m z ((t b y).1 w) sm same eq;
  };
  fails = λ ts e h. same_stops P Q W V g s t ts e (l.fails ts e h);
}

-- ---- what begins with none of the kinds

pub opens_clear : {B : Type 0} (f g h : Kinds) (Q : Lang B) → Opens f Q → Apart f g → Clear g Q h
opens_clear f g h Q opens apart b y m w sm = apart_starts f g apart (y ++ m) (starts_front f y m (opens b y w))

-- ---- many

pub many_head : {A : Type 0} (f : Kinds) (W : ℕ → Lang A) → ((i : ℕ) → Opens f (W i)) → (i : ℕ) (a : A) (more : List A) (y : List Token) → Many W i (a ∷ more) y → starts f y ≡ true
many_head f W opens i a more y w = ap (starts f) w.2 ∙ starts_front f w.0 w.1 (opens i a w.0 w.3)

pub many_clear : {A : Type 0} (f e g : Kinds) (W : ℕ → Lang A) → ((i : ℕ) → Opens f (W i)) → Apart f e → Among e g → (i : ℕ) → Clear e (Many W i) g
many_clear f e g W opens apart sub i [] y m w sm = ap (λ i. starts e (i ++ m)) w ∙ among_starts e g sub m sm
many_clear f e g W opens apart sub i (a ∷ more) y m w sm = apart_starts f e apart (y ++ m) (starts_front f y m (many_head f W opens i a more y w))

module _ {mode : Mode} {A : Type 0} (f e g : Kinds) (p : ℕ → Reader A) (P W : ℕ → Lang A) (l : (i : ℕ) → Lawful mode (p i) (P i) (W i) e) (opens : (i : ℕ) → Opens f (W i)) (apart : Apart f e) (sub : Among e g) (fg : Among f g) where
  into : (P : ℕ → Lang A) (i : ℕ) (vs : List A) (x : List Token) → Either (Made (λ c. c.0 ∷ c.1) (Both (P i) (Many P (suc i)))) (Nothing []) vs x → Many P i vs x
  into P i vs x (inl m) = subst (λ (w : List A). Many P i w x) (sym m.is) (m.phrase.front, m.phrase.back, m.phrase.whole, m.phrase.left, m.phrase.right)
  into P i vs x (inr n) = subst (λ (w : List A). Many P i w x) (sym n.is) n.none

  out : (P : ℕ → Lang A) (i : ℕ) (vs : List A) (x : List Token) → Many P i vs x → Either (Made (λ c. c.0 ∷ c.1) (Both (P i) (Many P (suc i)))) (Nothing []) vs x
  out P i [] x w = inr (record { is = refl; none = w })
  out P i (a ∷ more) x w = inl (record { from = (a, more); is = refl; phrase = record { front = w.0; back = w.1; whole = w.2; left = w.3; right = w.4 } })

  abbrev Step : (ℕ → Lang A) → ℕ → Lang (List A)
  Step P i = Either (Made (λ c. c.0 ∷ c.1) (Both (P i) (Many P (suc i)))) (Nothing [])

  step_p : ℕ → Reader (List A)
  step_p i = made (λ c. c.0 ∷ c.1) (both (p i) (many (starts f) p (suc i)))

  step_opens : (i : ℕ) → Opens f (Made (λ c. c.0 ∷ c.1) (Both (W i) (Many W (suc i))))
  step_opens i b y w = ap (starts f) w.phrase.whole ∙ starts_front f w.phrase.front w.phrase.back (opens i w.from.0 w.phrase.front w.phrase.left)

  step_clear : Clear f (Nothing {A = List A} []) g
  step_clear b y m w sm = ap (λ i. starts f (i ++ m)) w.none ∙ among_starts f g fg m sm

  rest_clear : (i : ℕ) → Clear e (Many W i) g
  rest_clear i = many_clear f e g W opens apart sub i

  many_sub : (i : ℕ) (vs : List A) (x : List Token) → Many P i vs x → Many W i vs x
  many_sub i [] x w = w
  many_sub i (a ∷ more) x w = (w.0, w.1, w.2, (l i).sub a w.0 w.3, many_sub (suc i) more w.1 w.4)

  rest_clear_p : (i : ℕ) → Clear e (Many P i) g
  rest_clear_p i b y m w sm = rest_clear i b y m (many_sub i b y w) sm

  turn_read : (i : ℕ) (ts : List Token) (a : A) (more : List A) (r s : List Token) → starts f ts ≡ true → Read (P i) (W i) e a r ts → Read (Many P (suc i)) (Many W (suc i)) g more s r
      → Read (Many P i) (Many W i) g (a ∷ more) s ts
  turn_read i ts a more r s on x y =
      let b = both_read (p i) (many (starts f) p (suc i)) (P i) (W i) (Many P (suc i)) (Many W (suc i)) e g (rest_clear (suc i)) ts a more r s x y in record {
        front = b.front;
        whole = b.whole;
        phrase = (b.phrase.front, b.phrase.back, b.phrase.whole, b.phrase.left, b.phrase.right);
        only = λ v y2 m z w sm same eq.
            only_left f (step_p i) (nothing []) (Made (λ c. c.0 ∷ c.1) (Both (P i) (Many P (suc i)))) (Made (λ c. c.0 ∷ c.1) (Both (W i) (Many W (suc i)))) (Nothing []) (Nothing []) g
            step_clear (a ∷ more) b.front s (sym (ap (starts f) b.whole) ∙ on)
            (made_only (λ c. c.0 ∷ c.1) (Both (W i) (Many W (suc i))) g (a, more) b.front s b.only) v y2 m z (out W i v y2 w) sm same eq;
      }

  end_read : (i : ℕ) (ts : List Token) → starts f ts ≡ false → Read (Many P i) (Many W i) g [] ts ts
  end_read i ts off = record {
    front = [];
    whole = refl;
    phrase = refl;
    only = λ v y m z w sm same eq.
        only_right f (step_p i) (nothing []) (Made (λ c. c.0 ∷ c.1) (Both (P i) (Many P (suc i)))) (Made (λ c. c.0 ∷ c.1) (Both (W i) (Many W (suc i)))) (Nothing []) (Nothing []) g
        (step_opens i) [] [] ts off (nothing_only [] g ts) v y m z (out W i v y w) sm same eq;
  }

  turn_stops : (i : ℕ) (ts : List Token) (d : Fault) → starts f ts ≡ true → Stops mode (Both (P i) (Many P (suc i))) (Both (W i) (Many W (suc i))) g ts d → Stops mode (Many P i) (Many W i) g ts d
  turn_stops i ts d on s =
      same_stops (Step P i) (Many P i) (Step W i) (Many W i) g (λ v x. (into P i v x, out P i v x)) (λ v x. (into W i v x, out W i v x)) ts d
      (fails_left f (step_p i) (nothing []) (Made (λ c. c.0 ∷ c.1) (Both (P i) (Many P (suc i)))) (Made (λ c. c.0 ∷ c.1) (Both (W i) (Many W (suc i)))) (Nothing []) (Nothing []) g
      step_clear step_clear ts d on
      (made_fails (λ c. c.0 ∷ c.1) (Both (P i) (Many P (suc i))) (Both (W i) (Many W (suc i))) g ts d s))

  shorter : (i : ℕ) (ts : List Token) (a : A) (r : List Token) (n : ℕ) → Read (P i) (W i) e a r ts → length ts ≤ suc n → length r ≤ n
  shorter i ts a r n d le =
      let some : starts f d.front ≡ true = opens i a d.front ((l i).sub a d.front d.phrase) in
      let long : 1 ≤ length d.front = nonempty f d.front some in
      omega (arith, ap length d.whole, length-append d.front r)

  many_some : (i : ℕ) → Begins (Many W i) []
  many_some i = record { value = []; more = []; phrase = refl }

  abbrev Sound : ℕ → Type 0
  Sound n = (i : ℕ) (ts : List Token) (vs : List A) (r : List Token) → length ts ≤ n → many_by (starts f) p i n ts ≡ Ok (vs, r) → Read (Many P i) (Many W i) g vs r ts

  sound_by : (n : ℕ) → Sound n → (b : Bool) (i : ℕ) (ts : List Token) (vs : List A) (r : List Token) → starts f ts ≡ b → length ts ≤ suc n
      → cond b (made (λ c. c.0 ∷ c.1) (both (p i) (many_by (starts f) p (suc i) n)) ts) (nothing [] ts) ≡ Ok (vs, r) → Read (Many P i) (Many W i) g vs r ts
  sound_by n more false o ts vs r off le d = subst (λ (w : List A × List Token). Read (Many P o) (Many W o) g w.0 w.1 ts) (ok_same d) (end_read o ts off)
  sound_by n more true o ts vs r on le d =
      let i = went_ok (both (p o) (many_by (starts f) p (suc o) n) ts) (λ c r. Ok (c.0 ∷ c.1, r)) (vs, r) d in
      let j = went_ok (p o ts) (λ a r. and_then (many_by (starts f) p (suc o) n r) (λ b s. Ok ((a, b), s))) (i.value, i.rest) i.first in
      let k = went_ok (many_by (starts f) p (suc o) n j.rest) (λ b s. Ok ((j.value, b), s)) (i.value, i.rest) j.second in
      let x = (l o).sound ts j.value j.rest j.first in
      let y = more (suc o) j.rest k.value k.rest (shorter o ts j.value j.rest n x le) k.first in
      let z = turn_read o ts j.value k.value j.rest k.rest on x y in
      let e1 : ((j.value, k.value), k.rest) ≡ (i.value, i.rest) = ok_same k.second in
      let e2 : (i.value.0 ∷ i.value.1, i.rest) ≡ (vs, r) = ok_same i.second in
      subst (λ (w : List A × List Token). Read (Many P o) (Many W o) g w.0 w.1 ts) (ap (λ (w : (A × List A) × List Token). (w.0.0 ∷ w.0.1, w.1)) e1 ∙ e2) z

  upto_sound : (n : ℕ) → Sound n
  upto_sound zero i [] vs r le d = subst (λ (w : List A × List Token). Read (Many P i) (Many W i) g w.0 w.1 []) (ok_same d) (end_read i [] refl)
  upto_sound zero i (t ∷ ts) vs r le d = absurd (omega arith)
  upto_sound (suc n) i ts vs r le d = sound_by n (upto_sound n) (starts f ts) i ts vs r refl le d

  abbrev Fails : ℕ → Type 0
  Fails n = (i : ℕ) (ts : List Token) (d : Fault) → length ts ≤ n → many_by (starts f) p i n ts ≡ Err d → Stops mode (Many P i) (Many W i) g ts d

  fails_by : (n : ℕ) → Fails n → (b : Bool) (i : ℕ) (ts : List Token) (d : Fault) → starts f ts ≡ b → length ts ≤ suc n
      → cond b (made (λ c. c.0 ∷ c.1) (both (p i) (many_by (starts f) p (suc i) n)) ts) (nothing [] ts) ≡ Err d → Stops mode (Many P i) (Many W i) g ts d
  fails_by n more false o ts d off le h = absurd (ok_err h)
  fails_by n more true o ts d on le h = turn_stops o ts d on (elim (went_err (both (p o) (many_by (starts f) p (suc o) n) ts) (λ c r. Ok (c.0 ∷ c.1, r)) d h) [
    | inl u ↦ elim (went_err (p o ts) (λ a r. and_then (many_by (starts f) p (suc o) n r) (λ b s. Ok ((a, b), s))) d u) [
      | inl v ↦ both_fails_first (p o) (many (starts f) p (suc o)) (P o) (W o) (Many P (suc o)) (Many W (suc o)) e g (rest_clear (suc o)) (rest_clear_p (suc o)) (many_some (suc o)) (λ _. record { value = []; more = []; phrase = refl }) ts d ((l o).fails ts d v)
      | inr i ↦
          let x = (l o).sound ts i.value i.rest i.first in
          elim (went_err (many_by (starts f) p (suc o) n i.rest) (λ b s. Ok ((i.value, b), s)) d i.second) [
            | inl v ↦ both_fails_second (p o) (many (starts f) p (suc o)) (P o) (W o) (Many P (suc o)) (Many W (suc o)) e g (l o) (rest_clear (suc o)) (rest_clear_p (suc o)) ts i.rest i.value d x
                (more (suc o) i.rest d (shorter o ts i.value i.rest n x le) v)
            | inr j ↦ absurd (ok_err j.second)
          ]
    ]
    | inr i ↦ absurd (ok_err i.second)
  ])

  upto_fails : (n : ℕ) → Fails n
  upto_fails zero i ts d le h = absurd (ok_err h)
  upto_fails (suc n) i ts d le h = fails_by n (upto_fails n) (starts f ts) i ts d refl le h

  pub many_lawful : (i : ℕ) → Lawful mode (many (starts f) p i) (Many P i) (Many W i) g
  many_lawful i = record {
    sub = many_sub i;
    some = many_some i;
    filled = λ _. record { value = []; more = []; phrase = refl };
    sound = λ ts vs r d. upto_sound (length ts) i ts vs r (omega arith) d;
    fails = λ ts d h. upto_fails (length ts) i ts d (omega arith) h;
  }
