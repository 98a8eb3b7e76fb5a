-- Sets of kinds, given as lists.
use Rattle.std.proofs.Common.{◌≡◌, List, [], ◌∷◌, Bool, true, false, not, ◌||◌, ◌&&◌, refl, ◌∙◌, ap}
use Rattle.cq_value.proofs.Truths.{and_left, and_right, not_true}
use Rattle.cq_token.specs.declared.token.Token.{Token}
use Rattle.cq_grammar.specs.declared.kind.Kind.{Kind}
use Rattle.cq_grammar.specs.Words.{kind, Kinds, of, starts, same_kind}
use Rattle.cq_grammar.proofs.Laws.{Apart, Among, true_false, kind_true}

abbrev pub outside : List Kind → List Kind → Bool
outside gs [] = true
outside gs (f ∷ fs) = not (of gs f) && outside gs fs

abbrev pub inside : List Kind → List Kind → Bool
inside gs [] = true
inside gs (f ∷ fs) = of gs f && inside gs fs

apart_by : (gs : List Kind) (f k : Kind) (b : Bool) (rest : Bool) → same_kind k f ≡ b → of gs f ≡ false → (rest ≡ true → of gs k ≡ false) → (b || rest) ≡ true → of gs k ≡ false
apart_by gs f k true rest is out more h = ap (of gs) (kind_true k f is) ∙ out
apart_by gs f k false rest is out more h = more h

pub of_apart : (fs gs : List Kind) → outside gs fs ≡ true → Apart (of fs) (of gs)
unfolding of
of_apart [] gs h k is = let bad : false ≡ true = is in absurd (cc)
of_apart (f ∷ fs) gs h k is =
    apart_by gs f k (same_kind k f) (of fs k) refl (not_true (of gs f) (and_left (not (of gs f)) (outside gs fs) h)) (λ m. of_apart fs gs (and_right (not (of gs f)) (outside gs fs) h) k m) is

in_by : (gs : List Kind) (f k : Kind) (b : Bool) (rest : Bool) → same_kind k f ≡ b → of gs f ≡ true → (rest ≡ true → of gs k ≡ true) → (b || rest) ≡ true → of gs k ≡ true
in_by gs f k true rest is out more h = ap (of gs) (kind_true k f is) ∙ out
in_by gs f k false rest is out more h = more h

pub of_in : (fs gs : List Kind) → inside gs fs ≡ true → (k : Kind) → of fs k ≡ true → of gs k ≡ true
unfolding of
of_in [] gs h k is = let bad : false ≡ true = is in absurd (cc)
of_in (f ∷ fs) gs h k is =
    in_by gs f k (same_kind k f) (of fs k) refl (and_left (of gs f) (inside gs fs) h) (λ m. of_in fs gs (and_right (of gs f) (inside gs fs) h) k m) is

among_by : (b c : Bool) → (b ≡ true → c ≡ true) → c ≡ false → b ≡ false
among_by true c f h = true_false (f refl) h
among_by false c f h = refl

pub of_among : (fs gs : List Kind) → inside gs fs ≡ true → Among (of fs) (of gs)
of_among fs gs h k out = among_by (of fs k) (of gs k) (of_in fs gs h k) out

pub starts_in : (f g : Kinds) → ((k : Kind) → f k ≡ true → g k ≡ true) → (m : List Token) → starts f m ≡ true → starts g m ≡ true
starts_in f g sub [] h = h
starts_in f g sub (t ∷ m) h = sub (kind t) h
