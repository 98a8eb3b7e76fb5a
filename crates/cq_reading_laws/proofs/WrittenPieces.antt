-- What each piece of the grammar's notation gives, where each token is one that a text can have.
use Rattle.std.proofs.Common.{ℕ, suc, List, [], ◌∷◌, ◌++◌, inl, inr, Option, Some, None, sym, subst}
use Rattle.std.specs.Prelude.{⊤}
use Rattle.std.specs.List.{AllByRecursion}
use Rattle.cq_token.specs.declared.token.Token.{Token}
use Rattle.cq_token.proofs.Made.{AllMade}
use Rattle.cq_grammar.specs.Lang.{Lang, Both, Either, Made, Many, Empty, Optional, Behind, Several}
use Rattle.cq_grammar.specs.Terminals.{Commas}
use Rattle.cq_grammar.specs.Nodes.{or_none}

front_made : (front back : List Token) → AllMade (front ++ back) → AllMade front
front_made [] back h = tt
front_made (t ∷ front) back h = (h.0, front_made front back h.1)

back_made : (front back : List Token) → AllMade (front ++ back) → AllMade back
back_made [] back h = h
back_made (t ∷ front) back h = back_made front back h.1

-- each value that P gives is so
pub record Gives {A : Type 0} (P : Lang A) (F : A → Type 0) : Type 0 where
  pub holds : (a : A) (ts : List Token) → AllMade ts → P a ts → F a

abbrev pub Any : {A : Type 0} → A → Type 0
Any a = ⊤

pub anything : {A : Type 0} {P : Lang A} → Gives P Any
anything = record { holds = λ a ts m p. tt }

pub weaker : {A : Type 0} {F : A → Type 0} {P : Lang A} (G : A → Type 0) → Gives P F → ((a : A) → F a → G a) → Gives P G
weaker G g so = record { holds = λ a ts m p. so a (g.holds a ts m p) }

pub both_gives : {A B : Type 0} {F : A → Type 0} {G : B → Type 0} {P : Lang A} {Q : Lang B} → Gives P F → Gives Q G → Gives (Both P Q) (λ c. F c.0 × G c.1)
both_gives f g = record {
  holds = λ c ts m p.
      let whole = subst AllMade p.whole m in
      (f.holds c.0 p.front (front_made p.front p.back whole) p.left, g.holds c.1 p.back (back_made p.front p.back whole) p.right);
}

pub made_gives : {A B : Type 0} {F : A → Type 0} {P : Lang A} (G : B → Type 0) (f : A → B) → Gives P F → ((a : A) → F a → G (f a)) → Gives (Made f P) G
made_gives G f g keeps = record { holds = λ b ts m p. subst G (sym p.is) (keeps p.from (g.holds p.from ts m p.phrase)) }

pub either_gives : {A : Type 0} {F : A → Type 0} {P Q : Lang A} → Gives P F → Gives Q F → Gives (Either P Q) F
either_gives {A = A} {F = F} {P = P} {Q = Q} f g = record { holds = holds }
  where
    holds : (a : A) (ts : List Token) → AllMade ts → Either P Q a ts → F a
    holds a ts m (inl p) = f.holds a ts m p
    holds a ts m (inr p) = g.holds a ts m p

pub empty_gives : {A : Type 0} (F : A → Type 0) → Gives (Empty {A = A}) F
empty_gives F = record { holds = λ a ts m p. absurd p }

pub many_gives : {A : Type 0} {F : A → Type 0} {P : ℕ → Lang A} → ((i : ℕ) → Gives (P i) F) → (i : ℕ) → Gives (Many P i) (AllByRecursion F)
many_gives {A = A} {F = F} {P = P} g i = record { holds = holds i }
  where
    holds : (i : ℕ) (l : List A) (ts : List Token) → AllMade ts → Many P i l ts → AllByRecursion F l
    holds i [] ts m p = tt
    holds i (a ∷ more) ts m p =
        let whole = subst AllMade p.2 m in
        ((g i).holds a p.0 (front_made p.0 p.1 whole) p.3, holds (suc i) more p.1 (back_made p.0 p.1 whole) p.4)

-- ---- what is made of them

-- where there is one, it is so
abbrev pub IfThere : {A : Type 0} → (A → Type 0) → Option A → Type 0
IfThere F None = ⊤
IfThere F (Some a) = F a

pub optional_gives : {A : Type 0} {F : A → Type 0} {P : Lang A} → Gives P F → Gives (Optional P) (IfThere F)
optional_gives {F = F} g =
    either_gives (made_gives (IfThere F) Some g (λ a h. h)) (record { holds = λ a ts m p. subst (IfThere F) (sym p.is) tt })

pub behind_gives : {A B : Type 0} {G : B → Type 0} {P : Lang A} {Q : Lang B} → Gives Q G → Gives (Behind P Q) G
behind_gives {G = G} g = made_gives G (λ c. c.1) (both_gives anything g) (λ c h. h.1)

-- one or more, and each is so
abbrev pub Some-of-them : {A : Type 0} → (A → Type 0) → List A → Type 0
Some-of-them F [] = ⊥
Some-of-them F (a ∷ more) = F a × AllByRecursion F more

pub several_gives : {A : Type 0} {F : A → Type 0} {P : ℕ → Lang A} → ((i : ℕ) → Gives (P i) F) → Gives (Several P) (Some-of-them F)
several_gives {F = F} g = made_gives (Some-of-them F) (λ (first, more). first ∷ more) (both_gives (g 0) (many_gives g 1)) (λ c h. h)

pub commas_give : {A : Type 0} {F : A → Type 0} {P : ℕ → Lang A} → ((i : ℕ) → Gives (P i) F) → Gives (Commas P) (Some-of-them F)
commas_give {F = F} g = made_gives (Some-of-them F) (λ (first, more). first ∷ more) (both_gives (g 0) (many_gives (λ i. behind_gives (g i)) 1)) (λ c h. h)

-- the list of an optional rule is empty where nothing is written
pub or_none_gives : {A : Type 0} {F : A → Type 0} {P : Lang (List A)} → Gives P (Some-of-them F) → Gives (Made or_none (Optional P)) (AllByRecursion F)
or_none_gives {A = A} {F = F} g = made_gives (AllByRecursion F) or_none (optional_gives g) all
  where
    of_some : (l : List A) → Some-of-them F l → AllByRecursion F l
    of_some [] h = absurd h
    of_some (a ∷ more) h = h

    all : (o : Option (List A)) → IfThere (Some-of-them F) o → AllByRecursion F (or_none o)
    all None h = tt
    all (Some l) h = of_some l h
