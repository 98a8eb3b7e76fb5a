-- A loop that goes through the items of a list.
use Rattle.std.proofs.Common.{◌≡◌, ◌≢◌, ℕ, Bool, true, false, ◌+◌, ◌<◌, ◌≤◌, List, [], ◌∷◌, drop, map, length, get_or, Result, Ok, Err, IsErrAnd, sym, subst, ap, refl, ◌∙◌, drop-cons, add-one}
use Rattle.std.proofs.lemmas.List.{drop_all}
use Rattle.cq_reading.specs.declared.bound.Found.{Found}
use Rattle.cq_reading.specs.declared.error.BindError.{BindError}
use Rattle.cq_reading.specs.declared.error.BindError.TheVariants.{Memory}
use Rattle.cq_reading.specs.Steps.{Reading, follow, provided, through, with_next, each}
use Rattle.cq_reading.specs.Scopes.{Context}
use Rattle.cq_reading.specs.Outcomes.{Binds}

pub err_is : {A : Type 0} (o : Result A BindError) (x : BindError) → IsErrAnd o (λ y. y ≡ x) → o ≡ Err x
err_is (Ok a) x h = absurd h
err_is (Err y) x h = ap Err h

module _ {S A : Type 0} (r : S → A → Reading S) (o : Result (S × Found) BindError) (xs : List A) (i : ℕ) (x d : A) (s : S) (f : Found) where
  next : i < length xs → x ≡ get_or xs i d → through r (drop i xs) s f ≡ follow (r s x f) (through r (drop (i + 1) xs))
  next h k = rw (drop-cons xs i d, ← k, add-one)

  -- one more item
  pub goes_on : (t : S) (g : Found) → o ≡ through r (drop i xs) s f → i < length xs → x ≡ get_or xs i d → Binds (r s x f) (Ok t) g → o ≡ through r (drop (i + 1) xs) t g
  goes_on t g e h k a = e ∙ next h k ∙ ap (λ z. follow z (through r (drop (i + 1) xs))) a

  -- an item that is refused
  pub stops : (e : BindError) (g : Found) (res : Result S BindError) (last : Found) → o ≡ through r (drop i xs) s f → i < length xs → x ≡ get_or xs i d → Binds (r s x f) (Err e) g → IsErrAnd res (λ y. y ≡ e) → Binds o res last
  stops e g res last q h k a w = subst (λ z. Binds o z last) (sym (err_is res e w)) (λ ne. q ∙ next h k ∙ ap (λ z. follow z (through r (drop (i + 1) xs))) (a ne))

module _ {S A : Type 0} (r : S → A → Reading S) (o : Result (S × Found) BindError) (xs : List A) (i : ℕ) (s : S) (f : Found) where
  -- after the last
  pub ends : o ≡ through r (drop i xs) s f → length xs ≤ i → o ≡ Ok (s, f)
  ends q h = q ∙ rw (drop_all _ _ h)

-- ---- parts of the items

pub follow_same : {A B : Type 0} (o : Result (A × Found) BindError) (f g : A → Reading B) → ((a : A) (h : Found) → f a h ≡ g a h) → follow o f ≡ follow o g
follow_same (Ok p) f g e = e p.0 p.1
follow_same (Err x) f g e = refl

pub of_parts : {S A P : Type 0} (r : S → P → Reading S) (part : A → P) (xs : List A) (s : S) (f : Found) → through r (map part xs) s f ≡ through (λ t a. r t (part a)) xs s f
of_parts r part [] s f = refl
of_parts r part (x ∷ xs) s f = follow_same (r s (part x) f) (through r (map part xs)) (through (λ t a. r t (part a)) xs) (λ t h. of_parts r part xs t h)

pub binds_parts : {S A P : Type 0} (r : S → P → Reading S) (part : A → P) (xs : List A) (s : S) (f : Found) (res : Result S BindError) (new : Found) → Binds (through (λ t a. r t (part a)) xs s f) res new → Binds (through r (map part xs) s f) res new
binds_parts r part xs s f res new h = subst (λ o. Binds o res new) (sym (of_parts r part xs s f)) h

-- the same behind a first list `t`, which the loop sees as `s`
pub binds_next : {B A P : Type 0} (r : P → Reading B) (part : A → P) (xs : List A) (s t : List B) (f : Found) (res : Result (List B) BindError) (new : Found) → s ≡ t → Binds (through (with_next (λ a. r (part a))) xs s f) res new → Binds (through (with_next r) (map part xs) t f) res new
binds_next r part xs s t f res new e h = subst (λ u. Binds (through (with_next r) (map part xs) u f) res new) e (binds_parts (with_next r) part xs s f res new h)

-- a first part, and then the parts behind it
pub first_and_parts : {S A P : Type 0} (r : S → P → Reading S) (part : A → P) (xs : List A) (o : Result (S × Found) BindError) (s : S) (f : Found) (res : Result S BindError) (new : Found) → o ≡ Ok (s, f) → Binds (through (λ t a. r t (part a)) xs s f) res new → Binds (follow o (through r (map part xs))) res new
first_and_parts r part xs o s f res new e h = subst (λ z. Binds (follow z (through r (map part xs))) res new) (sym e) (binds_parts r part xs s f res new h)

-- a part that is read, and then the rest
pub binds_then : {A B : Type 0} (f : A → Reading B) (o : Result (A × Found) BindError) (a : A) (g : Found) (res : Result B BindError) (new : Found) → o ≡ Ok (a, g) → Binds (f a g) res new → Binds (follow o f) res new
binds_then f o a g res new e h = subst (λ z. Binds (follow z f) res new) (sym e) h

-- each part in turn
pub binds_each : {B A P : Type 0} (r : P → Reading B) (part : A → P) (xs : List A) (f : Found) (res : Result (List B) BindError) (new : Found) → Binds (each (λ a. r (part a)) xs f) res new → Binds (each r (map part xs) f) res new
binds_each r part xs f res new h = binds_parts (with_next r) part xs [] f res new h

-- a part that is refused
pub binds_err : {A B : Type 0} (f : A → Reading B) (o : Result (A × Found) BindError) (e : BindError) (res : Result B BindError) (new : Found) → (e ≢ Memory → o ≡ Err e) → IsErrAnd res (λ y. y ≡ e) → Binds (follow o f) res new
binds_err f o e res new h w = subst (λ z. Binds (follow o f) z new) (sym (err_is res e w)) (λ ne. ap (λ z. follow z f) (h ne))

-- a part that is read in a context by another name
pub binds_in : {A B : Type 0} (r : Context → Reading A) (f : A → Reading B) (c d : Context) (old : Found) (res : Result B BindError) (new : Found) → c ≡ d → Binds (follow (r c old) f) res new → Binds (follow (r d old) f) res new
binds_in r f c d old res new e h = subst (λ z. Binds (follow (r z old) f) res new) e h

-- ---- what is read where a test holds, and refused where it fails

pub passed : {A : Type 0} (b : Bool) (e : BindError) (r : Reading A) (f : Found) (res : Result A BindError) (new : Found) → b ≡ true → Binds (r f) res new → Binds (provided b e r f) res new
passed b e r f res new p h = subst (λ t. Binds (provided t e r f) res new) (sym p) h

pub failed : {A : Type 0} (b : Bool) (e x : BindError) (r : Reading A) (f new : Found) → b ≡ false → x ≡ e → Binds (provided b e r f) (Err x) new
failed b e x r f new p q = subst (λ t. Binds (provided t e r f) (Err x) new) (sym p) (λ n. ap Err (sym q))

-- a part that is refused
pub refused_then : {A B : Type 0} (o : Result (A × Found) BindError) (k : A → Reading B) (e : BindError) (g : Found) (res : Result B BindError) (last : Found) → Binds o (Err e) g → IsErrAnd res (λ y. y ≡ e) → Binds (follow o k) res last
refused_then o k e g res last h w = subst (λ z. Binds (follow o k) z last) (sym (err_is res e w)) (λ n. ap (λ z. follow z k) (h n))
