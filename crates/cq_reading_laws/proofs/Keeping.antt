-- Readings that keep a law, from what is found before to what is found afterwards, and on.
use Rattle.std.proofs.Common.{◌≡◌, Bool, true, false, List, [], ◌∷◌, ◌++◌, Result, Ok, Err, refl}
use Rattle.std.specs.Prelude.{⊤}
use Rattle.std.specs.List.{AllByRecursion}
use Rattle.cq_reading.specs.declared.bound.Found.{Found}
use Rattle.cq_reading.specs.declared.error.BindError.{BindError}
use Rattle.cq_reading.specs.Steps.{Reading, give, follow, provided, through, with_next, each}

-- what is found only goes on
module _ (Later : Found → Found → Type 0) (now : (f : Found) → Later f f) (on : (f g h : Found) → Later f g → Later g h → Later f h) where
  -- holds of a, whatever is found later
  abbrev pub Lasting : {A : Type 0} → (Found → A → Type 0) → Found → A → Type 0
  Lasting H found a = (later : Found) → Later found later → H later a

  abbrev pub Kept : {A : Type 0} → (Found → A → Type 0) → Found → Result (A × Found) BindError → Type 0
  Kept H found (Ok p) = Later found p.1 × Lasting H p.1 p.0
  Kept H found (Err e) = ⊤

  pub lasting_on : {A : Type 0} (H : Found → A → Type 0) (f g : Found) (a : A) → Later f g → Lasting H f a → Lasting H g a
  lasting_on H f g a l h later m = h later (on f g later l m)

  pub kept_give : {A : Type 0} (H : Found → A → Type 0) (found : Found) (a : A) → Lasting H found a → Kept H found (give a found)
  kept_give H found a h = (now found, h)

  pub kept_provided : {A : Type 0} (H : Found → A → Type 0) (found : Found) (t : Bool) (e : BindError) (r : Reading A) → (t ≡ true → Kept H found (r found)) → Kept H found (provided t e r found)
  kept_provided H found true e r h = h refl
  kept_provided H found false e r h = tt

  pub kept_from : {A : Type 0} (H : Found → A → Type 0) (f g : Found) (o : Result (A × Found) BindError) → Later f g → Kept H g o → Kept H f o
  kept_from H f g (Ok p) l h = (on f g p.1 l h.0, h.1)
  kept_from H f g (Err e) l h = tt

  pub kept_then : {A B : Type 0} (G : Found → A → Type 0) (H : Found → B → Type 0) (found : Found) (o : Result (A × Found) BindError) (f : A → Reading B)
      → Kept G found o → ((a : A) (mid : Found) → Later found mid → Lasting G mid a → Kept H mid (f a mid)) → Kept H found (follow o f)
  kept_then G H found (Ok p) f h k = kept_from H found p.1 (f p.0 p.1) h.0 (k p.0 p.1 h.0 h.1)
  kept_then G H found (Err e) f h k = tt

  pub kept_as : {A : Type 0} (G H : Found → A → Type 0) (found : Found) (o : Result (A × Found) BindError) → ((later : Found) (a : A) → G later a → H later a) → Kept G found o → Kept H found o
  kept_as G H found (Ok p) k h = (h.0, λ later l. k later p.0 (h.1 later l))
  kept_as G H found (Err e) k h = tt

  pub kept_through : {S A : Type 0} (H : Found → S → Type 0) (r : S → A → Reading S) (items : List A) (s : S) (found : Found)
      → AllByRecursion (λ a. (t : S) (f : Found) → Later found f → Lasting H f t → Kept H f (r t a f)) items → Lasting H found s → Kept H found (through r items s found)
  kept_through {S = S} {A = A} H r items s found = kept_past items s found (now found)
    where
      kept_past : (items : List A) (s : S) (f : Found) → Later found f → AllByRecursion (λ a. (t : S) (f : Found) → Later found f → Lasting H f t → Kept H f (r t a f)) items → Lasting H f s → Kept H f (through r items s f)
      kept_past [] s f l steps h = (now f, h)
      kept_past (a ∷ more) s f l steps h = kept_then H H f (r s a f) (through r more) (steps.0 s f l h) (λ t mid m g. kept_past more t mid (on found f mid l m) steps.1 g)

  all_more : {B : Type 0} (P : B → Type 0) (bs : List B) (b : B) → AllByRecursion P bs → P b → AllByRecursion P (bs ++ b ∷ [])
  all_more P [] b h p = (p, tt)
  all_more P (c ∷ bs) b h p = (h.0, all_more P bs b h.1 p)

  pub kept_next : {A B : Type 0} (G : Found → B → Type 0) (r : A → Reading B) (before : List B) (a : A) (found : Found)
      → Lasting (λ later bs. AllByRecursion (G later) bs) found before → Kept G found (r a found) → Kept (λ later bs. AllByRecursion (G later) bs) found (with_next r before a found)
  kept_next G r before a found h k = kept_then G (λ later bs. AllByRecursion (G later) bs) found (r a found) (λ b. give (before ++ b ∷ [])) k
      (λ b mid l g. kept_give (λ later bs. AllByRecursion (G later) bs) mid (before ++ b ∷ []) (λ later m. all_more (G later) before b (h later (on found mid later l m)) (g later m)))

  each_steps : {A B : Type 0} (G : Found → B → Type 0) (r : A → Reading B) (found : Found) (items : List A) → AllByRecursion (λ a. (f : Found) → Later found f → Kept G f (r a f)) items
      → AllByRecursion (λ a. (t : List B) (f : Found) → Later found f → Lasting (λ later bs. AllByRecursion (G later) bs) f t → Kept (λ later bs. AllByRecursion (G later) bs) f (with_next r t a f)) items
  each_steps G r found [] h = tt
  each_steps G r found (a ∷ more) h = ((λ t f l g. kept_next G r t a f g (h.0 f l)), each_steps G r found more h.1)

  pub kept_each : {A B : Type 0} (G : Found → B → Type 0) (r : A → Reading B) (items : List A) (found : Found)
      → AllByRecursion (λ a. (f : Found) → Later found f → Kept G f (r a f)) items → Kept (λ later bs. AllByRecursion (G later) bs) found (each r items found)
  kept_each G r items found h = kept_through (λ later bs. AllByRecursion (G later) bs) (with_next r) items [] found (each_steps G r found items h) (λ later l. tt)
