-- The targets of a name, and the target of a place.
use Rattle.std.proofs.Common.{◌≡◌, ℕ, zero, suc, Bool, true, false, bytes_eq, List, [], ◌∷◌, None, Some, Result, Ok, Err, sym, subst, ap, refl, ◌∙◌}
use Rattle.std.specs.List.{slice_get, position, count_by}
use Rattle.std.specs.Prelude.{nat_le, if◌then◌else◌}
use Rattle.cq_reading.specs.declared.bound.Found.{Found}
use Rattle.cq_reading.specs.declared.bound.Bound.{Bound}
use Rattle.cq_reading.specs.declared.error.BindError.{BindError}
use Rattle.cq_reading.specs.Steps.{give, follow, through, with_next, ◌then◌}
use Rattle.cq_reading.specs.Outcomes.{Binds, Judges}
use Rattle.cq_reading.specs.Scopes.{Context, place_of, place_by, has_name}
use Rattle.cq_reading.specs.Parts.{Part}
use Rattle.cq_reading.specs.Expressions.{reads}
use Rattle.cq_reading.specs.Selects.{Target, titled, key_by_place, key_by_name, key_by_title}
use Rattle.cq_bind_lists.specs.declared.pick.Pick.{Pick}
use Rattle.cq_bind_lists.specs.declared.pick.Pick.TheVariants as pick
use Rattle.cq_bind_lists.specs.Picks.{target_value, with_titled, first_pick, picked, skipping, the_pick}
use Rattle.cq_bind_calls.proofs.Loops.{follow_same}

-- ---- the targets of a name

module _ (cx : Context) (name : List ℕ) where
  titled_by : (b : Bool) (t : Target) (ts : List Target) (s : List Bound) (f : Found) → ((u : List Bound) (g : Found) → through (with_next (target_value cx)) (titled name ts) u g ≡ through (with_titled cx name) ts u g) → bytes_eq t.title name ≡ b
      → through (with_next (target_value cx)) (titled name (t ∷ ts)) s f ≡ through (with_titled cx name) (t ∷ ts) s f
  titled_by true t ts s f h e = rw e (follow_same (with_next (target_value cx) s t f) (through (with_next (target_value cx)) (titled name ts)) (through (with_titled cx name) ts) h)
  titled_by false t ts s f h e = rw e (h s f)

  pub titled_is : (ts : List Target) (s : List Bound) (f : Found) → through (with_next (target_value cx)) (titled name ts) s f ≡ through (with_titled cx name) ts s f
  titled_is [] s f = refl
  titled_is (t ∷ ts) s f = titled_by (bytes_eq t.title name) t ts s f (λ u g. titled_is ts u g) refl

  pub titled_so : (before : List Bound) (t : Target) (b : Bool) (res : Result (List Bound) BindError) → b ≡ bytes_eq t.title name → b ≡ true → Judges (with_next (target_value cx) before t) res → Judges (with_titled cx name before t) res
  titled_so before t b res e d h = λ f. subst (λ c. Binds ((if c then with_next (target_value cx) before t else give before) f) res f) (sym d ∙ e) (h f)

  pub titled_not : (before : List Bound) (t : Target) (b : Bool) → b ≡ bytes_eq t.title name → b ≡ false → Judges (with_titled cx name before t) (Ok before)
  titled_not before t b e d = λ f. subst (λ c. Binds ((if c then with_next (target_value cx) before t else give before) f) (Ok before) f) (sym d ∙ e) refl

  pub binds_titled : (ts : List Target) (s t : List Bound) (f : Found) (res : Result (List Bound) BindError) (new : Found) → s ≡ t → Binds (through (with_titled cx name) ts s f) res new → Binds (through (with_next (target_value cx)) (titled name ts) t f) res new
  binds_titled ts s t f res new e h = subst (λ o. Binds o res new) (sym (titled_is ts t f)) (subst (λ u. Binds (through (with_titled cx name) ts u f) res new) e h)

-- ---- the target of a place

module _ (cx : Context) where
  got : (b : Bound) (ts : List Target) (f : Found) → through (picked cx) ts (pick.Got b) f ≡ Ok (pick.Got b, f)
  got b [] f = refl
  got b (t ∷ ts) f = got b ts f

  got_then : (at : ℕ) (ts : List Target) (o : Result (Bound × Found) BindError) → o ≡ follow (follow (follow o (λ b. give (pick.Got b))) (through (picked cx) ts)) (the_pick at)
  got_then at ts (Ok p) = sym (ap (λ o. follow o (the_pick at)) (got p.0 ts p.1))
  got_then at ts (Err e) = refl

  pub picked_is : (at : ℕ) (ts : List Target) (n : ℕ) (f : Found) → key_by_place cx (slice_get ts n) at f ≡ follow (through (picked cx) ts (skipping n) f) (the_pick at)
  picked_is at [] zero f = refl
  picked_is at [] (suc n) f = refl
  picked_is at (t ∷ ts) zero f = got_then at ts (target_value cx t f)
  picked_is at (t ∷ ts) (suc n) f = picked_is at ts n f

  pub picked_first : (t : Target) (p : Pick) (n : ℕ) (res : Result Pick BindError) → p ≡ skipping n → n ≡ 0 → Judges (first_pick cx t) res → Judges (picked cx p t) res
  picked_first t p n res e k h = λ f. subst (λ q. Binds (picked cx q t f) res f) (sym (e ∙ ap skipping k)) (h f)

  pub binds_picked : (at : ℕ) (ts : List Target) (n : ℕ) (f : Found) (res : Result Bound BindError) (new : Found) → Binds (follow (through (picked cx) ts (skipping n) f) (the_pick at)) res new → Binds (key_by_place cx (slice_get ts n) at f) res new
  binds_picked at ts n f res new h = subst (λ o. Binds o res new) (sym (picked_is at ts n f)) h

-- ---- an input column comes before an output

module _ (cx : Context) (ts : List Target) (p : Part) (name : List ℕ) (f : Found) (res : Result Bound BindError) (new : Found) where
  by_count : (i n : ℕ) (b : Bool) → nat_le n 1 ≡ b → Binds (reads p cx f) res new → Binds (key_by_name cx ts p name (place_by (Some i) n) f) res new
  by_count i n true e h = rw e h
  by_count i n false e h = rw e h

  pub by_input : (i : ℕ) → Some i ≡ position (has_name name) cx.columns → Binds (reads p cx f) res new → Binds (key_by_name cx ts p name (place_of (has_name name) cx.columns) f) res new
  by_input i e h = subst (λ o. Binds (key_by_name cx ts p name (place_by o (count_by (has_name name) cx.columns)) f) res new) e (by_count i _ _ refl h)

  pub by_output : (at : ℕ) → at ≡ p.at → None ≡ position (has_name name) cx.columns → Binds (key_by_title cx ts name at f) res new → Binds (key_by_name cx ts p name (place_of (has_name name) cx.columns) f) res new
  by_output at k e h = subst (λ o. Binds (key_by_name cx ts p name (place_by o (count_by (has_name name) cx.columns)) f) res new) e (subst (λ a. Binds (key_by_title cx ts name a f) res new) k h)
