-- Tables under their names are found by them.
use Rattle.std.proofs.Common.{◌≡◌, ℕ, zero, suc, Bool, true, false, not, List, [], ◌∷◌, ◌++◌, length, position, Option, None, Some, String, string_bytes, string_eq, bytes_eq, slice_get, refl, sym, ap, ◌∙◌, arith}
use Rattle.std.proofs.lemmas.Grind.{common_steps}
use Rattle.std.specs.List.{prefix_len}
use Rattle.std.specs.Map.{keys_of, values_of}
use Rattle.indexmap.specs.IndexMap.{insert_entry, set_value_at}
use Rattle.cq_catalog.specs.Contents.{number_of, with_place}
use Rattle.cq_catalog.specs.Named.{AreNamed}
use Rattle.cq_catalog.specs.declared.info.TableInfo.{TableInfo}
use Rattle.cq_catalog.specs.declared.info.Place.{Place}

same_prefix : {A : Type 0} (q : List ℕ) (es : List (String A × TableInfo)) → AreNamed es → prefix_len (λ k. not (bytes_eq q (string_bytes k))) (keys_of es) ≡ prefix_len (λ t. not (bytes_eq q t.name)) (values_of es)
same_prefix q [] h = refl
same_prefix q (e ∷ es) h = rw (h.0, same_prefix q es h.1) refl

same_length : {A : Type 0} (es : List (String A × TableInfo)) → length (keys_of es) ≡ length (values_of es)
same_length [] = refl
same_length (e ∷ es) = ap suc (same_length es)

pub same_number : {A : Type 0} (q : List ℕ) (es : List (String A × TableInfo)) → AreNamed es → position (λ k. bytes_eq q (string_bytes k)) (keys_of es) ≡ number_of (values_of es) q
same_number q es h = rw (same_prefix q es h, same_length es) refl

none_rest : {X : Type 0} (p : X → Bool) (x : X) (xs : List X) → position p (x ∷ xs) ≡ None → (p x ≡ false) × (position p xs ≡ None)
none_rest p x xs h = by (p x) refl
  where
    by : (b : Bool) → p x ≡ b → (p x ≡ false) × (position p xs ≡ None)
    by true e = absurd (grind (arith, common_steps, h, e))
    by false e = (e, grind (arith, common_steps, h, e))

pub inserted : {A : Type 0} (k : String A) (t : TableInfo) (es : List (String A × TableInfo)) → string_bytes k ≡ t.name → AreNamed es → number_of (values_of es) t.name ≡ None → insert_entry string_eq es k t ≡ es ++ (k, t) ∷ []
inserted k t [] e h none = refl
inserted k t (p ∷ es) e h none =
    let r = none_rest (λ u. bytes_eq t.name u.name) p.1 (values_of es) none in
    let f : string_eq k p.0 ≡ false = rw (e, h.0) r.0 in
    rw (f, inserted k t es e h.1 r.1) refl

pub named_more : {A : Type 0} (k : String A) (t : TableInfo) (es : List (String A × TableInfo)) → string_bytes k ≡ t.name → AreNamed es → AreNamed (es ++ (k, t) ∷ [])
named_more k t [] e h = (e, tt)
named_more k t (p ∷ es) e h = (h.0, named_more k t es e h.1)

pub values_more : {A : Type 0} (k : String A) (t : TableInfo) (es : List (String A × TableInfo)) → values_of (es ++ (k, t) ∷ []) ≡ values_of es ++ t ∷ []
values_more k t [] = refl
values_more k t (p ∷ es) = ap (λ ts. p.1 ∷ ts) (values_more k t es)

pub named_set : {A : Type 0} (es : List (String A × TableInfo)) (i : ℕ) (t : TableInfo) (place : Place) → slice_get (values_of es) i ≡ Some t → AreNamed es → AreNamed (set_value_at es i (record t { place = place }))
named_set [] i t place at h = tt
named_set (e ∷ es) zero t place at h = (h.0 ∙ ap (λ (o : Option TableInfo). name_of o) at, h.1)
  where
    name_of : Option TableInfo → List ℕ
    name_of None = []
    name_of (Some u) = u.name
named_set (e ∷ es) (suc i) t place at h = (h.0, named_set es i t place at h.1)

pub values_set : {A : Type 0} (es : List (String A × TableInfo)) (i : ℕ) (t : TableInfo) (place : Place) → slice_get (values_of es) i ≡ Some t → values_of (set_value_at es i (record t { place = place })) ≡ with_place (values_of es) i place
values_set [] i t place at = refl
values_set (e ∷ es) zero t place at = ap (λ (o : Option TableInfo). placed o) (sym at)
  where
    placed : Option TableInfo → List TableInfo
    placed None = values_of es
    placed (Some u) = record u { place = place } ∷ values_of es
values_set (e ∷ es) (suc i) t place at = ap (λ ts. e.1 ∷ ts) (values_set es i t place at)
