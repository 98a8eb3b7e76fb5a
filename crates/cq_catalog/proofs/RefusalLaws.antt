-- The first refusal of several.
use Rattle.std.proofs.Common.{◌≡◌, inl, inr, ℕ, zero, suc, ◌+◌, ◌≤◌, ◌<◌, min, nat_lt, Bool, true, false, if◌then◌else◌, List, [], ◌∷◌, ◌++◌, length, take, drop, get_or, bytes_eq, is_some, Option, Some, None, refl, sym, ap, subst, ◌∙◌, arith, rules, drop-cons}
use Rattle.std.proofs.Math.Seq.{take-suc}
use Rattle.std.proofs.lemmas.Grind.{common_steps}
use native.Mathlib.Decide.{dec_lt}
use Rattle.std.specs.List.{list_any}
use Rattle.std.specs.Option.{option_map}
use Rattle.cq_value.specs.declared.schema.Column.{Column}
use Rattle.cq_catalog.specs.Contents.{Contents, number_of}
use Rattle.cq_catalog.specs.Creation.{refusal_if, repeated_after, creation_refusal}
use Rattle.cq_catalog.specs.Refusals.{first_of, IsCause}
use Rattle.cq_catalog.specs.declared.error.Limited.TheVariants.{Columns, Tables}
use Rattle.cq_catalog.specs.declared.error.CatalogError.{CatalogError}
use Rattle.cq_catalog.specs.declared.error.CatalogError.TheVariants.{NameTaken, Limit}

pub applies : (b : Bool) (e : CatalogError) → b ≡ true → refusal_if b e ≡ Some e
applies b e h = rw h refl

pub passes_by : (b : Bool) (e : CatalogError) → b ≡ false → refusal_if b e ≡ None
passes_by b e h = rw h refl

pub later : (a : Option CatalogError) (rest : List (Option CatalogError)) → a ≡ None → first_of (a ∷ rest) ≡ first_of rest
later a rest h = ap (λ (o : Option CatalogError). first_of (o ∷ rest)) h

pub here : (a : Option CatalogError) (rest : List (Option CatalogError)) (e : CatalogError) → a ≡ Some e → first_of (a ∷ rest) ≡ Some e
here a rest e h = ap (λ (o : Option CatalogError). first_of (o ∷ rest)) h

pub cause_later : (a : Option CatalogError) (rest : List (Option CatalogError)) (e : CatalogError) → a ≡ None → IsCause e (first_of rest) → IsCause e (first_of (a ∷ rest))
cause_later a rest e h cause = subst (IsCause e) (sym (later a rest h)) cause

pub cause_here : (a : Option CatalogError) (rest : List (Option CatalogError)) (e : CatalogError) → IsCause e a → IsCause e (first_of (a ∷ rest))
cause_here a rest e cause = elim cause [ inl m ↦ inl m | inr h ↦ inr (here a rest e h) ]

-- the first of a list within a list
pub cause_within : (a b : Option CatalogError) (rest : List (Option CatalogError)) (e : CatalogError) → IsCause e (first_of (a ∷ b ∷ [])) → IsCause e (first_of (first_of (a ∷ b ∷ []) ∷ rest))
cause_within a b rest e cause = cause_here (first_of (a ∷ b ∷ [])) rest e cause

take_past : {X : Type 0} (xs : List X) (n : ℕ) → length xs ≤ n → take n xs ≡ xs
take_past [] zero h = refl
take_past [] (suc n) h = refl
take_past (x ∷ xs) zero h = absurd (omega arith)
take_past (x ∷ xs) (suc n) h = ap (λ ys. x ∷ ys) (take_past xs n (omega arith))

pub take_few : {X : Type 0} (xs : List X) (n m : ℕ) → m ≡ min (length xs) n → take m xs ≡ take n xs
take_few xs n m e = by (dec_lt n (length xs))
  where
    by : Dec (n < length xs) → take m xs ≡ take n xs
    by (yes h) = let f : m ≡ n = omega arith in rw f refl
    by (no h) = take_past xs m (omega arith) ∙ sym (take_past xs n (omega arith))

pub repeated_step : (cs : List Column) (i : ℕ) (c : Column) → c ≡ get_or cs i c → i < length cs → list_any (λ (b : Column). bytes_eq b.name c.name) (take i cs) ≡ false →
    repeated_after (take i cs) (drop i cs) ≡ repeated_after (take (i + 1) cs) (drop (i + 1) cs)
repeated_step cs i c at within none =
    let d : drop i cs ≡ c ∷ drop (suc i) cs = drop-cons cs i c within ∙ ap (λ x. x ∷ drop (suc i) cs) (sym at) in
    let t : take (suc i) cs ≡ take i cs ++ c ∷ [] = take-suc cs i c within ∙ ap (λ x. take i cs ++ x ∷ []) (sym at) in
    let s : i + 1 ≡ suc i = omega arith in
    rw (s, d, t) (ap (λ b. if b then Some c.name else repeated_after (take i cs ++ c ∷ []) (drop (suc i) cs)) none)

pub repeated_here : (cs : List Column) (i : ℕ) (c : Column) → c ≡ get_or cs i c → i < length cs → list_any (λ (b : Column). bytes_eq b.name c.name) (take i cs) ≡ true →
    repeated_after (take i cs) (drop i cs) ≡ Some c.name
repeated_here cs i c at within found =
    let d : drop i cs ≡ c ∷ drop (suc i) cs = drop-cons cs i c within ∙ ap (λ x. x ∷ drop (suc i) cs) (sym at) in
    rw d (ap (λ b. if b then Some c.name else repeated_after (take i cs ++ c ∷ []) (drop (suc i) cs)) found)

module _ (c : Contents) (name : List ℕ) (columns : List Column) (new : is_some (number_of c.tables name) ≡ false) where
  pub column_cause : (column : List ℕ) → repeated_after [] (take 64 columns) ≡ Some column → creation_refusal c name columns ≡ Some (NameTaken column)
  column_cause column h = later _ _ (passes_by (is_some (number_of c.tables name)) (NameTaken name) new) ∙ here _ _ (NameTaken column) (ap (option_map NameTaken) h)

  module _ (distinct : repeated_after [] (take 64 columns) ≡ None) where
    past_columns : creation_refusal c name columns ≡ first_of (refusal_if (nat_lt 64 (length columns)) (Limit Columns 64) ∷ refusal_if (nat_lt 63 (length c.tables)) (Limit Tables 64) ∷ [])
    past_columns = later _ _ (passes_by (is_some (number_of c.tables name)) (NameTaken name) new) ∙ later _ _ (ap (option_map NameTaken) distinct)

    pub many_columns : 64 < length columns → creation_refusal c name columns ≡ Some (Limit Columns 64)
    many_columns h = past_columns ∙ here _ _ (Limit Columns 64) (applies (nat_lt 64 (length columns)) (Limit Columns 64) (search (rules, h)))

    module _ (few : length columns ≤ 64) where
      past_count : creation_refusal c name columns ≡ first_of (refusal_if (nat_lt 63 (length c.tables)) (Limit Tables 64) ∷ [])
      past_count = past_columns ∙ later _ _ (passes_by (nat_lt 64 (length columns)) (Limit Columns 64) (grind (arith, common_steps)))

      pub many_tables : 64 ≤ length c.tables → creation_refusal c name columns ≡ Some (Limit Tables 64)
      many_tables h = past_count ∙ here _ _ (Limit Tables 64) (applies (nat_lt 63 (length c.tables)) (Limit Tables 64) (grind (arith, common_steps)))

      pub created : length c.tables < 64 → creation_refusal c name columns ≡ None
      created h = past_count ∙ later _ _ (passes_by (nat_lt 63 (length c.tables)) (Limit Tables 64) (grind (arith, common_steps)))
