-- Lists that are read beside each other.
use Rattle.std.proofs.Common.{◌≡◌, ℕ, zero, suc, ◌+◌, ◌<◌, ◌≤◌, List, [], ◌∷◌, ◌++◌, map, take, drop, set, get_or, length, refl, sym, ap, ◌∙◌, subst, arith, add-one, append_assoc, drop-cons}
use Rattle.std.proofs.lemmas.List.{take_more, take_more_set, get_or-drop, drop-set-lt, drop-drop, map-append, append-nil}
use Rattle.std.specs.List.{AllZip}
use Rattle.cq_cell.specs.Lists.{AllThree}

module _ {A B : Type 0} where
  pub map_at : (f : A → B) (xs : List A) (k : ℕ) (x : A) → x ≡ get_or xs k x → f x ≡ get_or (map f xs) k (f x)
  map_at f [] k x e = refl
  map_at f (y ∷ ys) zero x e = ap f e
  map_at f (y ∷ ys) (suc k) x e = map_at f ys k x e

  pub zip_long : (R : A → B → Type 0) (xs : List A) (ys : List B) → AllZip R xs ys → length ys ≡ length xs
  zip_long R [] [] h = refl
  zip_long R [] (y ∷ ys) h = absurd h
  zip_long R (x ∷ xs) [] h = absurd h
  zip_long R (x ∷ xs) (y ∷ ys) h = ap suc (zip_long R xs ys h.1)

  pub zip_at : (R : A → B → Type 0) (xs : List A) (ys : List B) (k : ℕ) (x : A) (y : B) → AllZip R xs ys → k < length xs → x ≡ get_or xs k x → y ≡ get_or ys k y → R x y
  zip_at R [] ys k x y h l e f = absurd (omega (arith, l))
  zip_at R (a ∷ xs) [] k x y h l e f = absurd h
  zip_at R (a ∷ xs) (b ∷ ys) zero x y h l e f = subst (λ z. R z y) (sym e) (subst (λ z. R a z) (sym f) h.0)
  zip_at R (a ∷ xs) (b ∷ ys) (suc k) x y h l e f = zip_at R xs ys k x y h.1 (omega (arith, l)) e f

  pub zip_more : (R : A → B → Type 0) (xs : List A) (ys : List B) (x : A) (y : B) → AllZip R xs ys → R x y → AllZip R (xs ++ x ∷ []) (ys ++ y ∷ [])
  zip_more R [] [] x y h r = (r, tt)
  zip_more R [] (b ∷ ys) x y h r = absurd h
  zip_more R (a ∷ xs) [] x y h r = absurd h
  zip_more R (a ∷ xs) (b ∷ ys) x y h r = (h.0, zip_more R xs ys x y h.1 r)

  pub zip_maps : (R Q : A → B → Type 0) (xs : List A) (ys : List B) → ((x : A) (y : B) → R x y → Q x y) → AllZip R xs ys → AllZip Q xs ys
  zip_maps R Q [] [] f h = tt
  zip_maps R Q [] (y ∷ ys) f h = absurd h
  zip_maps R Q (x ∷ xs) [] f h = absurd h
  zip_maps R Q (x ∷ xs) (y ∷ ys) f h = (f x y h.0, zip_maps R Q xs ys f h.1)

  -- both grow, the second as a map
  pub zip_next : {E : Type 0} (R : A → B → Type 0) (f : E → B) (xs xs' : List A) (es es' : List E) (x : A) (e : E) → AllZip R xs (map f es) → R x (f e) → xs' ≡ xs ++ x ∷ [] → es' ≡ es ++ e ∷ [] → AllZip R xs' (map f es')
  zip_next R f xs xs' es es' x e h r i j =
      subst (λ v. AllZip R v (map f es')) (sym i) (subst (λ v. AllZip R (xs ++ x ∷ []) v) (sym (ap (map f) j ∙ map-append f es (e ∷ []))) (zip_more R xs (map f es) x (f e) h r))

  pub zip_step : (R : A → B → Type 0) (xs xs' : List A) (ys ys' : List B) (x : A) (y : B) → AllZip R xs ys → R x y → xs' ≡ xs ++ x ∷ [] → ys' ≡ ys ++ y ∷ [] → AllZip R xs' ys'
  zip_step R xs xs' ys ys' x y h r i j = subst (λ v. AllZip R v ys') (sym i) (subst (λ v. AllZip R (xs ++ x ∷ []) v) (sym j) (zip_more R xs ys x y h r))

  -- the first of each
  pub zip_first : (R : A → B → Type 0) (xs xs' : List A) (ys ys' : List B) (x : A) (y : B) → xs ≡ x ∷ xs' → ys ≡ y ∷ ys' → AllZip R xs ys → R x y × AllZip R xs' ys'
  zip_first R xs xs' ys ys' x y e f h = subst (λ zs. AllZip R (x ∷ xs') zs) f (subst (λ zs. AllZip R zs ys) e h)

module _ {A B D : Type 0} (R : A → B → D → Type 0) where
  pub three_more : (xs : List A) (ys : List B) (zs : List D) (x : A) (y : B) (z : D) → AllThree R xs ys zs → R x y z → AllThree R (xs ++ x ∷ []) (ys ++ y ∷ []) (zs ++ z ∷ [])
  three_more [] [] [] x y z h r = (r, tt)
  three_more [] [] (c ∷ zs) x y z h r = absurd h
  three_more [] (b ∷ ys) zs x y z h r = absurd h
  three_more (a ∷ xs) [] zs x y z h r = absurd h
  three_more (a ∷ xs) (b ∷ ys) [] x y z h r = absurd h
  three_more (a ∷ xs) (b ∷ ys) (c ∷ zs) x y z h r = (h.0, three_more xs ys zs x y z h.1 r)

  pub three_at : (xs : List A) (ys : List B) (zs : List D) (k : ℕ) (x : A) (y : B) (z : D) → AllThree R xs ys zs → k < length xs → x ≡ get_or xs k x → y ≡ get_or ys k y → z ≡ get_or zs k z → R x y z
  three_at [] ys zs k x y z h l e f d = absurd (omega (arith, l))
  three_at (a ∷ xs) [] zs k x y z h l e f d = absurd h
  three_at (a ∷ xs) (b ∷ ys) [] k x y z h l e f d = absurd h
  three_at (a ∷ xs) (b ∷ ys) (c ∷ zs) zero x y z h l e f d = subst (λ v. R v y z) (sym e) (subst (λ v. R a v z) (sym f) (subst (λ v. R a b v) (sym d) h.0))
  three_at (a ∷ xs) (b ∷ ys) (c ∷ zs) (suc k) x y z h l e f d = three_at xs ys zs k x y z h.1 (omega (arith, l)) e f d

  pub three_long : (xs : List A) (ys : List B) (zs : List D) → AllThree R xs ys zs → (length ys ≡ length xs) × (length zs ≡ length xs)
  three_long [] [] [] h = (refl, refl)
  three_long [] [] (z ∷ zs) h = absurd h
  three_long [] (y ∷ ys) zs h = absurd h
  three_long (x ∷ xs) [] zs h = absurd h
  three_long (x ∷ xs) (y ∷ ys) [] h = absurd h
  three_long (x ∷ xs) (y ∷ ys) (z ∷ zs) h = let t = three_long xs ys zs h.1 in (ap suc t.0, ap suc t.1)

  -- the second list is written at a place, and the third grows
  pub three_step : (xs : List A) (ys : List B) (zs zs' : List D) (k : ℕ) (x : A) (y : B) (z : D) → k < length xs → k < length ys → AllThree R (take k xs) (take k ys) zs → x ≡ get_or xs k x → R x y z → zs' ≡ zs ++ z ∷ []
      → AllThree R (take (k + 1) xs) (take (k + 1) (set ys k y)) zs'
  three_step xs ys zs zs' k x y z l l' h e r is =
      subst (λ v. AllThree R v (take (k + 1) (set ys k y)) zs') (sym (take_more xs k x l ∙ ap (λ v. take k xs ++ v ∷ []) (sym e)))
      (subst (λ v. AllThree R (take k xs ++ x ∷ []) v zs') (sym (take_more_set ys k y l'))
      (subst (λ v. AllThree R (take k xs ++ x ∷ []) (take k ys ++ y ∷ []) v) (sym is) (three_more (take k xs) (take k ys) zs x y z h r)))

  -- all three grow, the first as a map
  pub three_next : {E : Type 0} (f : E → A) (cells cells' : List E) (ys ys' : List B) (zs zs' : List D) (c : E) (y : B) (z : D) → AllThree R (map f cells) ys zs → R (f c) y z → cells' ≡ cells ++ c ∷ [] → ys' ≡ ys ++ y ∷ [] → zs' ≡ zs ++ z ∷ []
      → AllThree R (map f cells') ys' zs'
  three_next f cells cells' ys ys' zs zs' c y z h r e d b =
      subst (λ v. AllThree R v ys' zs') (sym (ap (map f) e ∙ map-append f cells (c ∷ [])))
      (subst (λ v. AllThree R (map f cells ++ f c ∷ []) v zs') (sym d)
      (subst (λ v. AllThree R (map f cells ++ f c ∷ []) (ys ++ y ∷ []) v) (sym b) (three_more (map f cells) ys zs (f c) y z h r)))

module _ {A B E : Type 0} where
  -- all that were read, at the end
  pub three_whole : {D : Type 0} (R : A → B → D → Type 0) (f : E → A) (cells front : List E) (ys ys' : List B) (zs : List D) → cells ≡ front → ys ≡ ys' → AllThree R (map f front) ys' zs → AllThree R (map f cells) ys zs
  three_whole R f cells front ys ys' zs e d h = subst (λ v. AllThree R (map f v) ys zs) (sym e) (subst (λ v. AllThree R (map f front) v zs) (sym d) h)

module _ {E B : Type 0} (f : E → B) where
  pub front_next : (all front : List B) (rows later : List E) (row : E) → all ≡ front ++ map f rows → rows ≡ row ∷ later → all ≡ (front ++ f row ∷ []) ++ map f later
  front_next all front rows later row h e = h ∙ (ap (λ v. front ++ map f v) e ∙ sym (append_assoc front (f row ∷ []) (map f later)))

  pub front_all : (all start rows : List E) (front : List B) → start ≡ all → map f start ≡ front ++ map f rows → rows ≡ [] → front ≡ map f all
  front_all all start rows front s h e = sym (append-nil front) ∙ (ap (λ v. front ++ map f v) (sym e) ∙ (sym h ∙ ap (map f) s))

plus_zero : (k : ℕ) → k + 0 ≡ k
plus_zero k = omega arith

module _ {A : Type 0} where
  get_first : (k : ℕ) (xs : List A) (d : A) → get_or (drop k xs) 0 d ≡ get_or xs k d
  get_first k xs d = get_or-drop k xs 0 d ∙ ap (λ n. get_or xs n d) (plus_zero k)

  -- lists that are the same from a place on
  pub at_rest : (k : ℕ) (xs ys : List A) (d : A) → drop k xs ≡ drop k ys → get_or xs k d ≡ get_or ys k d
  at_rest k xs ys d e = sym (get_first k xs d) ∙ (ap (λ zs. get_or zs 0 d) e ∙ get_first k ys d)

  pub rest_set : (k : ℕ) (xs ys : List A) (y : A) → drop k xs ≡ drop k ys → drop (k + 1) (set xs k y) ≡ drop (k + 1) ys
  rest_set k xs ys y e = drop-set-lt (k + 1) xs k y (omega arith) ∙ (sym (drop-drop 1 k xs) ∙ (ap (drop 1) e ∙ drop-drop 1 k ys))

  pub rest_first : (k : ℕ) (xs : List A) (d : A) → k < length xs → drop k xs ≡ get_or xs k d ∷ drop (k + 1) xs
  rest_first k xs d l = rw add-one (drop-cons xs k d l)

  pub get_mid : (front : List A) (k : ℕ) (x : A) (rest : List A) → length front ≡ k → x ≡ get_or (front ++ x ∷ rest) k x
  get_mid [] k x rest e = ap (λ n. get_or (x ∷ rest) n x) e
  get_mid (y ∷ front) zero x rest e = absurd (omega (arith, e))
  get_mid (y ∷ front) (suc k) x rest e = get_mid front k x rest (omega (arith, e))

  pub rest_none : (all done now : List A) → all ≡ done ++ now → now ≡ [] → all ≡ done
  rest_none all done now e s = e ∙ ap (λ ys. done ++ ys) s ∙ append-nil done
