-- Chains by halves: how often they may be cut doesn't matter where it is enough, and what two halves that stand in a list give.
use Rattle.std.proofs.Common.{◌≡◌, ◌≢◌, ℕ, zero, suc, ◌+◌, ◌-◌, ◌/◌, ◌≤◌, Bool, true, List, [], ◌∷◌, length, take, drop, map, get_or, Result, Ok, Err, refl, sym, subst, ◌∙◌, ap, arith, length-take, length-drop}
use Rattle.std.specs.List.{list_all}
use Rattle.std.proofs.lemmas.List.{drop-take, drop-drop, get_or-drop, take-map, drop-map, length-map}
use Rattle.cq_tree.specs.declared.expression.Cond.{Cond, Always}
use Rattle.cq_tree.specs.declared.expression.Expr.{Expr}
use Rattle.cq_reading.specs.declared.bound.Bound.{Bound}
use Rattle.cq_reading.specs.declared.bound.Bound.TheVariants.{Truth}
use Rattle.cq_reading.specs.declared.bound.Found.{Found}
use Rattle.cq_reading.specs.declared.error.BindError.{BindError}
use Rattle.cq_reading.specs.declared.error.BindError.TheVariants.{Memory}
use Rattle.cq_reading.specs.Steps.{Reading, follow, ◌then◌, give}
use Rattle.cq_reading.specs.Outcomes.{Binds, Judges}
use Rattle.cq_reading.specs.Widths.{expr_of, cond_of, agree}
use Rattle.cq_reading.specs.Rules.{ChainPart, chain_of, chained, joined, place_after, halves, halved, null, nothing, negated_if, condition, listed}
use Rattle.cq_bind_operands.specs.Operands.{FirstError}
use Rattle.cq_bind_tests.specs.Chains.{JoinedOr, part_of, equality}

-- ---- readings in turn

same_next : {A B : Type 0} (o : Result (A × Found) BindError) (f g : A → Reading B) → ((a : A) (found : Found) → f a found ≡ g a found) → follow o f ≡ follow o g
same_next (Ok p) f g h = h p.0 p.1
same_next (Err e) f g h = refl

same_turn : {A B : Type 0} (o p : Result (A × Found) BindError) (f g : A → Reading B) → o ≡ p → ((a : A) (found : Found) → f a found ≡ g a found) → follow o f ≡ follow p g
same_turn o p f g e h = ap (λ q. follow q f) e ∙ same_next p f g h

-- ---- cuts

first_shorter : (n k : ℕ) → 2 ≤ n → n ≤ suc k → n - n / 2 ≤ k
first_shorter n k h g = omega arith

-- the two halves, with the word between them
abbrev pub Halves : Bool → List ChainPart → List ChainPart → ℕ → Reading Bound
Halves any left right at = chain_of (length left) any left then (λ a. chain_of (length right) any right then (λ b. joined any a b at))

pub enough : (f g : ℕ) (any : Bool) (ps : List ChainPart) (found : Found) → length ps ≤ f → length ps ≤ g → chain_of f any ps found ≡ chain_of g any ps found
enough f g any [] found h k = refl
enough f g any (c ∷ []) found h k = refl
enough zero g any (c ∷ d ∷ more) found h k = absurd (omega arith)
enough (suc f) zero any (c ∷ d ∷ more) found h k = absurd (omega arith)
enough (suc f) (suc g) any (c ∷ d ∷ more) found h k =
    let ps : List ChainPart = c ∷ d ∷ more in
    let n : ℕ = length ps in
    let two : 2 ≤ n = omega arith in
    same_turn _ _ _ _ (enough f g any (take (n - n / 2) ps) found (omega (arith, length-take {A = ChainPart})) (omega (arith, length-take {A = ChainPart})))
    (λ a after. same_turn _ _ _ _ (enough f g any (drop (n - n / 2) ps) after (omega (arith, length-drop {A = ChainPart})) (omega (arith, length-drop {A = ChainPart}))) (λ b last. refl))

cut : (any : Bool) (ps : List ChainPart) (n : ℕ) (found : Found) → length ps ≡ n → 2 ≤ n
    → chain_of n any ps found ≡ Halves any (take (n - n / 2) ps) (drop (n - n / 2) ps) (place_after (n - n / 2) ps) found
cut any [] n found e h = absurd (omega arith)
cut any (c ∷ []) n found e h = absurd (omega arith)
cut any (c ∷ d ∷ more) zero found e h = absurd (omega arith)
cut any (c ∷ d ∷ more) (suc f) found e h =
    let ps : List ChainPart = c ∷ d ∷ more in
    let n : ℕ = suc f in
    let k : ℕ = n - n / 2 in
    subst (λ m. chain_of n any ps found ≡ Halves any (take (m - m / 2) ps) (drop (m - m / 2) ps) (place_after (m - m / 2) ps) found) e
    (let m : ℕ = length ps in
    same_turn _ _ _ _ (enough f _ any (take (m - m / 2) ps) found (omega (arith, length-take {A = ChainPart})) (omega arith))
    (λ a after. same_turn _ _ _ _ (enough f _ any (drop (m - m / 2) ps) after (omega (arith, length-drop {A = ChainPart})) (omega arith)) (λ b last. refl)))

-- ---- what calls give

judges_err : {A B : Type 0} (o : Result (A × Found) BindError) (f : A → Reading B) (e : BindError) → (e ≢ Memory → o ≡ Err e) → e ≢ Memory → follow o f ≡ Err e
judges_err o f e h g = ap (λ q. follow q f) (h g)

binds_joined : (any : Bool) (at : ℕ) (r s : Reading Bound) (left right result : Result Bound BindError) (found : Found) → Binds (r found) left found → ((after : Found) → Binds (s after) right after) → JoinedOr any at left right result
    → Binds ((r then (λ a. s then (λ b. joined any a b at))) found) result found
binds_joined any at r s (Err e) right result found l h j = subst (λ o. Binds ((r then (λ a. s then (λ b. joined any a b at))) found) o found) (sym j) (judges_err (r found) (λ a. s then (λ b. joined any a b at)) e l)
binds_joined any at r s (Ok a) (Err e) result found l h j =
    subst (λ o. Binds ((r then (λ a. s then (λ b. joined any a b at))) found) o found) (sym j)
    (λ g. ap (λ q. follow q (λ a. s then (λ b. joined any a b at))) l ∙ judges_err (s found) (λ b. joined any a b at) e (h found) g)
binds_joined any at r s (Ok a) (Ok b) result found l h j =
    subst (λ q. Binds (follow q (λ a. s then (λ b. joined any a b at))) result found) (sym l)
    (subst (λ q. Binds (follow q (λ b. joined any a b at)) result found) (sym (h found)) (j found))

-- the last count parts, of which the last half was taken first
pub last_halves : (any : Bool) (parts rest : List ChainPart) (count at : ℕ) (left right result : Result Bound BindError) → 2 ≤ count → count ≤ length parts → rest ≡ take (length parts - count / 2) parts
    → at ≡ place_after (length parts - count / 2) parts
    → Judges (chain_of (count / 2) any (drop (length parts - count / 2) parts)) right
    → Judges (chain_of (count - count / 2) any (drop (length rest - (count - count / 2)) rest)) left
    → JoinedOr any at left right result
    → Judges (chain_of count any (drop (length parts - count) parts)) result
last_halves any parts rest count at left right result h g e p r l j found =
    let m : ℕ = length parts - count in
    let k : ℕ = count - count / 2 in
    let ps : List ChainPart = drop m parts in
    let len : length ps ≡ count = omega (arith, length-drop {A = ChainPart}) in
    let a : length parts - count / 2 ≡ m + k = omega arith in
    let b : length rest - k ≡ m = omega (arith, ap length e, length-take {A = ChainPart}) in
    let right_is : drop (length parts - count / 2) parts ≡ drop k ps = ap (λ i. drop i parts) a ∙ sym (drop-drop k m parts) in
    let left_is : drop (length rest - k) rest ≡ take k ps = ap (λ i. drop i rest) b ∙ (ap (drop m) (e ∙ ap (λ i. take i parts) a) ∙ drop-take m k parts) in
    let at_is : at ≡ place_after k ps = p ∙ ap (λ q. q.1) (ap (λ i. get_or parts i (null, 0)) a ∙ sym (get_or-drop m parts k (null, 0))) in
    let first : length (take k ps) ≡ k = omega (arith, length-take {A = ChainPart}) in
    let second : length (drop k ps) ≡ count / 2 = omega (arith, length-drop {A = ChainPart}) in
    subst (λ o. Binds o result found) (sym (cut any ps count found len h))
    (binds_joined any (place_after k ps) (chain_of (length (take k ps)) any (take k ps)) (chain_of (length (drop k ps)) any (drop k ps)) left right result found
    (subst (λ i. Binds (chain_of i any (take k ps) found) left found) (sym first) (subst (λ qs. Binds (chain_of k any qs found) left found) left_is (l found)))
    (λ after. subst (λ i. Binds (chain_of i any (drop k ps) after) right after) (sym second) (subst (λ qs. Binds (chain_of (count / 2) any qs after) right after) right_is (r after)))
    (subst (λ i. JoinedOr any i left right result) at_is j))

-- ---- conditions alone

pub truths : (most : ℕ) (any : Bool) (cs : List Cond) (found : Found) → length cs ≤ most → chain_of most any (map part_of cs) found ≡ Ok (Truth (halves most any cs), found)
truths most any [] found h = refl
truths most any (c ∷ []) found h = refl
truths zero any (c ∷ d ∷ more) found h = absurd (omega arith)
truths (suc most) any (c ∷ d ∷ more) found h =
    let cs : List Cond = c ∷ d ∷ more in
    let n : ℕ = length cs in
    let k : ℕ = n - n / 2 in
    let ps : List ChainPart = map part_of cs in
    let m : ℕ = length ps in
    let e : m ≡ n = length-map cs part_of in
    let two : 2 ≤ n = omega arith in
    let next : Bound → Reading Bound = (λ a. chain_of most any (drop (m - m / 2) ps) then (λ b. joined any a b (place_after (m - m / 2) ps))) in
    let first : chain_of most any (take (m - m / 2) ps) found ≡ Ok (Truth (halves most any (take k cs)), found) =
    ap (λ i. chain_of most any (take (i - i / 2) ps) found) e
    ∙ (ap (λ qs. chain_of most any qs found) (take-map part_of k cs) ∙ truths most any (take k cs) found (omega (arith, length-take {A = Cond}))) in
    let second : chain_of most any (drop (m - m / 2) ps) found ≡ Ok (Truth (halves most any (drop k cs)), found) =
    ap (λ i. chain_of most any (drop (i - i / 2) ps) found) e
    ∙ (ap (λ qs. chain_of most any qs found) (drop-map part_of k cs) ∙ truths most any (drop k cs) found (omega (arith, length-drop {A = Cond}))) in
    ap (λ o. follow o next) first ∙ ap (λ o. follow o (λ b. joined any (Truth (halves most any (take k cs))) b (place_after (m - m / 2) ps))) second

-- ---- the whole chain

pub one_left : (any : Bool) (ps : List ChainPart) (b : Bound) → map (λ p. p.0) ps ≡ b ∷ [] → Judges (chain_of 1 any ps) (Ok b)
one_left any [] b e found = absurd (cc e)
one_left any (p ∷ []) b e found = let h : p.0 ≡ b = cc e in ap (λ a. Ok (a, found)) h
one_left any (p ∷ q ∷ more) b e found = absurd (cc e)

pub none_left : (any : Bool) (ps : List ChainPart) → length ps ≡ 0 → Judges (chained any ps) (Ok (Truth Always))
none_left any [] h found = refl
none_left any (p ∷ ps) h found = absurd (omega arith)

pub all_left : (any : Bool) (ps : List ChainPart) (count : ℕ) (result : Result Bound BindError) → count ≡ length ps → Judges (chain_of count any (drop (length ps - count) ps)) result → Judges (chained any ps) result
all_left any ps count result e j found =
    let none : length ps - count ≡ 0 = omega arith in
    subst (λ i. Binds (chain_of i any ps found) result found) e (subst (λ i. Binds (chain_of count any (drop i ps) found) result found) none (j found))

pub only_truths : (any : Bool) (cs : List Cond) (parts : List ChainPart) (result : Result Bound BindError) → parts ≡ map part_of cs → Judges (chained any parts) result → Judges (give (Truth (halved any cs))) result
only_truths any cs parts result e j found =
    let n : length (map part_of cs) ≡ length cs = length-map cs part_of in
    let is : chained any parts found ≡ Ok (Truth (halved any cs), found) =
    ap (λ ps. chained any ps found) e ∙ (truths (length (map part_of cs)) any cs found (omega arith) ∙ ap (λ i. Ok (Truth (halves i any cs), found)) n) in
    subst (λ o. Binds o result found) is (j found)

abbrev pub value_in : Result (Bound × Found) BindError → Bound
value_in (Ok p) = p.0
value_in (Err e) = null

only_bound : (any : Bool) (cs : List Cond) (parts : List ChainPart) (b : Bound) → parts ≡ map part_of cs → Judges (chained any parts) (Ok b) → Truth (halved any cs) ≡ b
only_bound any cs parts b e j = ap value_in (only_truths any cs parts (Ok b) e j nothing)

pub only_conditions : (any : Bool) (cs : List Cond) (parts : List ChainPart) (r : Result Bound BindError) (b : Bound) → parts ≡ map part_of cs → Judges (chained any parts) r → r ≡ Ok b → cond_of b ≡ halved any cs
only_conditions any cs parts r b e j g = ap cond_of (sym (only_bound any cs parts b e (subst (λ o. Judges (chained any parts) o) g j)))

-- ---- two halves, and lists behind IN

pub joined_both : (any : Bool) (at : ℕ) (left right result : Result Bound BindError) (a b : Bound) → left ≡ Ok a → right ≡ Ok b → Judges (joined any a b at) result → JoinedOr any at left right result
joined_both any at left right result a b p q j = subst (λ r. JoinedOr any at r right result) (sym p) (subst (λ r. JoinedOr any at (Ok a) r result) (sym q) j)

pub joined_error : (any : Bool) (at : ℕ) (left right : Result Bound BindError) (e : BindError) → FirstError left right e → JoinedOr any at left right (Err e)
joined_error any at (Err f) right e h = ap Err h
joined_error any at (Ok a) (Err f) e h = ap Err h
joined_error any at (Ok a) (Ok b) e h = absurd h

pub denied_is : (negate : Bool) (c d e : Cond) → c ≡ d → e ≡ negated_if negate c → Judges (give (Truth (negated_if negate d))) (Ok (Truth e))
denied_is negate c d e h g found = ap (λ x. Ok (Truth x, found)) (ap (negated_if negate) (sym h) ∙ sym g)

pub listed_is : (negate : Bool) (x : Bound) (e : Expr) (items : List Bound) (at : ℕ) (result : Result Bound BindError) → agree (x ∷ items) ≡ true → e ≡ expr_of x
    → Judges (give (Truth (negated_if negate (halved true (map (equality e) items))))) result → Judges (listed negate x items at) result
listed_is negate x e items at result h g j found =
    subst (λ t. Binds (condition (negated_if negate (halved true (map (equality (expr_of x)) items))) t at found) result found) (sym h)
    (subst (λ y. Binds (give (Truth (negated_if negate (halved true (map (equality y) items)))) found) result found) g (j found))
