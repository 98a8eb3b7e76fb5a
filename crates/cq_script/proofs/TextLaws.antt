-- Fields with a bar between each two, and words with numbers one after the other.
use Rattle.std.proofs.Common.{◌≡◌, ◌≤◌, ◌-◌, ℕ, Result, Ok, Err, List, [], ◌∷◌, ◌++◌, length, take, drop, get_or, map, sym, ap, ◌∙◌, arith, append-nil, append_assoc}
use Rattle.std.specs.Prelude.{flat_map, OnOk}
use Rattle.std.specs.List.{join_with_byte}
use Rattle.std.proofs.lemmas.Grind.{common_steps}

joined : {X : Type 0} (text : X → List ℕ) (x : X) (xs : List X) → join_with_byte 124 (map text (x ∷ xs)) ≡ text x ++ flat_map (λ y. 124 ∷ text y) xs
joined text x [] = sym (append-nil (text x))
joined text x (y ∷ ys) = ap (λ v. text x ++ 124 ∷ v) (joined text y ys)

-- the first field, and a bar and the text of each other
joined_at : {X : Type 0} (text : X → List ℕ) (fields : List X) (x : X) → x ≡ get_or fields 0 x → 1 ≤ length fields → join_with_byte 124 (map text fields) ≡ text x ++ flat_map (λ y. 124 ∷ text y) (take (length fields - 1) (drop 1 fields))
joined_at text [] x is some = absurd (omega (arith, some))
joined_at text (y ∷ ys) x is some =
    let rest : take (length (y ∷ ys) - 1) (drop 1 (y ∷ ys)) ≡ ys = grind (arith, common_steps) in
    joined text y ys ∙ ap (λ v. text v ++ flat_map (λ z. 124 ∷ text z) ys) (sym is) ∙ ap (λ v. text x ++ flat_map (λ z. 124 ∷ text z) v) (sym rest)

pub joined_after : {X E : Type 0} (text : X → List ℕ) (fields : List X) (x : X) (before first all : List ℕ) (r : Result (Unit {0}) E) → x ≡ get_or fields 0 x → 1 ≤ length fields → first ≡ before ++ text x →
    OnOk r (all ≡ first ++ flat_map (λ y. 124 ∷ text y) (take (length fields - 1) (drop 1 fields))) → OnOk r (all ≡ before ++ join_with_byte 124 (map text fields))
joined_after text fields x before first all (Err e) is some put h = h
joined_after text fields x before first all (Ok u) is some put h =
    h ∙ ap (λ v. v ++ flat_map (λ y. 124 ∷ text y) (take (length fields - 1) (drop 1 fields))) put
    ∙ append_assoc before (text x) (flat_map (λ y. 124 ∷ text y) (take (length fields - 1) (drop 1 fields))) ∙ ap (λ v. before ++ v) (sym (joined_at text fields x is some))

-- what was put last, and then some words and a number
pub put_after : (before some words number first all : List ℕ) → first ≡ before ++ some → all ≡ first ++ (words ++ number) → all ≡ before ++ (some ++ words ++ number)
put_after before some words number first all put h =
    h ∙ ap (λ v. v ++ (words ++ number)) put ∙ append_assoc before some (words ++ number) ∙ ap (λ v. before ++ v) (sym (append_assoc some words number))

pub put_last : {E : Type 0} (before some words number first all : List ℕ) (r : Result (Unit {0}) E) → first ≡ before ++ some → OnOk r (all ≡ first ++ (words ++ number)) → OnOk r (all ≡ before ++ (some ++ words ++ number))
put_last before some words number first all (Err e) put h = h
put_last before some words number first all (Ok u) put h = put_after before some words number first all put h

-- three texts, one after the other
pub three : {E : Type 0} (before some more last one two all : List ℕ) (r : Result (Unit {0}) E) → one ≡ before ++ some → two ≡ one ++ more → OnOk r (all ≡ two ++ last) → OnOk r (all ≡ before ++ (some ++ more ++ last))
three before some more last one two all (Err e) put then h = h
three before some more last one two all (Ok u) put then h =
    h ∙ ap (λ v. v ++ last) (then ∙ ap (λ v. v ++ more) put ∙ append_assoc before some more) ∙ append_assoc before (some ++ more) last
