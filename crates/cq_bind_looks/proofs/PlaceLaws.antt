-- Places in lists of later parts.
use Rattle.std.proofs.Common.{◌≡◌, false, if◌then◌else◌, nat_le, ℕ, zero, suc, ◌+◌, ◌-◌, ◌/◌, List, [], ◌∷◌, map, length, slice_get, Some, refl, ap, sym, ◌∙◌, rules, arith}
use Rattle.std.proofs.lemmas.Bool.Decides.{nat_tests}
use Rattle.cq_grammar.specs.declared.expr.NullTest.{NullTest}
use Rattle.cq_grammar.specs.declared.expr.Added.{Added, out-Added}
use Rattle.cq_grammar.specs.declared.expr.Multiplied.{Multiplied, out-Multiplied}
use Rattle.cq_grammar.specs.declared.expr.Chained.{Chained}
use Rattle.cq_reading.specs.Expressions.{word_before, middle_word, last_test, last_sign, last_operator}
use Rattle.cq_reading.specs.Walk.{later_part, added_part, multiplied_part}
use Rattle.cq_bind_looks.specs.Places.{word_of, word_amid}
use Rattle.cq_bind_looks.proofs.Looks.{later_part_is, added_part_is, multiplied_part_is}

two_is : (k : ℕ) → nat_le (suc (suc k)) 1 ≡ false
two_is k = grind (arith, nat_tests)

one_less : (k : ℕ) → suc (suc k) - 1 ≡ suc k
one_less k = grind (arith)

word_is : (k : ℕ) (rest : List Chained) → word_before (suc k) (map later_part rest) ≡ word_of (slice_get rest k)
word_is zero [] = refl
word_is (suc k) [] = refl
word_is zero (c ∷ more) = ap (λ p. p.at) (later_part_is c)
word_is (suc k) (c ∷ more) =
    ap (λ b. if b then (later_part c).at else word_before (suc (suc k) - 1) (map later_part more)) (two_is k)
    ∙ ap (λ n. word_before n (map later_part more)) (one_less k)
    ∙ word_is k more

count_is : (rest : List Chained) → length (map later_part rest) ≡ length rest
count_is [] = refl
count_is (c ∷ more) = ap suc (count_is more)

amid : (n : ℕ) → (n + 1) - (n + 1) / 2 ≡ suc (n / 2)
amid n = grind (arith)

pub middle_is : (rest : List Chained) → middle_word (map later_part rest) ≡ word_amid rest
middle_is rest =
    ap (λ n. word_before ((n + 1) - (n + 1) / 2) (map later_part rest)) (count_is rest)
    ∙ ap (λ n. word_before n (map later_part rest)) (amid (length rest))
    ∙ word_is (length rest / 2) rest

some : {A : Type 0} (a b : A) → Some a ≡ Some b → a ≡ b
some a b h = search rules

none_less : (k : ℕ) → suc k - 1 ≡ k
none_less k = grind (arith)

-- the last of a list is that behind its first
last_behind : {A : Type 0} (u v : A) (more : List A) → slice_get (u ∷ v ∷ more) (length (u ∷ v ∷ more) - 1) ≡ slice_get (v ∷ more) (length (v ∷ more) - 1)
last_behind u v more = ap (slice_get (u ∷ v ∷ more)) (one_less (length more)) ∙ ap (slice_get (v ∷ more)) (sym (none_less (length more)))

pub test_is : (at : ℕ) (t : NullTest) (rest : List NullTest) → Some t ≡ slice_get rest (length rest - 1) → t.at ≡ last_test at rest
test_is at t [] h = search rules
test_is at t (u ∷ []) h = ap (λ x. x.at) (some t u h)
test_is at t (u ∷ v ∷ more) h = test_is u.at t (v ∷ more) (h ∙ last_behind u v more)

pub sign_is : (at : ℕ) (l : Added) (rest : List Added) → Some l ≡ slice_get rest (length rest - 1) → (out-Added l).at ≡ last_sign at (map added_part rest)
sign_is at l [] h = search rules
sign_is at l (u ∷ []) h = ap (λ x. (out-Added x).at) (some l u h) ∙ sym (ap (λ p. p.at) (added_part_is u))
sign_is at l (u ∷ v ∷ more) h = sign_is (added_part u).at l (v ∷ more) (h ∙ last_behind u v more)

pub operator_is : (at : ℕ) (l : Multiplied) (rest : List Multiplied) → Some l ≡ slice_get rest (length rest - 1) → (out-Multiplied l).at ≡ last_operator at (map multiplied_part rest)
operator_is at l [] h = search rules
operator_is at l (u ∷ []) h = ap (λ x. (out-Multiplied x).at) (some l u h) ∙ sym (ap (λ p. p.at) (multiplied_part_is u))
operator_is at l (u ∷ v ∷ more) h = operator_is (multiplied_part u).at l (v ∷ more) (h ∙ last_behind u v more)
