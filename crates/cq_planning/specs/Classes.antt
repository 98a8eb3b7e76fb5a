-- The classes of columns: the columns of a FROM that equalities connect.
use Rattle.std.specs.Prelude.{ℕ, min, max, List, fold, if◌then◌else◌, nat_eq}
use Rattle.cq_meaning.specs.Lists.{Has}

-- at first each column is a class alone
abbrev pub itself : ℕ → ℕ
itself x = x

-- the first column of each class after one more equality: of two first columns the lesser stands for both classes
abbrev pub merged : (ℕ → ℕ) → ℕ × ℕ → ℕ → ℕ
merged first e x = if nat_eq (first x) (max (first e.0) (first e.1)) then min (first e.0) (first e.1) else first x

-- the first column of the class of a column
abbrev pub first_of_class : List (ℕ × ℕ) → ℕ → ℕ
first_of_class pairs = fold merged itself pairs

-- what a class is: two columns that equalities connect
pub data Connected (pairs : List (ℕ × ℕ)) : ℕ → ℕ → Type 0 where
  paired : {a b : ℕ} → Has pairs (a, b) → Connected pairs a b
  alone : {a : ℕ} → Connected pairs a a
  turned : {a b : ℕ} → Connected pairs a b → Connected pairs b a
  chained : {a b d : ℕ} → Connected pairs a b → Connected pairs b d → Connected pairs a d
