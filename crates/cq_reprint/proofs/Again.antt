-- From what a call answered to what the definition reads.
use Rattle.std.proofs.Common.{◌≡◌, ◌≢◌, ◌↔◌, ℕ, List, Bool, IsTrue, Result, Ok, Err, IfOk, refl, sym, subst}
use Rattle.cq_value.specs.declared.text.NoMemory.{NoMemory}
use Rattle.cq_tree.specs.declared.statement.Statement.{Statement}
use Rattle.cq_catalog.specs.declared.info.TableInfo.{TableInfo}
use Rattle.cq_answer.specs.declared.fault.Fault.{Fault}
use Rattle.cq_answer.specs.declared.fault.Fault.TheVariants as fault
use Rattle.cq_statement.specs.Finding.{Reads}
use Rattle.cq_statement.specs.Meanings.{Means, IsTree}
use Rattle.cq_statement.specs.Reading.{reading_of}

-- whether a reading is the statement
abbrev Tells : Result Bool NoMemory → Statement → Result Statement Fault → Type 0
Tells r s read = IfOk r (λ again. IsTrue again ↔ (read ≡ Ok s))

pub read_again : (definition read : Result Statement Fault) (s : Statement) (r : Result Bool NoMemory) → Reads definition read → Tells r s read
    → IfOk r (λ again. read ≢ Err fault.Memory) → Tells r s definition
read_again definition (Ok a) s r reads ok named = subst (Tells r s) (sym reads) ok
read_again definition (Err fault.Memory) s (Ok again) reads ok named = absurd (named refl)
read_again definition (Err fault.Memory) s (Err e) reads ok named = tt
read_again definition (Err f) s r reads ok named = subst (Tells r s) (sym reads) ok

-- what is read by the definition, the grammar has
pub read_spells : (text : List ℕ) (tables : List TableInfo) (s : Statement) (r : Result Bool NoMemory) → Means text tables (reading_of text tables)
    → Tells r s (reading_of text tables) → IfOk r (λ again. IsTrue again → IsTree text tables (Ok s))
read_spells text tables s (Ok again) means tells = λ t. subst (Means text tables) (tells.0 t) means
read_spells text tables s (Err e) means tells = tt
