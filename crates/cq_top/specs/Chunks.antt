-- What is written of rows that are counted in chunks.
use Rattle.std.specs.Prelude.{◌≡◌, ◌≢◌, ⊤, ℕ, Bool, IsTrue, List, [], ◌∷◌, Some, codes, nat_eq, pos, if◌then◌else◌}
use Rattle.cq_value.specs.declared.value.Value.{Value}
use Rattle.cq_value.specs.declared.value.Value.TheVariants.{Null, Int}
use Rattle.cq_answer.specs.declared.answer.Answer.{Answer}
use Rattle.cq_answer.specs.declared.answer.Answer.TheVariants.{Table}
use Rattle.cq_columnar.specs.Counting.{counted}
use Rattle.cq_columnar.specs.declared.counting.Counted.{Counted}
use Rattle.cq_script.specs.Streams.{SinkState, Rose}
use Rattle.cq_script.specs.Texts.{text_under}
use Rattle.cq_words.specs.declared.settled.Settled.{Settled}
use Rattle.cq_top.specs.declared.ending.Ending.{Ending}
use Rattle.cq_top.specs.declared.ending.Ending.TheVariants.{Done, Usage, WriteFault, Memory}
use Rattle.cq_top.specs.declared.status.Status.{Status}
use Rattle.cq_top.specs.declared.status.Status.TheVariants as statuses
use Rattle.cq_top.specs.Outputs.{status_of}
use Rattle.cq_top.specs.Serving.{Writes}

abbrev pub names_of_counts : List (List ℕ)
names_of_counts = codes "rows" ∷ codes "sum" ∷ codes "read" ∷ codes "removed" ∷ []

-- the sum of no rows is NULL
abbrev pub sum_of : Counted → Value
sum_of c = if nat_eq c.rows 0 then Null else Int (pos c.sum)

abbrev pub row_of_counts : Counted → List Value
row_of_counts c = Int (pos c.rows) ∷ sum_of c ∷ Int (pos c.read) ∷ Int (pos c.removed) ∷ []

abbrev pub table_of_counts : Counted → Answer
table_of_counts c = Table names_of_counts (row_of_counts c ∷ [])

-- the text of the table of so many rows, counted from the one number to the other
abbrev pub count_text : Bool → ℕ × ℕ × ℕ → List ℕ
count_text csv q = text_under csv (table_of_counts (counted q.0 q.1 q.2))

-- what is written before the tail: the table, unless the words are refused
abbrev pub count_pieces : Bool → ℕ × ℕ × ℕ → Ending → List (List ℕ)
count_pieces csv q Usage = []
count_pieces csv q ending = count_text csv q ∷ []

-- how a count ends
abbrev pub IsCountEnd : Ending → Type 0
IsCountEnd Done = ⊤
IsCountEnd WriteFault = ⊤
IsCountEnd Memory = ⊤
IsCountEnd ending = ⊥

-- how a count ended: the table was written; or a front of it, for a fault of the sink or want of memory
pub record HasCounted (s : Settled) (q : ℕ × ℕ × ℕ) (status : Status) (sink sink_end : SinkState) : Type 0 where
  pub ending : Ending
  pub end : IsCountEnd ending
  pub is : status ≡ status_of ending
  pub writes : (before : List ℕ) → sink.written ≡ Some before → Writes s ending status [] (count_pieces s.csv q ending) before sink_end.written
  pub write_fault : status ≡ statuses.WriteFault → Rose sink.faults sink_end.faults
  pub steady_sink : IsTrue sink.steady → status ≢ statuses.WriteFault
