-- Which statements are answered, as the cutter cuts the script.
use Rattle.std.specs.Prelude.{◌≡◌, ◌<◌, ◌≤◌, ◌⊎◌, ℕ, List, [], length, take, Some, None}
use Rattle.cq_answer.specs.declared.answered.Answered.{Answered}
use Rattle.cq_script.specs.declared.cutter.Cutter.{Cutter}
use Rattle.cq_script.specs.Directives.{Read, read, at_end}
use Rattle.cq_script.specs.Scripts.{first, cut, pieces, pieces_in}
use Rattle.cq_words.specs.declared.settled.Settled.{Settled}
use Rattle.cq_top.specs.declared.ending.Ending.{Ending}
use Rattle.cq_top.specs.declared.ending.Ending.TheVariants.{Done, Usage, ReadFault, Bytes, Halted}
use Rattle.cq_top.specs.Scripts.{AnswersTo, AnswersFirst, most_bytes, read_of, IsAll}

-- where a script stands behind these bytes
abbrev pub begun_in : List ℕ → Cutter
begun_in bytes = (cut first bytes).begun

-- what is read of the pieces that are whole in these bytes, and of all of a script
abbrev pub read_in : List ℕ → Read
read_in bytes = read (pieces_in bytes)

abbrev pub read_all : List ℕ → Read
read_all bytes = at_end (read (pieces bytes))

-- this is read of the bytes taken, or of all of a script that was taken to its end
abbrev pub IsCutTo : List ℕ → ℕ → Read → Type 0
IsCutTo bytes taken r = (r ≡ read_in (read_of bytes taken)) ⊎ (IsAll bytes taken × (r ≡ read_all bytes))

-- which statements are answered of a script of these bytes, of which so many were taken, by how its run ended
abbrev pub AnswersCut : Settled → Ending → List ℕ → ℕ → List Answered → Type 0
AnswersCut s Done bytes taken answers = IsAll bytes taken × ((read_all bytes).halt ≡ None) × AnswersTo s (read_all bytes).phases answers
AnswersCut s Usage bytes taken answers = (taken ≡ 0) × (answers ≡ [])
AnswersCut s ReadFault bytes taken answers = (taken ≤ most_bytes) × ((read_in (take taken bytes)).halt ≡ None) × AnswersTo s (read_in (take taken bytes)).phases answers
AnswersCut s Bytes bytes taken answers = (most_bytes < length bytes) × (most_bytes < taken) × ((read_in (take most_bytes bytes)).halt ≡ None) × AnswersTo s (read_in (take most_bytes bytes)).phases answers
AnswersCut s (Halted halt) bytes taken answers = (r : Read) × IsCutTo bytes taken r × (r.halt ≡ Some halt) × AnswersTo s r.phases answers
AnswersCut s ending bytes taken answers = (r : Read) × IsCutTo bytes taken r × AnswersFirst s r.phases answers
