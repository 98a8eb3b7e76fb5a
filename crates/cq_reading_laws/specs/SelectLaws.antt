-- What makes sure that no SELECT overflows.
use Rattle.std.specs.Prelude.{◌≡◌, true, false, Ok}
use Rattle.cq_tree.specs.declared.query.Query.{out-Query}
use Rattle.cq_grammar.specs.declared.query.Select.{Select}
use Rattle.cq_meaning.specs.declared.Columns.{Columns}
use Rattle.cq_reading.specs.declared.bound.Found.{Found}
use Rattle.cq_reading.specs.declared.bound.Block.{Block}
use Rattle.cq_reading.specs.Scopes.{World}
use Rattle.cq_reading.specs.Walk.{select_of}
use Rattle.cq_reading_laws.specs.Worlds.{WorldFits, BlockStands}
use Rattle.cq_reading_laws.specs.Written.{written_select}

-- a SELECT that is read is what the engine asks for
abbrev pub SelectsBound : Type 0
SelectsBound = (cs : Columns) (w : World) (x : Select) (found new : Found) (block : Block) → written_select x ≡ true → WorldFits cs w → select_of x w found ≡ Ok (block, new) → BlockStands cs found block new

-- a SELECT that groups reads one relation
abbrev pub GroupsAlone : Type 0
GroupsAlone = (w : World) (x : Select) (found new : Found) (block : Block) → select_of x w found ≡ Ok (block, new) → (out-Query block.query).grouped ≡ true → block.joined ≡ false
