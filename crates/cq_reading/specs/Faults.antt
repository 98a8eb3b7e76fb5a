-- The fault that each refusal of the binder becomes: the same cause, with its name, its numbers and its place.
use Rattle.cq_reading.specs.declared.error.BindError.{BindError}
use Rattle.cq_reading.specs.declared.error.BindError.TheVariants as binding
use Rattle.cq_reading.specs.declared.error.Limited.{Limited as BindLimit}
use Rattle.cq_reading.specs.declared.error.Limited.TheVariants as bind_limit
use Rattle.cq_answer.specs.declared.fault.What.{What}
use Rattle.cq_answer.specs.declared.fault.What.TheVariants as what
use Rattle.cq_answer.specs.declared.fault.Fault.{Fault}
use Rattle.cq_answer.specs.declared.fault.Fault.TheVariants as fault

-- the limits that the binder names
unfoldable pub what_of_bind : BindLimit → What
what_of_bind bind_limit.Relations = what.Relations
what_of_bind bind_limit.Blocks = what.Blocks
what_of_bind bind_limit.Columns = what.Columns
what_of_bind bind_limit.Outputs = what.Outputs
what_of_bind bind_limit.Keys = what.Keys
what_of_bind bind_limit.Tables = what.Tables

-- of a statement that isn't bound
unfoldable pub fault_of_bind : BindError → Fault
fault_of_bind (binding.NameTaken name) = fault.NameTaken name
fault_of_bind (binding.UnknownTable name) = fault.UnknownTable name
fault_of_bind (binding.UnknownColumn name) = fault.UnknownColumn name
fault_of_bind (binding.OutOfRange value least greatest) = fault.OutOfRange value least greatest
fault_of_bind (binding.Unknown at) = fault.Unknown at
fault_of_bind (binding.Ambiguous at) = fault.Ambiguous at
fault_of_bind (binding.Type at) = fault.Type at
fault_of_bind (binding.NotGrouped at) = fault.NotGrouped at
fault_of_bind (binding.TooWide at) = fault.TooWide at
fault_of_bind (binding.WrongCount at) = fault.WrongCount at
fault_of_bind (binding.Divisor at) = fault.Divisor at
fault_of_bind (binding.KeyColumn at) = fault.KeyColumn at
fault_of_bind (binding.Subquery at) = fault.Subquery at
fault_of_bind (binding.LocalTable at) = fault.LocalTable at
fault_of_bind (binding.GroupedJoin at) = fault.GroupedJoin at
fault_of_bind (binding.Value row column) = fault.Value row column
fault_of_bind (binding.Limit limited number) = fault.Limit (what_of_bind limited) number
fault_of_bind binding.Memory = fault.Memory
