-- The types of what statements are read as, in one place for files that need many.
pub use Rattle.cq_reading.specs.declared.bound.Block.{Block}
pub use Rattle.cq_reading.specs.declared.bound.Bound.{Bound}
pub use Rattle.cq_reading.specs.declared.bound.Common.{Common}
pub use Rattle.cq_reading.specs.declared.bound.Found.{Found}
pub use Rattle.cq_reading.specs.declared.bound.Options.{Options}
pub use Rattle.cq_reading.specs.declared.bound.Ordered.{Ordered}
pub use Rattle.cq_reading.specs.declared.bound.Output.{Output}
pub use Rattle.cq_reading.specs.declared.bound.Relations.{Relations}
pub use Rattle.cq_reading.specs.declared.bound.Shown.{Shown}
pub use Rattle.cq_reading.specs.declared.bound.Source.{Source}
pub use Rattle.cq_reading.specs.declared.error.BindError.{BindError}
pub use Rattle.cq_reading.specs.declared.error.Limited.{Limited}
