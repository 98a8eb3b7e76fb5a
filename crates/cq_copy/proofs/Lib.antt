pub mod TextLaws
pub mod RowLaws
pub mod RecordLaws
pub mod ValueLaws
pub mod LineLaws
