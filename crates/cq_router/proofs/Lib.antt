pub mod NumberLaws
pub mod PileLaws
pub mod PartLaws
pub mod ReadLaws
pub mod KeyLaws
pub mod RoutedLaws
