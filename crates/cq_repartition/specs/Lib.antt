pub mod Parted
pub mod Repartitions
