pub mod Firm
pub mod Taken
pub mod Laws
pub mod Serving
