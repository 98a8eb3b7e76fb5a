pub mod Bytes
pub mod Printed
pub mod Signs
pub mod Spans
pub mod Tokens
