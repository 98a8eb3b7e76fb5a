pub mod First
mod Counting
pub mod Calling
pub mod Sending
mod Giving
pub mod Reaching
mod Taking
mod Fitting
mod Apart
mod Placed
mod Holding
mod Carrying
mod Knowing
mod Noting
mod Settling
mod Answering
mod Serving
mod Leaving
