pub mod Standing
pub mod Leaving
pub mod Placing
pub mod Emptying
pub mod Highest
pub mod Granted
pub mod Taking
