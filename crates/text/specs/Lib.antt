-- The definitions that contracts of the script cite, in the order of reading.
pub mod Model
pub mod Both
pub mod Step
pub mod Written
pub mod Script
pub mod Laws
