-- The definitions that contracts of tokens and numbers cite, in the order of reading.
pub mod Front
pub mod Number
pub mod Word
pub mod Numbers
pub mod Refusals
pub mod Laws
pub mod Faults
