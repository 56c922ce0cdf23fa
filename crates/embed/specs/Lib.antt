-- The definitions that the contracts cite, in the order of reading.
pub mod Numbers
pub mod Play
pub mod Into
