-- The definitions that the contracts cite, in the order of reading.
pub mod OneNub
pub mod Kinds
pub mod Written
pub mod Played
