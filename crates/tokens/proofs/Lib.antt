-- Lemmas by topic: of tokens, of numbers, and the laws.
pub mod Values
pub mod Reading
pub mod Right
pub mod Telling
