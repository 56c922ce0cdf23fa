-- Lemmas by topic: of lines, and the laws.
pub mod Running
pub mod Lawful
