-- Lemmas by topic: of the numbers of a line, of one line, and of a whole script.
mod Limits
mod Steps
pub mod Plays
