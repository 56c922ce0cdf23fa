pub mod Names
pub mod Calls
pub mod Table
pub mod Marks
pub mod Pairs
