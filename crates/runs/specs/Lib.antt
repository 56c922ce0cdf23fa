pub mod Published
pub mod Reading
pub mod Runs
pub mod Granted
pub mod Replay
pub mod Cases
