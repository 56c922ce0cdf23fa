pub mod Cases
pub mod Pages
pub mod Taking
