-- What the machine of the cases does.
pub mod Toy
