-- Laws that belong to no one function.
pub mod Indices
pub mod Acceptance
