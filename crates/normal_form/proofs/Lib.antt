-- Laws of the lists, for the proofs of the functions.
pub mod Ordered
pub mod Merged
pub mod Normal
pub mod Written
