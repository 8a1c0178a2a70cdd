-- Laws of the lists, for the proofs of the functions.
pub mod Falls
pub mod Beside
pub mod Sound
pub mod Scanned
pub mod Numbers
pub mod Lent
pub mod Judged
