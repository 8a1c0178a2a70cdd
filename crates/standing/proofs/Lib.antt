-- Laws for the proofs of the standing set and of its questions.
pub mod Arrays
pub mod Asked
mod Listed
mod Timed
