-- Laws for the proofs of the operations; demand 3, acceptance in two steps and examinings without a trace, from their promises.
pub mod Laws
mod WholeList
mod Examinings
-- The count suffices
mod Counting
