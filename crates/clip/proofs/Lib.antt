-- What the proofs of src/ share.
pub mod Preparing
pub mod Stored
pub mod Moved
pub mod Standing
pub mod Retimed
pub mod Laws
