-- Laws that the proofs of src/ cite.
pub mod Readings
pub mod Runs
pub mod Between
pub mod Filling
pub mod Walking
-- A run of samples passed in one segment
pub mod RunLaws
