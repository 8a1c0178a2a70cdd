-- Laws that the proofs of src/ cite.
pub mod StepIn
pub mod Segments
pub mod Likeness
-- A line as the program holds it
pub mod Lines
