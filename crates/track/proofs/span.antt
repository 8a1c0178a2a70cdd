-- Laws that the proofs of src/ cite.
pub mod Spans
pub mod Cuts
pub mod RunsFrom
pub mod KnotlessLaws
pub mod Steps
