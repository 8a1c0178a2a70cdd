-- Laws that the proofs of src/ cite.
pub mod Firsts
pub mod Lent
pub mod CellsRead
pub mod Gaps
pub mod LastKeys
