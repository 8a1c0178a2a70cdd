-- Laws that the proofs of src/ cite.
pub mod Fronts
pub mod Baking
pub mod Walks
-- How many changes there are
pub mod Counts
-- The changes, and the promise of a bake
pub mod Bakes
-- The walk over the changes
pub mod Fills
