-- What the functions of src/ speak of.
-- The changes, and the promise of a bake
pub mod Bakes
-- The walk over the changes
pub mod Fills
pub mod span
