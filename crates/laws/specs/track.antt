-- Step functions on the keys of doubles, and their changes.
pub mod Track
pub mod Steps
