-- What the promises of this crate cite. Each module uses only those above it.
pub mod Placed
pub mod Runs
pub mod Normalizes
