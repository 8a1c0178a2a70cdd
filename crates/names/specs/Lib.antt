-- What the contracts of the names cite, over the definitions.
pub mod Pattern
pub mod Magnitude
pub mod Put
pub mod Body
pub mod Named
