-- What is right of several sets on one part: docs/VALUE-CLIPS.md, "Several sets", as definitions. Each module uses only those above it.
pub mod SetOrder
pub mod NamedSets
pub mod SetSamples
pub mod Dispatch
pub mod DispatchCalls
pub mod DispatchNumbers
