-- Sets that calls can make, and samples that are accepted for them.
pub mod Stored
pub mod Sound
pub mod Accepted
