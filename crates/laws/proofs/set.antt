-- Sets that calls can make.
pub mod Stored
pub mod Sound
pub mod SoundExplicit
pub mod SoundTemplate
pub mod SoundRetime
pub mod LastKnot
pub mod Accepted
