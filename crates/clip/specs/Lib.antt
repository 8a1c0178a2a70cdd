-- What contracts on prepared sets cite.
pub mod Holding
pub mod Preparing
pub mod Storing
pub mod Retiming
