-- Laws that belong to no one function.
pub mod InPages
pub mod NameOrder
mod Search
mod Leading
mod Inserted
