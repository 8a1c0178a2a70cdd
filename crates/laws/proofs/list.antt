-- Lists: every entry, places, sorting, insertion.
pub mod Tests
pub mod Every
pub mod Places
pub mod Sorting
pub mod InOrder
pub mod Insertion
