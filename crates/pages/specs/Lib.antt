-- The sets of a dispatcher in lent lists, and what is promised of a set that is written there.
pub mod Pages
pub mod Placing
