-- Parts of lists; one set's page among the others; the plain dispatcher by the lists that it stands in.
pub mod Parts
mod LentPages
mod Begun
pub mod OnePage
pub mod NamePage
mod Entering
pub mod AskedSets
