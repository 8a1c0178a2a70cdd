-- 23 of a name; one set more, one set moved, and what the plain dispatcher is then.
mod NameTaken
mod Extended
mod Taken
mod Moved
