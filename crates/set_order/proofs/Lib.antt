-- Laws that belong to no one function.
mod Ends
mod Order
mod Mentions
mod Passed
