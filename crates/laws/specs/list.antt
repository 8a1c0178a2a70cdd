-- Lists: what holds of every entry and of neighbours, what ascends.
pub mod Every
pub mod Places
