-- What contracts cite.
pub mod Pages
