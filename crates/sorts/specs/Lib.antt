-- What contracts cite.
pub mod Sortable
