-- The table of terms, and the powers that its entries are computed from.
pub mod Powers
pub mod Entries
