-- The bench sheet's rows that are proved.
pub mod Sheet
