-- What a row of the bench sheet says, and when it is true.
pub mod Sheet
