-- Low bytes, and numbers that hold eight bytes.
pub mod Low
pub mod Inside
