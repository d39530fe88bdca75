-- The value of characters at each of the ten points.
pub mod Value
