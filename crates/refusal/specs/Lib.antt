-- The refusals' numbers, and the shape of every promise.
pub mod Number
pub mod Promise
