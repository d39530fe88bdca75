-- Elements packed in lanes of one number.
pub mod Lanes
