-- What the steps of the paper's way promise each other.
pub mod Inside
