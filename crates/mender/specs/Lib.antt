-- What mending promises, and what its inner functions promise each other.
pub mod Mender
pub mod Inside
pub mod Found
pub mod Rows
pub mod Values
