-- A system of equations, what solving it promises, and what the steps of row reduction promise each other.
pub mod System
pub mod Inside
