-- The bytes of a number, the turns of the code, and the theorem that bytes fix a number.
pub mod Laws
pub mod Loops
pub mod Theorems
