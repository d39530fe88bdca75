-- The field's laws, the table of products, the turns of its code, and its theorems.
pub mod Laws
pub mod Totals
pub mod Lookup
pub mod Loops
pub mod Theorems
