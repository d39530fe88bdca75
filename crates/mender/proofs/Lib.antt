-- The mender's laws, what its loops do, and its theorems; those of `rows` and `values` stand in the folders of these modules.
pub mod Fitting
pub mod Loops
pub mod Finding
pub mod OneError
pub mod Repairing
pub mod Locating
pub mod Theorems
