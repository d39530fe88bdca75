-- The eleven sums as they are held, and what packing them promises.
pub mod Held
pub mod Packed
