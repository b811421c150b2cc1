pub mod AsWritten
pub mod Bound
pub mod Placed
pub mod Worked
