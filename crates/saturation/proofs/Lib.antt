pub mod Growth
pub mod Brings
pub mod Settling
pub mod Turns
pub mod Begins
pub mod Starting
pub mod Finishing
pub mod Finished
