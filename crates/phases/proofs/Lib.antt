pub mod Rows
pub mod Naming
pub mod Listing
pub mod Marking
pub mod Holding
pub mod Told
