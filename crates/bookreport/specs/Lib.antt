pub mod Report
pub mod Entries
