pub mod Rows
pub mod Paths
pub mod Ways
pub mod Chains
pub mod Reasons
pub mod Theorems
