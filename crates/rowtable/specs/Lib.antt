pub mod Tables
pub mod Reasons
pub mod Paths
pub mod Saturated
