pub mod Reasons
