pub mod Members
pub mod Orders
pub mod Places
pub mod Steps
