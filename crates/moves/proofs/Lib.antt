pub mod Steps
pub mod Right
