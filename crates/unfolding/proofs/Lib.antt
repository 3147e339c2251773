pub mod Stacks
pub mod Standing
pub mod Advancing
pub mod Finding
pub mod Showing
pub mod Cutting
