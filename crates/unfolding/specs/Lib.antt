pub mod Runs
pub mod Rest
pub mod Stacks
pub mod Shows
