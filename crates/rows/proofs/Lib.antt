pub mod Paths
pub mod Unfold
pub mod Complete
pub mod Graded
pub mod Lines
pub mod Rules
pub mod Ways
pub mod Reasons
