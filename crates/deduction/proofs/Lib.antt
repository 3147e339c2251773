pub mod Grades
pub mod Derivations
pub mod Bounds
pub mod Settling
pub mod Counting
pub mod Reasons
pub mod Theorems
