pub mod Lists
pub mod Grades
pub mod Derivations
pub mod Saturation
pub mod Counting
pub mod Reasons
pub mod Theorems
