pub mod Facts
pub mod Grades
pub mod Lawful
pub mod Laws
pub mod Runs
pub mod Waits
pub mod ValuesLemmas
