pub mod Missing
pub mod Table
pub mod Refusals
pub mod Growth
pub mod Nodes
pub mod Held
pub mod Positions
