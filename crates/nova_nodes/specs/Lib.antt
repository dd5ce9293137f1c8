pub mod Spaces
pub mod NodesStates
pub mod Stores
pub mod Links
pub mod Trails
