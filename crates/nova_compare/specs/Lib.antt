pub mod Vertices
pub mod Steps
pub mod Peers
