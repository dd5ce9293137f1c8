pub mod Advances
pub mod Leases
pub mod Counts
pub mod Paging
pub mod Aims
pub mod Commits
pub mod Stops
pub mod Rides
