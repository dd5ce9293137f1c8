mod Spaces
mod Contents
mod Steps
mod Passing
mod Runs
mod Twins
mod Forcing
mod Comparing
mod Single
mod Sorts
mod Naming
mod Themselves
mod Joining
mod Walking
mod Orders
pub mod Pairing
