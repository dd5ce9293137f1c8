pub mod Events
pub mod Sending
pub mod Giving
pub mod Whose
pub mod Lives
pub mod Reachable
