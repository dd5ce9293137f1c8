pub mod CallAdmits
pub mod CallChanges
pub mod ExitAdmits
pub mod ExitChanges
