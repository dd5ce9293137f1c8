pub mod Form
pub mod Numbers
pub mod Requests
pub mod Exit
pub mod Texts
pub mod Tellings
pub mod Came
pub mod Main
