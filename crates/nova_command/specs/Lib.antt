pub mod Command
pub mod CommandFault
pub mod Form
pub mod Limit
pub mod Number
pub mod Parsing
pub mod Verb
pub mod Words
