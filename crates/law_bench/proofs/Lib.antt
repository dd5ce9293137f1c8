pub mod NumberText
pub mod TextLines
pub mod NumberLine
pub mod CodeLines
pub mod Program
pub mod BlockText
pub mod Valid
