pub mod Bytes
pub mod Line
pub mod Number
pub mod Piece
pub mod Printed
pub mod Token
