pub mod Reflecting
mod Finding
mod Lineages
mod Quiet
mod Apart
mod Side
mod Guarded
mod Divided
mod Answering
mod Alike
mod Numbered
mod Telling
mod Deriving
mod Working
mod Widened
