mod Covering
mod Looked
mod Fits
mod Within
mod Branching
mod Taking
mod Marking
mod Swapping
