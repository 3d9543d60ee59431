mod Rows
mod Spaces
mod Walks
mod Wholes
