pub mod RowLists
mod Exacts
mod CallLaws
