pub mod Texts
mod Examples
