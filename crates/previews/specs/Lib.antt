pub mod Nights
pub mod Previews
pub mod Layouts
pub mod Members
pub mod Examples
