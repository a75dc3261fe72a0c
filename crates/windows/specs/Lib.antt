-- Windows, their refusals and the product.
pub mod Refusals
pub mod Sides
pub mod Shown
pub mod Codes
pub mod Rows
pub mod Product
