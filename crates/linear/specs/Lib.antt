-- Abstract rings and fields, reduced tables of equations, and how their solutions are listed.
pub mod Field
pub mod Table
pub mod Choices
pub mod Solutions
