-- Products reduced by x^8 + x^4 + x^3 + x^2 + 1.
pub mod Products
