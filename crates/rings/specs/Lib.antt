-- The meanings of the rings.
pub mod Modulo
pub mod Octets
pub mod Tables
pub mod ModuloLaws
pub mod Primes
pub mod Computed
pub mod OctetFields
pub mod Polynomials
pub mod Linear
pub mod OctetLaws
pub mod OctetTests
pub mod OctetTables
