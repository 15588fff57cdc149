-- The definition that the contract of say_error cites.
pub mod Said
