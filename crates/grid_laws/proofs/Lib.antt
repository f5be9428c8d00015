-- The laws: a product and its quotient; then a grid's last time; then its end.
pub mod Products
pub mod Within
pub mod Ends
