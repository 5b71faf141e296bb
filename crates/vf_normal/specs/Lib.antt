pub mod Order
pub mod Sums
pub mod Normal
pub mod NormalForms
pub mod Laws
pub mod Examples
pub mod Comparisons
