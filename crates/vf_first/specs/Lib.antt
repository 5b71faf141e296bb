pub mod FirstForm
