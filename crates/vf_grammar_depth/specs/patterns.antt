pub mod Deep
