pub mod SimplesFull
