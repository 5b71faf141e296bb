pub mod WholeFull
